-- The rewrite of a join: which conjuncts go where, for the eight kinds, with OR clauses and inferred predicates; and its rows.
use mathlib.Core.Path.{◌≡◌, refl, sym, ap, ◌∙◌, fun_ext}
use mathlib.Core.Bool.{Bool, true, false, cond}
use mathlib.Core.List.{List, [], ◌∷◌, ◌++◌}
use lib.ListN.{length}
use mathlib.Core.Option.{Option, none, some}
use Rattle.plan.specs.Lists.{◌&◌, put, keep, all, flatten, All}
use Rattle.plan.proofs.Lists.{and_left_comm, and_l, and_r, and_intro, All-map, All-append, All-keep, all_parts, all_append}
use Rattle.plan.specs.Syntax.{Name, Expr, Pair, Kind, inner, left, right, full, left_semi, right_semi, left_anti, right_anti, Plan, join}
use Rattle.meaning.specs.Meaning.{World, Env, Row, is_t, eval, look, sat?, matching, joined, keys_match, rows}
use Rattle.plan.specs.Schema.{schema, sides, has, nodup}
use Rattle.plan.specs.Columns.{on_cols}
use Rattle.rewrite.specs.Utils.{split_conjunction, with_filters, conjunction, split_conjunction?}
use Rattle.rewrite.specs.PushDownFilter.{extract_or_clauses_for_join, infer_join_predicates, left_preserved, right_preserved}
use Rattle.rewrite.specs.PushDownFilter.{on_left_preserved, on_right_preserved, push_to, push_not, rest, if_list}
use Rattle.rewrite.specs.PushDownFilter.{on_filter_join_conditions, keep_predicates, join_conditions, inferred_join_predicates}
use Rattle.rewrite.specs.PushDownFilter.{left_push, right_push, push_down_all_join}
use Rattle.rewrite.proofs.Exprs.{all_split}
use Rattle.rewrite.proofs.Extras.{clauses_over, clauses_hold, inferred_hold}
use Rattle.rewrite.proofs.Join.{sat?_conj, Over, Wide, holds_all, keys_in, inner_rows, left_rows, right_rows, left_semi_rows}
use Rattle.rewrite.proofs.Join.{right_semi_rows, left_anti_rows, right_anti_rows}
use Rattle.rewrite.proofs.Groups.{passes}
use Rattle.acceptance.specs.NamesRule.{reads}

-- ---- what moves to a side reads that side

go_over : (p : Bool) (s : List Name) (es : List Expr) → Over s (push_to p s es)
unfolding push_to
go_over true s es = passes _ es
go_over false s es = All-map (λ e h. cc) (passes (λ e. false) es)

module _ (k : Kind) (s t : List Name) (on : List Pair) (P G : List Expr) where
  -- what moved to no side, of the lists for which a side is open: there OR clauses are looked for
  abbrev unmoved : Bool → Bool → List Expr
  unmoved p q =
      if_list p (keep_predicates k s t on P G ++ join_conditions k s t on P G)
      ++ if_list q (on_filter_join_conditions k s t on P G)

  pub over_left : Over s (left_push k s t on P G)
  over_left =
      All-append (go_over (left_preserved k) s P)
      (All-append (go_over true s (inferred_join_predicates k s t on P G))
      (All-append (go_over (on_left_preserved k) s G) (clauses_over (has s) (unmoved (left_preserved k) (on_left_preserved k)))))

  pub over_right : Over t (right_push k s t on P G)
  over_right =
      All-append (go_over (right_preserved k) t (push_not (left_preserved k) s P))
      (All-append (go_over true t (push_not true s (inferred_join_predicates k s t on P G)))
      (All-append (go_over (on_right_preserved k) t (push_not (on_left_preserved k) s G))
      (clauses_over (has t) (unmoved (right_preserved k) (on_right_preserved k)))))

-- ---- truth: a list is what goes to the one side, what goes to the other, and the rest

module _ (t : Expr → Bool) where
  thirds : (p q : Bool) (s u : List Name) (es : List Expr)
      → all t (push_to p s es) & (all t (push_to q u (push_not p s es)) & all t (rest p q s u es)) ≡ all t es
  unfolding push_to push_not
  thirds p q s u es = ap (◌&◌ _) (all_parts t _ (push_not p s es)) ∙ all_parts t _ es

  none_all : (s : List Name) (es : List Expr) → all t (push_to false s es) ≡ true
  unfolding push_to keep put all
  none_all s [] = refl
  none_all s (e ∷ es) = none_all s es

  part_l : (p : Bool) (s : List Name) (es : List Expr) → all t es ≡ true → all t (push_to p s es) ≡ true
  unfolding push_to
  part_l p s es h = and_l _ _ (all_parts t _ es ∙ h)

  part_r : (p : Bool) (s : List Name) (es : List Expr) → all t es ≡ true → all t (push_not p s es) ≡ true
  unfolding push_not
  part_r p s es h = and_r _ _ (all_parts t (λ e. cond p (reads s e) false) es ∙ h)

  both : (a b : List Expr) → all t a ≡ true → all t b ≡ true → all t (a ++ b) ≡ true
  both a b h k = all_append t a b ∙ and_intro h k

  nil_all : all t [] ≡ true
  unfolding all
  nil_all = refl

  -- the same with the sides changed
  thirds' : (p q : Bool) (s u : List Name) (es : List Expr)
      → all t (push_to q u (push_not p s es)) & (all t (push_to p s es) & all t (rest p q s u es)) ≡ all t es
  thirds' p q s u es = and_left_comm _ _ _ ∙ thirds p q s u es

iff : (a b : Bool) → (a ≡ true → b ≡ true) → (b ≡ true → a ≡ true) → a ≡ b
iff true b f g = sym (f refl)
iff false true f g = g refl
iff false false f g = refl

-- the one side is open above, the other within
one_above : (p pl pr p₂ il gl ol : Bool) → pl & (pr & p₂) ≡ p → pr ≡ true → il ≡ true → gl ≡ true → (p₂ ≡ true → ol ≡ true)
    → p ≡ (pl & (il & (gl & ol))) & p₂
one_above p pl pr p₂ il gl ol hp hr hi hgl hol = sym hp ∙ iff _ _
    (λ h. and_intro (and_intro (and_l _ _ h) (and_intro hi (and_intro hgl (hol (and_r _ _ (and_r _ _ h)))))) (and_r _ _ (and_r _ _ h)))
    (λ h. and_intro (and_l _ _ (and_l _ _ h)) (and_intro hr (and_r _ _ h)))

other_within : (g gl gr f pr ir or : Bool) → gl & (gr & f) ≡ g → gl ≡ true → pr ≡ true → ir ≡ true → (f ≡ true → or ≡ true)
    → g ≡ (pr & (ir & (gr & or))) & f
other_within g gl gr f pr ir or hg hgl hr hi hor = sym hg ∙ iff _ _
    (λ h. let i = and_r _ _ h in and_intro (and_intro hr (and_intro hi (and_intro (and_l _ _ i) (hor (and_r _ _ i))))) (and_r _ _ i))
    (λ h. and_intro hgl (and_intro (and_l _ _ (and_r _ _ (and_r _ _ (and_l _ _ h)))) (and_r _ _ h)))

-- conjuncts `p` are `pl`, `pr`, `p₂`; those of the filter, `g`, are `gl`, `gr`, `f`; `il`, `ir`, `ol`, `or` are implied
module _ (p pl pr p₂ g gl gr f il ir ol or : Bool) (hp : pl & (pr & p₂) ≡ p) (hg : gl & (gr & f) ≡ g) where
  -- both sides are open, above and within; what is left above goes into the filter
  all_open : (k q : Bool) → q ≡ true
      → ((k & g) & p ≡ true → il ≡ true) → ((k & g) & p ≡ true → ir ≡ true)
      → (p₂ & f ≡ true → ol ≡ true) → (p₂ & f ≡ true → or ≡ true)
      → (k & g) & p ≡ k & (((pl & (il & (gl & ol))) & (pr & (ir & (gr & or)))) & ((p₂ & f) & q))
  all_open k q hq hil hir hol hor = iff _ _ fwd bwd
    where
      fwd : (k & g) & p ≡ true → k & (((pl & (il & (gl & ol))) & (pr & (ir & (gr & or)))) & ((p₂ & f) & q)) ≡ true
      fwd h =
          let hP : pl & (pr & p₂) ≡ true = hp ∙ and_r _ _ h in
          let hG : gl & (gr & f) ≡ true = hg ∙ and_r _ _ (and_l _ _ h) in
          let hR : p₂ & f ≡ true = and_intro (and_r _ _ (and_r _ _ hP)) (and_r _ _ (and_r _ _ hG)) in
          and_intro (and_l _ _ (and_l _ _ h)) (and_intro (and_intro
          (and_intro (and_l _ _ hP) (and_intro (hil h) (and_intro (and_l _ _ hG) (hol hR))))
          (and_intro (and_l _ _ (and_r _ _ hP)) (and_intro (hir h) (and_intro (and_l _ _ (and_r _ _ hG)) (hor hR)))))
          (and_intro hR hq))

      bwd : k & (((pl & (il & (gl & ol))) & (pr & (ir & (gr & or)))) & ((p₂ & f) & q)) ≡ true → (k & g) & p ≡ true
      bwd h =
          let hL = and_l _ _ (and_l _ _ (and_r _ _ h)) in
          let hR = and_r _ _ (and_l _ _ (and_r _ _ h)) in
          let hF = and_l _ _ (and_r _ _ (and_r _ _ h)) in
          and_intro (and_intro (and_l _ _ h)
          (sym hg ∙ and_intro (and_l _ _ (and_r _ _ (and_r _ _ hL))) (and_intro (and_l _ _ (and_r _ _ (and_r _ _ hR))) (and_r _ _ hF))))
          (sym hp ∙ and_intro (and_l _ _ hL) (and_intro (and_l _ _ hR) (and_l _ _ hF)))

  -- the one side is open above, both within
  semi : (k : Bool) → pr ≡ true → il ≡ true → ir ≡ true → (p₂ & f ≡ true → ol ≡ true) → (f ≡ true → or ≡ true)
      → p & (k & g) ≡ ((pl & (il & (gl & ol))) & p₂) & ((pr & (ir & (gr & or))) & (k & f))
  semi k hr hil hir hol hor = iff _ _ fwd bwd
    where
      fwd : p & (k & g) ≡ true → ((pl & (il & (gl & ol))) & p₂) & ((pr & (ir & (gr & or))) & (k & f)) ≡ true
      fwd h =
          let hP : pl & (pr & p₂) ≡ true = hp ∙ and_l _ _ h in
          let hG : gl & (gr & f) ≡ true = hg ∙ and_r _ _ (and_r _ _ h) in
          let hF : f ≡ true = and_r _ _ (and_r _ _ hG) in
          let h2 : p₂ ≡ true = and_r _ _ (and_r _ _ hP) in
          and_intro (and_intro (and_intro (and_l _ _ hP) (and_intro hil (and_intro (and_l _ _ hG) (hol (and_intro h2 hF))))) h2)
          (and_intro
          (and_intro hr (and_intro hir (and_intro (and_l _ _ (and_r _ _ hG)) (hor hF))))
          (and_intro (and_l _ _ (and_r _ _ h)) hF))

      bwd : ((pl & (il & (gl & ol))) & p₂) & ((pr & (ir & (gr & or))) & (k & f)) ≡ true → p & (k & g) ≡ true
      bwd h =
          let hL = and_l _ _ (and_l _ _ h) in
          let hR = and_l _ _ (and_r _ _ h) in
          let hF = and_r _ _ (and_r _ _ h) in
          and_intro (sym hp ∙ and_intro (and_l _ _ hL) (and_intro hr (and_r _ _ (and_l _ _ h))))
          (and_intro (and_l _ _ hF)
          (sym hg ∙ and_intro (and_l _ _ (and_r _ _ (and_r _ _ hL))) (and_intro (and_l _ _ (and_r _ _ (and_r _ _ hR))) (and_r _ _ hF))))

-- ---- the conditions of the laws of joins, kind by kind. What a side gains: conjuncts from above, inferred ones, conjuncts of the
-- filter, OR clauses. For all kinds but Inner nothing is inferred.

module _ (W : World) (s t : List Name) (on : List Pair) (P G : List Expr) where
  inner_cond : (ρ : Env) → (keys_in W ρ on & holds_all W ρ G) & holds_all W ρ P
      ≡ keys_in W ρ on
      & ((holds_all W ρ (left_push inner s t on P G) & holds_all W ρ (right_push inner s t on P G))
      & (holds_all W ρ (join_conditions inner s t on P G ++ on_filter_join_conditions inner s t on P G)
      & holds_all W ρ (keep_predicates inner s t on P G)))
  inner_cond ρ =
      simp all_append
      (all_open _ _ _ _ _ _ _ _ _ _ _ _ (thirds τ true true s t P) (thirds τ true true s t G) (keys_in W ρ on) _ (nil_all τ)
      (λ h. part_l τ _ s _ (new_holds h)) (λ h. part_l τ _ t _ (part_r τ _ s _ (new_holds h)))
      (λ h. clauses_hold (has s) W ρ _ (both τ _ _ (and_l _ _ h) (and_r _ _ h)))
      (λ h. clauses_hold (has t) W ρ _ (both τ _ _ (and_l _ _ h) (and_r _ _ h))))
    where
      τ : Expr → Bool
      τ e = is_t (eval W ρ e)

      new_holds : (keys_in W ρ on & all τ G) & all τ P ≡ true → all τ (infer_join_predicates on (P ++ G)) ≡ true
      new_holds h = inferred_hold W ρ on (and_l _ _ (and_l _ _ h)) (P ++ G) (both τ P G (and_r _ _ h) (and_r _ _ (and_l _ _ h)))

  -- Left and LeftAnti go alike, and so do Right and RightAnti
  module _ (ρ : Env) where
    abbrev τ : Expr → Bool
    τ e = is_t (eval W ρ e)

    none_new : (u : List Name) → all τ (push_to true u []) ≡ true
    unfolding push_to keep all
    none_new u = refl

    none_new' : (u v : List Name) → all τ (push_to true u (push_not true v [])) ≡ true
    unfolding push_to push_not keep all
    none_new' u v = refl

    -- OR clauses of what is kept above; of that and of what stays in the filter
    kept_clauses : (u : List Name) (es : List Expr) → all τ es ≡ true
        → all τ (extract_or_clauses_for_join (has u) ((es ++ []) ++ [])) ≡ true
    kept_clauses u es h = clauses_hold (has u) W ρ _ (both τ _ [] (both τ _ [] h (nil_all τ)) (nil_all τ))

    both_clauses : (u : List Name) (es fs : List Expr) → all τ es & all τ fs ≡ true
        → all τ (extract_or_clauses_for_join (has u) ((es ++ []) ++ fs)) ≡ true
    both_clauses u es fs h = clauses_hold (has u) W ρ _ (both τ _ _ (both τ _ [] (and_l _ _ h) (nil_all τ)) (and_r _ _ h))

    left_above : holds_all W ρ P ≡ holds_all W ρ (left_push left s t on P G) & holds_all W ρ (keep_predicates left s t on P G)
    left_above =
        simp all_append
        (one_above _ _ _ _ _ _ _ (thirds τ true false s t P) (none_all τ t _) (none_new s) (none_all τ s G) (kept_clauses s _))

    left_within : holds_all W ρ G ≡ holds_all W ρ (right_push left s t on P G) & holds_all W ρ (on_filter_join_conditions left s t on P G)
    left_within =
        simp all_append
        (other_within _ _ _ _ _ _ _ (thirds τ false true s t G) (none_all τ s G) (none_all τ t _) (none_new' t s)
        (clauses_hold (has t) W ρ _))

    right_above : holds_all W ρ P ≡ holds_all W ρ (right_push right s t on P G) & holds_all W ρ (keep_predicates right s t on P G)
    right_above =
        simp all_append
        (one_above _ _ _ _ _ _ _ (thirds' τ false true s t P) (none_all τ s P) (none_new' t s) (none_all τ t _) (kept_clauses t _))

    right_within : holds_all W ρ G ≡ holds_all W ρ (left_push right s t on P G) & holds_all W ρ (on_filter_join_conditions right s t on P G)
    right_within =
        simp all_append
        (other_within _ _ _ _ _ _ _ (thirds' τ true false s t G) (none_all τ t _) (none_all τ s P) (none_new s)
        (clauses_hold (has s) W ρ _))

    left_semi_cond : holds_all W ρ P & (keys_in W ρ on & holds_all W ρ G)
        ≡ (holds_all W ρ (left_push left_semi s t on P G) & holds_all W ρ (keep_predicates left_semi s t on P G))
        & (holds_all W ρ (right_push left_semi s t on P G)
        & (keys_in W ρ on & holds_all W ρ (on_filter_join_conditions left_semi s t on P G)))
    left_semi_cond =
        simp all_append
        (semi _ _ _ _ _ _ _ _ _ _ _ _ (thirds τ true false s t P) (thirds τ true true s t G) _
        (none_all τ t _) (none_new s) (none_new' t s) (both_clauses s _ _) (clauses_hold (has t) W ρ _))

    right_semi_cond : holds_all W ρ P & (keys_in W ρ on & holds_all W ρ G)
        ≡ (holds_all W ρ (right_push right_semi s t on P G) & holds_all W ρ (keep_predicates right_semi s t on P G))
        & (holds_all W ρ (left_push right_semi s t on P G)
        & (keys_in W ρ on & holds_all W ρ (on_filter_join_conditions right_semi s t on P G)))
    right_semi_cond =
        simp all_append
        (semi _ _ _ _ _ _ _ _ _ _ _ _ (thirds' τ false true s t P) (thirds' τ true true s t G) _
        (none_all τ s P) (none_new' t s) (none_new s) (both_clauses t _ _) (clauses_hold (has s) W ρ _))

-- ---- the rows. Full: nothing moves

go_none : (s : List Name) (es : List Expr) → push_to false s es ≡ []
unfolding push_to keep put
go_none s [] = refl
go_none s (e ∷ es) = go_none s es

no_none : (s : List Name) (es : List Expr) → push_not false s es ≡ es
unfolding push_not keep put
no_none s [] = refl
no_none s (e ∷ es) = ap (e ∷◌) (no_none s es)

go_nil : (p : Bool) (s : List Name) → push_to p s [] ≡ []
unfolding push_to keep
go_nil p s = refl

no_nil : (p : Bool) (s : List Name) → push_not p s [] ≡ []
unfolding push_not keep
no_nil p s = refl

clauses_nil : (c : Name → Bool) → extract_or_clauses_for_join c [] ≡ []
unfolding extract_or_clauses_for_join keep flatten
clauses_nil c = refl

-- nothing moves out of or into a Full join
full_stays : (l r : Plan) (on : List Pair) (P G : List Expr)
    → (push_down_all_join full l r on P G).plan ≡ with_filters P (join full l r on (conjunction G))
unfolding push_down_all_join with_filters
full_stays l r on P G = simp (go_none, no_none, go_nil, no_nil, clauses_nil)

pub rest_over : (p q : Bool) (s t u : List Name) {es : List Expr} → Over u es → Over u (rest p q s t es)
unfolding push_not
rest_over p q s t u o = All-keep _ (All-keep _ o)

module _ (W : World) where
  split?_sat : (s : List Name) (f : Option Expr) (r : Row) → sat? W s (conjunction (split_conjunction? f)) r ≡ sat? W s f r
  unfolding split_conjunction? conjunction
  split?_sat s none r = refl
  split?_sat s (some e) r = sat?_conj W s (split_conjunction e) r ∙ all_split W (look s r) e

  split?_match : (s t : List Name) (on : List Pair) (f : Option Expr)
      → matching W s t on (conjunction (split_conjunction? f)) ≡ matching W s t on f
  split?_match s t on f = fun_ext (λ a. fun_ext (λ b. ap (keys_match W s t on a b &◌) (split?_sat (s ++ t) f (a ++ b))))

  pub split?_rows : (k : Kind) (l r : Plan) (on : List Pair) (f : Option Expr)
      → rows W (join k l r on (conjunction (split_conjunction? f))) ≡ rows W (join k l r on f)
  unfolding rows
  split?_rows k l r on f =
      ap (λ m. joined k m (length (schema l)) (length (schema r)) (rows W l) (rows W r)) (split?_match (schema l) (schema r) on f)

  module _ (l r : Plan) (on : List Pair)
      (names-ok : nodup (schema l ++ schema r) ≡ true)
      (on-ok : All (λ (k : Pair). (on_cols (has (schema l)) k.lhs ≡ true) × (on_cols (has (schema r)) k.rhs ≡ true)) on)
      (wl : All (Wide (schema l)) (rows W l))
      (wr : All (Wide (schema r)) (rows W r))
      (P G : List Expr) where
    -- the rewrite of a join under P, with G in its filter, keeps the rows: the law of its kind, with the kind's lists put in
    pub push_join_rows : (k : Kind) → Over (sides k (schema l) (schema r)) P
        → rows W (with_filters P (join k l r on (conjunction G))) ≡ rows W (push_down_all_join k l r on P G).plan
    unfolding push_down_all_join
    push_join_rows inner o =
        inner_rows W l r on names-ok on-ok wl wr _ _ _ _ _ _ (over_left inner _ _ on P G) (over_right inner _ _ on P G)
        (inner_cond W _ _ on P G)
    push_join_rows left o =
        left_rows W l r on names-ok on-ok wl wr _ _ _ _ _ _ (over_left left _ _ on P G) (over_right left _ _ on P G)
        (left_above W _ _ on P G) (left_within W _ _ on P G)
    push_join_rows right o =
        right_rows W l r on names-ok on-ok wl wr _ _ _ _ _ _ (over_left right _ _ on P G) (over_right right _ _ on P G)
        (right_above W _ _ on P G) (right_within W _ _ on P G)
    push_join_rows full o = ap (rows W) (sym (full_stays l r on P G))
    push_join_rows left_semi o =
        left_semi_rows W l r on names-ok on-ok wl wr _ _ _ _ _ _ (over_left left_semi _ _ on P G) (over_right left_semi _ _ on P G)
        o (rest_over true false _ _ _ o) (left_semi_cond W _ _ on P G)
    push_join_rows right_semi o =
        right_semi_rows W l r on names-ok on-ok wl wr _ _ _ _ _ _ (over_left right_semi _ _ on P G) (over_right right_semi _ _ on P G)
        o (rest_over false true _ _ _ o) (right_semi_cond W _ _ on P G)
    push_join_rows left_anti o =
        left_anti_rows W l r on names-ok on-ok wl wr _ _ _ _ _ _ (over_left left_anti _ _ on P G) (over_right left_anti _ _ on P G)
        (left_above W _ _ on P G) (left_within W _ _ on P G)
    push_join_rows right_anti o =
        right_anti_rows W l r on names-ok on-ok wl wr _ _ _ _ _ _ (over_left right_anti _ _ on P G) (over_right right_anti _ _ on P G)
        (right_above W _ _ on P G) (right_within W _ _ on P G)
