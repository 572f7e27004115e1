-- The simplification of a Filter's conjuncts: comparisons of a column with a literal, grouped by column; of each group the equality, the
-- strongest lower bound and the strongest upper bound. And that it keeps truth, with no word about types.
use Prim.Native.Nat.{ℕ}
use native.Mathlib.Omega.{arith}
use mathlib.Core.Path.{◌≡◌, refl, sym, ap, ap₂, ◌∙◌, subst}
use mathlib.Core.Bool.{Bool, true, false, not, ◌||◌, cond}
use mathlib.Core.List.{List, [], ◌∷◌, map}
use mathlib.Core.Option.{Option, none, some}
use lib.Dec.{eqb, ltb, leb}
use borrow.Author.Tests.{ltb-true, ltb-false, le-leb, lt-leb, eqb-true, eq-eqb}
use lib.IntN.{ℤ, pos, negsuc}
use lib.Signed.{lt_z, le_z}
use Rattle.plan.specs.Lists.{◌&◌, choose, all, flatten, All, anil, acons}
use Rattle.plan.proofs.Literals.{literal_cases}
use Rattle.plan.specs.Values.{ValueRecord, literal_is, literal_in, literal?}
use Rattle.plan.proofs.Lists.{and_l, and_r, and_intro, and_assoc, and_comm, and_left_comm, and_true, All-append}
use Rattle.plan.proofs.Lists.{All-mapped, All-flat, all_of, all_append, all_map, all_cong, All-map}
use Rattle.plan.specs.Syntax.{Value, null, int, truth, Name, Cmp, eq, ne, lt, le, gt, ge, Expr, col, num, bool, nul, bin, and, or, cmp, neg}
use Rattle.plan.specs.Syntax.{test, between, inlist, fn}
use Rattle.meaning.specs.Meaning.{World, Env, is_t, is_n, kind_of, code, comparable, holds, compared, same_v, eval}
use Rattle.plan.specs.Schema.{same}
use Rattle.plan.proofs.Names.{same_eq}
use Rattle.plan.specs.Columns.{on_cols}
use Rattle.rewrite.specs.SimplifyPredicates.{lit_val, Rel, same_as, above, below, rel_cmp, bound_of, Side, val, stronger, is_better}
use Rattle.rewrite.specs.SimplifyPredicates.{find_most_restrictive_predicate, first_kind, of_kind, most_restrictive, Group, eq_expr}
use Rattle.rewrite.specs.SimplifyPredicates.{up_expr, down_expr, final, eq_part, gt_z, simplify_column_predicates, Item, item_expr}
use Rattle.rewrite.specs.SimplifyPredicates.{rel_of, as_literal, as_column, make, or_item, view, name_under, place, put_in, fresh}
use Rattle.rewrite.specs.SimplifyPredicates.{enter, Sorted, add, sort_out, simplify_predicates}
use Rattle.rewrite.proofs.Extras.{eq_true}
use Rattle.rewrite.proofs.Sort.{lt_z_asym, lt_z_trans}
use Rattle.rewrite.proofs.Groups.{same_v_eq}

-- ---- a bound: a comparison with a literal, as it was written

-- `past a b`: b lies strictly further than a. The value c lies beyond the bound v, strictly or not
abbrev bey : (ℤ → ℤ → Bool) → Bool → ℤ → ℤ → Bool
bey past true x a = past a x
bey past false x a = not (past x a)

-- what it says of the column's value
abbrev meets : Rel → Value → Value → Bool
meets same_as c v = is_t (compared eq c v)
meets (above s) c v = comparable c v & bey lt_z s (code c) (code v)
meets (below s) c v = comparable c v & bey gt_z s (code c) (code v)

le_z_not : (a b : ℤ) → le_z a b ≡ not (lt_z b a)
le_z_not (pos a) (pos b) = go (ltb b a) refl
  where
    go : (x : Bool) → ltb b a ≡ x → leb a b ≡ not x
    go true e = lt-leb a b (ltb-true b a e)
    go false e = le-leb a b (ltb-false b a e)
le_z_not (pos a) (negsuc b) = refl
le_z_not (negsuc a) (pos b) = refl
le_z_not (negsuc a) (negsuc b) = go (ltb a b) refl
  where
    go : (x : Bool) → ltb a b ≡ x → leb b a ≡ not x
    go true e = lt-leb b a (ltb-true a b e)
    go false e = le-leb b a (ltb-false a b e)

comparable_comm : (a b : Value) → comparable a b ≡ comparable b a
unfolding ◌&◌
comparable_comm null null = refl
comparable_comm null (int w) = refl
comparable_comm null (truth b) = refl
comparable_comm (int z) null = refl
comparable_comm (int z) (int w) = refl
comparable_comm (int z) (truth b) = refl
comparable_comm (truth a) null = refl
comparable_comm (truth a) (int w) = refl
comparable_comm (truth a) (truth b) = refl

is_t_compare : (o : Cmp) (a b : Value) → is_t (compared o a b) ≡ comparable a b & holds o (code a) (code b)
unfolding ◌&◌
is_t_compare o a b = go (comparable a b)
  where
    go : (k : Bool) → is_t (cond k (truth (holds o (code a) (code b))) null) ≡ k & holds o (code a) (code b)
    go true = refl
    go false = refl

module _ (W : World) (ρ : Env) where
  lit_eval : (l : ValueRecord) → eval W ρ (literal_is l) ≡ lit_val l
  unfolding eval
  lit_eval l = literal_cases (λ e v. eval W ρ e ≡ v) (λ z. refl) (λ b. refl) (λ t. refl) l

  eq_comm : (a b : Value) → is_t (compared eq a b) ≡ is_t (compared eq b a)
  eq_comm a b = is_t_compare eq a b ∙ ap₂ ◌&◌ (comparable_comm a b) (and_comm _ _) ∙ sym (is_t_compare eq b a)

  -- a bound is TRUE where the column's value meets it
  bound_true : (flipped : Bool) (r : Rel) (x : Name) (l : ValueRecord) → is_t (eval W ρ (bound_of flipped r x l)) ≡ meets r (ρ x) (lit_val l)
  unfolding bound_of eval
  bound_true false same_as x l = rw (lit_eval l)
  bound_true false (above true) x l = rw (lit_eval l) (is_t_compare gt (ρ x) (lit_val l))
  bound_true false (above false) x l = rw (lit_eval l) (is_t_compare ge (ρ x) (lit_val l) ∙ ap₂ ◌&◌ refl (le_z_not (code (lit_val l)) (code (ρ x))))
  bound_true false (below true) x l = rw (lit_eval l) (is_t_compare lt (ρ x) (lit_val l))
  bound_true false (below false) x l = rw (lit_eval l) (is_t_compare le (ρ x) (lit_val l) ∙ ap₂ ◌&◌ refl (le_z_not (code (ρ x)) (code (lit_val l))))
  bound_true true same_as x l = rw (lit_eval l) (eq_comm (lit_val l) (ρ x))
  bound_true true (above true) x l = rw (lit_eval l) (is_t_compare lt (lit_val l) (ρ x) ∙ ap₂ ◌&◌ (comparable_comm (lit_val l) (ρ x)) refl)
  bound_true true (above false) x l = rw (lit_eval l)
      (is_t_compare le (lit_val l) (ρ x) ∙ ap₂ ◌&◌ (comparable_comm (lit_val l) (ρ x)) (le_z_not (code (lit_val l)) (code (ρ x))))
  bound_true true (below true) x l = rw (lit_eval l) (is_t_compare gt (lit_val l) (ρ x) ∙ ap₂ ◌&◌ (comparable_comm (lit_val l) (ρ x)) refl)
  bound_true true (below false) x l = rw (lit_eval l)
      (is_t_compare ge (lit_val l) (ρ x) ∙ ap₂ ◌&◌ (comparable_comm (lit_val l) (ρ x)) (le_z_not (code (ρ x)) (code (lit_val l))))

-- ---- of two bounds on one side, the stronger

-- at equal literals (`at_equal`), said by its three Booleans
abbrev tie : Bool → Bool → Bool → Bool
tie sw fw sv = sw & (not fw || not sv)

abbrev beats : (ℤ → ℤ → Bool) → Bool → Bool → Value → Bool → Value → Bool
beats past sw fw w sv v = cond (is_n v) (is_n w & tie sw fw sv)
    (cond (is_n w) true (past (code v) (code w) || (not (past (code w) (code v)) & tie sw fw sv)))

module _ (past : ℤ → ℤ → Bool) (asym : (a b : ℤ) → past a b ≡ true → past b a ≡ false)
    (trans : (a b c : ℤ) → past a b ≡ false → past b c ≡ false → past a c ≡ false) where
  lt_le : (a b c : ℤ) → past a b ≡ true → past c b ≡ false → past a c ≡ true
  lt_le a b c h k = go (past a c) refl
    where
      go : (x : Bool) → past a c ≡ x → x ≡ true
      go true e = refl
      go false e = sym (trans a c b e k) ∙ h

  le_lt : (a b c : ℤ) → past b a ≡ false → past b c ≡ true → past a c ≡ true
  le_lt a b c h k = go (past a c) refl
    where
      go : (x : Bool) → past a c ≡ x → x ≡ true
      go true e = refl
      go false e = sym (trans b a c h e) ∙ k

  not_past : (a b : ℤ) → past a b ≡ true → not (past b a) ≡ true
  not_past a b h = ap not (asym a b h)

  is_not : (x : Bool) → not x ≡ true → x ≡ false
  is_not true h = sym h
  is_not false h = refl

  -- the bound b further than a, or at a and put in its place
  farther : (sw fw sv : Bool) (x a b : ℤ) → past a b || (not (past b a) & tie sw fw sv) ≡ true → bey past sw x b ≡ true → bey past sv x a ≡ true
  unfolding ◌&◌
  farther sw fw sv x a b h k = go (past a b) (past b a) refl refl sw fw sv h k
    where
      go : (m n : Bool) → past a b ≡ m → past b a ≡ n → (sw fw sv : Bool) → m || (not n & tie sw fw sv) ≡ true → bey past sw x b ≡ true
          → bey past sv x a ≡ true
      go true n e f true fw true h k = lt_le a b x e (asym b x k)
      go true n e f true fw false h k = not_past a x (lt_le a b x e (asym b x k))
      go true n e f false fw true h k = lt_le a b x e (is_not _ k)
      go true n e f false fw false h k = not_past a x (lt_le a b x e (is_not _ k))
      go false true e f sw fw sv h k = cc
      go false false e f true fw true h k = le_lt a b x f k
      go false false e f true fw false h k = not_past a x (le_lt a b x f k)
      go false false e f false fw sv h k = cc

  nearer : (sw fw sv : Bool) (x a b : ℤ) → past a b || (not (past b a) & tie sw fw sv) ≡ false → bey past sv x a ≡ true → bey past sw x b ≡ true
  unfolding ◌&◌
  nearer sw fw sv x a b h k = go (past a b) (past b a) refl refl sw fw sv h k
    where
      go : (m n : Bool) → past a b ≡ m → past b a ≡ n → (sw fw sv : Bool) → m || (not n & tie sw fw sv) ≡ false → bey past sv x a ≡ true
          → bey past sw x b ≡ true
      go true n e f sw fw sv h k = cc
      go false true e f true fw true h k = lt_le b a x f (asym a x k)
      go false true e f true fw false h k = lt_le b a x f (is_not _ k)
      go false true e f false fw true h k = not_past b x (lt_le b a x f (asym a x k))
      go false true e f false fw false h k = not_past b x (lt_le b a x f (is_not _ k))
      go false false e f true false sv h k = cc
      go false false e f true true true h k = le_lt b a x e k
      go false false e f true true false h k = cc
      go false false e f false fw true h k = not_past b x (le_lt b a x e k)
      go false false e f false fw false h k = ap not (trans x a b (is_not _ k) e)

  -- the two literals are of one kind, or one is NULL
  abbrev alike : Value → Value → Bool
  alike v w = is_n v || (is_n w || eqb (kind_of v) (kind_of w))

  comparable_null : (c v : Value) → is_n v ≡ true → comparable c v ≡ false
  unfolding ◌&◌
  comparable_null null v h = refl
  comparable_null (int z) null h = refl
  comparable_null (int z) (int w) h = cc
  comparable_null (int z) (truth b) h = cc
  comparable_null (truth a) null h = refl
  comparable_null (truth a) (int w) h = cc
  comparable_null (truth a) (truth b) h = cc

  -- a bound that is met is not NULL
  met_known : (s : Bool) (c v : Value) → comparable c v & bey past s (code c) (code v) ≡ true → is_n v ≡ false
  met_known s c v h = go (is_n v) refl
    where
      go : (b : Bool) → is_n v ≡ b → b ≡ false
      go true e = sym (and_l _ _ h) ∙ comparable_null c v e
      go false e = refl

  -- the bound that takes the other's place implies it, and the other way round
  wins : (sw fw sv : Bool) (c v w : Value) → alike v w ≡ true → beats past sw fw w sv v ≡ true
      → comparable c w & bey past sw (code c) (code w) ≡ true → comparable c v & bey past sv (code c) (code v) ≡ true
  unfolding ◌&◌
  wins sw fw sv c v w a h k = go (is_n v) (is_n w) a h (met_known sw c w k)
    where
      go : (m n : Bool) → m || (n || eqb (kind_of v) (kind_of w)) ≡ true
          → cond m (n & tie sw fw sv) (cond n true (past (code v) (code w) || (not (past (code w) (code v)) & tie sw fw sv))) ≡ true
          → n ≡ false → comparable c v & bey past sv (code c) (code v) ≡ true
      go true true a h i = cc
      go true false a h i = cc
      go false true a h i = cc
      go false false a h i = and_intro (ap (λ j. not (is_n c) & eqb (kind_of c) j) (eqb-true _ _ a) ∙ and_l _ _ k)
          (farther sw fw sv (code c) (code v) (code w) h (and_r (comparable c w) _ k))

  loses : (sw fw sv : Bool) (c v w : Value) → alike v w ≡ true → beats past sw fw w sv v ≡ false
      → comparable c v & bey past sv (code c) (code v) ≡ true → comparable c w & bey past sw (code c) (code w) ≡ true
  loses sw fw sv c v w a h k = go (is_n v) (is_n w) a h (met_known sv c v k)
    where
      go : (m n : Bool) → m || (n || eqb (kind_of v) (kind_of w)) ≡ true
          → cond m (n & tie sw fw sv) (cond n true (past (code v) (code w) || (not (past (code w) (code v)) & tie sw fw sv))) ≡ false
          → m ≡ false → comparable c w & bey past sw (code c) (code w) ≡ true
      go true n a h i = cc
      go false true a h i = cc
      go false false a h i = and_intro (ap (λ j. not (is_n c) & eqb (kind_of c) j) (sym (eqb-true _ _ a)) ∙ and_l _ _ k)
          (nearer sw fw sv (code c) (code v) (code w) h (and_r _ _ k))

-- ---- a group: one column's equalities, lower bounds and upper bounds, each in order

iff : (a b : Bool) → (a ≡ true → b ≡ true) → (b ≡ true → a ≡ true) → a ≡ b
iff true b f g = sym (f refl)
iff false true f g = g refl
iff false false f g = refl

-- the value c meets the bound
meet : (ℤ → ℤ → Bool) → Value → Side → Bool
meet past c d = comparable c (val d) & bey past d.strict (code c) (code (val d))

of_kind_alike : (k : ℕ) (v w : Value) → is_n v || eqb (kind_of v) k ≡ true → is_n w || eqb (kind_of w) k ≡ true
    → is_n v || (is_n w || eqb (kind_of v) (kind_of w)) ≡ true
of_kind_alike k v w h i = go (is_n v) (is_n w) h i
  where
    go : (m n : Bool) → m || eqb (kind_of v) k ≡ true → n || eqb (kind_of w) k ≡ true → m || (n || eqb (kind_of v) (kind_of w)) ≡ true
    go true n h i = refl
    go false true h i = refl
    go false false h i = eq-eqb (kind_of v) (kind_of w) (eqb-true (kind_of v) k h ∙ sym (eqb-true (kind_of w) k i))

module _ (past : ℤ → ℤ → Bool) (asym : (a b : ℤ) → past a b ≡ true → past b a ≡ false)
    (trans : (a b c : ℤ) → past a b ≡ false → past b c ≡ false → past a c ≡ false) where
  module _ (c : Value) (k : ℕ) where
    stronger_meets : (b d : Side) → of_kind k b ≡ true → of_kind k d ≡ true → meet past c b & meet past c d ≡ meet past c (stronger past b d)
    unfolding meet choose
    stronger_meets b d h i = go (is_better past b d) refl
      where
        a : is_n (val b) || (is_n (val d) || eqb (kind_of (val b)) (kind_of (val d))) ≡ true
        a = of_kind_alike k (val b) (val d) h i

        go : (x : Bool) → is_better past b d ≡ x → meet past c b & meet past c d ≡ meet past c (choose x d b)
        go true e = iff _ _ (λ t. and_r _ _ t) (λ t. and_intro (wins past asym trans d.strict d.flipped b.strict c (val b) (val d) a e t) t)
        go false e = iff _ _ (λ t. and_l _ _ t)
            (λ t. and_intro t (loses past asym trans d.strict d.flipped b.strict c (val b) (val d) a e t))

    stronger_kind : (b d : Side) → of_kind k b ≡ true → of_kind k d ≡ true → of_kind k (stronger past b d) ≡ true
    unfolding choose
    stronger_kind b d h i = go (is_better past b d)
      where
        go : (x : Bool) → of_kind k (choose x d b) ≡ true
        go true = i
        go false = h

    best_meets : (b : Side) (l : List Side) → of_kind k b ≡ true → all (of_kind k) l ≡ true
        → meet past c b & all (meet past c) l ≡ meet past c (find_most_restrictive_predicate past b l)
    unfolding all
    best_meets b [] h i = and_true _
    best_meets b (d ∷ l) h i = sym (and_assoc _ _ _) ∙ ap (◌& all (meet past c) l) (stronger_meets b d h (and_l _ _ i))
        ∙ best_meets (stronger past b d) l (stronger_kind b d h (and_l _ _ i)) (and_r _ _ i)

module _ (past : ℤ → ℤ → Bool) (asym : (a b : ℤ) → past a b ≡ true → past b a ≡ false)
    (trans : (a b c : ℤ) → past a b ≡ false → past b c ≡ false → past a c ≡ false) where
  side_meets : (c : Value) (l : List Side) → all (meet past c) (most_restrictive past l) ≡ all (meet past c) l
  unfolding all choose meet
  side_meets c [] = refl
  side_meets c (b ∷ l) = go (all (of_kind (first_kind (b ∷ l))) (b ∷ l)) refl
    where
      go : (x : Bool) → all (of_kind (first_kind (b ∷ l))) (b ∷ l) ≡ x
          → all (meet past c) (choose x (find_most_restrictive_predicate past b l ∷ []) (b ∷ l)) ≡ all (meet past c) (b ∷ l)
      go true e = and_true _ ∙ sym (best_meets past asym trans c (first_kind (b ∷ l)) b l (and_l _ _ e) (and_r _ _ e))
      go false e = refl

-- ---- equalities: the last where the literals agree, else FALSE

le_z_refl : (z : ℤ) → le_z z z ≡ true
le_z_refl (pos a) = le-leb a a (omega arith)
le_z_refl (negsuc a) = le-leb a a (omega arith)

same_v_refl : (v : Value) → same_v v v ≡ true
same_v_refl null = and_intro refl (and_intro refl refl)
same_v_refl (int z) = and_intro refl (and_intro (le_z_refl z) (le_z_refl z))
same_v_refl (truth true) = and_intro refl (and_intro refl refl)
same_v_refl (truth false) = and_intro refl (and_intro refl refl)

absorb : (a b x : Bool) → a ≡ b → a & (b & x) ≡ b & x
unfolding ◌&◌
absorb true b x h = refl
absorb false b x h = rw (← h)

-- an equality is TRUE for the value c
abbrev eqs_to : Value → Side → Bool
eqs_to c d = is_t (compared eq c (val d))

-- where the literals agree, each equality says the same
final_meets : (c : Value) (d : Side) (l : List Side) → all (λ e. same_v (val d) (val e)) l ≡ true
    → eqs_to c d & all (eqs_to c) l ≡ eqs_to c (final d l)
unfolding all
final_meets c d [] h = and_true _
final_meets c d (e ∷ l) h =
    let q : val d ≡ val e = same_v_eq (val d) (val e) (and_l _ _ h) in
    absorb (eqs_to c d) (eqs_to c e) (all (eqs_to c) l) (ap (λ v. is_t (compared eq c v)) q)
    ∙ final_meets c e l (rw (sym q) (and_r _ _ h))

-- where all are TRUE, the literals agree
agreed : (c : Value) (d : Side) (l : List Side) → eqs_to c d ≡ true → all (eqs_to c) l ≡ true → all (λ e. same_v (val d) (val e)) l ≡ true
unfolding all
agreed c d [] h k = refl
agreed c d (e ∷ l) h k = and_intro (ap (same_v (val d)) (sym (eq_true c (val e) (and_l _ _ k)) ∙ eq_true c (val d) h) ∙ same_v_refl (val d))
    (agreed c d l h (and_r _ _ k))

-- ---- what a group says, before and after

module _ (W : World) (ρ : Env) where
  τ : Expr → Bool
  τ e = is_t (eval W ρ e)

  abbrev group_true : Group → Bool
  group_true g = all (λ d. τ (eq_expr g.key d)) g.eqs &
      (all (λ d. τ (up_expr g.key d)) g.ups & all (λ d. τ (down_expr g.key d)) g.downs)

  eq_part_true : (x : Name) (l : List Side) → all τ (eq_part x l) ≡ all (λ d. τ (eq_expr x d)) l
  unfolding all choose τ eval
  eq_part_true x [] = refl
  eq_part_true x (d ∷ l) = go (all (λ e. same_v (val d) (val e)) l) refl ∙ sym (all_cong _ _ (all_of says (d ∷ l)))
    where
      says : (e : Side) → τ (eq_expr x e) ≡ eqs_to (ρ x) e
      says e = bound_true W ρ e.flipped same_as x e.lit

      go : (b : Bool) → all (λ e. same_v (val d) (val e)) l ≡ b
          → all τ (choose b (eq_expr x (final d l) ∷ []) (bool false ∷ [])) ≡ all (eqs_to (ρ x)) (d ∷ l)
      go true e = and_true _ ∙ says (final d l) ∙ sym (final_meets (ρ x) d l e)
      go false e = and_true _ ∙ iff false _ (λ t. cc) (λ t. sym e ∙ agreed (ρ x) d l (and_l _ _ t) (and_r _ _ t))

  up_part_true : (x : Name) (l : List Side) → all τ (map (up_expr x) (most_restrictive lt_z l)) ≡ all (λ d. τ (up_expr x d)) l
  unfolding τ meet
  up_part_true x l = all_map _ _ (most_restrictive lt_z l) ∙ all_cong _ _ (all_of says _) ∙ side_meets lt_z lt_z_asym lt_z_trans (ρ x) l
      ∙ sym (all_cong _ _ (all_of says l))
    where
      says : (d : Side) → τ (up_expr x d) ≡ meet lt_z (ρ x) d
      says d = bound_true W ρ d.flipped (above d.strict) x d.lit

  down_part_true : (x : Name) (l : List Side) → all τ (map (down_expr x) (most_restrictive gt_z l)) ≡ all (λ d. τ (down_expr x d)) l
  unfolding τ meet
  down_part_true x l = all_map _ _ (most_restrictive gt_z l) ∙ all_cong _ _ (all_of says _)
      ∙ side_meets gt_z (λ a b. lt_z_asym b a) (λ a b c h k. lt_z_trans c b a k h) (ρ x) l ∙ sym (all_cong _ _ (all_of says l))
    where
      says : (d : Side) → τ (down_expr x d) ≡ meet gt_z (ρ x) d
      says d = bound_true W ρ d.flipped (below d.strict) x d.lit

group_exprs_true : (W : World) (ρ : Env) (g : Group) → all (τ W ρ) (simplify_column_predicates g) ≡ group_true W ρ g
group_exprs_true W ρ g = all_append _ (eq_part g.key g.eqs) _
    ∙ ap₂ ◌&◌ (eq_part_true W ρ g.key g.eqs)
    (all_append _ (map (up_expr g.key) (most_restrictive lt_z g.ups)) _
    ∙ ap₂ ◌&◌ (up_part_true W ρ g.key g.ups) (down_part_true W ρ g.key g.downs))

-- ---- which conjuncts are bounds

-- an item is the conjunct that it was read from
Seen : Expr → Option Item → Type 0
Seen e none = Unit {0}
Seen e (some i) = item_expr i ≡ e

IsRel : Bool → Cmp → Option Rel → Type 0
IsRel f o none = Unit {0}
IsRel f o (some r) = rel_cmp f r ≡ o

IsLit : Expr → Option ValueRecord → Type 0
IsLit e none = Unit {0}
IsLit e (some l) = literal_is l ≡ e

IsName : Expr → Option Name → Type 0
IsName e none = Unit {0}
IsName e (some x) = col x ≡ e

rel_of_ok : (f : Bool) (o : Cmp) → IsRel f o (rel_of f o)
unfolding IsRel rel_of
rel_of_ok f eq = refl
rel_of_ok f ne = tt
rel_of_ok false lt = refl
rel_of_ok false le = refl
rel_of_ok false gt = refl
rel_of_ok false ge = refl
rel_of_ok true lt = refl
rel_of_ok true le = refl
rel_of_ok true gt = refl
rel_of_ok true ge = refl

as_lit_ok : (e : Expr) → IsLit e (as_literal e)
unfolding IsLit as_literal literal_in literal?
as_lit_ok (num z) = refl
as_lit_ok (bool b) = refl
as_lit_ok (nul t) = refl
as_lit_ok (col x) = tt
as_lit_ok (bin o a b) = tt
as_lit_ok (neg a) = tt
as_lit_ok (test t a) = tt
as_lit_ok (between n a l u) = tt
as_lit_ok (inlist n a xs) = tt
as_lit_ok (fn p q r xs) = tt

as_name_ok : (e : Expr) → IsName e (as_column e)
unfolding IsName as_column
as_name_ok (col x) = refl
as_name_ok (num z) = tt
as_name_ok (bool b) = tt
as_name_ok (nul t) = tt
as_name_ok (bin o a b) = tt
as_name_ok (neg a) = tt
as_name_ok (test t a) = tt
as_name_ok (between n a l u) = tt
as_name_ok (inlist n a xs) = tt
as_name_ok (fn p q r xs) = tt

make_left : (o : Cmp) (a b : Expr) (r : Option Rel) (x : Option Name) (l : Option ValueRecord) → IsRel false o r → IsName a x → IsLit b l
    → Seen (bin (cmp o) a b) (make false r x l)
unfolding IsRel IsName IsLit Seen make bound_of
make_left o a b none x l h i j = tt
make_left o a b (some r) none l h i j = tt
make_left o a b (some r) (some x) none h i j = tt
make_left o a b (some r) (some x) (some l) h i j = rw (h, i, j)

make_right : (o : Cmp) (a b : Expr) (r : Option Rel) (x : Option Name) (l : Option ValueRecord) → IsRel true o r → IsName b x → IsLit a l
    → Seen (bin (cmp o) a b) (make true r x l)
unfolding IsRel IsName IsLit Seen make bound_of
make_right o a b none x l h i j = tt
make_right o a b (some r) none l h i j = tt
make_right o a b (some r) (some x) none h i j = tt
make_right o a b (some r) (some x) (some l) h i j = rw (h, i, j)

or_seen : (e : Expr) (o p : Option Item) → Seen e o → Seen e p → Seen e (or_item o p)
unfolding or_item
or_seen e none p h k = k
or_seen e (some i) p h k = h

seen : (e : Expr) → Seen e (view e)
unfolding view Seen
seen (bin (cmp o) a b) = or_seen (bin (cmp o) a b) (make false (rel_of false o) (as_column a) (as_literal b))
    (make true (rel_of true o) (as_column b) (as_literal a)) (make_left o a b _ _ _ (rel_of_ok false o) (as_name_ok a) (as_lit_ok b))
    (make_right o a b _ _ _ (rel_of_ok true o) (as_name_ok b) (as_lit_ok a))
seen (bin and a b) = tt
seen (bin or a b) = tt
seen (col x) = tt
seen (num z) = tt
seen (bool b) = tt
seen (nul t) = tt
seen (neg a) = tt
seen (test t a) = tt
seen (between n a l u) = tt
seen (inlist n a xs) = tt
seen (fn p q r xs) = tt

-- the comparison that was read as an item is the item's
pub view_back : (e : Expr) {i : Item} → view e ≡ some i → item_expr i ≡ e
unfolding Seen
view_back e h = subst (λ (o : Option Item). Seen e o) h (seen e)

-- ---- the groups, columns ascending

module _ (W : World) (ρ : Env) where
  place_true : (r : Rel) (l : ValueRecord) (f : Bool) (g : Group)
      → group_true W ρ (place r l f g) ≡ τ W ρ (bound_of f r g.key l) & group_true W ρ g
  unfolding all
  place_true same_as l f g = and_assoc _ _ _
  place_true (above s) l f g = ap (◌&◌ _) (and_assoc _ _ _) ∙ and_left_comm _ _ _
  place_true (below s) l f g = ap (◌&◌ _) (and_left_comm _ _ _) ∙ and_left_comm _ _ _

  fresh_true : (i : Item) → group_true W ρ (fresh i) ≡ τ W ρ (item_expr i)
  unfolding all
  fresh_true i = place_true i.rel i.lit i.flipped _ ∙ simp and_true

  enter_true : (i : Item) (gs : List Group) → all (group_true W ρ) (enter i gs) ≡ τ W ρ (item_expr i) & all (group_true W ρ) gs
  unfolding enter all choose
  enter_true i [] = ap (◌& true) (fresh_true i)
  enter_true i (g ∷ gs) = go (same g.key i.key) refl (name_under i.key g.key) (enter_true i gs)
    where
      go : (b : Bool) → same g.key i.key ≡ b → (c : Bool)
          → all (group_true W ρ) (enter i gs) ≡ τ W ρ (item_expr i) & all (group_true W ρ) gs
          → all (group_true W ρ) (choose b (put_in i g ∷ gs) (choose c (fresh i ∷ g ∷ gs) (g ∷ enter i gs))) ≡ τ W ρ (item_expr i) &
          (group_true W ρ g & all (group_true W ρ) gs)
      go true e c k = ap (◌& all (group_true W ρ) gs)
          (place_true i.rel i.lit i.flipped g
          ∙ ap (λ x. τ W ρ (bound_of i.flipped i.rel x i.lit) & group_true W ρ g) (same_eq g.key i.key e)) ∙ and_assoc _ _ _
      go false e true k = ap (◌& (group_true W ρ g & all (group_true W ρ) gs)) (fresh_true i)
      go false e false k = ap (group_true W ρ g &◌) k ∙ and_left_comm _ _ _

  sorted_true : (es : List Expr) → all (τ W ρ) (sort_out es).others & all (group_true W ρ) (sort_out es).groups ≡ all (τ W ρ) es
  unfolding sort_out all Seen
  sorted_true [] = and_true true
  sorted_true (e ∷ es) = go (view e) (seen e) ∙ ap (τ W ρ e &◌) (sorted_true es)
    where
      go : (o : Option Item) → Seen e o
          → all (τ W ρ) (add e o (sort_out es)).others & all (group_true W ρ) (add e o (sort_out es)).groups ≡ τ W ρ e &
          (all (τ W ρ) (sort_out es).others & all (group_true W ρ) (sort_out es).groups)
      go none h = and_assoc _ _ _
      go (some i) h = ap (all (τ W ρ) (sort_out es).others &◌) (enter_true i (sort_out es).groups) ∙ and_left_comm _ _ _
          ∙ ap (λ x. τ W ρ x & (all (τ W ρ) (sort_out es).others & all (group_true W ρ) (sort_out es).groups)) h

  flat_true : (gs : List Group) → all (τ W ρ) (flatten simplify_column_predicates gs) ≡ all (group_true W ρ) gs
  unfolding all flatten
  flat_true [] = refl
  flat_true (g ∷ gs) = all_append _ (simplify_column_predicates g) _ ∙ ap₂ ◌&◌ (group_exprs_true W ρ g) (flat_true gs)

  pub simplified_true : (es : List Expr) → all (λ e. is_t (eval W ρ e)) (simplify_predicates es) ≡ all (λ e. is_t (eval W ρ e)) es
  unfolding simplify_predicates τ
  simplified_true es = all_append _ (sort_out es).others _ ∙ ap (◌&◌ _) (flat_true (sort_out es).groups) ∙ sorted_true es

-- ---- what holds of all the conjuncts holds of the simplified ones: any statement P that says of a comparison of a column with a literal
-- something of that column and that literal alone, Q, and that holds of FALSE

module _ (P : Expr → Type 0) (Q : Name → ValueRecord → Type 0) (false-P : P (bool false))
    (to-P : (f : Bool) (r : Rel) (x : Name) (l : ValueRecord) → Q x l → P (bound_of f r x l))
    (to-Q : (f : Bool) (r : Rel) (x : Name) (l : ValueRecord) → P (bound_of f r x l) → Q x l) where
  abbrev In : Name → List Side → Type 0
  In x ds = All (λ (d : Side). Q x d.lit) ds

  record InGroup (g : Group) : Type 0 where
    eqs_in : In g.key g.eqs
    ups_in : In g.key g.ups
    downs_in : In g.key g.downs

  final_in : (x : Name) (d : Side) {l : List Side} → Q x d.lit → In x l → Q x (final d l).lit
  final_in x d h anil = h
  final_in x d h (acons {x = e} k ks) = final_in x e k ks

  eq_part_in : (x : Name) {l : List Side} → In x l → All P (eq_part x l)
  unfolding choose
  eq_part_in x anil = anil
  eq_part_in x (acons {x = d} {xs = l} h hs) = go (all (λ e. same_v (val d) (val e)) l)
    where
      go : (b : Bool) → All P (choose b (eq_expr x (final d l) ∷ []) (bool false ∷ []))
      go true = acons (to-P _ same_as x _ (final_in x d h hs)) anil
      go false = acons false-P anil

  stronger_in : (past : ℤ → ℤ → Bool) (x : Name) (b d : Side) → Q x b.lit → Q x d.lit → Q x (stronger past b d).lit
  unfolding choose
  stronger_in past x b d h k = go (is_better past b d)
    where
      go : (c : Bool) → Q x (choose c d b).lit
      go true = k
      go false = h

  best_in : (past : ℤ → ℤ → Bool) (x : Name) (b : Side) {l : List Side} → Q x b.lit → In x l → Q x (find_most_restrictive_predicate past b l).lit
  best_in past x b h anil = h
  best_in past x b h (acons {x = d} k ks) = best_in past x (stronger past b d) (stronger_in past x b d h k) ks

  most_in : (past : ℤ → ℤ → Bool) (x : Name) {l : List Side} → In x l → In x (most_restrictive past l)
  unfolding choose
  most_in past x anil = anil
  most_in past x (acons {x = b} {xs = l} h hs) = go (all (of_kind (first_kind (b ∷ l))) (b ∷ l))
    where
      go : (c : Bool) → In x (choose c (find_most_restrictive_predicate past b l ∷ []) (b ∷ l))
      go true = acons (best_in past x b h hs) anil
      go false = acons h hs

  group_in : (g : Group) → InGroup g → All P (simplify_column_predicates g)
  group_in g h = All-append (eq_part_in g.key h.eqs_in) (All-append
      (All-mapped (up_expr g.key) (All-map (λ (d : Side) k. to-P d.flipped (above d.strict) g.key d.lit k)
      (most_in lt_z g.key h.ups_in)))
      (All-mapped (down_expr g.key)
      (All-map (λ (d : Side) k. to-P d.flipped (below d.strict) g.key d.lit k) (most_in gt_z g.key h.downs_in))))

  place_in : (r : Rel) (l : ValueRecord) (f : Bool) (g : Group) → Q g.key l → InGroup g → InGroup (place r l f g)
  place_in same_as l f g k h = record { eqs_in = acons k h.eqs_in; ups_in = h.ups_in; downs_in = h.downs_in }
  place_in (above s) l f g k h = record { eqs_in = h.eqs_in; ups_in = acons k h.ups_in; downs_in = h.downs_in }
  place_in (below s) l f g k h = record { eqs_in = h.eqs_in; ups_in = h.ups_in; downs_in = acons k h.downs_in }

  fresh_in : (i : Item) → Q i.key i.lit → InGroup (fresh i)
  fresh_in i h = place_in i.rel i.lit i.flipped _ h (record { eqs_in = anil; ups_in = anil; downs_in = anil })

  enter_in : (i : Item) {gs : List Group} → Q i.key i.lit → All InGroup gs → All InGroup (enter i gs)
  unfolding enter choose
  enter_in i h anil = acons (fresh_in i h) anil
  enter_in i h (acons {x = g} {xs = gs} k ks) = go (same g.key i.key) refl (name_under i.key g.key) (enter_in i h ks)
    where
      go : (b : Bool) → same g.key i.key ≡ b → (d : Bool) → All InGroup (enter i gs)
          → All InGroup (choose b (put_in i g ∷ gs) (choose d (fresh i ∷ g ∷ gs) (g ∷ enter i gs)))
      go true e d m = acons (place_in i.rel i.lit i.flipped g (subst (λ x. Q x i.lit) (sym (same_eq g.key i.key e)) h) k) ks
      go false e true m = acons (fresh_in i h) (acons k ks)
      go false e false m = acons k m

  record InSorted (s : Sorted) : Type 0 where
    others_in : All P s.others
    groups_in : All InGroup s.groups

  sorted_in : {es : List Expr} → All P es → InSorted (sort_out es)
  unfolding sort_out Seen
  sorted_in anil = record { others_in = anil; groups_in = anil }
  sorted_in (acons {x = e} {xs = es} h hs) = go (view e) (seen e) (sorted_in hs)
    where
      go : (o : Option Item) → Seen e o → InSorted (sort_out es) → InSorted (add e o (sort_out es))
      go none q k = record { others_in = acons h k.others_in; groups_in = k.groups_in }
      go (some i) q k = record {
        others_in = k.others_in;
        groups_in = enter_in i
            (to-Q i.flipped i.rel i.key i.lit (subst P (sym q) h)) k.groups_in;
      }

  pub simplified_in : {es : List Expr} → All P es → All P (simplify_predicates es)
  unfolding simplify_predicates
  simplified_in h = let k = sorted_in h in All-append k.others_in (All-flat _ (λ g i. group_in g i) k.groups_in)

-- ---- the columns stay those of the conjuncts

module _ (c : Name → Bool) where
  lit_cols : (l : ValueRecord) → on_cols c (literal_is l) ≡ true
  unfolding on_cols
  lit_cols l = literal_cases (λ e v. on_cols c e ≡ true) (λ z. refl) (λ b. refl) (λ t. refl) l

  bound_cols : (f : Bool) (r : Rel) (x : Name) (l : ValueRecord) → on_cols c (bound_of f r x l) ≡ c x
  unfolding bound_of on_cols
  bound_cols false r x l = rw (lit_cols l) (and_true _)
  bound_cols true r x l = rw (lit_cols l) (and_comm _ _ ∙ and_true _)

  pub simplified_over : {es : List Expr} → All (λ e. on_cols c e ≡ true) es → All (λ e. on_cols c e ≡ true) (simplify_predicates es)
  unfolding on_cols
  simplified_over h = simplified_in (λ e. on_cols c e ≡ true) (λ x l. c x ≡ true) refl (λ f r x l k. bound_cols f r x l ∙ k)
      (λ f r x l k. sym (bound_cols f r x l) ∙ k) h
