-- The type rules through each step of the rewrite: conjuncts split, joined, simplified; columns replaced; clauses and inferred predicates.
use Prim.Native.Nat.{ℕ}
use mathlib.Core.Path.{◌≡◌, refl, sym, ap, ap₂, ◌∙◌}
use mathlib.Core.Bool.{Bool, true, false, not, ◌||◌, cond}
use mathlib.Core.List.{List, [], ◌∷◌, map}
use mathlib.Core.Option.{Option, none, some}
use lib.ListN.{length}
use lib.Dec.{eqb}
use borrow.Author.Tests.{eqb-true, eq-eqb}
use Rattle.plan.specs.Lists.{◌&◌, choose, any, all, flatten, All, anil, acons}
use Rattle.plan.proofs.Literals.{literal_cases}
use Rattle.plan.specs.Values.{ValueRecord, literal_is}
use Rattle.plan.proofs.Lists.{and_l, and_r, and_intro, All-both, All-append, All-keep, All-mapped}
use Rattle.plan.specs.Syntax.{Name, and, or, cmp, Expr, col, num, bool, nul, bin, neg, test, between, inlist, fn, Exprs, enil, econs, Entry}
use Rattle.plan.specs.Syntax.{Pair}
use Rattle.plan.specs.Schema.{look_d, same, has}
use Rattle.plan.proofs.Names.{same_eq}
use Rattle.plan.specs.Columns.{on_cols, on_cols_all}
use Rattle.rewrite.specs.Utils.{replace_cols, replace_cols_all, split_conjunction, split_conjunction?, conjoin, conjunction}
use Rattle.rewrite.specs.SimplifyPredicates.{Rel, bound_of, as_column, simplify_predicates}
use Rattle.rewrite.specs.ReorderPredicates.{reorder_predicates}
use Rattle.rewrite.specs.PushDownFilter.{both_or, either_and_option, guarded, extract_or_clause, is_or, listed, extract_or_clauses_for_join}
use Rattle.rewrite.specs.PushDownFilter.{pair_of, partner, to_partner, swap_keys, infer_join_predicates, if_list, pick, names}
use Rattle.rewrite.specs.PushDownFilter.{simplify_filter}
use Rattle.plan.specs.Types.{Types, type_of_expr}
use Rattle.acceptance.specs.Types.{operands, any_type, of_type}
use Rattle.acceptance.proofs.TypesRule.{well, well_all, boolean, boolean?}
use Rattle.rewrite.proofs.Simplify.{simplified_in}
use Rattle.rewrite.proofs.SimplifyFilter.{reorder_all}

abbrev pub Bools : Types → List Expr → Type 0
Bools τ es = All (λ e. boolean τ e ≡ true) es

-- ---- types that agree on the columns of an expression

module _ (c : Name → Bool) (τ υ : Types) (f : (x : Name) → c x ≡ true → τ x ≡ υ x) where
  type_cong : (e : Expr) → on_cols c e ≡ true → type_of_expr τ e ≡ type_of_expr υ e
  unfolding type_of_expr on_cols
  type_cong (col x) h = f x h
  type_cong (num z) h = refl
  type_cong (bool b) h = refl
  type_cong (nul t) h = refl
  type_cong (bin o a b) h = refl
  type_cong (neg a) h = refl
  type_cong (test t a) h = refl
  type_cong (between n a l u) h = refl
  type_cong (inlist n a xs) h = refl
  type_cong (fn p q r xs) h = refl

  of_type_cong : (t u : ℕ) → t ≡ u → (xs : Exprs) → on_cols_all c xs ≡ true → of_type τ t xs ≡ of_type υ u xs
  unfolding of_type on_cols
  of_type_cong t u e enil h = refl
  of_type_cong t u e (econs x xs) h = ap₂ ◌&◌ (ap₂ eqb (type_cong x (and_l _ _ h)) e) (of_type_cong t u e xs (and_r _ _ h))

  mutual
    unfolding well on_cols

    well_cong : (e : Expr) → on_cols c e ≡ true → well τ e ≡ well υ e
    well_cong (col x) h = refl
    well_cong (num z) h = refl
    well_cong (bool b) h = refl
    well_cong (nul t) h = refl
    well_cong (bin o a b) h = ap₂ ◌&◌ (ap₂ (operands o) (type_cong a (and_l _ _ h)) (type_cong b (and_r _ _ h)))
        (ap₂ ◌&◌ (well_cong a (and_l _ _ h)) (well_cong b (and_r _ _ h)))
    well_cong (neg a) h = ap₂ ◌&◌ (ap (λ t. eqb t 2) (type_cong a h)) (well_cong a h)
    well_cong (test t a) h = ap₂ ◌&◌ (ap (λ u. any_type t || eqb u 2) (type_cong a h)) (well_cong a h)
    well_cong (between n a l u) h =
        let hl = and_l _ _ (and_r _ _ h) in
        let hu = and_r _ _ (and_r _ _ h) in
        ap₂ ◌&◌ (ap₂ ◌&◌ (ap₂ eqb (type_cong a (and_l _ _ h)) (type_cong l hl)) (ap₂ eqb (type_cong a (and_l _ _ h)) (type_cong u hu)))
        (ap₂ ◌&◌ (well_cong a (and_l _ _ h)) (ap₂ ◌&◌ (well_cong l hl) (well_cong u hu)))
    well_cong (inlist n a xs) h = ap₂ ◌&◌ (of_type_cong _ _ (type_cong a (and_l _ _ h)) xs (and_r _ _ h))
        (ap₂ ◌&◌ (well_cong a (and_l _ _ h)) (well_all_cong xs (and_r _ _ h)))
    well_cong (fn p q r xs) h = well_all_cong xs h

    well_all_cong : (xs : Exprs) → on_cols_all c xs ≡ true → well_all τ xs ≡ well_all υ xs
    well_all_cong enil h = refl
    well_all_cong (econs x xs) h = ap₂ ◌&◌ (well_cong x (and_l _ _ h)) (well_all_cong xs (and_r _ _ h))

  boolean_cong : (e : Expr) → on_cols c e ≡ true → boolean τ e ≡ boolean υ e
  unfolding boolean
  boolean_cong e h = ap₂ ◌&◌ (ap (λ t. eqb t 2) (type_cong e h)) (well_cong e h)

  pub bools_cong : {es : List Expr} → All (λ e. on_cols c e ≡ true) es → Bools τ es → Bools υ es
  bools_cong h k = All-both (λ e i j. sym (boolean_cong e i) ∙ j) h k

-- ---- columns replaced by expressions of their types

module _ (c : Name → Bool) (τ υ : Types) (σ : Name → Expr) (f : (x : Name) → c x ≡ true → type_of_expr υ (σ x) ≡ τ x)
    (g : (x : Name) → c x ≡ true → well υ (σ x) ≡ true) where
  type_sub : (e : Expr) → on_cols c e ≡ true → type_of_expr υ (replace_cols σ e) ≡ type_of_expr τ e
  unfolding type_of_expr on_cols replace_cols
  type_sub (col x) h = f x h
  type_sub (num z) h = refl
  type_sub (bool b) h = refl
  type_sub (nul t) h = refl
  type_sub (bin o a b) h = refl
  type_sub (neg a) h = refl
  type_sub (test t a) h = refl
  type_sub (between n a l u) h = refl
  type_sub (inlist n a xs) h = refl
  type_sub (fn p q r xs) h = refl

  of_type_sub : (t u : ℕ) → t ≡ u → (xs : Exprs) → on_cols_all c xs ≡ true → of_type υ t (replace_cols_all σ xs) ≡ of_type τ u xs
  unfolding of_type on_cols replace_cols
  of_type_sub t u e enil h = refl
  of_type_sub t u e (econs x xs) h = ap₂ ◌&◌ (ap₂ eqb (type_sub x (and_l _ _ h)) e) (of_type_sub t u e xs (and_r _ _ h))

  mutual
    unfolding well on_cols replace_cols

    well_sub : (e : Expr) → on_cols c e ≡ true → well υ (replace_cols σ e) ≡ well τ e
    well_sub (col x) h = g x h
    well_sub (num z) h = refl
    well_sub (bool b) h = refl
    well_sub (nul t) h = refl
    well_sub (bin o a b) h = ap₂ ◌&◌ (ap₂ (operands o) (type_sub a (and_l _ _ h)) (type_sub b (and_r _ _ h)))
        (ap₂ ◌&◌ (well_sub a (and_l _ _ h)) (well_sub b (and_r _ _ h)))
    well_sub (neg a) h = ap₂ ◌&◌ (ap (λ t. eqb t 2) (type_sub a h)) (well_sub a h)
    well_sub (test t a) h = ap₂ ◌&◌ (ap (λ u. any_type t || eqb u 2) (type_sub a h)) (well_sub a h)
    well_sub (between n a l u) h =
        let hl = and_l _ _ (and_r _ _ h) in
        let hu = and_r _ _ (and_r _ _ h) in
        ap₂ ◌&◌ (ap₂ ◌&◌ (ap₂ eqb (type_sub a (and_l _ _ h)) (type_sub l hl)) (ap₂ eqb (type_sub a (and_l _ _ h)) (type_sub u hu)))
        (ap₂ ◌&◌ (well_sub a (and_l _ _ h)) (ap₂ ◌&◌ (well_sub l hl) (well_sub u hu)))
    well_sub (inlist n a xs) h = ap₂ ◌&◌ (of_type_sub _ _ (type_sub a (and_l _ _ h)) xs (and_r _ _ h))
        (ap₂ ◌&◌ (well_sub a (and_l _ _ h)) (well_all_sub xs (and_r _ _ h)))
    well_sub (fn p q r xs) h = well_all_sub xs h

    well_all_sub : (xs : Exprs) → on_cols_all c xs ≡ true → well_all υ (replace_cols_all σ xs) ≡ well_all τ xs
    well_all_sub enil h = refl
    well_all_sub (econs x xs) h = ap₂ ◌&◌ (well_sub x (and_l _ _ h)) (well_all_sub xs (and_r _ _ h))

  pub boolean_sub : (e : Expr) → on_cols c e ≡ true → boolean τ e ≡ true → boolean υ (replace_cols σ e) ≡ true
  unfolding boolean
  boolean_sub e h k = ap₂ ◌&◌ (ap (λ t. eqb t 2) (type_sub e h)) (well_sub e h) ∙ k

  pub bools_sub : {es : List Expr} → All (λ e. on_cols c e ≡ true) es → Bools τ es → Bools υ (map (replace_cols σ) es)
  bools_sub h k = All-mapped (replace_cols σ) (All-both (λ e i j. boolean_sub e i j) h k)

-- ---- conjuncts

module _ (τ : Types) where
  pub bools_split : (e : Expr) → boolean τ e ≡ true → Bools τ (split_conjunction e)
  unfolding split_conjunction boolean type_of_expr well
  bools_split (bin and a b) h =
      let w = and_r _ _ h in
      All-append (bools_split a (and_intro (and_l _ _ (and_l _ _ w)) (and_l _ _ (and_r _ _ w))))
      (bools_split b (and_intro (and_r _ _ (and_l _ _ w)) (and_r _ _ (and_r _ _ w))))
  bools_split (bin or a b) h = acons h anil
  bools_split (bin (cmp o) a b) h = acons h anil
  bools_split (col x) h = acons h anil
  bools_split (num z) h = acons h anil
  bools_split (bool b) h = acons h anil
  bools_split (nul t) h = acons h anil
  bools_split (neg a) h = acons h anil
  bools_split (test t a) h = acons h anil
  bools_split (between n a l u) h = acons h anil
  bools_split (inlist n a xs) h = acons h anil
  bools_split (fn p q r xs) h = acons h anil

  pub bools_split? : (f : Option Expr) → boolean? τ f ≡ true → Bools τ (split_conjunction? f)
  unfolding split_conjunction?
  bools_split? none h = anil
  bools_split? (some e) h = bools_split e h

  -- two booleans under And or Or
  and_boolean : (a b : Expr) → boolean τ a ≡ true → boolean τ b ≡ true → boolean τ (bin and a b) ≡ true
  unfolding boolean type_of_expr well
  and_boolean a b h k = and_intro refl (and_intro (and_intro (and_l _ _ h) (and_l _ _ k)) (and_intro (and_r _ _ h) (and_r _ _ k)))

  or_boolean : (a b : Expr) → boolean τ a ≡ true → boolean τ b ≡ true → boolean τ (bin or a b) ≡ true
  unfolding boolean type_of_expr well
  or_boolean a b h k = and_intro refl (and_intro (and_intro (and_l _ _ h) (and_l _ _ k)) (and_intro (and_r _ _ h) (and_r _ _ k)))

  conjoin_boolean : (e : Expr) (es : List Expr) → boolean τ e ≡ true → Bools τ es → boolean τ (conjoin e es) ≡ true
  unfolding conjoin
  conjoin_boolean e [] h anil = h
  conjoin_boolean e (x ∷ xs) h (acons k ks) = conjoin_boolean (bin and e x) xs (and_boolean e x h k) ks

  pub conjunction_boolean : {es : List Expr} → Bools τ es → boolean? τ (conjunction es) ≡ true
  unfolding conjunction
  conjunction_boolean anil = refl
  conjunction_boolean (acons h hs) = conjoin_boolean _ _ h hs

  -- ---- simplified

  lit_well : (l : ValueRecord) → well τ (literal_is l) ≡ true
  unfolding well
  lit_well l = literal_cases (λ e v. well τ e ≡ true) (λ z. refl) (λ b. refl) (λ t. refl) l

  bound_boolean : (f : Bool) (r : Rel) (x : Name) (l : ValueRecord) → eqb (τ x) (type_of_expr τ (literal_is l)) ≡ true → boolean τ (bound_of f r x l) ≡ true
  unfolding bound_of boolean type_of_expr well
  bound_boolean false r x l h = and_intro refl (and_intro h (and_intro refl (lit_well l)))
  bound_boolean true r x l h = and_intro refl
      (and_intro (eq-eqb (type_of_expr τ (literal_is l)) (τ x) (sym (eqb-true (τ x) (type_of_expr τ (literal_is l)) h))) (and_intro (lit_well l) refl))

  boolean_bound : (f : Bool) (r : Rel) (x : Name) (l : ValueRecord) → boolean τ (bound_of f r x l) ≡ true → eqb (τ x) (type_of_expr τ (literal_is l)) ≡ true
  unfolding bound_of boolean type_of_expr well
  boolean_bound false r x l h = and_l _ _ (and_r _ _ h)
  boolean_bound true r x l h = eq-eqb (τ x) (type_of_expr τ (literal_is l)) (sym (eqb-true (type_of_expr τ (literal_is l)) (τ x) (and_l _ _ (and_r _ _ h))))

  bools_simplified : {es : List Expr} → Bools τ es → Bools τ (simplify_predicates es)
  unfolding boolean type_of_expr well ◌&◌
  bools_simplified h = simplified_in (λ e. boolean τ e ≡ true) (λ x l. eqb (τ x) (type_of_expr τ (literal_is l)) ≡ true) refl bound_boolean boolean_bound h

  pub simplify_filter_boolean : (e : Expr) → boolean τ e ≡ true → boolean? τ (simplify_filter e) ≡ true
  unfolding simplify_filter choose
  simplify_filter_boolean e h = go
      (not (eqb (length (split_conjunction e)) (length (reorder_predicates (simplify_predicates (split_conjunction e))).predicates)) ||
      (reorder_predicates (simplify_predicates (split_conjunction e))).changed)
    where
      go : (b : Bool) → boolean? τ (choose b (conjunction (reorder_predicates (simplify_predicates (split_conjunction e))).predicates)
          (some e)) ≡ true
      go true = conjunction_boolean (reorder_all (bools_simplified (bools_split e h)))
      go false = h

  -- ---- clauses out of ORs

  data BoolOr : Option Expr → Type 0 where
    no_clause : BoolOr none
    a_clause : {e : Expr} → boolean τ e ≡ true → BoolOr (some e)

  both_boolean : {o p : Option Expr} → BoolOr o → BoolOr p → BoolOr (both_or o p)
  unfolding both_or
  both_boolean no_clause q = no_clause
  both_boolean (a_clause h) no_clause = no_clause
  both_boolean (a_clause h) (a_clause k) = a_clause (or_boolean _ _ h k)

  either_boolean : {o p : Option Expr} → BoolOr o → BoolOr p → BoolOr (either_and_option o p)
  unfolding either_and_option
  either_boolean no_clause q = q
  either_boolean (a_clause h) no_clause = a_clause h
  either_boolean (a_clause h) (a_clause k) = a_clause (and_boolean _ _ h k)

  guarded_boolean : (b : Bool) (e : Expr) → boolean τ e ≡ true → BoolOr (guarded b e)
  unfolding guarded
  guarded_boolean true e h = a_clause h
  guarded_boolean false e h = no_clause

  extract_boolean : (c : Name → Bool) (e : Expr) → boolean τ e ≡ true → BoolOr (extract_or_clause c e)
  unfolding extract_or_clause boolean type_of_expr well
  extract_boolean c (bin and a b) h = let w = and_r _ _ h in either_boolean
      (extract_boolean c a (and_intro (and_l _ _ (and_l _ _ w)) (and_l _ _ (and_r _ _ w))))
      (extract_boolean c b (and_intro (and_r _ _ (and_l _ _ w)) (and_r _ _ (and_r _ _ w))))
  extract_boolean c (bin or a b) h = let w = and_r _ _ h in both_boolean
      (extract_boolean c a (and_intro (and_l _ _ (and_l _ _ w)) (and_l _ _ (and_r _ _ w))))
      (extract_boolean c b (and_intro (and_r _ _ (and_l _ _ w)) (and_r _ _ (and_r _ _ w))))
  extract_boolean c (bin (cmp o) a b) h = guarded_boolean (on_cols c (bin (cmp o) a b)) (bin (cmp o) a b) h
  extract_boolean c (col x) h = guarded_boolean (on_cols c (col x)) (col x) h
  extract_boolean c (num z) h = guarded_boolean (on_cols c (num z)) (num z) h
  extract_boolean c (bool b) h = guarded_boolean (on_cols c (bool b)) (bool b) h
  extract_boolean c (nul t) h = guarded_boolean (on_cols c (nul t)) (nul t) h
  extract_boolean c (neg a) h = guarded_boolean (on_cols c (neg a)) (neg a) h
  extract_boolean c (test t a) h = guarded_boolean (on_cols c (test t a)) (test t a) h
  extract_boolean c (between n a l u) h = guarded_boolean (on_cols c (between n a l u)) (between n a l u) h
  extract_boolean c (inlist n a xs) h = guarded_boolean (on_cols c (inlist n a xs)) (inlist n a xs) h
  extract_boolean c (fn p q r xs) h = guarded_boolean (on_cols c (fn p q r xs)) (fn p q r xs) h

  listed_boolean : {o : Option Expr} → BoolOr o → Bools τ (listed o)
  unfolding listed
  listed_boolean no_clause = anil
  listed_boolean (a_clause h) = acons h anil

  flat_boolean : (c : Name → Bool) {es : List Expr} → Bools τ es → Bools τ (flatten (λ e. listed (extract_or_clause c e)) es)
  unfolding flatten
  flat_boolean c anil = anil
  flat_boolean c (acons {x = e} h hs) = All-append (listed_boolean (extract_boolean c e h)) (flat_boolean c hs)

  pub bools_clauses : (c : Name → Bool) {es : List Expr} → Bools τ es → Bools τ (extract_or_clauses_for_join c es)
  unfolding extract_or_clauses_for_join
  bools_clauses c h = flat_boolean c (All-keep is_or h)

  -- ---- predicates inferred through keys of one type

  abbrev pub Linked : Option Name → Option Name → Type 0
  Linked none r = Unit {0}
  Linked (some y) none = Unit {0}
  Linked (some y) (some z) = τ y ≡ τ z

  Agrees : Name → Option Name → Type 0
  Agrees x none = Unit {0}
  Agrees x (some y) = τ x ≡ τ y

  pick_agrees : (x y z : Name) (rest : Option Name) → τ y ≡ τ z → Agrees x rest → (b c : Bool) → same y x ≡ b → same z x ≡ c
      → Agrees x (cond b (some z) (cond c (some y) rest))
  unfolding Agrees
  pick_agrees x y z rest e k true c p q = ap τ (sym (same_eq y x p)) ∙ e
  pick_agrees x y z rest e k false true p q = ap τ (sym (same_eq z x q)) ∙ sym e
  pick_agrees x y z rest e k false false p q = k

  pair_agrees : (x : Name) (l r rest : Option Name) → Linked l r → Agrees x rest → Agrees x (pair_of x l r rest)
  unfolding pair_of
  pair_agrees x none r rest h k = k
  pair_agrees x (some y) none rest h k = k
  pair_agrees x (some y) (some z) rest h k = pick_agrees x y z rest h k _ _ refl refl

  partner_agrees : {on : List Pair} → All (λ (k : Pair). Linked (as_column k.lhs) (as_column k.rhs)) on → (x : Name) → Agrees x (partner on x)
  unfolding partner Agrees
  partner_agrees anil x = tt
  partner_agrees (acons {x = k} h hs) x = pair_agrees x (as_column k.lhs) (as_column k.rhs) _ h (partner_agrees hs x)

  to_partner_type : (x : Name) (o : Option Name) → Agrees x o → type_of_expr τ (to_partner x o) ≡ τ x
  unfolding Agrees to_partner type_of_expr
  to_partner_type x none k = refl
  to_partner_type x (some y) k = sym k

  to_partner_well : (x : Name) (o : Option Name) → well τ (to_partner x o) ≡ true
  unfolding to_partner well
  to_partner_well x none = refl
  to_partner_well x (some y) = refl

  pub bools_inferred : (c : Name → Bool) {on : List Pair} {es : List Expr}
      → All (λ (k : Pair). Linked (as_column k.lhs) (as_column k.rhs)) on → All (λ e. on_cols c e ≡ true) es → Bools τ es
      → Bools τ (infer_join_predicates on es)
  unfolding infer_join_predicates swap_keys
  bools_inferred c {on} h i k = bools_sub c τ τ (swap_keys on) (λ x t. to_partner_type x _ (partner_agrees h x))
      (λ x t. to_partner_well x (partner on x)) (All-keep _ i) (All-keep _ k)

  pub bools_if : (b : Bool) {es : List Expr} → Bools τ es → Bools τ (if_list b es)
  bools_if true h = h
  bools_if false h = anil

-- ---- the types of entries

pub pick_type : (υ : Types) (es : List Entry) (x : Name) → has (names es) x ≡ true
    → type_of_expr υ (pick es x) ≡ look_d 0 (names es) (map (λ (e : Entry). type_of_expr υ e.expr) es) x
unfolding pick any
pick_type υ [] x h = cc
pick_type υ (e ∷ es) x h = go (same e.name x) h (pick_type υ es x)
  where
    go : (b : Bool) → b || has (names es) x ≡ true
        → (has (names es) x ≡ true → type_of_expr υ (pick es x) ≡ look_d 0 (names es) (map (λ (e : Entry). type_of_expr υ e.expr) es) x)
        → type_of_expr υ (cond b e.expr (pick es x)) ≡ cond b (type_of_expr υ e.expr) (look_d 0 (names es) (map (λ (e : Entry). type_of_expr υ e.expr) es) x)
    go true h k = refl
    go false h k = k h

pub pick_well : (υ : Types) (es : List Entry) → all (λ (e : Entry). well υ e.expr) es ≡ true → (x : Name) → has (names es) x ≡ true
    → well υ (pick es x) ≡ true
unfolding pick any all
pick_well υ [] w x h = cc
pick_well υ (e ∷ es) w x h = go (same e.name x) h (pick_well υ es (and_r _ _ w) x)
  where
    go : (b : Bool) → b || has (names es) x ≡ true → (has (names es) x ≡ true → well υ (pick es x) ≡ true)
        → well υ (cond b e.expr (pick es x)) ≡ true
    go true h k = and_l _ _ w
    go false h k = k h
