-- The type rules of a plan in the form that proofs by induction on plans want. Types: 1 integer, 2 boolean; 0 where a name has none.
use Prim.Native.Nat.{ℕ}
use mathlib.Core.Path.{◌≡◌, refl, sym, ap, ap₂, ◌∙◌}
use mathlib.Core.Bool.{Bool, true, not, ◌||◌}
use mathlib.Core.List.{List, [], ◌∷◌, map}
use mathlib.Core.Option.{Option, none, some}
use lib.Dec.{eqb}
use lib.ListN.{length}
use borrow.Author.Tests.{eqb-true, eq-eqb}
use Rattle.plan.specs.Lists.{◌&◌, all}
use Rattle.plan.proofs.Lists.{and_l, and_r, and_intro}
use Rattle.plan.specs.Syntax.{Expr, col, num, bool, nul, bin, neg, test, between, inlist, fn, Exprs, enil, econs, Field, Entry, Pair, Key}
use Rattle.plan.specs.Syntax.{AggEntry, WinEntry, Plan, scan, filter, project, join, alias, union, distinct, sort, repartition, limit}
use Rattle.plan.specs.Syntax.{aggregate, window, Plans, pnil, pcons}
use Rattle.plan.specs.Schema.{look_d, schema, schema_first}
use Rattle.plan.specs.Types.{Scanned, scans, Types, type_of_expr, types, types_first, field_types, both_types}
use Rattle.plan.proofs.Types.{types_length, types_first_length}
use Rattle.acceptance.specs.Types.{operands, any_type, of_type, takes_type, same_types}
use Rattle.acceptance.specs.NamesRule.{rule, rule_all, names_rule, ok, ok_all}

-- ---- expressions

unfoldable mutual
  pub well : Types → Expr → Bool
  well τ (col x) = true
  well τ (num z) = true
  well τ (bool b) = true
  well τ (nul t) = true
  well τ (bin o a b) = operands o (type_of_expr τ a) (type_of_expr τ b) & (well τ a & well τ b)
  well τ (neg a) = eqb (type_of_expr τ a) 2 & well τ a
  well τ (test t a) = (any_type t || eqb (type_of_expr τ a) 2) & well τ a
  well τ (between n a l u) = (eqb (type_of_expr τ a) (type_of_expr τ l) & eqb (type_of_expr τ a) (type_of_expr τ u)) & (well τ a & (well τ l & well τ u))
  well τ (inlist n a xs) = of_type τ (type_of_expr τ a) xs & (well τ a & well_all τ xs)
  well τ (fn p q r xs) = well_all τ xs

  pub well_all : Types → Exprs → Bool
  well_all τ enil = true
  well_all τ (econs x xs) = well τ x & well_all τ xs

-- a predicate
unfoldable pub boolean : Types → Expr → Bool
boolean τ e = eqb (type_of_expr τ e) 2 & well τ e

abbrev pub boolean? : Types → Option Expr → Bool
boolean? τ none = true
boolean? τ (some e) = boolean τ e

-- ---- plans

unfoldable mutual
  pub typed : Plan → Bool
  typed (scan t fs es) = all (boolean (look_d 0 (map (λ (f : Field). f.name) fs) (map (λ (f : Field). f.ty) fs))) es
  typed (filter e p) = boolean (field_types p) e & typed p
  typed (project es p) = all (λ (e : Entry). well (field_types p) e.expr) es & typed p
  typed (join k l r on f) =
      all (λ (k : Pair). eqb (type_of_expr (field_types l) k.lhs) (type_of_expr (field_types r) k.rhs)
      & (well (field_types l) k.lhs & well (field_types r) k.rhs)) on
      & (boolean? (both_types l r) f & (typed l & typed r))
  typed (alias q p) = typed p
  typed (union ps) = typed_all (types_first ps) ps
  typed (distinct p) = typed p
  typed (sort f ks p) = all (λ (k : Key). well (field_types p) k.expr) ks & typed p
  typed (repartition p) = typed p
  typed (limit n k p) = typed p
  typed (aggregate gs ags p) =
      all (λ (e : Entry). well (field_types p) e.expr) gs
      & (all (λ (a : AggEntry). takes_type a.fun (type_of_expr (field_types p) a.expr) & well (field_types p) a.expr) ags & typed p)
  typed (window ws p) =
      all (λ (w : WinEntry). takes_type w.fun (type_of_expr (field_types p) w.expr) & well (field_types p) w.expr) ws & typed p

  pub typed_all : List ℕ → Plans → Bool
  typed_all ts pnil = true
  typed_all ts (pcons p ps) = same_types (types p) ts & (typed p & typed_all ts ps)

-- ---- scans of one table share field types

abbrev pub agree : Scanned → Scanned → Bool
agree a b = not (eqb a.table b.table) || same_types a.row_types b.row_types

abbrev pub all_agree : List Scanned → Bool
all_agree [] = true
all_agree (a ∷ bs) = all (agree a) bs & all_agree bs

-- test 7
unfoldable pub types_ok : Plan → Bool
types_ok p = typed p & all_agree (scans p)

-- ---- with the name rules, what rows need

pub same_types_eq : (ts us : List ℕ) → same_types ts us ≡ true → ts ≡ us
same_types_eq [] [] h = refl
same_types_eq [] (u ∷ us) h = cc
same_types_eq (t ∷ ts) [] h = cc
same_types_eq (t ∷ ts) (u ∷ us) h = ap₂ ◌∷◌ (eqb-true t u (and_l _ _ h)) (same_types_eq ts us (and_r _ _ h))

mutual
  unfolding rule typed

  pub names_typed_ok : (p : Plan) → names_rule p ≡ true → typed p ≡ true → ok p ≡ true
  names_typed_ok (scan t fs es) h y = h
  names_typed_ok (filter e p) h y = and_intro (and_l _ _ h) (names_typed_ok p (and_r _ _ h) (and_r _ _ y))
  names_typed_ok (project es p) h y =
      and_intro (and_l _ _ h) (and_intro (and_l _ _ (and_r _ _ h)) (names_typed_ok p (and_r _ _ (and_r _ _ h)) (and_r _ _ y)))
  names_typed_ok (join k l r on f) h y =
      let i = and_r _ _ (and_r _ _ h) in
      let z = and_r _ _ (and_r _ _ y) in
      let l-ok = names_typed_ok l (and_l _ _ (and_r _ _ i)) (and_l _ _ z) in
      let r-ok = names_typed_ok r (and_r _ _ (and_r _ _ i)) (and_r _ _ z) in
      and_intro (and_l _ _ h) (and_intro (and_l _ _ (and_r _ _ h)) (and_intro (and_l _ _ i) (and_intro l-ok r-ok)))
  names_typed_ok (alias q p) h y = and_intro (and_l _ _ h) (names_typed_ok p (and_r _ _ h) y)
  names_typed_ok (union ps) h y = names_typed_all ps (types_first ps) (length (schema_first ps)) (types_first_length ps) h y
  names_typed_ok (distinct p) h y = names_typed_ok p h y
  names_typed_ok (sort f ks p) h y = and_intro (and_l _ _ h) (names_typed_ok p (and_r _ _ h) (and_r _ _ y))
  names_typed_ok (repartition p) h y = names_typed_ok p h y
  names_typed_ok (limit n k p) h y = names_typed_ok p h y
  names_typed_ok (aggregate gs ags p) h y =
      let i = and_r _ _ (and_r _ _ h) in
      and_intro (and_l _ _ h)
      (and_intro (and_l _ _ (and_r _ _ h)) (and_intro (and_l _ _ i) (names_typed_ok p (and_r _ _ i) (and_r _ _ (and_r _ _ y)))))
  names_typed_ok (window ws p) h y =
      and_intro (and_l _ _ h) (and_intro (and_l _ _ (and_r _ _ h)) (names_typed_ok p (and_r _ _ (and_r _ _ h)) (and_r _ _ y)))

  names_typed_all : (ps : Plans) (ts : List ℕ) (n : ℕ) → length ts ≡ n → rule_all (λ a b. true) n ps ≡ true → typed_all ts ps ≡ true
      → ok_all n ps ≡ true
  names_typed_all pnil ts n w h y = refl
  names_typed_all (pcons p ps) ts n w h y =
      and_intro (eq-eqb (length (schema p)) n (sym (types_length p) ∙ ap length (same_types_eq (types p) ts (and_l _ _ y)) ∙ w))
      (and_intro (names_typed_ok p (and_l _ _ (and_r _ _ h)) (and_l _ _ (and_r _ _ y)))
      (names_typed_all ps ts n w (and_r _ _ (and_r _ _ h)) (and_r _ _ (and_r _ _ y))))
