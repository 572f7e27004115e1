-- Test 7 finds nothing exactly if the plan keeps the type rules.
use Prim.Native.Nat.{ℕ}
use mathlib.Core.Path.{◌≡◌, refl, sym, ap, ◌∙◌}
use mathlib.Core.Logic.{◌↔◌}
use mathlib.Core.Bool.{Bool, true, false, not, ◌||◌, cond}
use mathlib.Core.List.{List, [], ◌∷◌, ◌++◌, map}
use mathlib.Core.Option.{Option, none, some}
use lib.Dec.{eqb}
use borrow.Author.Tests.{eqb-true, eq-eqb}
use Rattle.std.specs.Prelude.{None}
use Rattle.plan.specs.Lists.{◌&◌, all, flatten}
use Rattle.plan.proofs.Lists.{and_l, and_r, and_intro, and_assoc, and_true, true_and, AndSort, all_append, all_flat, all_map, all_true}
use Rattle.plan.proofs.Lists.{all_and}
use Rattle.plan.specs.Syntax.{Expr, col, num, bool, nul, bin, neg, test, between, inlist, fn, Exprs, enil, econs, Field, Plan, scan, filter}
use Rattle.plan.specs.Syntax.{project, join, alias, union, distinct, sort, repartition, limit, aggregate, window, Plans, pnil, pcons}
use Rattle.plan.specs.Schema.{schema}
use Rattle.plan.specs.Types.{Types, types, types_first, field_types, both_types, Scanned, scans, scans_all}
use Rattle.acceptance.specs.Marks.{marks_in, marks_in_all, marks_in?, marks_of, marks_of_all}
use Rattle.acceptance.specs.Types.{typed_operands, same_types, united, first_scanned, as_first, scanned, typed_plan, type_rules}
use Rattle.acceptance.specs.Types.{types_in, types_of, bad_type, is_boolean, is_boolean?}
use Rattle.acceptance.proofs.Marks.{kept, none_false, all_kept}
use Rattle.acceptance.proofs.TypesRule.{well, well_all, boolean, boolean?, typed, typed_all, agree, all_agree, types_ok}
use Rattle.acceptance.proofs.TypesRule.{same_types_eq}

-- ---- expressions

module _ (τ : Types) where
  mutual
    unfolding marks_in typed_operands all well ◌&◌

    well_kept : (e : Expr) → kept (types_in τ e) ≡ well τ e
    well_kept (col x) = refl
    well_kept (num z) = refl
    well_kept (bool b) = refl
    well_kept (nul t) = refl
    well_kept (bin o a b) = simp (all_append, well_kept a, well_kept b)
    well_kept (neg a) = simp (well_kept a)
    well_kept (test t a) = simp (well_kept a)
    well_kept (between n a l u) = simp (all_append, and_assoc, well_kept a, well_kept l, well_kept u)
    well_kept (inlist n a xs) = simp (all_append, well_kept a, well_kept_all xs)
    well_kept (fn p q r xs) = simp (well_kept_all xs)

    well_kept_all : (xs : Exprs) → kept (marks_in_all (typed_operands τ) xs) ≡ well_all τ xs
    well_kept_all enil = refl
    well_kept_all (econs x xs) = simp (all_append, well_kept x, well_kept_all xs)

well_kept? : (τ : Types) (f : Option Expr) → is_boolean? τ f & kept (marks_in? (typed_operands τ) f) ≡ boolean? τ f
unfolding all boolean ◌&◌
well_kept? τ none = refl
well_kept? τ (some e) = ap (is_boolean τ e &◌) (well_kept τ e)

all_boolean : (τ : Types) (es : List Expr) → all (boolean τ) es ≡ all (is_boolean τ) es & all (λ e. well τ e) es
unfolding boolean
all_boolean τ es = all_and (is_boolean τ) (well τ) es

scan_kept : (τ : Types) (a : Bool) (fs : List Field) (es : List Expr)
    → (all (is_boolean τ) es & a) & kept (map (λ (f : Field). true) fs ++ flatten (types_in τ) es) ≡ all (boolean τ) es & (a & true)
scan_kept τ a fs es = simp (all_append, all_map, all_true, all_flat, well_kept, all_boolean, AndSort)

-- the conjunctions below, regrouped: b of a predicate's type, w of what is below it, t and s of an input's types and scans
filter_kept : (b w t s : Bool) → b & (w & (t & s)) ≡ ((b & w) & t) & s
filter_kept b w t s = simp AndSort

aggregate_kept : (g a t s : Bool) → (g & a) & (t & s) ≡ (g & (a & t)) & s
aggregate_kept g a t s = simp AndSort

join_kept : (b t s u r k w : Bool) → b & ((((t & s) & (u & r)) & k) & w) ≡ (k & ((b & w) & (t & u))) & (s & r)
join_kept b t s u r k w = simp AndSort

united_kept : (a t s u k v r : Bool) → u & k ≡ v & r → (a & u) & ((t & s) & k) ≡ (a & (t & v)) & (s & r)
united_kept a t s u k v r e =
    let f : (a & u) & ((t & s) & k) ≡ (a & (t & s)) & (u & k) = simp AndSort in
    f ∙ ap ((a & (t & s)) &◌) e ∙ simp AndSort

-- ---- plans: the marks are the type rules, and for each scan that it is as the first of its table

module _ (ss : List Scanned) where
  mutual
    unfolding marks_of typed_plan typed_operands all typed scans schema types boolean

    types_kept : (p : Plan) → kept (types_of ss p) ≡ typed p & all (as_first ss) (scans p)
    types_kept (scan t fs es) = scan_kept (field_types (scan t fs es)) (as_first ss (scanned t fs)) fs es
    types_kept (filter e p) = simp (all_append, well_kept, types_kept p) (filter_kept _ _ _ _)
    types_kept (project es p) = simp (all_append, all_flat, true_and, well_kept, types_kept p) (sym (and_assoc _ _ _))
    types_kept (join k l r on f) =
        simp (all_append, all_flat, well_kept, types_kept l, types_kept r, ← (well_kept? (both_types l r) f)) (join_kept _ _ _ _ _ _ _)
    types_kept (alias q p) = true_and _ ∙ types_kept p
    types_kept (union ps) = types_kept_all (types_first ps) ps
    types_kept (distinct p) = true_and _ ∙ types_kept p
    types_kept (sort f ks p) = simp (all_append, all_flat, true_and, well_kept, types_kept p) (sym (and_assoc _ _ _))
    types_kept (repartition p) = true_and _ ∙ types_kept p
    types_kept (limit n k p) = true_and _ ∙ types_kept p
    types_kept (aggregate gs ags p) = simp (all_append, all_flat, true_and, well_kept, types_kept p) (aggregate_kept _ _ _ _)
    types_kept (window ws p) =
        simp (all_append, all_flat, all_map, all_true, true_and, and_true, well_kept, types_kept p) (sym (and_assoc _ _ _))

    types_kept_all : (ts : List ℕ) (ps : Plans)
        → united ts ps & kept (marks_of_all (type_rules ss) ps) ≡ typed_all ts ps & all (as_first ss) (scans_all ps)
    types_kept_all ts pnil = refl
    types_kept_all ts (pcons p ps) = simp (all_append, types_kept p) (united_kept _ _ _ _ _ _ _ (types_kept_all ts ps))

-- ---- scans of one table agree exactly if each is as the first

same_types_refl : (ts : List ℕ) → same_types ts ts ≡ true
same_types_refl [] = refl
same_types_refl (t ∷ ts) = and_intro (eq-eqb t t refl) (same_types_refl ts)

same_types_of : (ts us : List ℕ) → ts ≡ us → same_types ts us ≡ true
same_types_of ts us e = rw (← e) (same_types_refl ts)

-- scans that have the field types f of their tables
module _ (f : ℕ → List ℕ) where
  abbrev types_by : Scanned → Bool
  types_by a = same_types a.row_types (f a.table)

  agree_by : (a b : Scanned) → types_by a ≡ true → types_by b ≡ true → agree a b ≡ true
  agree_by a b h k = go (eqb a.table b.table) refl
    where
      go : (c : Bool) → eqb a.table b.table ≡ c → not c || same_types a.row_types b.row_types ≡ true
      go true e =
          same_types_of a.row_types b.row_types
          (same_types_eq a.row_types (f a.table) h ∙ ap f (eqb-true a.table b.table e)
          ∙ sym (same_types_eq b.row_types (f b.table) k))
      go false e = refl

  all_agree_by : (bs : List Scanned) → all types_by bs ≡ true → all_agree bs ≡ true
  unfolding all
  all_agree_by [] h = refl
  all_agree_by (a ∷ bs) h = and_intro (with_all bs (and_r _ _ h)) (all_agree_by bs (and_r _ _ h))
    where
      with_all : (bs : List Scanned) → all types_by bs ≡ true → all (agree a) bs ≡ true
      with_all [] k = refl
      with_all (b ∷ bs) k = and_intro (agree_by a b (and_l _ _ h) (and_l _ _ k)) (with_all bs (and_r _ _ k))

as_later : (a : Scanned) (bs : List Scanned) (c : Scanned) → agree a c ≡ true → as_first bs c ≡ true → as_first (a ∷ bs) c ≡ true
unfolding as_first first_scanned
as_later a bs c h k = go (eqb a.table c.table) h
  where
    go : (b : Bool) → not b || same_types a.row_types c.row_types ≡ true
        → same_types c.row_types (cond b a.row_types (first_scanned c.table bs)) ≡ true
    go true h = same_types_of c.row_types a.row_types (sym (same_types_eq a.row_types c.row_types h))
    go false h = k

all_later : (a : Scanned) (bs cs : List Scanned) → all (agree a) cs ≡ true → all (as_first bs) cs ≡ true → all (as_first (a ∷ bs)) cs ≡ true
unfolding all
all_later a bs [] h k = refl
all_later a bs (c ∷ cs) h k = and_intro (as_later a bs c (and_l _ _ h) (and_l _ _ k)) (all_later a bs cs (and_r _ _ h) (and_r _ _ k))

own_first : (a : Scanned) (bs : List Scanned) → as_first (a ∷ bs) a ≡ true
unfolding as_first first_scanned
own_first a bs = rw (eq-eqb a.table a.table refl) (same_types_refl a.row_types)

all_as_first : (ss : List Scanned) → all_agree ss ≡ true → all (as_first ss) ss ≡ true
unfolding all
all_as_first [] h = refl
all_as_first (a ∷ bs) h = and_intro (own_first a bs) (all_later a bs bs (and_l _ _ h) (all_as_first bs (and_r _ _ h)))

-- ---- the test

types_found : (p : Plan) → bad_type p ≡ None → types_ok p ≡ true
unfolding bad_type types_ok as_first
types_found p h =
    let k : typed p & all (as_first (scans p)) (scans p) ≡ true = sym (types_kept (scans p) p) ∙ none_false 0 _ h in
    and_intro (and_l _ _ k) (all_agree_by (λ t. first_scanned t (scans p)) (scans p) (and_r _ _ k))

types_unfound : (p : Plan) → types_ok p ≡ true → bad_type p ≡ None
unfolding bad_type types_ok
types_unfound p h = all_kept 0 _ (types_kept (scans p) p ∙ and_intro (and_l _ _ h) (all_as_first (scans p) (and_r _ _ h)))

-- test 7 finds nothing in a plan exactly if the plan keeps the type rules
pub types_iff : (p : Plan) → (bad_type p ≡ None) ↔ (types_ok p ≡ true)
types_iff p = (types_found p, types_unfound p)
