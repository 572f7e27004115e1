-- Laws of the rule of one record: what it asks of its own expressions, and what a Union and a scan ask besides.
-- Assumes nothing.
use mathlib.Core.Path.{◌≡◌, refl, sym, ap, ◌∙◌}
use mathlib.Core.Bool.{Bool, true, false, cond, ◌||◌}
use mathlib.Core.List.{List, []}
use Prim.Native.Nat.{ℕ}
use lib.Dec.{eqb, leb}
use Rattle.image.specs.Tree.{Label, Forest}
use Rattle.plan.specs.Lists.{◌&◌}
use Rattle.plan.proofs.Lists.{and_true, true_and}
use Rattle.plan.specs.Kinds as K
use Rattle.plan.specs.Kinds.{What, expr, plan, part, unknown, what, what_of}
use Rattle.plan.proofs.Rebuilt.{kind_p}
use Rattle.acceptance.specs.Types.{same_types}
use Rattle.check_fields.specs.Fields.{made, inputs, first}
use Rattle.check_fields.specs.Rules.{booleans, alike, types_in, united, scan_types, type_ok_by}
use Rattle.plan.specs.Syntax.{no_type, integer_type}
use Rattle.check_types.specs.declared.operands.Demand.{Demand}
use Rattle.check_types.specs.declared.operands.Demand.TheVariants.{Nothing, Booleans, OneType, IntegerFirst}
use Rattle.check_types.specs.Demands.{demand_of, met}

-- what a plan asks besides
abbrev more_p : K.PlanKind → Forest → Label → Forest → Bool
more_p K.TableScan root l cs = same_types (types_in (made [] cs)) (scan_types l.p [] root)
more_p K.Filter root l cs = true
more_p K.Projection root l cs = true
more_p K.Join root l cs = true
more_p K.SubqueryAlias root l cs = true
more_p K.Union root l cs = united (inputs cs)
more_p K.Distinct root l cs = true
more_p K.Sort root l cs = true
more_p K.Repartition root l cs = true
more_p K.Limit root l cs = true
more_p K.Aggregate root l cs = true
more_p K.Window root l cs = true

-- what a record asks besides
abbrev more : What → Forest → Label → Forest → Bool
more (expr k) root l cs = true
more (plan k) root l cs = more_p k root l cs
more (part k) root l cs = true
more unknown root l cs = true

module _ (root : Forest) (l : Label) (cs : Forest) (ts : List ℕ) where
  -- any type, or what is asked
  count_or : (b : Bool) → b || eqb (first no_type ts) integer_type ≡ met (cond b Nothing IntegerFirst) ts & true
  count_or true = sym (and_true true)
  count_or false = sym (and_true (eqb (first 0 ts) 1))

  -- the rule is what it asks of its own expressions, and what it asks besides
  rule_is : (w : What) → type_ok_by w root l cs ts ≡ met (demand_of w l.p l.r) ts & more w root l cs
  rule_is (expr K.Column) = sym (and_true true)
  rule_is (expr K.Integer) = sym (and_true true)
  rule_is (expr K.Boolean) = sym (and_true true)
  rule_is (expr K.Null) = sym (and_true true)
  rule_is (expr K.Binary) = go (leb l.p 2)
    where
      go : (b : Bool) → cond b (booleans ts) (alike ts) ≡ met (cond b Booleans OneType) ts & true
      go true = sym (and_true (booleans ts))
      go false = sym (and_true (alike ts))
  rule_is (expr K.Not) = sym (and_true (booleans ts))
  rule_is (expr K.Test) = go (leb l.p 2)
    where
      go : (b : Bool) → b || booleans ts ≡ met (cond b Nothing Booleans) ts & true
      go true = sym (and_true true)
      go false = sym (and_true (booleans ts))
  rule_is (expr K.Between) = sym (and_true (alike ts))
  rule_is (expr K.InList) = sym (and_true (alike ts))
  rule_is (expr K.Function) = sym (and_true true)
  rule_is (plan K.TableScan) = refl
  rule_is (plan K.Filter) = sym (and_true (booleans ts))
  rule_is (plan K.Projection) = sym (and_true true)
  rule_is (plan K.Join) = sym (and_true (booleans ts))
  rule_is (plan K.SubqueryAlias) = sym (and_true true)
  rule_is (plan K.Union) = sym (true_and (united (inputs cs)))
  rule_is (plan K.Distinct) = sym (and_true true)
  rule_is (plan K.Sort) = sym (and_true true)
  rule_is (plan K.Repartition) = sym (and_true true)
  rule_is (plan K.Limit) = sym (and_true true)
  rule_is (plan K.Aggregate) = sym (and_true true)
  rule_is (plan K.Window) = sym (and_true true)
  rule_is (part K.FieldPart) = sym (and_true true)
  rule_is (part K.EntryPart) = sym (and_true true)
  rule_is (part K.PairPart) = sym (and_true (alike ts))
  rule_is (part K.KeyPart) = sym (and_true true)
  rule_is (part K.AggPart) = count_or (eqb l.r 1)
  rule_is (part K.WinPart) = count_or (eqb l.r 1)
  rule_is unknown = sym (and_true true)

  -- it asks no more
  more_none : (w : What) → (w ≡ plan K.TableScan → ⊥) → (w ≡ plan K.Union → ⊥) → true ≡ more w root l cs
  more_none (expr k) a b = refl
  more_none (part k) a b = refl
  more_none unknown a b = refl
  more_none (plan K.TableScan) a b = absurd (a refl)
  more_none (plan K.Filter) a b = refl
  more_none (plan K.Projection) a b = refl
  more_none (plan K.Join) a b = refl
  more_none (plan K.SubqueryAlias) a b = refl
  more_none (plan K.Union) a b = absurd (b refl)
  more_none (plan K.Distinct) a b = refl
  more_none (plan K.Sort) a b = refl
  more_none (plan K.Repartition) a b = refl
  more_none (plan K.Limit) a b = refl
  more_none (plan K.Aggregate) a b = refl
  more_none (plan K.Window) a b = refl

module _ (l : Label) (cs root : Forest) (ts : List ℕ) {d : Demand} {m : Bool}
    (D : d ≡ demand_of (what l) l.p l.r) (M : m ≡ met d ts) where
  -- the same as the code asks it
  rule_by : type_ok_by (what l) root l cs ts ≡ m & more (what l) root l cs
  rule_by =
      rule_is root l cs ts (what l)
      ∙ ap (λ (x : Bool). x & more (what l) root l cs) (sym (M ∙ ap (λ (x : Demand). met x ts) D))

  -- its own expressions are wrong
  pub rule_not : m ≡ false → false ≡ type_ok_by (what l) root l cs ts
  unfolding ◌&◌
  rule_not e = sym (rule_by ∙ ap (λ (x : Bool). x & more (what l) root l cs) e)

  module _ (e : m ≡ true) where
    -- they are right: what it asks besides is the rule
    rule_then : more (what l) root l cs ≡ type_ok_by (what l) root l cs ts
    unfolding ◌&◌
    rule_then = sym (rule_by ∙ ap (λ (x : Bool). x & more (what l) root l cs) e)

    -- a scan: the types of the first scan of its table
    pub rule_scan : l.kind ≡ K.number_p K.TableScan → same_types (types_in (made [] cs)) (scan_types l.p [] root) ≡ type_ok_by (what l) root
        l cs ts
    unfolding what_of K.among
    rule_scan z = ap (λ (x : ℕ). more (what_of x) root l cs) (sym z) ∙ rule_then

    -- a Union: its inputs united
    pub rule_union : l.kind ≡ K.number_p K.Union → united (inputs cs) ≡ type_ok_by (what l) root l cs ts
    unfolding what_of K.among
    rule_union z = ap (λ (x : ℕ). more (what_of x) root l cs) (sym z) ∙ rule_then

    -- another record asks no more
    pub rule_rest : (l.kind ≡ K.number_p K.TableScan → ⊥) → (l.kind ≡ K.number_p K.Union → ⊥) → true ≡ type_ok_by (what l) root l cs ts
    rule_rest a c = more_none root l cs ts (what l) (λ q. a (kind_p l K.TableScan q)) (λ q. c (kind_p l K.Union q)) ∙ rule_then
