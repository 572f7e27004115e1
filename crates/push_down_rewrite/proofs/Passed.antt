-- The match on a plan's kind: what the last arm takes.
use Prim.Native.Nat.{ℕ}
use mathlib.Core.Path.{◌≡◌, refl, sym, ap, ◌∙◌}
use mathlib.Core.Bool.{Bool, true, false}
use Rattle.plan.specs.Kinds as K
use Rattle.plan.specs.Kinds.{What, PlanKind, expr, plan, part, unknown, what_of, number_p}
use Rattle.plan.specs.Syntax.{Plan, scan, filter, project, join, alias, union, distinct, sort, repartition, limit, aggregate, window}
use Rattle.plan.specs.Trees.{label_p}
use Rattle.plan.proofs.Bools.{no_yes}
use Rattle.push_down_arms.specs.Through.{through}
use Rattle.push_down_merge.specs.Merging.{is_filter}

-- no arm of its own is for these
abbrev pub passes : What → Bool
passes (plan K.TableScan) = false
passes (plan K.Projection) = false
passes (plan K.Join) = false
passes (plan K.SubqueryAlias) = false
passes (plan K.Union) = false
passes (plan K.Aggregate) = false
passes (plan K.Window) = false
passes (plan K.Filter) = true
passes (plan K.Distinct) = true
passes (plan K.Sort) = true
passes (plan K.Repartition) = true
passes (plan K.Limit) = true
passes (expr k) = true
passes (part k) = true
passes unknown = true

passed : (q : Plan) → is_filter q ≡ false → passes (what_of (label_p q).kind) ≡ true → through q ≡ true
unfolding label_p what_of K.among
passed (scan t fs es) o h = no_yes h
passed (filter e p) o h = sym o
passed (project es p) o h = no_yes h
passed (join k l r on f) o h = no_yes h
passed (alias i p) o h = no_yes h
passed (union ps) o h = no_yes h
passed (distinct p) o h = refl
passed (sort f ks p) o h = refl
passed (repartition p) o h = refl
passed (limit n k p) o h = refl
passed (aggregate gs ags p) o h = no_yes h
passed (window ws p) o h = no_yes h

pub is_through : {n : ℕ} {w : What} (q : Plan) → is_filter q ≡ false → n ≡ (label_p q).kind → w ≡ what_of n → passes w ≡ true → through q ≡ true
is_through q o is told h = passed q o (ap (λ m. passes (what_of m)) (sym is) ∙ ap passes (sym told) ∙ h)
