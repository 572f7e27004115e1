-- A sort of records, as the code's enum.
use Rattle.std.specs.Prelude.{Bool, ℕ, eqb}
use Rattle.image.specs.Tree.{Label}
use Rattle.plan.specs.Kinds.{what_of, expr_w, plan_w}
use Rattle.check_form.specs.declared.sorts.Sort.{Sort}
use Rattle.check_form.specs.declared.sorts.Sort.TheVariants.{Expression, Plan, Kind}

-- a record with this number for its kind is of the sort
unfoldable pub sort_of : Sort → ℕ → Bool
sort_of Expression n = expr_w (what_of n)
sort_of Plan n = plan_w (what_of n)
sort_of (Kind k) n = eqb n k

abbrev pub of_sort : Sort → Label → Bool
of_sort sort l = sort_of sort l.kind
