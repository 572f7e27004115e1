-- A scope as the code hands it down: the children of the plan that expressions stand in, and which of their fields are seen.
use Rattle.std.specs.Prelude.{cond, [], ℕ, eqb}
use Rattle.image.specs.Tree.{Forest}
use Rattle.plan.specs.Kinds.{What, expr, plan, part, unknown, PlanKind, TableScan, Filter, Projection, Join, SubqueryAlias, Union, Distinct}
use Rattle.plan.specs.Kinds.{Sort, Repartition, Limit, Aggregate, Window, number_q, PairPart}
use Rattle.check_fields.specs.Fields.{made, input, inputs}
use Rattle.check_fields.specs.Rules.{Scope, over}
use Rattle.image.specs.Subtrees.{forest}
use Rattle.check_fields.specs.declared.scopes.Scope as declared
use Rattle.check_fields.specs.declared.scopes.View.{View}
use Rattle.check_fields.specs.declared.scopes.View.TheVariants.{Nothing, FirstInput, SecondInput, BothInputs, Parts}
use Rattle.check_fields.specs.declared.scopes.View.TheVariants.{FirstInputAndParts}

abbrev pub scope_of : View → Forest → Scope
scope_of Nothing f = over [] []
scope_of FirstInput f = over (input 0 (inputs f)) []
scope_of SecondInput f = over (input 1 (inputs f)) []
scope_of BothInputs f = over (input 0 (inputs f)) (input 1 (inputs f))
scope_of Parts f = over (made [] f) []
scope_of FirstInputAndParts f = over (input 0 (inputs f)) (made [] f)

-- the scope that the code's is
abbrev pub scope_at : {N : ℕ} → declared.Scope N → Scope
scope_at s = scope_of s.view (forest s.trees)

-- what a plan's children see
abbrev pub view_p : PlanKind → View
view_p TableScan = Parts
view_p Filter = FirstInput
view_p Projection = FirstInput
view_p Join = BothInputs
view_p SubqueryAlias = FirstInput
view_p Union = Nothing
view_p Distinct = FirstInput
view_p Sort = FirstInput
view_p Repartition = FirstInput
view_p Limit = FirstInput
view_p Aggregate = FirstInput
view_p Window = FirstInput

-- nothing of a record that is no plan
abbrev pub view_w : What → View
view_w (expr k) = Nothing
view_w (plan k) = view_p k
view_w (part k) = Nothing
view_w unknown = Nothing

-- the halves of a view
abbrev pub left_of : View → View
left_of Nothing = Nothing
left_of FirstInput = FirstInput
left_of SecondInput = SecondInput
left_of BothInputs = FirstInput
left_of Parts = Parts
left_of FirstInputAndParts = FirstInput

abbrev pub right_of : View → View
right_of Nothing = Nothing
right_of FirstInput = Nothing
right_of SecondInput = Nothing
right_of BothInputs = SecondInput
right_of Parts = Nothing
right_of FirstInputAndParts = Parts

-- what the first child of a record that is no plan sees
abbrev pub first_view : ℕ → View → View
first_view k v = cond (eqb k (number_q PairPart)) (left_of v) v

-- and the others
abbrev pub rest_view : ℕ → View → View
rest_view k v = cond (eqb k (number_q PairPart)) (right_of v) v
