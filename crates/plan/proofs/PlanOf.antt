-- The form test reads a tree as a plan: both ways. `plan_of_back` of Written.antt is the first, `plan_of_whole` here the second.
use Prim.Native.Nat.{ℕ}
use native.Mathlib.Omega.{arith}
use mathlib.Core.Path.{◌≡◌, refl, ap, subst}
use mathlib.Core.Bool.{true}
use mathlib.Core.Option.{some}
use Rattle.image.specs.Tree.{Label, Forest, none, node, Tree}
use Rattle.std.specs.Prelude.{None, Some}
use Rattle.image.specs.Lowest.{Found, alone}
use Rattle.image.proofs.Lowest.{Passes, passes, or_first, or_second, unless_true}
use Rattle.plan.specs.Kinds.{is_plan}
use Rattle.plan.specs.Words.{Worded}
use Rattle.plan.specs.Form.{form_ok, bad_form}
use Rattle.plan.specs.Syntax.{Plan}
use Rattle.plan.specs.Trees.{plan_tree}
use Rattle.plan.specs.Read.{plan_at, plan_of, unless_found}
use Rattle.plan.proofs.Rebuilt.{Formed, plans_whole, plan_head}

formed : (f : Forest) → Passes {C = Unit {0}} (λ c l cs. form_ok l cs) (λ c l cs. (c, c)) tt tt f → Formed f
formed none h = tt
formed (node l cs ns) h = (h.0, formed cs h.1, formed ns h.2)

root_plan : (t : Tree) → bad_form t ≡ None → is_plan t.label ≡ true
unfolding bad_form
root_plan t h = unless_true _ 0 (or_first _ _ h)

all_formed : (t : Tree) → bad_form t ≡ None → Formed (alone t)
unfolding bad_form
all_formed t h = formed (alone t) (passes _ _ tt tt 0 (alone t) (or_second _ _ h))

-- the second theorem of the bridge: a tree of the right words and form is the tree of its plan
pub plan_tree_whole : (t : Tree) → Worded (alone t) → bad_form t ≡ None → plan_tree (plan_at t) ≡ t
unfolding plan_at
plan_tree_whole t w h =
    let r = plans_whole (alone t) w (all_formed t h) in
    let e = plan_head t.label t.below none (root_plan t h) r.0 none in
    ap (λ (x : Label × Forest). record { label = x.0; below = x.1 }) (node_parts e)
  where
    node_parts : {l m : Label} {a b : Forest} → node l a none ≡ node m b none → ◌≡◌ {A = Label × Forest} (l, a) (m, b)
    node_parts e = cc

pub plan_of_whole : (t : Tree) (p : Plan) → Worded (alone t) → plan_of t ≡ some p → plan_tree p ≡ t
unfolding plan_of
plan_of_whole t p w h = go (bad_form t) refl h
  where
    go : (f : Found) → bad_form t ≡ f → unless_found f (plan_at t) ≡ some p → plan_tree p ≡ t
    go None e q = let g : plan_at t ≡ p = cc in subst (λ (x : Plan). plan_tree x ≡ t) g (plan_tree_whole t w e)
    go (Some r) e q = let z : ◌≡◌ {A = ℕ} 0 1 = cc in absurd (omega arith)
