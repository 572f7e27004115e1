-- `walk::bad_types` meets its contract: the root, which no link leads to, and then its children.
use mathlib.Core.Path.{refl, sym, ◌∙◌}
use mathlib.Core.List.{[]}
use Rattle.image.specs.Lowest.{alone}
use Rattle.image.specs.Subtrees.{tree_of}
use Rattle.image.specs.Tree.{none}
use Rattle.image.proofs.Finding.{root_here, root_below}
use Rattle.check_fields.specs.Rules.{Scope, over, type_ok, hand, bad_types}
use Rattle.check_types.proofs.Turning.{rule_of}
use Rattle.check_types.proofs.walk.bad_types.Goals as goal

-- the root stands over nothing
abbrev nothing : Scope
nothing = over [] []

pub invariant_of-none : goal.invariant_of-none
invariant_of-none c = record { chained = record { forest = none; linked = refl } }

pub returns-then-not-type_ok : goal.returns-then-not-type_ok
unfolding bad_types
returns-then-not-type_ok c =
    let t = tree_of c.args.root in
    root_here (type_ok (alone t)) hand nothing nothing t
    (sym (rule_of (alone t) nothing t.label _ _ _ c.hand-handed.ensures c.type_ok.ensures) ∙ c.if-not-type_ok.true)

pub returns : goal.returns
unfolding bad_types
returns c =
    let t = tree_of c.args.root in
    (rw c.children.ensures.is at c.bad_type.ensures)
    ∙ root_below (type_ok (alone t)) hand nothing nothing t _ _ _ (rw c.requires.first at c.children.ensures.first) c.hand-handed.ensures
    (sym (rule_of (alone t) nothing t.label _ _ _ c.hand-handed.ensures c.type_ok.ensures) ∙ c.if-not-type_ok.false)
