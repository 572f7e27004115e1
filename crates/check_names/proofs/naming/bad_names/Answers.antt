-- `naming::bad_names` meets its contract: the root, which no link leads to, and then its children.
use mathlib.Core.Path.{◌≡◌, refl, sym, ◌∙◌}
use mathlib.Core.Bool.{true}
use mathlib.Core.List.{[]}
use Rattle.image.specs.Subtrees.{tree_of}
use Rattle.image.specs.Tree.{none}
use Rattle.image.proofs.Finding.{root_here, root_below}
use Rattle.plan.proofs.Bools.{no_yes}
use Rattle.check_fields.specs.Rules.{Scope, over, name_ok, hand, bad_names}
use Rattle.check_names.proofs.NameRule.{sound_below}
use Rattle.check_names.proofs.naming.bad_names.Goals as goal

-- the root stands over nothing
abbrev nothing : Scope
nothing = over [] []

pub invariant_of-none : goal.invariant_of-none
invariant_of-none c = record { chained = record { forest = none; linked = refl } }

pub returns-then-not-name_ok : goal.returns-then-not-name_ok
unfolding bad_names
returns-then-not-name_ok c =
    root_here name_ok hand nothing nothing (tree_of c.args.root) (sym (c.name_ok.ensures no_yes) ∙ c.if-not-name_ok.true)

pub returns : goal.returns
unfolding bad_names
returns c =
    let t = tree_of c.args.root in
    let ok : name_ok nothing t.label t.below ≡ true = sym (c.name_ok.ensures no_yes) ∙ c.if-not-name_ok.false in
    (rw c.children.ensures.is at c.bad_name.ensures)
    (sound_below nothing t.label t.below (rw c.kind.ensures at c.role_of.ensures) c.known_inputs.ensures ok)
    ∙ root_below name_ok hand nothing nothing t _ _ _ (rw c.requires at c.children.ensures.first) c.hand-handed.ensures ok
