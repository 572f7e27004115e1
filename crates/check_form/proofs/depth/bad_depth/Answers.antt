-- `depth::bad_depth` meets its contract: the root's depth is 1, and its children stand at depth 2.
use mathlib.Core.Path.{refl, ◌∙◌}
use lib.Dec.{leb}
use Prim.Native.Nat.{◌+◌}
use Rattle.image.specs.Limits.{max_depth}
use Rattle.image.specs.Subtrees.{tree_of}
use Rattle.image.proofs.Finding.{root_below}
use Rattle.acceptance.specs.Check.{too_deep}
use Rattle.check_form.proofs.depth.bad_depth.Goals as goal

pub returns : goal.returns
unfolding too_deep
returns c =
    (rw c.children.ensures.is at c.too_deep.ensures)
    ∙ root_below (λ d l cs. leb d max_depth) (λ d l cs. (d + 1, d + 1)) 1 1 (tree_of c.args.root) 2 2 _ (rw c.requires at c.children.ensures.first) refl refl
