-- `inputs::last_child` meets its contract.
use mathlib.Core.Path.{sym}
use Rattle.image.proofs.Subtrees.{all_items}
use Rattle.push_down_base.proofs.LastChild.{last_of_children}
use Rattle.push_down_base.proofs.inputs.last_child.Goals as goal

pub returns : goal.returns
returns c =
    let ran = c.last.ensures.ran in
    last_of_children c.children.ensures ran.0 (all_items c.children.result ran.0 ran.1) (sym ran.2)
