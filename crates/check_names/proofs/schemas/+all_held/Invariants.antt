-- `schemas::all_held` meets its contract. The measure is how many trees there are.
use Rattle.image.specs.Tree.{size}
use Rattle.image.specs.Subtrees.{forest}
use Rattle.check_names.proofs.schemas.+all_held.Given as goal

abbrev pub decreases-all_held : goal.decreases-all_held
decreases-all_held g l = size (forest l.trees)
