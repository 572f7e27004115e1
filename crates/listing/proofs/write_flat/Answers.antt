-- `write_flat` meets its contract.
use native.Mathlib.Omega.{arith}
use Rattle.std.proofs.Common.{rules}
use Rattle.listing.proofs.Answers.{low, tree_there, wrote_as}
use Rattle.listing.proofs.write_flat.Goals as goal

pub copy_tree-requires : goal.copy_tree-requires
copy_tree-requires c =
    (omega arith, low c.args.plan c.requires.standing.1)

pub returns : goal.returns
returns c =
    λ q h. let w = rw (tree_there c.args.plan h) at c.copy_tree.ensures.wrote in search (rules, wrote_as)
