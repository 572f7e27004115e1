-- `make_filter::make_filter` meets its contract.
use native.Mathlib.Omega.{arith}
use Rattle.writing.proofs.Maps.{deep_low, over_at}
use Rattle.writing.proofs.Written.{wrote_filter}
use Rattle.image.proofs.Room.{cap_le}
use Rattle.writing.proofs.make_filter.make_filter.Goals as goal

pub copy_predicate-requires : goal.copy_predicate-requires
copy_predicate-requires g c = (omega arith, (c.requires.predicated, over_at c.requires.over (omega arith)))

pub copy_tree-requires : goal.copy_tree-requires
copy_tree-requires g c = (omega arith, deep_low _ (omega (arith, c.requires.over.shallow)) c.requires.deep)

pub returns-clause-wrote : goal.returns-clause-wrote
returns-clause-wrote g c =
    λ σ g e h p k. wrote_filter c.args.out.now.long e p c.put_kind.ensures.put
    (c.copy_predicate.ensures.wrote σ g e h) (rw k at c.copy_tree.ensures.wrote)

pub returns-clause-counted : goal.returns-clause-counted
returns-clause-counted g c = rw c.copy_tree.ensures.wrote.next (cap_le _)
