use native.Mathlib.Omega.{arith}
use Rattle.writing.proofs.Maps.{over_at}
use Rattle.push_down_arms.specs.Over.{under}
use Rattle.push_down_arms.proofs.Framing.{wrote_framed}
use Rattle.push_down_arms.proofs.Trees.{map_low}
use Rattle.push_down_arms.proofs.with_filters.write_below.Goals as goal

pub copy_some-requires : goal.copy_some-requires
copy_some-requires c =
    (omega arith, map_low (over_at c.requires.over (omega arith)))

pub with_filters-requires-clause-over : goal.with_filters-requires-clause-over
with_filters-requires-clause-over c = over_at c.requires.over (omega arith)

pub returns-clause-wrote : goal.returns-clause-wrote
returns-clause-wrote c =
    λ σ m o h f q k g n x y. wrote_framed c.args.plan.number q (under o q) g c.args.out.now.long n (rw x at c.copy_some.ensures.wrote)
    (c.with_filters.ensures.wrote σ m o h q y)
