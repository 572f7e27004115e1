-- `extent::conjunction_extent` meets its contract. The loop's invariant: r is the extent of the items met, joined left-deep.
use Prim.Native.Nat.{◌+◌}
use Rattle.extents.proofs.Extents.{First}
use Rattle.extents.proofs.extent.conjunction_extent.Given as goal

abbrev pub invariant-loop-n : goal.invariant-loop-n
invariant-loop-n l = First l.s l.fn.c (l.n-index + 1) l.r
