-- `renames::write_renames` meets its contract. The loop's invariant: what is left of the renames completes the image.
use Rattle.writing.proofs.Renaming.{Renames}
use Rattle.writing.proofs.renames.write_renames.Given as goal

abbrev pub invariant-loop-i : goal.invariant-loop-i
invariant-loop-i l = Renames l.from l.to l.n l.initial.m l.m l.i
