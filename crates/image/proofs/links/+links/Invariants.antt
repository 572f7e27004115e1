-- `links::links` meets its contract. The measure is how many records are unread.
use Prim.Native.Nat.{◌-◌}
use Rattle.image.proofs.links.+links.Given as goal

abbrev pub decreases-links : goal.decreases-links
decreases-links l = l.n - l.i
