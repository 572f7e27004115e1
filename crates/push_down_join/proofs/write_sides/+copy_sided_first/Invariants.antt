-- `write_sides::copy_sided_first` meets its contract. The measure is the number of items.
use Rattle.push_down_join.proofs.write_sides.+copy_sided_first.Given as goal

abbrev pub decreases-copy_sided_first : goal.decreases-copy_sided_first
decreases-copy_sided_first g l = l.k
