-- `conjunction::copy_first` meets its contract. The measure is the number of items.
use Rattle.writing.proofs.conjunction.+copy_first.Given as goal

abbrev pub decreases-copy_first : goal.decreases-copy_first
decreases-copy_first g l = l.k
