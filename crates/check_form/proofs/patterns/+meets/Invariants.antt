-- `patterns::meets` meets its contract. The measure is how many items are left.
use lib.ListN.{length}
use Rattle.check_form.proofs.patterns.+meets.Given as goal

abbrev pub decreases-meets : goal.decreases-meets
decreases-meets g l = length l.items.now
