-- `stays::over_scan_stays` meets its contract.
use mathlib.Core.Path.{sym}
use Rattle.conjuncts.proofs.Listed.{known_of, lists_length}
use Rattle.push_down_arms.proofs.ScanShares.{taken_few}
use Rattle.push_down_stays.proofs.Stayings.{scan_kept?}
use Rattle.push_down_stays.proofs.stays.over_scan_stays.Goals as goal

pub returns : goal.returns
returns c =
    λ e t fs es h. let z = c.share_of-share.ensures e t fs es h in
    scan_kept? h (sym (lists_length z.takes (known_of z.takes (taken_few h)).most))
