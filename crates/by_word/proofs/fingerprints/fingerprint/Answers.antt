-- `fingerprints::fingerprint` meets its contract.
use mathlib.Core.Path.{◌∙◌}
use Rattle.conjuncts.proofs.Standing.{tree_found}
use Rattle.by_word.proofs.Printing.{print_false}
use Rattle.by_word.proofs.fingerprints.fingerprint.Goals as goal

pub returns-in_default : goal.returns-in_default
returns-in_default c = λ e h. rw (c.in_default.ensures e h) (c.mixed.ensures.0 ∙ print_false)

pub fingerprint_of-requires : goal.fingerprint_of-requires
fingerprint_of-requires c =
    let p = c.requires.present in rw (c.in-Some.ensures p.expr p.item).image c.requires.s_len_bound

pub returns : goal.returns
returns c = λ e h. c.fingerprint_of.ensures e (tree_found (c.in-Some.ensures e h))
