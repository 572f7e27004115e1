-- `equality::alike` meets its contract.
use Rattle.conjuncts.proofs.Equals.{label_eq}
use Rattle.by_word.specs.Equality.{alike}
use Rattle.by_word.proofs.equality.alike.Goals as goal

pub returns : goal.returns
unfolding alike
returns c =
    rw (
      c.same_link.ensures,
      c.eq.ensures,
      label_eq,
      c.label_at-label.ensures.0,
      c.label_at-other.ensures.0,
      c.record_at.ensures,
      c.record_at-2.ensures,
    )
