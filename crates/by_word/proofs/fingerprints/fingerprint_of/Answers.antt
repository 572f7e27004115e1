use mathlib.Core.Path.{sym, ◌∙◌}
use native.Mathlib.Omega.{arith}
use Rattle.by_word.proofs.Printing.{mixed_step, mixed_end, mixed_tree}
use Rattle.by_word.proofs.Records.{within}
use Rattle.by_word.proofs.fingerprints.fingerprint_of.Goals as goal
use lib.ListN.{length-drop}

pub loop-i-init : goal.loop-i-init
loop-i-init c = (
  omega arith,
  omega arith,
  c.mixed-h.ensures.1,
  λ e is. rw (c.mixed-h.ensures.0, c.shape.ensures.0, c.children.ensures.first, c.label.ensures.label) (mixed_tree c.args.tree e is),
)

pub mixed_at-h-requires : goal.mixed_at-h-requires
mixed_at-h-requires c =
    (c.loop-i.invariant.2, rw (c.record_at.ensures, length-drop) (omega (arith, within c.args.tree c.loop-i.i (rw c.record_count-i-end.ensures at c.loop-i-test.true))))

pub loop-i-preserved : goal.loop-i-preserved
loop-i-preserved c =
    let lt = rw c.record_count-i-end.ensures at c.loop-i-test.true in (
      omega arith,
      omega (arith, lt),
      c.mixed_at-h.ensures.1,
      λ e is. rw (c.mixed_at-h.ensures.0, c.record_at.ensures) (sym (mixed_step _ _ _ _ _ lt) ∙ c.loop-i.invariant.3 e is),
    )

pub returns : goal.returns
returns c =
    λ e is. sym (mixed_end _ _ _ _ (rw c.record_count-i-end.ensures at c.loop-i-test.false)) ∙ c.loop-i.invariant.3 e is
