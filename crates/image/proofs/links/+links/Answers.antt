use mathlib.Core.Path.{◌≡◌}
use native.Mathlib.Omega.{arith}
use Rattle.std.specs.Prelude.{Err}
use Rattle.image.proofs.Reading.{p_none, p_off, p_end, next_within, says_bad, says_next}
use Rattle.image.proofs.links.+links.Goals as goal

pub returns-then-link-eq0 : goal.returns-then-link-eq0
returns-then-link-eq0 t c =
    λ k h. rw (p_none _ _ _ _ _ k (omega arith) c.if-link-eq0.true)

pub returns-then-link-i : goal.returns-then-link-i
returns-then-link-i t c =
    λ k h. rw (p_off _ _ _ _ _ k (omega arith) c.if-link-eq0.false c.if-link-i.true)

pub returns-then-n-i : goal.returns-then-n-i
returns-then-n-i t c =
    λ k h. rw (p_end _ _ _ _ _ k (omega arith) c.if-link-eq0.false c.if-link-i.false c.if-n-i.true)

pub links-requires-2 : goal.links-requires-2
links-requires-2 t c =
    let w = next_within _ _ _ _ _ _ c.links.ensures c.in_ok-next.was
    (omega arith) in
    omega (arith, w.0, w.1)

pub returns-in_err-next : goal.returns-in_err-next
returns-in_err-next t c =
    let same : c.from_residual.result ≡ Err c.in_err-next.field-0.0 = grind arith in
    rw same (says_bad _ _ _ _ _
    c.if-link-eq0.false
    c.if-link-i.false
    c.if-n-i.false
    (rw (← c.word_at.ensures.0) c.links.ensures)
    c.in_err-next.was)

pub returns : goal.returns
returns t c =
    says_next _ _ _ _ _
    c.if-link-eq0.false
    c.if-link-i.false
    c.if-n-i.false
    (rw (← c.word_at.ensures.0) c.links.ensures)
    c.in_ok-next.was
    (rw (← c.word_at-2.ensures.0) c.links-2.ensures)
