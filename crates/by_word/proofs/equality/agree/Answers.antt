use mathlib.Core.Path.{◌≡◌, sym, ◌∙◌}
use mathlib.Core.Bool.{true, false, ◌&&◌}
use native.Mathlib.Omega.{arith}
use Rattle.by_word.proofs.Agreeing.{agreeing_next, agreeing_end, same_agree, same_many, same_tops}
use Rattle.by_word.proofs.equality.agree.Goals as goal

pub returns-then-record_count-size : goal.returns-then-record_count-size
returns-then-record_count-size g c =
    let r = sym (same_many c.args.a c.args.b (λ e. c.if-record_count-size.true (c.record_count.ensures ∙ sym e ∙ sym c.record_count-size.ensures))) in
    (r ∙ same_agree c.args.a c.args.b, r)

pub returns-then-not-alike : goal.returns-then-not-alike
returns-then-not-alike g c =
    let n = sym c.record_count.ensures ∙ c.if-record_count-size.false ∙ c.record_count-size.ensures in
    let k = rw (c.part-s.ensures, c.part-t.ensures) at c.alike.ensures in
    let r = sym (same_tops c.args.a c.args.b n ∙ rw (sym k ∙ c.if-not-alike.true)) in
    (r ∙ same_agree c.args.a c.args.b, r)

pub loop-i-init : goal.loop-i-init
loop-i-init g c =
    let n = sym c.record_count.ensures ∙ c.if-record_count-size.false ∙ c.record_count-size.ensures in
    let k = rw (c.part-s.ensures, c.part-t.ensures) at c.alike.ensures in (
      omega arith,
      omega (arith, c.record_count-size.ensures),
      same_tops c.args.a c.args.b n ∙ rw (sym k ∙ c.if-not-alike.false, c.record_count-size.ensures),
    )

pub returns-then-not-alike-same_link : goal.returns-then-not-alike-same_link
returns-then-not-alike-same_link g c =
    let no : (c.alike-in-loop-i.result && c.same_link.result) ≡ false = c.if-not-alike-same_link.true in
    let k = rw (c.part-s.ensures, c.part-t.ensures) at c.alike-in-loop-i.ensures in
    let m = rw (c.part-s.ensures, c.part-t.ensures) at c.same_link.ensures in
    let r = sym (c.loop-i.invariant.2 ∙ (agreeing_next _ _ _ _ _ _ c.loop-i-test.true ∙ rw (← k, ← m, no))) in
    (r ∙ same_agree c.args.a c.args.b, r)

pub loop-i-preserved : goal.loop-i-preserved
loop-i-preserved g c =
    let yes : (c.alike-in-loop-i.result && c.same_link.result) ≡ true = c.if-not-alike-same_link.false in
    let k = rw (c.part-s.ensures, c.part-t.ensures) at c.alike-in-loop-i.ensures in
    let m = rw (c.part-s.ensures, c.part-t.ensures) at c.same_link.ensures in (
      omega arith,
      omega arith,
      c.loop-i.invariant.2 ∙ (agreeing_next _ _ _ _ _ _ c.loop-i-test.true ∙ rw (← k, ← m, yes)),
    )

pub returns : goal.returns
returns g c = let r = sym (c.loop-i.invariant.2 ∙ agreeing_end _ _ _ _ _ _ c.loop-i-test.false) in (r ∙ same_agree c.args.a c.args.b, r)
