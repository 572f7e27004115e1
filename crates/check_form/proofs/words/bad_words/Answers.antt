use mathlib.Core.Path.{sym, ◌∙◌}
use Rattle.check_form.proofs.Rows.{bad_here, passed_one, passed_all}
use Rattle.check_form.proofs.words.bad_words.Goals as goal

pub returns-then-not-words_ok : goal.returns-then-not-words_ok
returns-then-not-words_ok c =
    sym ((bad_here _ _ _ c.loop-i.invariant
    _ _ c.record_at.ensures c.label_at.ensures.0
    c.loop-i-test.true (sym c.words_ok.ensures ∙ c.if-not-words_ok.true)))

pub loop-i-preserved : goal.loop-i-preserved
loop-i-preserved c =
    passed_one _ _ _ c.loop-i.invariant
    _ _ c.record_at.ensures c.label_at.ensures.0
    c.loop-i-test.true (sym c.words_ok.ensures ∙ c.if-not-words_ok.false)

pub returns : goal.returns
returns c =
    sym (passed_all _ _ _ c.loop-i.invariant c.loop-i-test.false)
