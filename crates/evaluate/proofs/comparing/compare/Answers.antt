-- `comparing::compare` meets its contract.
use mathlib.Core.Path.{◌≡◌, ap, ap₂, ◌∙◌}
use lib.IntN.{ℤ}
use Rattle.plan.specs.Syntax.{Value, truth, Cmp}
use Rattle.plan.specs.WordValues.{cmp_of}
use Rattle.meaning.specs.Meaning.{holds}
use Rattle.evaluate.proofs.Cases.{not_compared, two_compared}
use borrow.Author.Rules.{rules}
use Rattle.evaluate.proofs.comparing.compare.Goals as goal

-- as a local holds them
as_held : (k : Cmp) {i j a b : ℤ} {v : Value} → a ≡ i → b ≡ j → truth (holds k i j) ≡ v → truth (holds k a b) ≡ v
as_held k e f h = ap₂ (λ i j. truth (holds k i j)) e f ∙ h

pub returns-then-is_null-kind_of : goal.returns-then-is_null-kind_of
returns-then-is_null-kind_of c =
    let a = c.args in
    not_compared (cmp_of a.op) a.a.case a.b.case c.is_null.ensures c.kind_of.ensures c.kind_of-2.ensures c.if-is_null-kind_of.true

pub returns : goal.returns
returns c =
    let a = c.args in
    c.from.ensures ∙ ap truth c.holds.ensures ∙ as_held (cmp_of a.op) (search rules) (search rules)
    (two_compared (cmp_of a.op) a.a.case a.b.case c.is_null.ensures c.kind_of.ensures c.kind_of-2.ensures
    c.if-is_null-kind_of.false c.code_of.ensures c.code_of-2.ensures)
