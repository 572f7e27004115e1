use mathlib.Core.Path.{◌≡◌, sym, ◌∙◌}
use mathlib.Core.Bool.{Bool, true, false}
use lib.IntN.{pos}
use lib.ListN.{get_or}
use Rattle.plan.specs.Lists.{◌&◌}
use Rattle.rewrite.specs.RowTest.{cell_ok}
use borrow.Author.Rules.{rules}
use native.Mathlib.Omega.{arith}
use Rattle.evaluate.proofs.TruthLaws.{never}
use Rattle.evaluate.proofs.Rows.{row_short, row_step, row_end, held_ok}
use Rattle.evaluate.proofs.cells.Row.is_ok.Goals as goal

-- a cell that is none ends it; one that is leaves the rest
failed : {b x z : Bool} (y : Bool) → b ≡ x → b ≡ false → z ≡ x & y → false ≡ z
unfolding ◌&◌
failed {b = false} y e n h = sym (h ∙ rw (← e))
failed {b = true} y e n h = never (sym n)

passed : {b x z : Bool} (y : Bool) → b ≡ x → b ≡ true → z ≡ x & y → y ≡ z
unfolding ◌&◌
passed {b = true} y e n h = sym (h ∙ rw (← e))
passed {b = false} y e n h = never n

pub returns-then-self-n : goal.returns-then-self-n
returns-then-self-n c =
    row_short _ _ _ c.if-self-n.true

pub returns-then-not-cell_ok : goal.returns-then-not-cell_ok
returns-then-not-cell_ok c =
    let r = c.args.self.now in
    let i = c.loop-i.i in
    let k = c.loop-i.invariant in
    let e : c.cell_ok.result ≡ cell_ok (get_or r.types.now i 0) (get_or r.values.now i (pos 0)) (get_or r.marks.now i 0)
    = c.cell_ok.ensures ∙ held_ok _ _ (search rules) in
    failed _ e c.if-not-cell_ok.true
    (row_step r.types.now r.values.now r.marks.now i c.loop-i-test.true (omega (arith, k.0)) (omega (arith, k.1))) ∙ k.2

pub loop-i-preserved : goal.loop-i-preserved
loop-i-preserved c =
    let r = c.args.self.now in
    let i = c.loop-i.i in
    let k = c.loop-i.invariant in
    let e : c.cell_ok.result ≡ cell_ok (get_or r.types.now i 0) (get_or r.values.now i (pos 0)) (get_or r.marks.now i 0)
    = c.cell_ok.ensures ∙ held_ok _ _ (search rules) in (
      k.0,
      k.1,
      passed _ e c.if-not-cell_ok.false
          (row_step r.types.now r.values.now r.marks.now i c.loop-i-test.true (omega (arith, k.0)) (omega (arith, k.1))) ∙ k.2,
    )

pub returns : goal.returns
returns c =
    let r = c.args.self.now in
    let k = c.loop-i.invariant in
    sym (row_end r.types.now r.values.now r.marks.now c.loop-i.i (omega arith) k.0 k.1) ∙ k.2
