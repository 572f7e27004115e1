use mathlib.Core.Path.{◌∙◌}
use Rattle.check_types.proofs.Ruling.{rule_not, rule_scan, rule_union, rule_rest}
use Rattle.check_types.proofs.walk.type_ok.Goals as goal

pub returns-then-not-meets : goal.returns-then-not-meets
returns-then-not-meets g c =
    let l = c.label-label.ensures.label in
    let b = c.children-below.ensures.is in
    rule_not _ _ _ _ (rw l at c.demand_of-d.ensures) (rw b at c.meets.ensures) c.if-not-meets.true

pub returns-then-label-eq-TABLE_SCAN : goal.returns-then-label-eq-TABLE_SCAN
returns-then-label-eq-TABLE_SCAN g c =
    let l = c.label-label.ensures.label in
    let b = c.children-below.ensures.is in
    (rw (b, l) at c.as_scanned.ensures)
    ∙ rule_scan _ _ _ _ (rw l at c.demand_of-d.ensures) (rw b at c.meets.ensures) c.if-not-meets.false (rw l at c.if-label-eq-TABLE_SCAN.true)

pub returns-then-label-eq-UNION : goal.returns-then-label-eq-UNION
returns-then-label-eq-UNION g c =
    let l = c.label-label.ensures.label in
    let b = c.children-below.ensures.is in
    (rw b at c.united.ensures)
    ∙ rule_union _ _ _ _ (rw l at c.demand_of-d.ensures) (rw b at c.meets.ensures) c.if-not-meets.false (rw l at c.if-label-eq-UNION.true)

pub returns : goal.returns
returns g c =
    let l = c.label-label.ensures.label in
    let b = c.children-below.ensures.is in
    rule_rest _ _ _ _ (rw l at c.demand_of-d.ensures) (rw b at c.meets.ensures) c.if-not-meets.false
    (rw l at c.if-label-eq-TABLE_SCAN.false) (rw l at c.if-label-eq-UNION.false)
