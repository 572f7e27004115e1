use mathlib.Core.Path.{sym, ap, ◌∙◌}
use native.Mathlib.Omega.{arith}
use Prim.Native.Nat.{◌<◌}
use lib.Dec.{eqb}
use lib.ListN.{length}
use Rattle.std.proofs.Common.{add-one}
use Rattle.image.specs.Tree.{Label, Tree, none}
use Rattle.image.proofs.Subtrees.{goes, gone}
use Rattle.plan.specs.Trees.{each, kids_p, label_e, kids_e}
use Rattle.writing.proofs.Maps.{plan_is}
use Rattle.push_down_arms.proofs.Supported.{scan_few, field_step, field_left, passed_start, passed_next, passed_end}
use Rattle.push_down_arms.proofs.table_scan.marked_fields.Goals as goal

pub loop-i-init : goal.loop-i-init
unfolding kids_p
loop-i-init c =
    λ t fs es h e. (
      rw c.empty-set.ensures (passed_start h),
      c.children-fields.ensures.is ∙ ap (λ (u : Tree). u.below) (plan_is c.args.plan h.standing),
    )

pub returns-in_default : goal.returns-in_default
returns-in_default c =
    λ t fs es h e. let k = c.loop-i.invariant t fs es h e in
    let z = gone c.loop-i.fields c.in_default.ensures.steps.0 in
    absurd (field_left fs c.loop-i.i (each label_e kids_e es none) (omega (arith, c.loop-i-test.true)) (sym k.1 ∙ z))

pub mark-set-requires : goal.mark-set-requires
mark-set-requires c =
    let p = c.requires in
    omega (arith, scan_few p.placed, p.count, c.loop-i-test.true)

pub loop-i-preserved : goal.loop-i-preserved
loop-i-preserved c =
    λ t fs es h e. let i = c.loop-i.i in
    let k = c.loop-i.invariant t fs es h e in
    let lt : i < length fs = omega (arith, c.loop-i-test.true) in
    let g = goes c.loop-i.fields c.next.new.self c.in-Some.field c.in-Some.ensures.steps in
    let w = field_step fs i (each label_e kids_e es none) lt (sym k.1 ∙ g.is) in
    (passed_next h i c.mark-set.ensures lt (ap (λ (l : Label). eqb l.lo 1) c.label.ensures.label ∙ w.0) k.0, rw add-one (sym w.1))

pub returns : goal.returns
returns c =
    λ t fs es h e. passed_end h c.loop-i.i (omega (arith, c.loop-i-test.false)) (c.loop-i.invariant t fs es h e).0
