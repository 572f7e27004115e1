-- `through::push_filter` meets its contract: the input is the plan's last child.
use mathlib.Core.Path.{refl}
use mathlib.Core.Option.{none, some}
use native.Mathlib.Omega.{arith}
use Rattle.writing.specs.Maps.{map_of}
use Rattle.writing.proofs.Maps.{plan_is, plan_maps_to, plan_over}
use Rattle.push_down_base.specs.Predicates.{gone}
use Rattle.push_down_base.proofs.LastChild.{last_here}
use Rattle.push_down_base.proofs.InputOf.{input_number, input_tree}
use Rattle.push_down_base.proofs.Answering.{answers, taken_few}
use Rattle.push_down_arms.proofs.Shaping.{shaped_perhaps}
use Rattle.push_down_arms.proofs.through.push_filter.Goals as goal

pub write_over-requires-clause-writable : goal.write_over-requires-clause-writable
write_over-requires-clause-writable c =
    let t = c.requires.taken in
    let h = t.rests in
    let q = t.above t.plan in
    let k = h.placed.standing in (
      record {
        mapping = map_of q;
        maps = plan_maps_to k;
        expr = none;
        perhaps = rw c.joined-nothing.ensures (gone refl c.empty.ensures.1);
        most = rw c.joined-nothing.ensures (omega (arith, c.empty.ensures.1));
      },
      record { mapping = map_of q; maps = plan_maps_to k; expr = some t.expr; perhaps = shaped_perhaps (map_of q) h.shaped; most = h.shaped.most },
    )

pub write_over-requires-clause-over : goal.write_over-requires-clause-over
write_over-requires-clause-over c = plan_over c.requires.taken.rests.placed.standing c.requires.arm

pub write_over-requires-clause-deep : goal.write_over-requires-clause-deep
write_over-requires-clause-deep c =
    let t = c.requires.taken in
    rw (input_tree (last_here _ c.last_child.ensures c.unwrap_or-input.ensures) t.rests.placed.standing t.takes) t.takes.input.deep

pub returns-clause-answers : goal.returns-clause-answers
returns-clause-answers c =
    λ e q f h t. let k = h.placed.standing in
    let w = last_here _ c.last_child.ensures c.unwrap_or-input.ensures in
    answers refl (taken_few t h)
    (c.write_over.ensures.wrote (map_of (f q)) (plan_maps_to k) none (some e)
    (rw c.joined-nothing.ensures (gone refl c.empty.ensures.1))
    (shaped_perhaps (map_of (f q)) h.shaped) f q t.own t.frame (input_number w k t) (plan_is c.args.plan k) (input_tree w k t))
