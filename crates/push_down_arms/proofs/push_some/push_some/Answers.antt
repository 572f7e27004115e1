-- `push_some::push_some` meets its contract: what is too long is counted first, and nothing is written for it.
use mathlib.Core.Path.{refl, sym, ◌∙◌}
use native.Mathlib.Omega.{arith}
use mathlib.Core.List.{map}
use borrow.Author.Tests.{ltb-true, ltb-false}
use Rattle.image.specs.Limits.{max_list}
use Rattle.rewrite.specs.Utils.{replace_cols, conjunction}
use Rattle.writing.specs.Maps.{map_of}
use Rattle.writing.proofs.Maps.{plan_is, plan_maps_to, plan_over}
use Rattle.push_down_arms.specs.Divided.{parts}
use Rattle.push_down_base.proofs.Answering.{answers}
use Rattle.push_down_base.proofs.LastChild.{last_here}
use Rattle.push_down_base.proofs.InputOf.{input_number, input_tree}
use Rattle.push_down_arms.proofs.Divides.{pushed_few, pushed_many, some_moved, kept_perhaps, moved_small, moved_perhaps, pushed_is}
use Rattle.push_down_arms.proofs.push_some.push_some.Goals as goal

pub returns-then-is_over-clause-answers : goal.returns-then-is_over-clause-answers
returns-then-is_over-clause-answers c =
    λ f q us ds h t k. let o = ltb-true max_list (parts (map_of (f q)) ds)
    (sym (c.is_over.ensures ds (f q) k.moved k.moved_single h.standing) ∙ c.if-is_over.true) in
    let m = pushed_many h t k o in
    record { flag = some_moved ds k.moved k.moved_most; fits = λ small. absurd (omega arith); over = λ many. (refl, refl) }

pub write_over-requires-clause-writable : goal.write_over-requires-clause-writable
write_over-requires-clause-writable c =
    let o = c.requires.dividing in
    let k = o.divides in
    let q = o.above o.plan in
    let h = o.placed.standing in
    let w = c.changed.ensures _ (map_of q) o.move k.moved in (
      record {
        mapping = map_of q;
        maps = plan_maps_to h;
        expr = conjunction o.stay;
        perhaps = rw c.joined-above.ensures (kept_perhaps k (map_of q));
        most = rw c.joined-above.ensures k.kept_most;
      },
      record {
        mapping = map_of q;
        maps = plan_maps_to h;
        expr = conjunction (map (replace_cols (map_of q)) o.move);
        perhaps = rw c.joined-below.ensures (moved_perhaps k (map_of q) w);
        most = rw c.joined-below.ensures (moved_small k (map_of q) w);
      },
    )

pub write_over-requires-clause-over : goal.write_over-requires-clause-over
write_over-requires-clause-over c = plan_over c.requires.dividing.placed.standing c.requires.arm

pub write_over-requires-clause-deep : goal.write_over-requires-clause-deep
write_over-requires-clause-deep c =
    let o = c.requires.dividing in
    rw (input_tree (last_here _ c.last_child.ensures c.unwrap_or-input.ensures) o.placed.standing o.takes) o.takes.input.deep

pub returns-clause-answers : goal.returns-clause-answers
returns-clause-answers c =
    λ f q us ds h t k. let o = ltb-false max_list (parts (map_of (f q)) ds)
    (sym (c.is_over.ensures ds (f q) k.moved k.moved_single h.standing) ∙ c.if-is_over.false) in
    let n = last_here _ c.last_child.ensures c.unwrap_or-input.ensures in
    let w = c.changed.ensures _ (map_of (f q)) ds k.moved in
    answers (some_moved ds k.moved k.moved_most) (pushed_few h t k o)
    (rw (← pushed_is f q us ds)
    (c.write_over.ensures.wrote (map_of (f q)) (plan_maps_to h.standing) (conjunction us)
    (conjunction (map (replace_cols (map_of (f q))) ds))
    (rw c.joined-above.ensures (kept_perhaps k (map_of (f q)))) (rw c.joined-below.ensures (moved_perhaps k (map_of (f q)) w)) f q t.own t.frame
    (input_number n h.standing t) (plan_is c.args.plan h.standing) (input_tree n h.standing t)))
