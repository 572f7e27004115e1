-- `call_pass::pass_in_output` meets its contract.
use mathlib.Core.Path.{◌≡◌, ◌∙◌}
use native.Mathlib.Omega.{arith}
use lib.ListN.{drop}
use lib.Seq.{length-take-le, length_front}
use Rattle.std.specs.Prelude.{Err}
use Rattle.image.specs.Limits.{work_bytes}
use Rattle.push_down_rewrite.proofs.Fronts.{front_long}
use Rattle.call_pass.proofs.Reports.{walk_refused, called, left_room, left_few, left_front}
use Rattle.call_pass.proofs.call_pass.pass_in_output.Goals as goal

pub walk_in-requires-clause-a_len : goal.walk_in-requires-clause-a_len
walk_in-requires-clause-a_len c =
    length-take-le work_bytes c.args.out.now c.requires.out_len

pub returns-in_err-w : goal.returns-in_err-w
returns-in_err-w c =
    let same : c.from_residual.result ≡ Err c.in_err-w.field-0.0 = grind arith in
    let k = walk_refused _ c.in_err-w.ensures in
    rw same (k.0, k.1 ∙ called _ _ _)

pub clear_behind_walk-requires : goal.clear_behind_walk-requires
clear_behind_walk-requires c =
    let left = c.in_ok-w.ensures in
    let out = c.args.out.now in
    let long = front_long work_bytes out c.walk_in.new.a c.walk_in.auto.a c.requires.out_len in
    (left_room (left_front left (drop work_bytes out)), left_few left long)

pub returns : goal.returns
returns c =
    let e = c.clear_behind_walk.ensures in
    let out = c.args.out.now in
    let long = length_front out c.walk_in.new.a work_bytes c.walk_in.auto.a in
    (e.0, rw long at (e.1 _ (left_front c.in_ok-w.ensures (drop work_bytes out))) ∙ called _ _ _)
