-- `checked::checked_form` meets its contract: each answer, where the tests before it are not met.
use native.Mathlib.Omega.{arith}
use mathlib.Core.Path.{◌≡◌, sym, ◌∙◌}
use Rattle.std.specs.Prelude.{Err}
use Rattle.image.specs.declared.refusals.Refusal.TheVariants.{Link}
use Rattle.acceptance.proofs.Accept.{buffer_of as sized}
use Rattle.check_form.proofs.Stages.{stage_buffer, stage_words, stage_links, stage_tree, stage_depth, stage_form, stage_whole}
use Rattle.check_form.proofs.checked.checked_form.Goals as goal

pub returns-then-not-buffer_ok : goal.returns-then-not-buffer_ok
returns-then-not-buffer_ok c = stage_buffer _ c.buffer_ok.ensures c.if-not-buffer_ok.true

pub returns-in-Some : goal.returns-in-Some
returns-in-Some c = stage_words _ c.buffer_ok.ensures c.if-not-buffer_ok.false c.bad_words.ensures c.in-Some.is

pub read-requires : goal.read-requires
read-requires c =
    let n = sized _ (sym c.buffer_ok.ensures ∙ c.if-not-buffer_ok.false) in
    (n.one, omega (arith, n.len), n.most)

pub returns-in_err-root : goal.returns-in_err-root
returns-in_err-root c =
    let same : c.from_residual.result ≡ Err (Link c.in_err-root.field-0.0.0) = grind arith in
    rw same (stage_links _ c.buffer_ok.ensures c.if-not-buffer_ok.false c.bad_words.ensures c.in_default.is c.in_err-root.ensures)

pub bad_depth-requires : goal.bad_depth-requires
bad_depth-requires c = c.in_ok-root.ensures.number

pub returns-in-Some-bad_depth : goal.returns-in-Some-bad_depth
returns-in-Some-bad_depth c =
    let k = stage_tree _ c.buffer_ok.ensures c.if-not-buffer_ok.false c.bad_words.ensures c.in_default.is c.in_ok-root.ensures.is in
    stage_depth _ _ k c.bad_depth.ensures c.in-Some-bad_depth.is

pub bad_root_form-requires : goal.bad_root_form-requires
bad_root_form-requires c = c.in_ok-root.ensures.number

pub returns-in-Some-bad_root_form : goal.returns-in-Some-bad_root_form
returns-in-Some-bad_root_form c =
    let k = stage_tree _ c.buffer_ok.ensures c.if-not-buffer_ok.false c.bad_words.ensures c.in_default.is c.in_ok-root.ensures.is in
    stage_form _ _ k c.bad_depth.ensures c.in_default-bad_depth.is c.bad_root_form.ensures c.in-Some-bad_root_form.is

pub returns : goal.returns
returns c =
    let k = stage_tree _ c.buffer_ok.ensures c.if-not-buffer_ok.false c.bad_words.ensures c.in_default.is c.in_ok-root.ensures.is in
    record {
      image = c.in_ok-root.ensures.image;
      number = c.in_ok-root.ensures.number;
      links = c.in_ok-root.ensures.is;
      is = stage_whole _ _ k c.bad_depth.ensures c.in_default-bad_depth.is c.bad_root_form.ensures c.in_default-bad_root_form.is;
    }
