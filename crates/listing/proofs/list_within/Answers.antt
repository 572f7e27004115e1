-- `list_within` meets its contract: what the pass came to is written, line by line.
use native.Mathlib.Omega.{arith}
use Rattle.std.proofs.Common.{arith}
use Rattle.plan.specs.Trees.{plan_tree}
use Rattle.text.proofs.Appending.{put_both}
use Rattle.listing.proofs.Answers.{pass_comes, here, few, flat_text}
use Rattle.listing.proofs.list_within.Goals as goal

pub returns-then-passed-eq0 : goal.returns-then-passed-eq0
returns-then-passed-eq0 c =
    let k = pass_comes _ (λ i. omega (arith, c.type_inv.image i)) c.requires.0 c.push_down_filter_pass-passed.ensures in
    rw (k.refused c.if-passed-eq0.true) c.put_refusal.ensures.text

pub invariant_of-plan : goal.invariant_of-plan
invariant_of-plan c =
    let k = pass_comes _ (λ i. omega (arith, c.type_inv.image i)) c.requires.0 c.push_down_filter_pass-passed.ensures in
    let g = k.granted c.if-passed-eq0.false in
    record { past = omega arith; stood = record { tree = plan_tree g.plan; at = (here g).here } }

pub write_flat-n-requires-clause-standing : goal.write_flat-n-requires-clause-standing
write_flat-n-requires-clause-standing c =
    let k = pass_comes _ (λ i. omega (arith, c.type_inv.image i)) c.requires.0 c.push_down_filter_pass-passed.ensures in
    let g = k.granted c.if-passed-eq0.false in
    (g.plan, here g)

pub put_lines-requires : goal.put_lines-requires
put_lines-requires c =
    let k = pass_comes _ (λ i. omega (arith, c.type_inv.image i)) c.requires.0 c.push_down_filter_pass-passed.ensures in
    let g = k.granted c.if-passed-eq0.false in
    let n = few g (c.write_flat-n.ensures g.plan (here g)) in
    (omega (arith, n), omega (arith, n, c.requires.2))

pub put_counts-requires : goal.put_counts-requires
put_counts-requires c =
    let k = pass_comes _ (λ i. omega (arith, c.type_inv.image i)) c.requires.0 c.push_down_filter_pass-passed.ensures in
    let g = k.granted c.if-passed-eq0.false in
    let n = few g (c.write_flat-n.ensures g.plan (here g)) in
    omega (arith, n, c.requires.2, c.put_lines.ensures.short, c.put_lines.ensures.text.same_length)

pub returns : goal.returns
returns c =
    let k = pass_comes _ (λ i. omega (arith, c.type_inv.image i)) c.requires.0 c.push_down_filter_pass-passed.ensures in
    let g = k.granted c.if-passed-eq0.false in
    let f = c.write_flat-n.ensures g.plan (here g) in
    rw (← flat_text g f c.requires.1) (put_both c.put_lines.ensures.text c.put_counts.ensures.text)
