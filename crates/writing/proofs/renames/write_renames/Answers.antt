use native.Mathlib.Omega.{arith}
use Rattle.writing.specs.Renames.{renames_tree}
use Rattle.writing.proofs.Renaming.{renames_next, renames_end, written, renames_map, renames_deep}
use Rattle.writing.proofs.renames.write_renames.Goals as goal

pub loop-i-preserved : goal.loop-i-preserved
loop-i-preserved c =
    renames_next _ _ _ _ _ _ _ _ c.loop-i.invariant
    c.loop-i-test.true c.link_to-after.ensures c.put_rename.ensures.m_after c.put_rename.ensures.small_name

pub returns-clause-stood : goal.returns-clause-stood
returns-clause-stood c =
    let p = c.requires in
    let k = c.loop-i.invariant in
    let h = written c.args.from c.args.to _ _ _ _ _ p.0 p.1 c.link_to.ensures
    c.put_record.ensures (renames_end k (omega arith)) (λ j lt. k.small j (omega arith)) in
    record { tree = renames_tree c.args.from c.args.to c.args.from.len; at = h; some = omega arith; deep = renames_deep c.args.from c.args.to 0 c.args.from.len }

pub returns-clause-maps : goal.returns-clause-maps
returns-clause-maps c =
    λ s t a b e map i n. let p = c.requires in
    let k = c.loop-i.invariant in
    let h = written c.args.from c.args.to _ _ _ _ _ p.0 p.1 c.link_to.ensures
    c.put_record.ensures (renames_end k (omega arith)) (λ j lt. k.small j (omega arith)) in
    renames_map h p.0 s t a b e map i n
