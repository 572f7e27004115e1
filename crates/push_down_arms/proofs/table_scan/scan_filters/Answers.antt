use mathlib.Core.Path.{ap, ◌∙◌}
use native.Mathlib.Omega.{arith}
use lib.ListN.{length}
use Rattle.image.specs.Subtrees.{forest, tree_of}
use Rattle.image.specs.Tree.{Tree}
use Rattle.image.proofs.Subtrees.{goes, gone}
use Rattle.writing.proofs.Entries.{inside, inside_step}
use Rattle.writing.proofs.Maps.{plan_is, plan_deep}
use Rattle.push_down_arms.proofs.Behind.{goes_past, deep_goes}
use Rattle.push_down_arms.proofs.Trees.{tree_at, tree_small}
use Rattle.push_down_arms.proofs.Scans.{filters_start, filters_next, filters_end}
use Rattle.push_down_arms.proofs.table_scan.scan_filters.Goals as goal

pub loop-child-init : goal.loop-child-init
loop-child-init c =
    let i = c.into_iter-child-iterator.ensures.into_iter_gives in
    let b = c.children-child-items.ensures in
    let e = ap forest i ∙ b.is in (
      inside c.into_iter-child-iterator.result (ap (λ x. x.image.now) i ∙ b.image),
      rw e (plan_deep c.args.plan c.requires.1.placed.standing),
      λ t fs es h. rw (e, ap (λ (t : Tree). t.below) (plan_is c.args.plan h.standing)) (filters_start h c.empty-r.ensures),
    )

pub add_filter-r-requires : goal.add_filter-r-requires
add_filter-r-requires c =
    let x = c.loop-child.child-iterator in
    let y = c.next.new.self in
    let t = c.in-Some.child in
    let here = (inside_step x y t c.in-Some.ensures.steps c.loop-child.invariant.0).0 in
    tree_small t (omega (arith, ap length here, c.requires.1.placed.short))

pub loop-child-preserved : goal.loop-child-preserved
loop-child-preserved c =
    let k = c.loop-child.invariant in
    let x = c.loop-child.child-iterator in
    let y = c.next.new.self in
    let t = c.in-Some.child in
    let steps = c.in-Some.ensures.steps in
    let g = goes x y t steps in
    let here = inside_step x y t steps k.0 in
    let deep = deep_goes g.is k.1 in (
      here.1,
      deep.1,
      λ n fs es h. filters_next (tree_of t).label (tree_of t).below (forest y) (rw g.is at (k.2 n fs es h)) h.short (goes_past x y t steps)
          (tree_at t here.0) deep.0 (λ ds l. c.add_filter-r.ensures _ ds l),
    )

pub returns : goal.returns
returns c =
    λ t fs es h. filters_end (rw (gone c.loop-child.child-iterator c.in-None.ensures.steps.0) at (c.loop-child.invariant.2 t fs es h))
