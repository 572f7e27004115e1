use mathlib.Core.Path.{◌≡◌, ap, ◌∙◌}
use Prim.Native.Nat.{◌<◌}
use native.Mathlib.Omega.{arith}
use lib.Dec.{ltb}
use lib.ListN.{length}
use Rattle.plan.specs.Syntax.{nm}
use Rattle.utils.specs.Fields.{place_in}
use Rattle.utils.specs.Masks.{name_at}
use Rattle.push_down_base.proofs.Masking.{masks_start, masks_step, masks_end}
use Rattle.push_down_join.proofs.Growing.{items_at, items_count}
use Rattle.push_down_join.proofs.infer_join_predicates.places_among.Goals as goal

pub loop-i-init : goal.loop-i-init
loop-i-init c = λ ns ms h k. rw c.empty-set.ensures (masks_start ms _)

pub loop-i-preserved : goal.loop-i-preserved
loop-i-preserved c =
    λ ns ms h k.
    let i = c.loop-i.i in
    let lt : i < length ms = omega (arith, items_count k c.requires.1 c.items-x-items.ensures, c.loop-i-test.true) in
    let e : nm c.wide.result c.wide-in-loop-i.result ≡ name_at ms i =
    rw (c.wide.ensures.0, c.wide-in-loop-i.ensures.0) (items_at k c.requires.1 c.items-x-items.ensures i) in
    masks_step i (ltb c.place_in-place.result c.args.k) ms (λ y. ltb (place_in ns y) c.args.k) c.mark-set.ensures lt
    (ap (λ j. ltb j c.args.k) (c.place_in-place.ensures ns h ∙ ap (place_in ns) e)) (c.loop-i.invariant ns ms h k)

pub returns : goal.returns
returns c =
    λ ns ms h k. masks_end c.loop-i.i ms
    (omega (arith, items_count k c.requires.1 c.items-x-items.ensures, c.loop-i-test.false)) (c.loop-i.invariant ns ms h k)
