use mathlib.Core.Path.{refl}
use Rattle.writing.specs.Maps.{map_of}
use Rattle.writing.proofs.Maps.{plan_is, plan_deep, plan_maps_to, plan_over}
use Rattle.push_down_arms.proofs.Shaping.{shaped_predicate}
use Rattle.push_down_base.proofs.Answering.{answers, filter_few}
use native.Mathlib.Omega.{arith}
use Rattle.push_down_arms.proofs.through.keep_filter.Goals as goal

pub make_filter-requires : goal.make_filter-requires
make_filter-requires c =
    let o = c.requires.resting in
    let h = o.rests in
    (omega arith, (omega arith, (record { mapping = map_of o.plan; expr = o.expr; predicate = shaped_predicate (map_of o.plan) h.shaped; most = h.shaped.most }, (plan_over c.requires.resting.rests.placed.standing (omega (arith, c.requires.arm)), plan_deep c.args.plan c.requires.resting.rests.placed.standing))))

pub returns-clause-answers : goal.returns-clause-answers
returns-clause-answers c =
    λ e q h. let k = h.placed.standing in
    answers refl (filter_few q h.shaped h.placed.lists)
    (c.make_filter.ensures.wrote (map_of q) (plan_maps_to k) e (shaped_predicate (map_of q) h.shaped) q (plan_is c.args.plan k))
