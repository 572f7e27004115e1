use mathlib.Core.Path.{refl, ◌∙◌}
use native.Mathlib.Omega.{arith}
use Rattle.image.proofs.Relinking.{back_start, back_turn, back_end}
use Rattle.image.proofs.relink.relink.Goals as goal

pub loop-i-init : goal.loop-i-init
loop-i-init c =
    (refl, λ t rest deep e f. back_start _ _ t rest e f)

pub link_one-requires : goal.link_one-requires
link_one-requires c =
    let p = c.requires in
    let k = c.loop-i.invariant.1 p.tree p.rest p.deep p.count p.is in
    let u = back_turn p.tree (λ z. omega arith) p.deep k in
    record { i_in_bounds = u.room; i_in_bounds_2 = u.small }

pub loop-i-preserved : goal.loop-i-preserved
loop-i-preserved c =
    let k = c.loop-i.invariant in (
      c.link_one.auto.out ∙ k.0,
      λ t rest deep e f. let u = back_turn t (λ z. omega arith) deep (k.1 t rest deep e f) in
          u.again _ _ c.link_one.ensures.out_after c.link_one.ensures.table_after,
    )

pub returns : goal.returns
returns c =
    λ t rest deep e f. back_end t (omega arith) deep (c.loop-i.invariant.1 t rest deep e f)
