use mathlib.Core.Path.{◌≡◌, refl, sym, ◌∙◌}
use mathlib.Core.List.{[], ◌∷◌, ◌++◌, map, append-nil, append_assoc}
use Prim.Native.Nat.{◌+◌}
use native.Mathlib.Omega.{arith}
use lib.ListN.{get_or, drop}
use Rattle.rewrite.specs.Utils.{replace_cols}
use Rattle.conjuncts.specs.Items.{FALSE}
use Rattle.conjuncts.proofs.Listed.{next, walk_end, walk_in, walk_item}
use Rattle.writing.proofs.Pushing.{pushes_none, pushes_add, pushed_changed}
use Rattle.push_down_arms.proofs.replaced.changed.Goals as goal

pub loop-n-init : goal.loop-n-init
loop-n-init c = λ s σ es h. record { done = []; pushes = pushes_none c.empty-r.ensures; is = refl }

pub overflow_add-from : goal.overflow_add-from
overflow_add-from c =
    let p = c.requires.known in omega
    (arith, (walk_item p.lists p.most c.items-n-items.ensures _ _ c.loop-n-test.true c.from.ensures).small)

pub add-r-requires : goal.add-r-requires
add-r-requires c =
    let p = c.requires.known in omega
    (arith, (walk_item p.lists p.most c.items-n-items.ensures _ _ c.loop-n-test.true c.from.ensures).small)

pub loop-n-preserved : goal.loop-n-preserved
loop-n-preserved c =
    λ s σ es h. let p = c.requires.known in
    let is = c.items-n-items.ensures in
    let i = c.loop-n.n-index in
    let w = c.loop-n.invariant s σ es h in
    let item = walk_item h p.most is i _ c.loop-n-test.true c.from.ensures in
    record {
      done = w.done ++ (replace_cols σ (get_or es i FALSE) ∷ []);
      pushes = pushes_add _ w.pushes (pushed_changed item) c.add-r.ensures;
      is = append_assoc w.done (replace_cols σ (get_or es i FALSE) ∷ []) (map (replace_cols σ) (drop (i + 1) es))
          ∙ (rw (next es i (walk_in h p.most is c.loop-n-test.true)) at w.is);
    }

pub returns : goal.returns
returns c =
    λ s σ es h. let w = c.loop-n.invariant s σ es h in
    let e : w.done ≡ map (replace_cols σ) es = sym (append-nil w.done) ∙
    (rw (walk_end h c.requires.known.most c.items-n-items.ensures c.loop-n-test.false) at w.is) in
    rw (← e) w.pushes
