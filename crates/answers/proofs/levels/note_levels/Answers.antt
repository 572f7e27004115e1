use mathlib.Core.Path.{ap, ◌∙◌}
use Prim.Native.Nat.{ℕ, ◌+◌, ◌≤◌}
use native.Mathlib.Omega.{arith}
use lib.ListN.{length-set}
use Rattle.image.specs.Limits.{max_records}
use Rattle.image.specs.Flat.{size_t}
use Rattle.answers.proofs.Noting.{noted_start, noted_next, noted_here, noted_all, known, leads_small}
use Rattle.answers.proofs.Roots.{records_of}
use Rattle.answers.proofs.levels.note_levels.Goals as goal

pub at-requires : goal.at-requires
at-requires c = record { tree = c.requires.sized.tree; at = c.requires.sized.at }

pub loop-i-init : goal.loop-i-init
loop-i-init c =
    let few : c.end-n.result ≤ max_records = omega (arith, records_of c.at.result c.requires.sized.tree c.requires.sized.at c.at.ensures.same_image c.at.ensures.same_number c.end-n.ensures, c.requires.sized.few) in
    (omega arith, few, simp length-set c.requires.levels_len, λ t h e. noted_start c.args.levels.now h e few (omega (arith, c.requires.levels_len)))

pub overflow_add-levels : goal.overflow_add-levels
overflow_add-levels c =
    let z = c.requires.sized in
    let v = c.loop-i.invariant in
    let all = records_of c.at.result z.tree z.at c.at.ensures.same_image c.at.ensures.same_number c.end-n.ensures in
    let k = known z.at all v.1 v.0 c.loop-i-test.true in
    omega (arith, k.small, noted_here z.at all (v.3 z.tree z.at all) _ v.0 (omega arith) (omega arith))

pub bounds-levels-first : goal.bounds-levels-first
bounds-levels-first c =
    let z = c.requires.sized in
    let v = c.loop-i.invariant in
    let all = records_of c.at.result z.tree z.at c.at.ensures.same_image c.at.ensures.same_number c.end-n.ensures in
    let k = known z.at all v.1 v.0 c.loop-i-test.true in
    omega (arith, leads_small k.first (omega arith), c.word_at-first.ensures.0)

pub bounds-levels-next : goal.bounds-levels-next
bounds-levels-next c =
    let z = c.requires.sized in
    let v = c.loop-i.invariant in
    let all = records_of c.at.result z.tree z.at c.at.ensures.same_image c.at.ensures.same_number c.end-n.ensures in
    let k = known z.at all v.1 v.0 c.loop-i-test.true in
    simp length-set (omega (arith, leads_small k.next (omega arith), c.word_at-next.ensures.0))

pub loop-i-preserved : goal.loop-i-preserved
loop-i-preserved c =
    let v = c.loop-i.invariant in (
      omega arith,
      v.1,
      simp length-set v.2,
      λ t h e.
          let lt = c.loop-i-test.true in
          let d = noted_here h e (v.3 t h e) _ v.0 lt (omega arith) in
          rw (c.word_at-first.ensures.0, c.word_at-next.ensures.0)
          (noted_next (known h e v.1 v.0 lt) (v.3 t h e) v.0 lt (omega arith) (ap (λ (j : ℕ). j + 1) d) d),
    )

pub returns : goal.returns
returns c =
    λ t h. let v = c.loop-i.invariant in
    let e = records_of c.at.result t h c.at.ensures.same_image c.at.ensures.same_number c.end-n.ensures in
    (e, noted_all h e (omega arith) (omega arith) (v.3 t h e))
