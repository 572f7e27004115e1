-- What is written before a new tree, the tree, and what is written after it, are the plan with the new one in the old one's place.
--     before_of       what `write_before` leaves
--     spliced         the whole
-- Assumes nothing.
use mathlib.Core.Path.{◌≡◌, sym, ap, ◌∙◌}
use mathlib.Core.List.{List, ◌++◌, append_assoc}
use mathlib.Core.Option.{some}
use Prim.Native.Nat.{ℕ, ◌+◌, ◌-◌, ◌*◌, ◌≤◌, ◌<◌}
use native.Mathlib.Omega.{arith}
use lib.ListN.{length, get_or, take, drop, length-append}
use lib.Seq.{sets, sets-eq, slice, take_all, take_at, length-take-le, drop_at}
use Rattle.image.specs.Limits.{work_bytes, max_records}
use Rattle.image.specs.Word.{word}
use Rattle.image.specs.Tree.{Tree}
use Rattle.image.specs.Flat.{size_t, bytes_of, flat_any, flat}
use Rattle.image.specs.Room.{cap, Wrote}
use Rattle.image.proofs.Writing.{flat_length}
use Rattle.image.proofs.Room.{cap_add, sets_next}
use Rattle.image.proofs.Relinking.{word_right, depth_of}
use Rattle.plan.specs.Syntax.{Plan}
use Rattle.plan.specs.Trees.{label_p, kids_p, plan_tree}
use Rattle.plan.specs.Measure.{size_p}
use Rattle.rewrite.specs.RewriteAt.{Focus, focus}
use Rattle.answers.specs.declared.splicing.Spot.{Spot}
use Rattle.answers.specs.Splicing.{Levels, Before, Ran}
use Rattle.answers.proofs.Spliced.{Split, split_at}

-- three lists, one after another
length_three : (a b c : List ℕ) → length (a ++ (b ++ c)) ≡ length a + (length b + length c)
length_three a b c = simp length-append

-- the tree t begins out, and n records are counted
pub record Begun (out : List ℕ) (n : ℕ) (t : Tree) : Type 0 where
  pub count : n ≡ cap (size_t t)
  pub rest : List ℕ
  pub bytes : n ≤ max_records → out ≡ flat 1 t ++ rest

-- a count that is no more than `max_records` is what was counted
pub counted : (m n : ℕ) → n ≡ cap m → n ≤ max_records → m ≤ max_records
unfolding cap
counted m n e h = omega arith

module _ (p : Plan) (node : ℕ) (c : Focus) (f : focus node p ≡ some c) where
  -- where the plan stands
  abbrev at : Split 1 node (flat 1 (plan_tree p)) c.plan (λ q. flat 1 (plan_tree (c.back q)))
  at = split_at p node 1 c f

  -- its bytes, and those of another in its place
  abbrev old : List ℕ
  old = flat at.level (plan_tree c.plan)

  abbrev new : Plan → List ℕ
  new q = flat at.level (plan_tree q)

  -- its records are among those of the whole
  pub within : 32 * (node + size_t (plan_tree c.plan)) + length at.after ≡ 32 * size_t (plan_tree p)
  within =
      let e : length (flat 1 (plan_tree p)) ≡ length at.before + (length old + length at.after) =
      ap length at.is ∙ length_three at.before old at.after in
      omega (arith, e, at.count, flat_length 1 (plan_tree p), flat_length at.level (plan_tree c.plan))

  -- the same of the whole with another in its place
  within_new : (q : Plan) → 32 * (node + size_t (plan_tree q)) + length at.after ≡ 32 * size_t (plan_tree (c.back q))
  within_new q =
      let e : length (flat 1 (plan_tree (c.back q))) ≡ length at.before + (length (new q) + length at.after) =
      ap length (at.again q) ∙ length_three at.before (new q) at.after in
      omega (arith, e, at.count, flat_length 1 (plan_tree (c.back q)), flat_length at.level (plan_tree q))

  -- its record is one of the whole
  pub node_small : node < size_t (plan_tree p)
  node_small = omega (arith, within)

  -- what `write_before` leaves
  pub before_of : {out₀ out₁ levels : List ℕ} {to level end records : ℕ} → size_t (plan_tree p) ≤ max_records → length out₀ ≡ work_bytes
      → Ran out₀ out₁ 0 (node - 0) to (slice (32 * 0) (32 * node) (flat 1 (plan_tree p))) → Levels levels (plan_tree p) → level ≡ get_or levels node 0
      → end ≡ node + size_t (plan_tree c.plan) → records ≡ size_t (plan_tree p)
      → Before out₁ levels p node c.plan (record { level = level; end = end; records = records })
  unfolding size_p
  before_of {out₀} few long v l e n m =
      let front : List ℕ = take (32 * node) (flat 1 (plan_tree p)) in
      let all : length front ≡ 32 * node = length-take-le (32 * node) (flat 1 (plan_tree p)) (omega (arith, within, flat_length 1 (plan_tree p))) in
      record {
        bytes = ap (take (32 * node)) (v.bytes ∙ sets-eq front out₀ 0 (omega (arith, within)))
            ∙ take_at front (drop (0 + length front) out₀) (32 * node) all;
        depths = l;
        level = e ∙ l.each node (omega (arith, within));
        end = n;
        records = m;
      }

  -- the depth that was read is that of the plan
  pub level_is : (level : ℕ) → node < 4294967295 → level ≡ word (flat 1 (plan_tree p)) (32 * node + 24) → level ≡ at.level
  level_is level few e =
      let z : 32 * node + 24 ≡ length at.before + 24 = omega (arith, at.count) in
      let l = label_p c.plan in
      let below = flat_any (at.level + 1) (kids_p c.plan) in
      e ∙ (rw (at.is, z, word_right at.before (old ++ at.after) 24, append_assoc (bytes_of l at.level 0) below at.after)
      (depth_of l at.level (below ++ at.after) (omega (arith, at.small))))

  -- what stands behind it
  behind_is : drop (32 * (node + size_t (plan_tree c.plan))) (flat 1 (plan_tree p)) ≡ at.after
  behind_is =
      let n : length (at.before ++ old) ≡ 32 * (node + size_t (plan_tree c.plan)) =
      length-append at.before old ∙ omega (arith, at.count, flat_length at.level (plan_tree c.plan)) in
      ap (drop (32 * (node + size_t (plan_tree c.plan)))) (at.is ∙ sym (append_assoc at.before old at.after))
      ∙ drop_at (at.before ++ old) at.after _ n

  -- all of it
  behind_all : (n : ℕ) → n ≡ size_t (plan_tree p) → take (32 * n) (flat 1 (plan_tree p)) ≡ flat 1 (plan_tree p)
  behind_all n e = take_all (32 * n) (flat 1 (plan_tree p)) (omega (arith, flat_length 1 (plan_tree p)))

  -- what was written in front of it
  front_is : (out : List ℕ) → take (32 * node) out ≡ take (32 * node) (flat 1 (plan_tree p)) → take (32 * node) out ≡ at.before
  front_is out e = e ∙ (ap (take (32 * node)) at.is ∙ take_at at.before (old ++ at.after) (32 * node) at.count)

  -- What is written before the new tree, the tree, and what is written after it, are the plan with the new one in the old one's place.
  pub spliced : {out levels : List ℕ} {r : Spot} {out₁ out₂ : List ℕ} {to n : ℕ} (q : Plan) → length out ≡ work_bytes → size_p p ≤ max_records
      → Before out levels p node c.plan r → Wrote out out₁ node r.level to (plan_tree q)
      → Ran out₁ out₂ to (r.records - r.end) n (slice (32 * r.end) (32 * r.records) (flat 1 (plan_tree p)))
      → Begun out₂ n (plan_tree (c.back q))
  unfolding size_p
  spliced {out} {r = r} {out₁} {out₂} {to} {n} q long few b w v =
      let k = r.records - r.end in
      let m = size_t (plan_tree q) in
      let level : r.level ≡ at.level = level_is r.level (omega (arith, within)) b.level in
      let e₁ : out₁ ≡ sets out (32 * node) (new q) = rw level at w.bytes in
      let e₂ : slice (32 * r.end) (32 * r.records) (flat 1 (plan_tree p)) ≡ at.after =
      ap (drop (32 * r.end)) (behind_all r.records b.records) ∙ rw b.end behind_is in
      let e₃ : out₂ ≡ sets out (32 * node) (new q ++ at.after) =
      v.bytes ∙ rw (e₂, e₁) (sets_next out (new q) at.after node m to long (flat_length at.level (plan_tree q)) w.next) in
      let size : node + m + k ≡ size_t (plan_tree (c.back q)) = omega (arith, within, within_new q, b.end, b.records) in
      let count : n ≡ cap (size_t (plan_tree (c.back q))) = v.next ∙ rw (w.next, cap_add, size) in
      record {
        count = count;
        rest = drop (32 * node + length (new q ++ at.after)) out;
        bytes = λ room.
            let fits : size_t (plan_tree (c.back q)) ≤ max_records = counted _ n count room in
            let l : length (new q ++ at.after) ≡ 32 * m + length at.after =
            length-append (new q) at.after ∙ rw (flat_length at.level (plan_tree q)) in
            e₃ ∙ (sets-eq (new q ++ at.after) out (32 * node) (omega (arith, within_new q))
            ∙ rw (front_is out b.bytes, at.again q) (simp append_assoc));
      }
