-- Laws of writing into a work buffer of `max_records` records.
--     cap_le, ..      the laws of `cap`, which counts records up to `no_room`
--     sets_next       two runs, one after the other, are one run, also past the end
--     Left            the invariant of a loop that writes trees: what is left of them completes the output
--     wrote_past      past the end a tree is written by doing nothing
--     low_below, ..   the levels at which trees are written
--     wrote_leaf, ..  a record over no, one or two trees
-- Assumes nothing.
use mathlib.Core.Path.{◌≡◌, refl, sym, ap, subst, ◌∙◌}
use mathlib.Core.List.{List, [], ◌∷◌, ◌++◌, append_assoc}
use Prim.Native.Nat.{ℕ, suc, ◌+◌, ◌-◌, ◌*◌, ◌≤◌, ◌<◌}
use native.Mathlib.Nat.{add-zero}
use native.Mathlib.Omega.{arith}
use lib.Dec.{leb}
use borrow.Author.Tests.{leb-true, leb-false}
use mathlib.Core.Bool.{Bool, true, false}
use lib.ListN.{length}
use lib.Seq.{sets, set_out, length-sets}
use Rattle.image.specs.Limits.{max_records, work_bytes, no_room}
use Rattle.image.specs.Tree.{Label, Forest, none, node, Tree, size}
use Rattle.image.specs.Flat.{size_t, bytes_of, flat_any, flat}
use Rattle.image.proofs.Writing.{sets_append, sets_after, bytes_of_length, flat_length}
use Rattle.image.specs.Room.{cap, Put, Wrote, Low}

-- no count is more than `no_room`
pub cap_le : (n : ℕ) → cap n ≤ no_room
unfolding cap
cap_le n = omega arith

-- a count that is no more stays what it is
pub cap_is : (n : ℕ) → n ≤ no_room → cap n ≡ n
unfolding cap
cap_is n h = omega arith

-- any other is `no_room`
pub cap_over : (n : ℕ) → max_records < n → cap n ≡ no_room
unfolding cap
cap_over n h = omega arith

-- counting goes on from a count as from the number that was counted
pub cap_add : (a b : ℕ) → cap (cap a + b) ≡ cap (a + b)
unfolding cap
cap_add a b = omega arith

-- stores past a list's end do nothing
pub sets_past : (l : List ℕ) (i : ℕ) (vs : List ℕ) → length l ≤ i → sets l i vs ≡ l
sets_past l i [] h = refl
sets_past l i (v ∷ vs) h = rw (set_out l i v h) (sets_past l (suc i) vs (omega arith))

-- two runs, one after the other, are one run, also past the end
pub sets_next : (out vs ws : List ℕ) (at n r : ℕ) → length out ≡ work_bytes → length vs ≡ 32 * n → r ≡ cap (at + n)
    → sets (sets out (32 * at) vs) (32 * r) ws ≡ sets out (32 * at) (vs ++ ws)
sets_next out vs ws at n r long count e = go (leb (at + n) max_records) refl
  where
    go : (t : Bool) → leb (at + n) max_records ≡ t → sets (sets out (32 * at) vs) (32 * r) ws ≡ sets out (32 * at) (vs ++ ws)
    go true t =
        let h : at + n ≤ max_records = leb-true (at + n) max_records t in
        sym (sets_after out (32 * at) vs ws (32 * r) (omega (arith, cap_is (at + n) (omega arith))))
    go false t =
        let h : max_records < at + n = leb-false (at + n) max_records t in
        sets_past (sets out (32 * at) vs) (32 * r) ws (rw length-sets (omega (arith, cap_over (at + n) h)))
        ∙ sym (sets_append out (32 * at) vs ws ∙ sets_past (sets out (32 * at) vs) (32 * at + length vs) ws (rw length-sets (omega arith)))

-- ---- a loop that writes trees

-- the forest `all` was to be written from record at₀ on, and `rest` is left of it, to be written from record `to` on
pub record Left (out₀ : List ℕ) (at₀ level : ℕ) (all : Forest) (out : List ℕ) (to : ℕ) (rest : Forest) : Type 0 where
  pub count : cap (to + size rest) ≡ cap (at₀ + size all)
  pub same : sets out (32 * to) (flat_any level rest) ≡ sets out₀ (32 * at₀) (flat_any level all)
  pub long : length out ≡ work_bytes
  pub small : to ≤ no_room

-- a tree is written
pub left_next : {out₀ : List ℕ} {at₀ level : ℕ} {all : Forest} {out : List ℕ} {to : ℕ} (t : Tree) {after : Forest} {out' : List ℕ} {to' : ℕ}
    → Left out₀ at₀ level all out to (node t.label t.below after)
    → Wrote out out' to level to' t
    → Left out₀ at₀ level all out' to' after
left_next {level = level} {out = out} {to = to} t {after} {out'} {to'} h w =
    record {
      count = rw (w.next, cap_add) (ap cap (omega arith) ∙ h.count);
      same =
          let e = sets_next out (flat level t) (flat_any level after) to (size_t t) to' h.long (flat_length level t) w.next in
          rw (w.bytes, e, append_assoc) h.same;
      long = rw (w.bytes, length-sets) h.long;
      small = rw w.next (cap_le (to + size_t t));
    }

-- all trees below a record are written
pub left_end : {out₀ out₁ : List ℕ} {at at₁ level : ℕ} {l : Label} {all : Forest} {out : List ℕ} {to : ℕ}
    → length out₀ ≡ work_bytes
    → Put out₀ out₁ at level at₁ l
    → Left out₁ at₁ (level + 1) all out to none
    → Wrote out₀ out at level to (record { label = l; below = all })
left_end {out₀} {out₁} {at} {at₁} {level} {l} {all} {to = to} long p h =
    record {
      next = sym (ap cap (add-zero to) ∙ cap_is to h.small) ∙ (h.count ∙ rw (p.next, cap_add) (ap cap (omega arith)));
      bytes =
          let r = bytes_of l level 0 in
          h.same ∙ rw p.bytes (sets_next out₀ r (flat_any (level + 1) all) at 1 at₁ long (bytes_of_length l level 0) p.next);
    }

-- past the buffer's end a tree is written by doing nothing
pub wrote_past : (out : List ℕ) (at level : ℕ) (t : Tree) → length out ≡ work_bytes → max_records ≤ at → Wrote out out at level no_room t
wrote_past out at level t long h =
    record {
      next = sym (cap_over (at + size_t t) (omega arith));
      bytes = sym (sets_past out (32 * at) (flat level t) (omega arith));
    }

-- ---- a record, and then the trees below it

-- the record is written, and all below it is left
pub put_start : {out₀ out₁ : List ℕ} {at at₁ level : ℕ} {l : Label}
    → length out₀ ≡ work_bytes → Put out₀ out₁ at level at₁ l → (all : Forest) → Left out₁ at₁ (level + 1) all out₁ at₁ all
put_start {at = at} long p all = record { count = refl; same = refl; long = rw (p.bytes, length-sets) long; small = rw p.next (cap_le (at + 1)) }

-- a record is written, and then the trees below it are
module _ {out₀ out₁ : List ℕ} {at at₁ level : ℕ} {l : Label} (long : length out₀ ≡ work_bytes) (p : Put out₀ out₁ at level at₁ l) where
  -- a record alone
  pub wrote_leaf : Wrote out₀ out₁ at level at₁ (record { label = l; below = none })
  wrote_leaf = left_end long p (put_start long p none)

  -- a record over one tree
  pub wrote_one : {out₂ : List ℕ} {n₂ : ℕ} {t : Tree} → Wrote out₁ out₂ at₁ (level + 1) n₂ t
      → Wrote out₀ out₂ at level n₂ (record { label = l; below = node t.label t.below none })
  wrote_one {t = t} w = left_end long p (left_next t (put_start long p _) w)

  -- a record over two trees
  pub wrote_two : {out₂ out₃ : List ℕ} {n₂ n₃ : ℕ} {t u : Tree}
      → Wrote out₁ out₂ at₁ (level + 1) n₂ t → Wrote out₂ out₃ n₂ (level + 1) n₃ u
      → Wrote out₀ out₃ at level n₃ (record { label = l; below = node t.label t.below (node u.label u.below none) })
  wrote_two {t = t} {u = u} w v = left_end long p (left_next u (left_next t (put_start long p _) w) v)

-- ---- levels

-- the first of some trees, what is below it, and the others
module _ {level : ℕ} {f : Forest} {l : Label} {cs ns : Forest} (e : f ≡ node l cs ns) (h : Low level f) where
  low : Low level (node l cs ns)
  low = subst (Low level) e h

  pub low_below : Low (level + 1) cs
  low_below = record { depth = low.depth - 1; deep = low.deep.1; low = omega (arith, low.low, low.deep.0) }

  pub low_after : Low level ns
  low_after = record { depth = low.depth; deep = low.deep.2; low = low.low }
