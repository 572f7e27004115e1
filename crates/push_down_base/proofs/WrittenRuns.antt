-- Laws of runs of records: written flat, one behind another, and by a loop over the children of a record.
use Prim.Native.Nat.{ℕ, zero, suc, ◌+◌, ◌-◌, ◌*◌, ◌≤◌, ◌<◌}
use native.Mathlib.Omega.{arith}
use native.Mathlib.Nat.{add-zero}
use mathlib.Core.Path.{◌≡◌, refl, sym, ap, subst, ◌∙◌}
use mathlib.Core.List.{List, [], ◌∷◌, ◌++◌, append_assoc, append-nil}
use lib.ListN.{length, take, length-append}
use lib.Seq.{sets, length-sets, take-nil}
use Rattle.image.specs.Limits.{work_bytes, no_room}
use Rattle.image.specs.Tree.{Label, Forest, none, node, Tree, size, link}
use Rattle.image.specs.Flat.{bytes_of}
use Rattle.image.specs.Room.{cap, Put, Wrote}
use Rattle.image.proofs.Room.{cap_le, cap_is, cap_add, sets_next}
use Rattle.image.specs.Records.{Rec, recs, recs_any, flats}
use Rattle.image.proofs.Relinking.{flats_length, flats_flat, recs_length}
use Rattle.push_down_base.specs.Around.{WroteAll}

-- ---- the first of some records

-- of two runs, one behind the other
take_both : (n : ℕ) (xs ys : List Rec) → take n (xs ++ ys) ≡ take n xs ++ take (n - length xs) ys
take_both zero xs ys = let i : 0 ≡ 0 - length xs = omega arith in ap (λ k. take k ys) i
take_both (suc n) [] ys = let i : suc n ≡ suc n - 0 = omega arith in ap (λ k. take k ys) i
take_both (suc n) (x ∷ xs) ys =
    let i : n - length xs ≡ suc n - suc (length xs) = omega arith in
    ap (λ l. x ∷ l) (take_both n xs ys ∙ ap (λ k. take n xs ++ take k ys) i)

-- ---- writing

pub wrote_none : (out : List ℕ) (at : ℕ) → at ≤ no_room → WroteAll out out at at []
wrote_none out at h = record { next = sym (ap cap (add-zero at) ∙ cap_is at h); bytes = refl }

pub wrote_nothing : {out out' : List ℕ} {at r : ℕ} → out' ≡ out → r ≡ cap at → WroteAll out out' at r []
wrote_nothing {at = at} b e = record { next = e ∙ ap cap (sym (add-zero at)); bytes = b }

pub wrote_then : {out out₁ out₂ : List ℕ} {at r₁ r₂ : ℕ} {xs ys : List Rec} → length out ≡ work_bytes
    → WroteAll out out₁ at r₁ xs → WroteAll out₁ out₂ r₁ r₂ ys → WroteAll out out₂ at r₂ (xs ++ ys)
wrote_then {out} {out₁} {out₂} {at} {r₁} {r₂} {xs} {ys} long h k = record {
  next = k.next ∙ ap (λ i. cap (i + length ys)) h.next ∙ cap_add (at + length xs) (length ys)
      ∙ ap cap (omega (arith, length-append xs ys));
  bytes = k.bytes ∙ ap (λ o. sets o (32 * r₁) (flats ys)) h.bytes
      ∙ sets_next out (flats xs) (flats ys) at (length xs) r₁ long (flats_length xs) h.next
      ∙ ap (sets out (32 * at)) (sym (flats_append xs ys));
}
  where
    flats_append : (xs ys : List Rec) → flats (xs ++ ys) ≡ flats xs ++ flats ys
    flats_append [] ys = refl
    flats_append (x ∷ xs) ys = rw (flats_append xs ys, append_assoc)

pub wrote_one : {out out₁ : List ℕ} {at r level : ℕ} {l : Label} → Put out out₁ at level r l → WroteAll out out₁ at r ((l, level) ∷ [])
wrote_one {out} {at = at} {level = level} {l} h = record {
  next = h.next;
  bytes = h.bytes ∙ ap (sets out (32 * at))
      (sym (append-nil (bytes_of l level 0)));
}

-- ---- a loop over the children of a record

-- of the records of the forest `all`, whose first has the number b, those before `end` were to be written from record at₀ on; `rest`, which is
-- linked at `from`, is left
pub record Rest (end level b : ℕ) (out₀ : List ℕ) (at₀ : ℕ) (all : Forest) (out : List ℕ) (to from : ℕ) (rest : Forest) : Type 0 where
  pub done : List Rec
  pub wrote : WroteAll out₀ out at₀ to done
  pub is : done ++ take (end - from) (recs_any level rest) ≡ take (end - b) (recs_any level all)
  pub long₀ : length out₀ ≡ work_bytes
  pub long : length out ≡ work_bytes
  pub small : to ≤ no_room

take_link : (end d m : ℕ) (f : Forest) → take (end - link m f) (recs_any d f) ≡ take (end - m) (recs_any d f)
take_link end d m none = take-nil (end - 0) ∙ sym (take-nil (end - m))
take_link end d m (node l cs ns) = refl

-- before the loop all is left
pub rest_all : {out out₁ : List ℕ} {at r from : ℕ} {xs : List Rec} (end level b : ℕ) (all : Forest)
    → length out ≡ work_bytes → WroteAll out out₁ at r xs → from ≡ link b all → Rest end level b out₁ r all out₁ r from all
rest_all {out} {out₁} {at} {r} {from} {xs} end level b all long w e = record {
  done = [];
  wrote = wrote_none out₁ r (rw w.next (cap_le (at + length xs)));
  is = ap (λ i. take (end - i) (recs_any level all)) e ∙ take_link end level b all;
  long₀ = rw (w.bytes, length-sets) long;
  long = rw (w.bytes, length-sets) long;
  small = rw w.next (cap_le (at + length xs));
}

-- a tree is written
pub rest_next : {end level b : ℕ} {out₀ : List ℕ} {at₀ : ℕ} {all : Forest} {out : List ℕ} {to from : ℕ} (t : Tree) (after : Forest)
    {out' : List ℕ} {to' next : ℕ} → Rest end level b out₀ at₀ all out to from (node t.label t.below after)
    → WroteAll out out' to to' (take (end - from) (recs level t)) → next ≡ link (from + 1 + size t.below) after
    → Rest end level b out₀ at₀ all out' to' next after
rest_next {end} {level} {to = to} {from = from} t after {next = next} h w e = record {
  done = h.done ++ take (end - from) (recs level t);
  wrote = wrote_then h.long₀ h.wrote w;
  is =
      let i : end - (from + 1 + size t.below) ≡ end - from - length (recs level t) = omega (arith, recs_length level t) in
      append_assoc h.done (take (end - from) (recs level t)) (take (end - next) (recs_any level after))
      ∙ ap (λ l. h.done ++ (take (end - from) (recs level t) ++ l))
      (ap (λ j. take (end - j) (recs_any level after)) e ∙ take_link end level (from + 1 + size t.below) after
      ∙ ap (λ n. take n (recs_any level after)) i)
      ∙ ap (λ l. h.done ++ l) (sym (take_both (end - from) (recs level t) (recs_any level after)))
      ∙ h.is;
  long₀ = h.long₀;
  long = rw (w.bytes, length-sets) h.long;
  small = rw w.next (cap_le (to + length (take (end - from) (recs level t))));
}

-- after the loop the tree is written
pub rest_end : {end : ℕ} (level b : ℕ) {out out₀ : List ℕ} {at at₀ : ℕ} (t : Tree) {out' : List ℕ} {to from : ℕ} → length out ≡ work_bytes
    → b < end → WroteAll out out₀ at at₀ ((t.label, level) ∷ []) → Rest end (level + 1) (b + 1) out₀ at₀ t.below out' to from none
    → WroteAll out out' at to (take (end - b) (recs level t))
rest_end {end} level b {out} {at = at} t {out' = out'} {to} {from} long lt w h =
    let i : suc (end - (b + 1)) ≡ end - b = omega arith in
    let e : (t.label, level) ∷ h.done ≡ take (end - b) (recs level t) =
    ap (λ l. (t.label, level) ∷ l) (sym (append-nil h.done) ∙ ap (λ l. h.done ++ l) (sym (take-nil (end - from))) ∙ h.is)
    ∙ ap (λ n. take n (recs level t)) i in
    subst (λ l. WroteAll out out' at to l) e (wrote_then long w h.wrote)

-- a tree is written: its records are
pub wrote_tree : {out out₁ : List ℕ} {at level r : ℕ} {t : Tree} → Wrote out out₁ at level r t → WroteAll out out₁ at r (recs level t)
wrote_tree {out} {at = at} {level} {t = t} h = record {
  next = h.next ∙ ap (λ i. cap (at + i)) (sym (recs_length level t));
  bytes = h.bytes ∙ ap (sets out (32 * at)) (sym (flats_flat level t));
}

-- and the other way
pub tree_wrote : {out out₁ : List ℕ} {at level r : ℕ} {t : Tree} {xs : List Rec} → recs level t ≡ xs → WroteAll out out₁ at r xs → Wrote out out₁ at level r t
tree_wrote {out} {at = at} {level} {t = t} e h = record {
  next = h.next ∙ ap (λ l. cap (at + length l)) (sym e) ∙ ap (λ i. cap (at + i)) (recs_length level t);
  bytes = h.bytes ∙ ap (λ l. sets out (32 * at) (flats l)) (sym e) ∙ ap (sets out (32 * at)) (flats_flat level t);
}
