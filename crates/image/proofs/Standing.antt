-- What `parse` reads stands there.
-- Assumes nothing.
use mathlib.Core.Path.{◌≡◌, refl, sym, ap, subst, ◌∙◌}
use mathlib.Core.List.{List}
use Prim.Native.Nat.{ℕ, zero, suc, ◌+◌, ◌*◌, ◌≤◌}
use native.Mathlib.Nat.{add_assoc}
use native.Mathlib.Omega.{arith}
use lib.Dec.{eqb, leb}
use lib.ListN.{length, drop, length-drop}
use lib.Seq.{drop-drop, get_or-drop}
use borrow.Author.Tests.{eqb-true, leb-false}
use Rattle.image.specs.Word.{word}
use Rattle.image.specs.Tree.{Forest, size, link, label_at, Stands}
use Rattle.image.specs.Links.{Parsed, good, bad, with_next, and_then, parse}
use Rattle.image.proofs.Reading.{cond_cases}

-- a word of a part is a word of the whole
pub word_drop : (s : List ℕ) (a k : ℕ) → word (drop a s) k ≡ word s (a + k)
unfolding word
word_drop s a k = simp (get_or-drop, add_assoc)

-- what is asked of a forest that a link leads to, with i the next unread record before and j after
pub record Read (s : List ℕ) (n i link' : ℕ) (f : Forest) (j : ℕ) : Type 0 where
  pub next : j ≡ i + size f
  pub linked : link' ≡ link i f
  pub within : j ≤ n
  pub stands : Stands f (drop (32 * i) s) i

-- of what was parsed, where it is a forest
abbrev pub Reads : List ℕ → ℕ → ℕ → ℕ → Parsed → Type 0
Reads s n i link' (good f j) = Read s n i link' f j
Reads s n i link' (bad r) = Unit {0}

-- record i of n
module _ (s : List ℕ) (n i : ℕ) (long : 32 * n ≤ length s) where
  -- a record, its children that were read, and its siblings
  node_of : (cs : Forest) (j : ℕ) (p : Parsed)
      → Read s n (i + 1) (word s (32 * i + 24)) cs j
      → Reads s n j (word s (32 * i + 28)) p
      → Reads s n i i (with_next (label_at (drop (32 * i) s)) cs p)
  node_of cs j (bad r) h k = tt
  node_of cs j (good ns m) h k =
      let e : 32 * i + 32 * suc (size cs) ≡ 32 * (i + 1 + size cs) = omega arith in
      let a : 32 * i + 32 ≡ 32 * (i + 1) = omega arith in
      let q : j ≡ i + 1 + size cs = h.next in
      record {
        next = omega (arith, h.next, k.next);
        linked = refl;
        within = k.within;
        stands = record {
          head = record {
            label = refl;
            first = word_drop s (32 * i) 24 ∙ h.linked;
            room = rw length-drop (omega (arith, h.next, k.next, k.within));
          };
          below = rw (drop-drop, a) h.stands;
          next = word_drop s (32 * i) 28 ∙ (k.linked ∙ ap (λ (x : ℕ). link x ns) q);
          after = rw (drop-drop, e) (subst (λ (x : ℕ). Stands ns (drop (32 * x) s) x) q k.stands);
        };
      }

  -- a record, and what comes of its children
  then_of : (p : Parsed) (rest : ℕ → Parsed)
      → Reads s n (i + 1) (word s (32 * i + 24)) p
      → ((j : ℕ) → j ≤ n → Reads s n j (word s (32 * i + 28)) (rest j))
      → Reads s n i i (and_then (label_at (drop (32 * i) s)) p rest)
  then_of (bad r) rest h k = tt
  then_of (good cs j) rest h k = node_of cs j (rest j) h (k j h.within)

-- what a link leads to stands there
pub reads : (k : ℕ) (s : List ℕ) (n i link' owner : ℕ) → 32 * n ≤ length s → i ≤ n → Reads s n i link' (parse k s n i link' owner)
unfolding parse
reads zero s n i link' owner long h = tt
reads (suc k) s n i link' owner long h =
    cond_cases (Reads s n i link') (eqb link' 0) (λ e. record { next = omega arith; linked = eqb-true link' 0 e; within = h; stands = tt })
    (λ _. cond_cases (Reads s n i link') (eqb link' i)
    (λ e. cond_cases (Reads s n i link') (leb n i) (λ _. tt)
    (λ l. let lt : i + 1 ≤ n = omega (arith, leb-false n i l) in
    let below = parse k s n (i + 1) (word s (32 * i + 24)) i in
    let rest : ℕ → Parsed = λ j. parse k s n j (word s (32 * i + 28)) i in
    subst (λ (x : ℕ). Reads s n i x (and_then (label_at (drop (32 * i) s)) below rest)) (sym (eqb-true link' i e))
    (then_of s n i long below rest
    (reads k s n (i + 1) (word s (32 * i + 24)) i long lt) (λ j m. reads k s n j (word s (32 * i + 28)) i long m))))
    (λ _. tt))
