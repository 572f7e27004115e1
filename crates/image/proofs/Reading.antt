-- Laws of `parse`, the reading of links.
--     p_none, ..      its cases
--     within          it stays within the records
--     Says, ..        what a call of the code says of it
-- Assumes nothing.
use mathlib.Core.Path.{◌≡◌, refl, sym, ◌∙◌}
use mathlib.Core.Bool.{Bool, true, false, cond}
use mathlib.Core.List.{List}
use Prim.Native.Nat.{ℕ, zero, suc, ◌+◌, ◌-◌, ◌*◌, ◌≤◌, ◌<◌}
use native.Mathlib.Nat.{le_refl}
use native.Mathlib.Numerals.{add-one-le}
use native.Mathlib.Omega.{arith}
use lib.Dec.{eqb, leb}
use lib.ListN.{drop}
use borrow.Author.Tests.{eq-eqb, ne_eqb, le-leb, lt-leb, leb-false}
use Rattle.image.specs.Word.{word}
use Rattle.image.specs.Tree.{Label, Forest, none, label_at}
use Rattle.std.specs.Prelude.{Result, Ok, Err}
use Rattle.image.specs.declared.links.BadLink.{BadLink}
use Rattle.image.specs.Links.{Parsed, good, bad, outcome, with_next, and_then, parse}

-- `link`, a link of `owner`, where i is the next unread record of n
module _ (s : List ℕ) (n i link owner : ℕ) where
  -- a link that is 0 leads to nothing
  pub p_none : (k : ℕ) → 0 < k → link ≡ 0 → parse k s n i link owner ≡ good none i
  unfolding parse
  p_none zero h e = absurd (omega arith)
  p_none (suc k) h e = rw (eq-eqb link 0 e)

  -- a link to any record but the next unread one is bad
  pub p_off : (k : ℕ) → 0 < k → (link ≡ 0 → ⊥) → (link ≡ i → ⊥) → parse k s n i link owner ≡ bad owner
  unfolding parse
  p_off zero h e f = absurd (omega arith)
  p_off (suc k) h e f = rw (ne_eqb link 0 e, ne_eqb link i f)

  -- a link past the last record is bad
  pub p_end : (k : ℕ) → 0 < k → (link ≡ 0 → ⊥) → link ≡ i → n ≤ i → parse k s n i link owner ≡ bad owner
  unfolding parse
  p_end zero h e f g = absurd (omega arith)
  p_end (suc k) h e f g = rw (ne_eqb link 0 e, eq-eqb link i f, le-leb n i g)

  -- a link to the next unread record leads to it, to its children, and then to its siblings
  pub p_node : (k : ℕ) → 0 < k → (link ≡ 0 → ⊥) → link ≡ i → i < n
      → parse k s n i link owner
      ≡ and_then (label_at (drop (32 * i) s))
      (parse (k - 1) s n (i + 1) (word s (32 * i + 24)) i)
      (λ j. parse (k - 1) s n j (word s (32 * i + 28)) i)
  unfolding parse
  p_node zero h e f g = absurd (omega arith)
  p_node (suc k) h e f g = let q : suc k - 1 ≡ k = omega arith in rw (q, ne_eqb link 0 e, eq-eqb link i f, lt-leb n i g)

-- what holds of both arms holds of a test
pub cond_cases : (P : Parsed → Type 0) {x y : Parsed} (b : Bool) → (b ≡ true → P x) → (b ≡ false → P y) → P (cond b x y)
cond_cases P true f g = f refl
cond_cases P false f g = g refl

-- the next unread record is no earlier, and there is one at most
abbrev pub Within : ℕ → ℕ → Parsed → Type 0
Within n i (good f j) = (i ≤ j) × (j ≤ n)
Within n i (bad r) = Unit {0}

-- so it is after siblings
within_joined : (n i j : ℕ) (l : Label) (cs : Forest) (p : Parsed) → i ≤ j → Within n j p → Within n i (with_next l cs p)
within_joined n i j l cs (good f m) h k = omega arith
within_joined n i j l cs (bad r) h k = tt

-- so it is after children and siblings
within_then : (n i : ℕ) (l : Label) (p : Parsed) (rest : ℕ → Parsed)
    → Within n (i + 1) p → ((j : ℕ) → j ≤ n → Within n j (rest j)) → Within n i (and_then l p rest)
within_then n i l (good cs j) rest h k = within_joined n i j l cs (rest j) (omega arith) (k j h.1)
within_then n i l (bad r) rest h k = tt

-- so it is after all that a link leads to
pub within : (k : ℕ) (s : List ℕ) (n i link owner : ℕ) → i ≤ n → Within n i (parse k s n i link owner)
unfolding parse
within zero s n i link owner h = tt
within (suc k) s n i link owner h =
    cond_cases (Within n i) (eqb link 0) (λ _. (le_refl i, h))
    (λ _. cond_cases (Within n i) (eqb link i)
    (λ _. cond_cases (Within n i) (leb n i) (λ _. tt)
    (λ e. within_then n i _ (parse k s n (i + 1) (word s (32 * i + 24)) i) (λ j. parse k s n j (word s (32 * i + 28)) i)
    (within k s n (i + 1) (word s (32 * i + 24)) i (add-one-le (leb-false n i e))) (λ j l. within k s n j (word s (32 * i + 28)) i l)))
    (λ _. tt))

-- what an outcome says of what was parsed
pub was_next : (n i : ℕ) (p : Parsed) (j : ℕ) → outcome p ≡ Ok j → Within n i p → (f : Forest) × (p ≡ good f j) × (i ≤ j) × (j ≤ n)
was_next n i (good f m) j e h = let q : m ≡ j = cc in (f, cc, omega arith, omega arith)
was_next n i (bad r) j e h = let z : ◌≡◌ {A = ℕ} 0 1 = cc in absurd (omega arith)

-- a bad outcome is that of a bad record
pub was_bad : (p : Parsed) (r : BadLink) → outcome p ≡ Err r → p ≡ bad r.0
was_bad (good f m) r e = let z : ◌≡◌ {A = ℕ} 0 1 = cc in absurd (omega arith)
was_bad (bad x) r e = cc

-- the outcome is that of what is read last
pub outcome_joined : (l : Label) (cs : Forest) (p : Parsed) → outcome (with_next l cs p) ≡ outcome p
outcome_joined l cs (good f j) = refl
outcome_joined l cs (bad r) = refl

-- what a call says: r is the outcome at each fuel that is enough
abbrev pub Says : Result ℕ BadLink → List ℕ → ℕ → ℕ → ℕ → ℕ → Type 0
Says r s n i link owner = (k : ℕ) → n - i < k → r ≡ outcome (parse k s n i link owner)

-- where a call says that all is read before j, j is no earlier, and there is one at most
pub next_within : {r : Result ℕ BadLink} (s : List ℕ) (n i link owner j : ℕ) → Says r s n i link owner → r ≡ Ok j → i ≤ n → (i ≤ j) × (j ≤ n)
next_within s n i link owner j h e l =
    let k = suc (n - i) in
    let w = was_next n i (parse k s n i link owner) j (sym (h k (le_refl k)) ∙ e) (within k s n i link owner l) in
    (w.2, w.3)

-- the same, where the link leads to record i
module _ (s : List ℕ) (n i link owner : ℕ) (nz : link ≡ 0 → ⊥) (at : link ≡ i) (lt : i < n) where
  -- a record whose children have a bad link has it too
  pub says_bad : {b : Result ℕ BadLink} {r : BadLink} → Says b s n (i + 1) (word s (32 * i + 24)) i → b ≡ Err r → Says (Err r) s n i link owner
  says_bad {b} {r} h e k l =
      let q : parse (k - 1) s n (i + 1) (word s (32 * i + 24)) i ≡ bad r.0 = was_bad _ r (sym (h (k - 1) (omega arith)) ∙ e) in
      rw (p_node s n i link owner k (omega arith) nz at lt, q)

  -- a record whose children are read says what its siblings say
  pub says_next : {b r : Result ℕ BadLink} {j : ℕ} → Says b s n (i + 1) (word s (32 * i + 24)) i → b ≡ Ok j
      → Says r s n j (word s (32 * i + 28)) i → Says r s n i link owner
  says_next {b} {r} {j} h e g k l =
      let first = word s (32 * i + 24) in
      let in-range = within (k - 1) s n (i + 1) first i (omega arith) in
      let w = was_next n (i + 1) (parse (k - 1) s n (i + 1) first i) j (sym (h (k - 1) (omega arith)) ∙ e) in-range in
      let siblings = parse (k - 1) s n j (word s (32 * i + 28)) i in
      rw (p_node s n i link owner k (omega arith) nz at lt, w.1, outcome_joined (label_at (drop (32 * i) s)) w.0 siblings)
      (g (k - 1) (omega (arith, w.2, w.3)))
