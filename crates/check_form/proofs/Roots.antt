-- What the links of an image come to, from the links of its root.
-- Assumes nothing.
use mathlib.Core.Path.{◌≡◌, sym, ◌∙◌}
use mathlib.Core.List.{List}
use Prim.Native.Nat.{ℕ, suc}
use native.Mathlib.Omega.{arith}
use borrow.Author.Tests.{eq-eqb, ne_eqb}
use Rattle.image.specs.Word.{word}
use Rattle.image.specs.Tree.{Label, Tree, label_at}
use Rattle.image.specs.Links.{Parsed, good, bad, outcome, parse}
use Rattle.std.specs.Prelude.{Result, Ok, Err}
use Rattle.image.specs.declared.links.BadLink.{BadLink}
use Rattle.image.proofs.Reading.{Says, was_bad}
use Rattle.acceptance.specs.Check.{tree, broken, rooted, linked}

-- what was read is a forest that ends before record j
module _ (l : Label) (n next j : ℕ) where
  next_met : (p : Parsed) → outcome p ≡ Ok j → (next ≡ 0 → ⊥) → rooted l n next p ≡ broken 0
  next_met (bad r) e h = let z : ◌≡◌ {A = ℕ} 0 1 = cc in absurd (omega arith)
  next_met (good f i) e h = rw (ne_eqb next 0 h)

  records_left : (p : Parsed) → outcome p ≡ Ok j → next ≡ 0 → (j ≡ n → ⊥) → rooted l n next p ≡ broken j
  records_left (bad r) e h k = let z : ◌≡◌ {A = ℕ} 0 1 = cc in absurd (omega arith)
  records_left (good f i) e h k = let q : i ≡ j = cc in rw (q, eq-eqb next 0 h, ne_eqb j n k)

  all_read : (p : Parsed) → outcome p ≡ Ok j → next ≡ 0 → j ≡ n → (t : Tree) × (rooted l n next p ≡ tree t)
  all_read (bad r) e h k = let z : ◌≡◌ {A = ℕ} 0 1 = cc in absurd (omega arith)
  all_read (good f i) e h k = let q : i ≡ j = cc in (record { label = l; below = f }, rw (q, eq-eqb next 0 h, eq-eqb j n k))

-- what the call for the root's children says, `first` being its first link
module _ (s : List ℕ) (n : ℕ) {r : Result ℕ BadLink} (first : ℕ) (f : first ≡ word s 24) (h : Says r s n 1 first 0) where
  abbrev children : Parsed
  children = parse (suc n) s n 1 (word s 24) 0

  says : r ≡ outcome children
  says = rw f at (h (suc n) (omega arith))

  pub broken_below : {bad : BadLink} → r ≡ Err bad → linked s n ≡ broken bad.0
  unfolding linked
  broken_below {bad} e = rw (was_bad children bad (sym says ∙ e))

  pub broken_next : {j next : ℕ} → next ≡ word s 28 → r ≡ Ok j → (next ≡ 0 → ⊥) → linked s n ≡ broken 0
  unfolding linked
  broken_next {j} {next} x e z = rw (← x) (next_met (label_at s) n next j children (sym says ∙ e) z)

  pub broken_left : {j next : ℕ} → next ≡ word s 28 → r ≡ Ok j → next ≡ 0 → (j ≡ n → ⊥) → linked s n ≡ broken j
  unfolding linked
  broken_left {j} {next} x e z k = rw (← x) (records_left (label_at s) n next j children (sym says ∙ e) z k)

  pub one_tree : {j next : ℕ} → next ≡ word s 28 → r ≡ Ok j → next ≡ 0 → j ≡ n → (t : Tree) × (linked s n ≡ tree t)
  unfolding linked
  one_tree {j} {next} x e z k = rw (← x) (all_read (label_at s) n next j children (sym says ∙ e) z k)
