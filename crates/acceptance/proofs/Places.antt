-- The record that a verdict names is one of the image's, or the one after its last.
use Prim.Native.Nat.{ℕ, zero, suc, ◌+◌, ◌*◌, ◌/◌, ◌≤◌}
use native.Mathlib.Omega.{arith}
use mathlib.Core.Path.{◌≡◌, refl, sym, subst}
use mathlib.Core.Bool.{Bool, true, false, cond}
use mathlib.Core.List.{List, [], ◌∷◌}
use lib.Dec.{eqb, leb}
use lib.ListN.{length, drop}
use borrow.Author.Tests.{leb-false}
use Rattle.image.specs.Limits.{max_records}
use Rattle.image.specs.Word.{word}
use Rattle.image.specs.Tree.{Label, Forest, none, node, Tree, size, label_at}
use Rattle.image.specs.Flat.{size_t}
use Rattle.image.specs.Links.{Parsed, good, bad, with_next, and_then, parse}
use Rattle.std.specs.Prelude.{None, Some}
use Rattle.image.specs.Lowest.{Found, or_else, unless, lowest, alone, first_false}
use Rattle.image.proofs.Reading.{cond_cases, Within, within}
use Rattle.plan.specs.Syntax.{Plan}
use Rattle.plan.specs.Types.{scans}
use Rattle.plan.specs.Trees.{plan_tree}
use Rattle.plan.specs.Read.{plan_at}
use Rattle.plan.specs.Words.{words_ok, Worded}
use Rattle.plan.specs.Form.{bad_form}
use Rattle.plan.specs.Kinds.{is_plan}
use Rattle.plan.proofs.PlanOf.{plan_tree_whole}
use Rattle.acceptance.specs.Names.{names_of, name_rules, bad_name}
use Rattle.acceptance.specs.Types.{types_of, type_rules, bad_type}
use Rattle.acceptance.specs.Check.{buffer_ok, bad_words, Links, tree, broken, rooted, linked, too_deep, Verdict, at, check_plan}
use Rattle.acceptance.specs.Check.{check_tree, check_links, check}
use Rattle.acceptance.proofs.Marks.{marks_of_length}
use Rattle.acceptance.proofs.Accept.{words_of, worded, links_count, links_stand, Buffer, buffer_of}

-- a record found is at most m
data Below (m : ℕ) : Found → Type 0 where
  nowhere : Below m None
  there : {r : ℕ} → r ≤ m → Below m (Some r)

module _ (m : ℕ) where
  below_or : {f g : Found} → Below m f → Below m g → Below m (or_else f g)
  unfolding or_else
  below_or nowhere k = k
  below_or (there h) k = there h

  below_unless : (b : Bool) (r : ℕ) → r ≤ m → Below m (unless b r)
  unfolding unless
  below_unless true r h = nowhere
  below_unless false r h = there h

  first_below : (b : ℕ) (ms : List Bool) → b + length ms ≤ suc m → Below m (first_false b ms)
  unfolding first_false
  first_below b [] h = nowhere
  first_below b (x ∷ ms) h = below_or (below_unless x b (omega arith)) (first_below (b + 1) ms (omega arith))

  lowest_below : {C : Type 0} (rule : C → Label → Forest → Bool) (hand : C → Label → Forest → C × C) (c after : C) (b : ℕ) (f : Forest)
      → b + size f ≤ suc m → Below m (lowest rule hand c after b f)
  unfolding lowest
  lowest_below rule hand c after b none h = nowhere
  lowest_below rule hand c after b (node l cs ns) h =
      below_or (below_unless (rule c l cs) b (omega arith))
      (below_or (lowest_below rule hand _ _ (b + 1) cs (omega arith)) (lowest_below rule hand after after (b + 1 + size cs) ns (omega arith)))

-- ---- links

-- the owner of a bad link is at most n
abbrev Owned : ℕ → Parsed → Type 0
Owned n (good f j) = Unit {0}
Owned n (bad r) = r ≤ n

owned_then : (n i : ℕ) (l : Label) (p : Parsed) (rest : ℕ → Parsed)
    → Owned n p → Within n i p → ((j : ℕ) → j ≤ n → Owned n (rest j)) → Owned n (and_then l p rest)
owned_then n i l (good cs j) rest o w k = go (rest j) (k j w.1)
  where
    go : (q : Parsed) → Owned n q → Owned n (with_next l cs q)
    go (good ns m) h = tt
    go (bad r) h = h
owned_then n i l (bad r) rest o w k = o

owned : (k : ℕ) (s : List ℕ) (n i link owner : ℕ) → i ≤ n → owner ≤ n → Owned n (parse k s n i link owner)
unfolding parse
owned zero s n i link owner h o = o
owned (suc k) s n i link owner h o =
    cond_cases (Owned n) (eqb link 0) (λ e. tt)
    (λ e. cond_cases (Owned n) (eqb link i)
    (λ e. cond_cases (Owned n) (leb n i) (λ e. o)
    (λ e. let g = leb-false n i e in
    owned_then n (i + 1) _ (parse k s n (i + 1) (word s (32 * i + 24)) i) (λ j. parse k s n j (word s (32 * i + 28)) i)
    (owned k s n (i + 1) (word s (32 * i + 24)) i (omega arith) h)
    (within k s n (i + 1) (word s (32 * i + 24)) i (omega arith))
    (λ j l. owned k s n j (word s (32 * i + 28)) i l h)))
    (λ e. o))

-- the next unread record and the owner of a bad link
rooted_within : (l : Label) (n next : ℕ) (p : Parsed) (r : ℕ) → Owned n p → Within n 1 p → rooted l n next p ≡ broken r → r ≤ n
rooted_within l n next (bad x) r o w e = let i : x ≡ r = cc in omega arith
rooted_within l n next (good cs j) r o w e = either (eqb next 0) (eqb j n) e
  where
    either : (a b : Bool) → cond a (cond b (tree (record { label = l; below = cs })) (broken j)) (broken 0) ≡ broken r → r ≤ n
    either true true e = let z : ◌≡◌ {A = ℕ} 0 1 = cc in absurd (omega arith)
    either true false e = let i : j ≡ r = cc in omega (arith, w.1)
    either false b e = let i : 0 ≡ r = cc in omega arith

broken_within : (s : List ℕ) (n r : ℕ) → 1 ≤ n → linked s n ≡ broken r → r ≤ n
unfolding linked
broken_within s n r some e =
    rooted_within (label_at s) n (word s 28) (parse (suc n) s n 1 (word s 24) 0) r
    (owned (suc n) s n 1 (word s 24) 0 some (omega arith)) (within (suc n) s n 1 (word s 24) 0 some) e

-- ---- the verdict

-- the verdict names a record that is at most m
record Names (m : ℕ) (v : Verdict) : Type 0 where
  place : v.place ≤ m

module _ (m : ℕ) where
  at_names : (k : ℕ) {f : Found} {v : Verdict} → Below m f → Names m v → Names m (at k f v)
  unfolding at
  at_names k nowhere h = h
  at_names k (there g) h = record { place = g }

  words_below : (k : ℕ) (s : List ℕ) (b : ℕ) → b + k ≤ suc m → Below m (bad_words k s b)
  unfolding bad_words
  words_below zero s b h = nowhere
  words_below (suc k) s b h =
      below_or m (below_unless m (words_ok (label_at s)) b (omega arith)) (words_below k (drop 32 s) (b + 1) (omega arith))

  -- a plan's marks are as many as its records
  plan_names : (p : Plan) → size_t (plan_tree p) ≤ suc m → Names m (check_plan p)
  unfolding check_plan bad_name bad_type
  plan_names p h =
      at_names 6 (first_below m 0 (names_of p) (omega (arith, marks_of_length name_rules p)))
      (at_names 7 (first_below m 0 (types_of (scans p) p) (omega (arith, marks_of_length (type_rules (scans p)) p)))
      (record { place = omega arith }))

  form_below : (t : Tree) → size_t t ≤ suc m → Below m (bad_form t)
  unfolding bad_form
  form_below t h = below_or m (below_unless m (is_plan t.label) 0 (omega arith)) (lowest_below m _ _ _ _ 0 (alone t) (omega arith))

  -- of the right form, the tree is its plan's
  form_names : (t : Tree) → Worded (alone t) → size_t t ≤ suc m → (f : Found) → bad_form t ≡ f → Below m f
      → Names m (at 5 f (check_plan (plan_at t)))
  unfolding at
  form_names t w h None e b = plan_names (plan_at t) (subst (λ (x : Tree). size_t x ≤ suc m) (sym (plan_tree_whole t w e)) h)
  form_names t w h (Some r) e (there g) = record { place = g }

  tree_names : (t : Tree) → Worded (alone t) → size_t t ≤ suc m → Names m (check_tree t)
  unfolding check_tree too_deep
  tree_names t w h = at_names 4 (lowest_below m _ _ 1 1 0 (alone t) (omega arith)) (form_names t w h (bad_form t) refl (form_below t h))

  rooted_names : (s : List ℕ) (n : ℕ) (k : Links) → linked s n ≡ k → 32 * n ≤ length s → 1 ≤ n → n ≤ m → bad_words n s 0 ≡ None
      → Names m (check_links k)
  rooted_names s n (tree t) e len some most words =
      tree_names t (worded (alone t) s 0 (λ i j. words_of n s 0 words i (omega (arith, links_count s n t len some e))) (links_stand s n t len some e))
      (omega (arith, links_count s n t len some e))
  rooted_names s n (broken r) e len some most words = record { place = omega (arith, broken_within s n r some e) }

  image_names : (s : List ℕ) → (b : Bool) → buffer_ok s ≡ b → max_records ≤ m
      → Names m (at 1 (unless b 0) (at 2 (bad_words (length s / 32) s 0) (check_links (linked s (length s / 32)))))
  unfolding at unless
  image_names s false e h = record { place = omega arith }
  image_names s true e h = words_first (bad_words n s 0) refl (words_below n s 0 (omega (arith, b.most)))
    where
      n : ℕ
      n = length s / 32

      b : Buffer s
      b = buffer_of s e

      words_first : (f : Found) → bad_words n s 0 ≡ f → Below m f → Names m (at 2 f (check_links (linked s n)))
      words_first None w k = rooted_names s n (linked s n) refl (omega (arith, b.len)) b.one (omega (arith, b.most)) w
      words_first (Some r) w (there g) = record { place = g }

-- the record of a verdict is at most the number of records of the largest image
pub place_within : (s : List ℕ) → (check s).place ≤ max_records
unfolding check
place_within s = (image_names max_records s (buffer_ok s) refl (omega arith)).place
