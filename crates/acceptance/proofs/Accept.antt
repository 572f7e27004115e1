-- What an accepted image is: the image of a plan.
-- Assumes nothing.
use Prim.Native.Nat.{ℕ, zero, suc, ◌+◌, ◌*◌, ◌/◌, ◌%◌, ◌≤◌, ◌<◌}
use native.Mathlib.Omega.{arith}
use mathlib.Core.Path.{◌≡◌, refl, sym, ap, subst, ◌∙◌}
use mathlib.Core.Bool.{Bool, true, false, cond}
use mathlib.Core.List.{List, [], ◌++◌, append-nil}
use lib.Dec.{eqb}
use lib.ListN.{length, drop, drop_of_length-le}
use lib.Seq.{drop-drop}
use borrow.Author.Tests.{leb-true, eqb-true, eqb-false, not-true}
use Rattle.image.proofs.Lowest.{or_first, or_second, unless_true}
use Rattle.image.proofs.RoundTrip.{stands_bytes}
use Rattle.plan.proofs.PlanOf.{plan_tree_whole}
use Rattle.image.specs.Word.{word, Bytes}
use Rattle.image.specs.Tree.{Label, Forest, none, node, Tree, size, label_at, Stands}
use Rattle.image.specs.Flat.{size_t, enc_any, enc}
use Rattle.image.specs.Links.{Parsed, good, bad, parse}
use Rattle.image.proofs.Standing.{Read, Reads, reads}
use Rattle.image.specs.Limits.{max_records}
use Rattle.plan.proofs.Lists.{and_l, and_r}
use Rattle.plan.specs.Words.{words_ok, Worded}
use Rattle.plan.specs.Form.{bad_form}
use Rattle.std.specs.Prelude.{None, Some}
use Rattle.image.specs.Lowest.{Found, alone}
use Rattle.acceptance.specs.Check.{buffer_ok, bad_words, Links, tree, broken, rooted, linked, too_deep, Verdict, verdict, at, check_plan}
use Rattle.acceptance.specs.Check.{check_tree, check_links, check}
use Rattle.acceptance.specs.Names.{bad_name}
use Rattle.acceptance.specs.Types.{bad_type}
use Rattle.plan.specs.Syntax.{Plan}
use Rattle.acceptance.specs.Accepted.{Accepted}
use Rattle.plan.specs.Trees.{plan_tree}
use Rattle.plan.specs.Read.{plan_at}
use Rattle.plan.proofs.Integers.{plan_at_fits}

-- ---- the verdict

at_found : (n : ℕ) (f : Found) (v : Verdict) → 0 < n → at n f v ≡ verdict 0 0 → f ≡ None
unfolding at
at_found n None v h e = refl
at_found n (Some r) v h e = absurd (omega (arith, ap (λ (x : Verdict). x.number) e))

at_rest : (n : ℕ) (f : Found) (v : Verdict) → 0 < n → at n f v ≡ verdict 0 0 → v ≡ verdict 0 0
unfolding at
at_rest n None v h e = e
at_rest n (Some r) v h e = absurd (omega (arith, ap (λ (x : Verdict). x.number) e))

-- the four tests of a tree find nothing
record Clean (t : Tree) : Type 0 where
  depth : too_deep t ≡ None
  form : bad_form t ≡ None
  names : bad_name (plan_at t) ≡ None
  types : bad_type (plan_at t) ≡ None

clean : (t : Tree) → check_tree t ≡ verdict 0 0 → Clean t
unfolding check_tree check_plan
clean t h =
    let h₅ = at_rest 4 (too_deep t) _ (omega arith) h in
    let h₆ = at_rest 5 (bad_form t) _ (omega arith) h₅ in
    let h₇ = at_rest 6 (bad_name (plan_at t)) _ (omega arith) h₆ in
    record {
      depth = at_found 4 (too_deep t) _ (omega arith) h;
      form = at_found 5 (bad_form t) _ (omega arith) h₅;
      names = at_found 6 (bad_name (plan_at t)) _ (omega arith) h₆;
      types = at_found 7 (bad_type (plan_at t)) _ (omega arith) h₇;
    }

pub links_tree : (k : Links) → check_links k ≡ verdict 0 0 → (t : Tree) × (k ≡ tree t) × (check_tree t ≡ verdict 0 0)
links_tree (broken r) h = absurd (omega (arith, ap (λ (x : Verdict). x.number) h))
links_tree (tree t) h = (t, refl, h)

-- what the links of an accepted image say
record Rooted (l : Label) (n next : ℕ) (p : Parsed) (t : Tree) : Type 0 where
  cs : Forest
  read : p ≡ good cs n
  last : next ≡ 0
  is : record { label = l; below = cs } ≡ t

rooted_tree : (l : Label) (n next : ℕ) (p : Parsed) (t : Tree) → rooted l n next p ≡ tree t → Rooted l n next p t
rooted_tree l n next (bad r) t h = let z : ◌≡◌ {A = ℕ} 0 1 = cc in absurd (omega arith)
rooted_tree l n next (good cs j) t h = go (eqb next 0) refl (eqb j n) refl h
  where
    go : (a : Bool) → eqb next 0 ≡ a → (b : Bool) → eqb j n ≡ b
        → cond a (cond b (tree (record { label = l; below = cs })) (broken j)) (broken 0) ≡ tree t → Rooted l n next (good cs j) t
    go true e true g q = record { cs = cs; read = ap (good cs) (eqb-true j n g); last = eqb-true next 0 e; is = cc }
    go true e false g q = let z : ◌≡◌ {A = ℕ} 0 1 = cc in absurd (omega arith)
    go false e b g q = let z : ◌≡◌ {A = ℕ} 0 1 = cc in absurd (omega arith)

-- ---- words

-- each of the k records at the start of s has the words of its kind
pub words_of : (k : ℕ) (s : List ℕ) (b : ℕ) → bad_words k s b ≡ None → (i : ℕ) → i < k → words_ok (label_at (drop (32 * i) s)) ≡ true
unfolding bad_words
words_of zero s b h i l = absurd (omega arith)
words_of (suc k) s b h zero l = unless_true _ b (or_first _ _ h)
words_of (suc k) s b h (suc i) l =
    let e : 32 + 32 * i ≡ 32 * suc i = omega arith in
    rw (drop-drop, e) at (words_of k (drop 32 s) (b + 1) (or_second _ _ h) i (omega arith))

pub worded : (f : Forest) (s : List ℕ) (b : ℕ) → ((i : ℕ) → i < size f → words_ok (label_at (drop (32 * i) s)) ≡ true) → Stands f s b → Worded f
worded none s b h k = tt
worded (node l cs ns) s b h k = (
  rw k.head.label at (h 0 (omega arith)),
  worded cs (drop 32 s) (b + 1) (λ i j. let e : 32 + 32 * i ≡ 32 * suc i = omega arith in rw (drop-drop, e) (h (suc i) (omega arith))) k.below,
  worded ns (drop (32 * suc (size cs)) s) (b + 1 + size cs)
      (λ i j. let e : 32 * suc (size cs) + 32 * i ≡ 32 * (suc (size cs) + i) = omega arith in rw (drop-drop, e)
      (h (suc (size cs) + i) (omega arith))) k.after,
)

-- ---- from acceptance to a plan

module _ (s : List ℕ) (n : ℕ) (t : Tree) (len : 32 * n ≤ length s) (some-records : 1 ≤ n) (h : linked s n ≡ tree t) where
  root_read : Rooted (label_at s) n (word s 28) (parse (suc n) s n 1 (word s 24) 0) t
  unfolding linked
  root_read = rooted_tree (label_at s) n (word s 28) (parse (suc n) s n 1 (word s 24) 0) t h

  children_read : Read s n 1 (word s 24) root_read.cs n
  children_read = subst (Reads s n 1 (word s 24)) root_read.read (reads (suc n) s n 1 (word s 24) 0 (omega arith) some-records)

  -- the records of the tree are the records of the image
  pub links_count : n ≡ size_t t
  links_count = children_read.next ∙ (omega (arith, ap (λ (x : Tree). size x.below) root_read.is))

  pub links_stand : Stands (alone t) s 0
  links_stand =
      subst (λ (x : Tree). Stands (alone x) s 0) root_read.is
      (record {
        head = record { label = refl; first = children_read.linked; room = omega (arith, children_read.next) };
        below = children_read.stands;
        next = root_read.last;
        after = tt;
      })

-- the image of a tree is what stands there
whole_image : (t : Tree) (s : List ℕ) → Bytes s → length s ≡ 32 * size_t t → Stands (alone t) s 0 → s ≡ enc 0 t
whole_image t s h len k =
    let e : s ≡ enc_any 0 (alone t) ++ drop (32 * size (alone t)) s = stands_bytes (alone t) s 0 h (omega arith) k in
    let d : drop (32 * size (alone t)) s ≡ [] = drop_of_length-le s {i = 32 * size (alone t)} (omega arith) in
    simp (append-nil) at (rw d at e)

pub record Buffer (s : List ℕ) : Type 0 where
  pub len : length s ≡ 32 * (length s / 32)
  pub one : 1 ≤ length s / 32
  pub most : length s / 32 ≤ max_records

pub buffer_of : (s : List ℕ) → buffer_ok s ≡ true → Buffer s
unfolding buffer_ok
buffer_of s h =
    let a = eqb-false (length s) 0 (not-true _ (and_l _ _ h)) in
    let b = eqb-true (length s % 32) 0 (and_l _ _ (and_r _ _ h)) in
    let c = leb-true (length s / 32) max_records (and_r _ _ (and_r _ _ h)) in
    record { len = omega arith; one = omega (arith, a); most = c }

accepted_tree : (s : List ℕ) → Bytes s → Buffer s → bad_words (length s / 32) s 0 ≡ None → (t : Tree) → linked s (length s / 32) ≡ tree t
    → Clean t → (p : Plan) × Accepted s p
accepted_tree s bytes b words t l c =
    let n = length s / 32 in
    let e : n ≡ size_t t = links_count s n t (omega (arith, b.len)) b.one l in
    let k = links_stand s n t (omega (arith, b.len)) b.one l in
    let w : Worded (alone t) = worded (alone t) s 0 (λ i j. words_of n s 0 words i (omega arith)) k in
    let q : plan_tree (plan_at t) ≡ t = plan_tree_whole t w c.form in (
      plan_at t,
      record {
        image = subst (λ (x : Tree). s ≡ enc 0 x) (sym q) (whole_image t s bytes (omega (arith, b.len)) k);
        well = record {
          records = subst (λ (x : Tree). size_t x ≤ max_records) (sym q) (omega (arith, b.most));
          words = subst (λ (x : Tree). Worded (alone x)) (sym q) w;
          depth = subst (λ (x : Tree). too_deep x ≡ None) (sym q) c.depth;
          form = subst (λ (x : Tree). bad_form x ≡ None) (sym q) c.form;
          names = c.names;
          types = c.types;
          integers = plan_at_fits t w;
        };
      },
    )

-- THE THEOREM: an accepted image is the image of a well-formed plan
pub accepted : (s : List ℕ) → Bytes s → check s ≡ verdict 0 0 → (p : Plan) × Accepted s p
unfolding check
accepted s bytes h =
    let h₂ = at_rest 1 _ _ (omega arith) h in
    let buffer = buffer_of s (unless_true (buffer_ok s) 0 (at_found 1 _ _ (omega arith) h)) in
    let k = links_tree _ (at_rest 2 _ _ (omega arith) h₂) in
    accepted_tree s bytes buffer (at_found 2 _ _ (omega arith) h₂) k.0 k.1 (clean k.0 k.2)
