-- The image of a well-formed plan is accepted.
-- Assumes nothing.
use Prim.Native.Nat.{ℕ, zero, suc, ◌+◌, ◌*◌, ◌-◌, ◌/◌, ◌%◌, ◌≤◌, ◌<◌}
use native.Mathlib.Omega.{arith}
use mathlib.Core.Path.{◌≡◌, refl, sym, ap, subst, ◌∙◌}
use mathlib.Core.Logic.{◌↔◌}
use mathlib.Core.Bool.{Bool, true, false, cond, false≢true}
use mathlib.Core.List.{List, [], ◌++◌, append-nil}
use lib.Dec.{eqb}
use lib.ListN.{length, drop, length-append}
use lib.Seq.{drop-drop}
use borrow.Author.Tests.{le-leb, eq-eqb, ne_eqb}
use Rattle.image.specs.Word.{word, Bytes}
use Rattle.image.specs.Tree.{Label, Forest, none, node, Tree, size, link, label_at, Stands, Fits32, Small}
use Rattle.image.specs.Flat.{size_t, enc_any, enc}
use Rattle.image.proofs.Writing.{bytes_of_length}
use Rattle.image.specs.Links.{good, parse}
use Rattle.image.proofs.Reading.{p_none, p_node}
use Rattle.image.proofs.RoundTrip.{stands_enc, enc_length}
use Rattle.image.specs.Limits.{max_records}
use Rattle.plan.specs.Lists.{◌&◌}
use Rattle.plan.specs.Kinds as K
use Rattle.plan.specs.Kinds.{What, expr, plan, part, unknown, what}
use Rattle.plan.specs.Words.{row_e, row_p, row_q, any_word, unused, words_ok, Worded}
use Rattle.std.specs.Prelude.{None}
use Rattle.image.specs.Lowest.{or_else, unless, alone}
use Rattle.acceptance.specs.Check.{buffer_ok, bad_words, Links, tree, linked, verdict, at, check_plan, check_tree, check}
use Rattle.plan.specs.Syntax.{Plan}
use Rattle.acceptance.specs.Accepted.{WellFormed, Accepted}
use Rattle.plan.specs.Trees.{plan_tree}
use Rattle.plan.specs.Read.{plan_at}
use Rattle.plan.proofs.Written.{plan_at_back}
use Rattle.plan.proofs.Rebuilt.{Bounds, bounds, words_at, kind_e, kind_p, kind_w}
use Rattle.acceptance.proofs.Accept.{accepted}
use Rattle.image.proofs.Standing.{word_drop}
use Rattle.image.proofs.Lowest.{or_assoc}

-- ---- what stands is read

pub complete : (f : Forest) (k n i : ℕ) (s : List ℕ) (link' owner : ℕ) → 0 < i → i + size f ≤ n → size f < k → link' ≡ link i f
    → Stands f (drop (32 * i) s) i → parse k s n i link' owner ≡ good f (i + size f)
complete none k n i s link' owner pos fits fuel e h = let z : i + 0 ≡ i = omega arith in rw (p_none s n i link' owner k (omega arith) e, z)
complete (node l cs ns) k n i s link' owner pos fits fuel e h =
    let a : 32 * i + 32 ≡ 32 * (i + 1) = omega arith in
    let b : 32 * i + 32 * suc (size cs) ≡ 32 * (i + 1 + size cs) = omega arith in
    let z : i + 1 + size cs + size ns ≡ i + suc (size cs + size ns) = omega arith in
    let below : Stands cs (drop (32 * (i + 1)) s) (i + 1) = rw (drop-drop, a) at h.below in
    let after : Stands ns (drop (32 * (i + 1 + size cs)) s) (i + 1 + size cs) = rw (drop-drop, b) at h.after in
    let first : word s (32 * i + 24) ≡ link (i + 1) cs = sym (word_drop s (32 * i) 24) ∙ h.head.first in
    let next : word s (32 * i + 28) ≡ link (i + 1 + size cs) ns = sym (word_drop s (32 * i) 28) ∙ h.next in
    rw (
      p_node s n i link' owner k (omega arith) (λ q. omega arith) e (omega arith),
      complete cs (k - 1) n (i + 1) s (word s (32 * i + 24)) i (omega arith) (omega arith) (omega arith) first below,
      complete ns (k - 1) n (i + 1 + size cs) s (word s (32 * i + 28)) i (omega arith) (omega arith) (omega arith) next after,
      h.head.label,
      z,
    )

linked_complete : (t : Tree) (s : List ℕ) → Stands (alone t) s 0 → linked s (size_t t) ≡ tree t
unfolding linked
linked_complete t s h =
    let n = size_t t in
    let z : 1 + size t.below ≡ n = omega arith in
    rw (
      complete t.below (suc n) n 1 s (word s 24) 0 (omega arith) (omega arith) (omega arith) h.head.first
          h.below,
      z,
      eq-eqb n n refl,
      h.next,
      h.head.label,
    )

-- ---- words

words_append : (a b : ℕ) (s : List ℕ) (c : ℕ) → bad_words (a + b) s c ≡ or_else (bad_words a s c) (bad_words b (drop (32 * a) s) (c + a))
unfolding bad_words or_else
words_append zero b s c = let z : 0 + b ≡ b = omega arith in let y : c + 0 ≡ c = omega arith in rw (z, y)
words_append (suc a) b s c =
    let z : suc a + b ≡ suc (a + b) = omega arith in
    let y : c + 1 + a ≡ c + suc a = omega arith in
    let x : 32 + 32 * a ≡ 32 * suc a = omega arith in
    rw (z, words_append a b (drop 32 s) (c + 1), drop-drop, x, y)
    (sym (or_assoc (unless (words_ok (label_at s)) c) (bad_words a (drop 32 s) (c + 1)) (bad_words b (drop (32 * suc a) s) (c + suc a))))

words_complete : (f : Forest) (s : List ℕ) (b c : ℕ) → Worded f → Stands f s b → bad_words (size f) s c ≡ None
unfolding bad_words or_else unless
words_complete none s b c w h = refl
words_complete (node l cs ns) s b c w h =
    let x : 32 + 32 * size cs ≡ 32 * suc (size cs) = omega arith in
    rw (
      h.head.label,
      w.0,
      words_append (size cs) (size ns) (drop 32 s) (c + 1),
      drop-drop,
      x,
      words_complete cs (drop 32 s) (b + 1) (c + 1) w.1 h.below,
      words_complete ns (drop (32 * suc (size cs)) s) (b + 1 + size cs) (c + 1 + size cs) w.2 h.after,
    )

-- words in their ranges have 32 bits
small_e : (k : K.ExprKind) (l : Label) → l.kind ≡ K.number_e k → Bounds (row_e k) l → Fits32 l
small_e K.Column l e b = omega arith
small_e K.Integer l e b = omega arith
small_e K.Boolean l e b = omega arith
small_e K.Null l e b = omega arith
small_e K.Binary l e b = omega arith
small_e K.Not l e b = omega arith
small_e K.Test l e b = omega arith
small_e K.Between l e b = omega arith
small_e K.InList l e b = omega arith
small_e K.Function l e b = omega arith

sort_high : (p lo : ℕ) → lo ≤ (cond (eqb p 1) any_word unused).high → lo < 4294967296
sort_high p lo h = go (eqb p 1) h
  where
    go : (b : Bool) → lo ≤ (cond b any_word unused).high → lo < 4294967296
    go true h = omega arith
    go false h = omega arith

small_p : (k : K.PlanKind) (l : Label) → l.kind ≡ K.number_p k → Bounds (row_p k l.p) l → Fits32 l
small_p K.TableScan l e b = omega arith
small_p K.Filter l e b = omega arith
small_p K.Projection l e b = omega arith
small_p K.Join l e b = omega arith
small_p K.SubqueryAlias l e b = omega arith
small_p K.Union l e b = omega arith
small_p K.Distinct l e b = omega arith
small_p K.Sort l e b = let h = sort_high l.p l.lo b.lo₁ in omega arith
small_p K.Repartition l e b = omega arith
small_p K.Limit l e b = omega arith
small_p K.Aggregate l e b = omega arith
small_p K.Window l e b = omega arith

small_q : (k : K.PartKind) (l : Label) → l.kind ≡ K.number_q k → Bounds (row_q k) l → Fits32 l
small_q K.FieldPart l e b = omega arith
small_q K.EntryPart l e b = omega arith
small_q K.PairPart l e b = omega arith
small_q K.KeyPart l e b = omega arith
small_q K.AggPart l e b = omega arith
small_q K.WinPart l e b = omega arith

small_label : (l : Label) → words_ok l ≡ true → Fits32 l
small_label l h = go (what l) refl
  where
    go : (w : What) → what l ≡ w → Fits32 l
    go (expr k) e = small_e k l (kind_e l k e) (bounds (row_e k) l (words_at l (expr k) e h))
    go (plan k) e = small_p k l (kind_p l k e) (bounds (row_p k l.p) l (words_at l (plan k) e h))
    go (part k) e = small_q k l (kind_w l k e) (bounds (row_q k) l (words_at l (part k) e h))
    go unknown e = absurd (false≢true (words_at l unknown e h))

small : (f : Forest) → Worded f → Small f
small none w = tt
small (node l cs ns) w = (small_label l w.0, small cs w.1, small ns w.2)

-- ---- the image of a tree

enc_alone : (t : Tree) → enc_any 0 (alone t) ++ [] ≡ enc 0 t
enc_alone t = simp append-nil

pub stands_alone : (t : Tree) → Worded (alone t) → size_t t ≤ max_records → Stands (alone t) (enc 0 t) 0
stands_alone t w h = subst (λ (s : List ℕ). Stands (alone t) s 0) (enc_alone t) (stands_enc (alone t) 0 [] (small (alone t) w) (omega arith))

length_image : (t : Tree) → length (enc 0 t) ≡ 32 * size_t t
length_image t = simp (length-append, bytes_of_length) (omega (arith, enc_length 1 t.below))

buffer_ok_lem : (s : List ℕ) (n : ℕ) → length s ≡ 32 * n → 1 ≤ n → n ≤ max_records → buffer_ok s ≡ true
unfolding buffer_ok ◌&◌
buffer_ok_lem s n e h m =
    rw (ne_eqb (length s) 0 (λ q. omega arith), eq-eqb (length s % 32) 0 (omega arith), le-leb (length s / 32) max_records (omega arith))

-- of an image of a tree with good words the last four tests decide
pub check_image : (t : Tree) → Worded (alone t) → size_t t ≤ max_records → check (enc 0 t) ≡ check_tree t
unfolding check at unless
check_image t w count =
    let s = enc 0 t in
    let len = length_image t in
    let k : Stands (alone t) s 0 = stands_alone t w count in
    let n : length s / 32 ≡ size_t t = omega arith in
    let z : size (alone t) ≡ size_t t = omega arith in
    let words : bad_words (size_t t) s 0 ≡ None = rw z at (words_complete (alone t) s 0 0 w k) in
    rw (buffer_ok_lem s (size_t t) len (omega arith) count, n, words, linked_complete t s k)

-- the tests of a well-formed plan's tree find nothing
passes_all : (p : Plan) → WellFormed p → check_tree (plan_tree p) ≡ verdict 0 0
unfolding check_tree check_plan at
passes_all p w = rw (w.depth, w.form, plan_at_back p w.integers, w.names, w.types)

-- THE CONVERSE: the image of a well-formed plan is accepted
pub accepts : (s : List ℕ) (p : Plan) → Accepted s p → check s ≡ verdict 0 0
accepts s p h = rw h.image (check_image (plan_tree p) h.well.words h.well.records ∙ passes_all p h.well)

-- the links of a well-formed plan's image lead to its tree
pub same_tree : (p : Plan) → WellFormed p → linked (enc 0 (plan_tree p)) (length (enc 0 (plan_tree p)) / 32) ≡ tree (plan_tree p)
same_tree p w =
    let t = plan_tree p in
    let len = length_image t in
    let n : length (enc 0 t) / 32 ≡ size_t t = omega arith in
    ap (linked (enc 0 t)) n ∙ linked_complete t (enc 0 t) (stands_alone t w.words w.records)

-- one plan only has the image
pub unique : (s : List ℕ) (p q : Plan) → Accepted s p → Accepted s q → p ≡ q
unique s p q h k =
    let a = same_tree p h.well in
    let b = same_tree q k.well in
    let e : enc 0 (plan_tree p) ≡ enc 0 (plan_tree q) = sym h.image ∙ k.image in
    let c : ◌≡◌ {A = Links} (tree (plan_tree p)) (tree (plan_tree q)) = sym a ∙ (ap (λ (x : List ℕ). linked x (length x / 32)) e ∙ b) in
    let d : plan_tree p ≡ plan_tree q = tree_is c in
    sym (plan_at_back p h.well.integers) ∙ (ap plan_at d ∙ plan_at_back q k.well.integers)
  where
    tree_is : {t u : Tree} → ◌≡◌ {A = Links} (tree t) (tree u) → t ≡ u
    tree_is e = cc

-- s is the image of this well-formed plan and of no other
pub record One (s : List ℕ) : Type 0 where
  pub plan : Plan
  pub accepted : Accepted s plan
  pub only : (q : Plan) → Accepted s q → q ≡ plan

-- THE THEOREM: bytes are accepted if and only if they are the image of exactly one well-formed plan
pub exactly_one : (s : List ℕ) → Bytes s → (check s ≡ verdict 0 0) ↔ One s
exactly_one s bytes = (
  (λ h. let a = accepted s bytes h in record { plan = a.0; accepted = a.1; only = λ q k. unique s q a.0 k a.1 }),
  (λ o. accepts s o.plan o.accepted),
)
