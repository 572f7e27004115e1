-- Test 11 on what was written, and the answer's bytes.
--     list_back                                   the lists of a plan with another in the place of one
--     fits_over, fits_deep, fits_long, fits_all   when such a plan fits
--     flattened, answered                         it can be linked, and then its image is there
-- Assumes nothing.
use mathlib.Core.Path.{◌≡◌, refl, sym, ◌∙◌}
use mathlib.Core.Bool.{Bool, true, false}
use mathlib.Core.List.{List, ◌++◌}
use mathlib.Core.Option.{some}
use Prim.Native.Nat.{ℕ, ◌*◌, ◌≤◌, ◌<◌, max as larger}
use native.Mathlib.Omega.{arith}
use lib.Dec.{leb}
use lib.ListN.{length, take, length-append}
use lib.Seq.{take_at}
use borrow.Author.Tests.{le-leb, lt-leb, leb-true, leb-false}
use Rattle.image.specs.Limits.{max_records, max_depth, max_list, max_below}
use Rattle.image.specs.Tree.{Tree, Deep}
use Rattle.image.specs.Flat.{size_t, flat, enc}
use Rattle.image.specs.Flattened.{Flattened}
use Rattle.image.specs.Room.{cap}
use Rattle.image.proofs.Writing.{bytes_of_length}
use Rattle.image.proofs.Room.{cap_is}
use Rattle.image.proofs.RoundTrip.{enc_length}
use Rattle.plan.specs.Lists.{◌&◌}
use Rattle.plan.specs.Syntax.{Plan}
use Rattle.plan.specs.Trees.{plan_tree}
use Rattle.plan.specs.Measure.{depth_t, size_p, depth_p}
use Rattle.rewrite.specs.Limits.{list_p, list_ps, within_limits}
use Rattle.rewrite.specs.Utils.{split_conjunction, split_conjunction?}
use Rattle.rewrite.specs.RewriteAt.{Focus, focus}
use Rattle.answers.proofs.Depths.{tested_deep}
use Rattle.writing.proofs.Focused.{Way, through_filter, through_project, through_left, through_right, through_alias, through_distinct}
use Rattle.writing.proofs.Focused.{through_sort, through_repartition, through_limit, through_aggregate, through_window, Within}
use Rattle.writing.proofs.Focused.{Place, one, all, itself, below, input, first, later, focus_within}
use Rattle.answers.proofs.Splice.{Begun, counted}

-- ---- lists

-- the lists of a plan over one input: some of its own, and those of the input
record Over (f : Plan → Plan) : Type 0 where
  own : ℕ
  is : (x : Plan) → list_p (f x) ≡ larger own (list_p x)

over : {k : ℕ} {f : Plan → Plan} → Way k f → Over f
unfolding list_p
over (through_filter e) = record { own = length (split_conjunction e); is = λ x. refl }
over (through_project es) = record { own = 0; is = λ x. omega arith }
over (through_left k r on g) = record { own = larger (length (split_conjunction? g)) (list_p r); is = λ x. omega arith }
over (through_right k l on g) = record { own = larger (length (split_conjunction? g)) (list_p l); is = λ x. omega arith }
over (through_alias q) = record { own = 0; is = λ x. omega arith }
over through_distinct = record { own = 0; is = λ x. omega arith }
over (through_sort f ks) = record { own = 0; is = λ x. omega arith }
over through_repartition = record { own = 0; is = λ x. omega arith }
over (through_limit i j) = record { own = 0; is = λ x. omega arith }
over (through_aggregate gs ags) = record { own = 0; is = λ x. omega arith }
over (through_window ws) = record { own = 0; is = λ x. omega arith }

-- with another in the place of one: those of the other are among them, and there are no more than were there and those of the other
record WithinLists (old new other : ℕ) : Type 0 where
  low : other ≤ new
  high : new ≤ larger old other

abbrev Listed : Plan → Place → Type 0
Listed q (one p c) = WithinLists (list_p p) (list_p (c.back q)) (list_p q)
Listed q (all ps c) = WithinLists (list_ps ps) (list_ps (c.back q)) (list_p q)

listed : {n : ℕ} {x : Place} → Within n x → (q : Plan) → Listed q x
unfolding list_p
listed (itself p) q = record { low = omega arith; high = omega arith }
listed (below {p = p} {c} w h) q =
    let k = listed h q in
    record { low = omega (arith, (over w).is (c.back q), k.low); high = omega (arith, (over w).is (c.back q), (over w).is p, k.high) }
listed (input h) q = let k = listed h q in record { low = k.low; high = k.high }
listed (first ps h) q = let k = listed h q in record { low = omega (arith, k.low); high = omega (arith, k.high) }
listed (later p h) q = let k = listed h q in record { low = omega (arith, k.low); high = omega (arith, k.high) }

-- where the lists of the whole were within a limit, they are again exactly if those of the new plan are
pub list_back : (p : Plan) (n : ℕ) (c : Focus) → focus n p ≡ some c → (q : Plan) (most : ℕ) → list_p p ≤ most
    → leb (list_p (c.back q)) most ≡ leb (list_p q) most
list_back p n c e q most le = go (leb (list_p q) most) refl
  where
    h : WithinLists (list_p p) (list_p (c.back q)) (list_p q)
    h = listed (focus_within p n c e) q

    go : (b : Bool) → leb (list_p q) most ≡ b → leb (list_p (c.back q)) most ≡ leb (list_p q) most
    go true g = le-leb _ most (omega (arith, h.high, leb-true (list_p q) most g)) ∙ sym g
    go false g = lt-leb _ most (omega (arith, h.low, leb-false (list_p q) most g)) ∙ sym g

-- ---- whether a plan fits

and_false : (b : Bool) → (b & false) ≡ false
unfolding ◌&◌
and_false true = refl
and_false false = refl

-- too many records
pub fits_over : {out : List ℕ} {n : ℕ} (p : Plan) → Begun out n (plan_tree p) → max_records < n → within_limits p ≡ false
unfolding within_limits size_p ◌&◌ cap
fits_over {n = n} p h many = rw (lt-leb (size_t (plan_tree p)) max_records (omega (arith, h.count)))

-- too deep
pub fits_deep : (p : Plan) → leb (depth_t (plan_tree p)) max_depth ≡ false → within_limits p ≡ false
unfolding within_limits depth_p ◌&◌
fits_deep p h = rw (h, and_false (leb (size_p p) max_records))

-- too long a list
pub fits_long : (p : Plan) → leb (list_p p) max_list ≡ false → within_limits p ≡ false
unfolding within_limits
fits_long p h = rw (h, and_false (leb (depth_p p) max_depth), and_false (leb (size_p p) max_records))

-- within all limits
pub fits_all : {out : List ℕ} {n : ℕ} (p : Plan) → Begun out n (plan_tree p) → n ≤ max_records → leb (depth_t (plan_tree p)) max_depth ≡ true
    → leb (list_p p) max_list ≡ true → within_limits p ≡ true
unfolding within_limits size_p depth_p ◌&◌
fits_all {n = n} p h few deep lists = rw (deep, lists, le-leb (size_t (plan_tree p)) max_records (counted _ n h.count few))

-- ---- what was written

module _ {out : List ℕ} {n : ℕ} {t : Tree} (h : Begun out n t) (few : n ≤ max_records) where
  -- it is counted
  pub begun_count : n ≡ size_t t
  begun_count = let e = counted (size_t t) n h.count few in h.count ∙ cap_is (size_t t) (omega arith)

  -- it can be linked
  pub flattened : leb (depth_t t) max_depth ≡ true → Flattened out n
  flattened deep = record { tree = t; rest = h.rest; deep = tested_deep t deep; count = begun_count; is = h.bytes few }

  -- linked, it is the image
  pub answered : {linked : List ℕ} → leb (depth_t t) max_depth ≡ true
      → ((u : Tree) (rest : List ℕ) → Deep u.below max_below → n ≡ size_t u → out ≡ flat 1 u ++ rest → linked ≡ enc 0 u ++ rest)
      → take (32 * n) linked ≡ enc 0 t
  answered deep f =
      let l : length (enc 0 t) ≡ 32 * n = simp (length-append, bytes_of_length) (omega (arith, enc_length 1 t.below, begun_count)) in
      rw (f t h.rest (tested_deep t deep) begun_count (h.bytes few)) (take_at (enc 0 t) h.rest (32 * n) l)
