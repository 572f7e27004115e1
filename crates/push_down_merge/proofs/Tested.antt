-- Laws of test 11 on the plan after a merge.
use mathlib.Core.Path.{◌≡◌, refl, sym, ◌∙◌}
use mathlib.Core.Bool.{Bool, true, false, ◌&&◌}
use mathlib.Core.List.{List, [], ◌∷◌, ◌++◌}
use mathlib.Core.Option.{some}
use Prim.Native.Nat.{ℕ, ◌+◌, ◌*◌, ◌≤◌, ◌<◌, max as larger}
use native.Mathlib.Nat.{le-max_left, max-le}
use native.Mathlib.Omega.{arith}
use lib.Dec.{leb}
use lib.ListN.{length}
use borrow.Author.Tests.{leb-true, leb-false, le-leb, lt-leb}
use Rattle.image.specs.Limits.{max_records, max_depth, max_list, no_room}
use Rattle.image.specs.Places.{Stood}
use Rattle.image.specs.Word.{word}
use Rattle.image.specs.Flat.{flat, size_t}
use Rattle.image.specs.Tree.{Tree}
use Rattle.plan.specs.Syntax.{Name, Expr, Plan, filter}
use Rattle.plan.specs.Trees.{plan_tree}
use Rattle.plan.specs.Measure.{depth_t, size_p}
use Rattle.plan.proofs.Bools.{no_yes}
use Rattle.acceptance.specs.Accepted.{Accepted}
use Rattle.rewrite.specs.Utils.{split_conjunction, conjunction}
use Rattle.rewrite.specs.Limits.{list_p, within_limits}
use Rattle.rewrite.specs.RewriteAt.{Focus, focus}
use Rattle.conjuncts.specs.Standing.{StandingP}
use Rattle.conjuncts.specs.Items.{Lists}
use Rattle.conjuncts.proofs.Listed.{known_of, lists_length}
use Rattle.writing.specs.Pushed as W
use Rattle.answers.specs.Splicing.{Sized}
use Rattle.writing.proofs.Pushing.{pushes_of}
use Rattle.answers.proofs.Spliced.{split_at}
use Rattle.answers.proofs.Splice.{Begun, within, level_is}
use Rattle.answers.proofs.Fitting.{list_back, fits_deep, fits_long, fits_all, fits_over, begun_count}
use Rattle.push_down_base.specs.Predicates.{Predicate}
use Rattle.push_down_merge.specs.Merging.{Fitting, Made, Inside}
use Rattle.push_down_merge.proofs.Root.{lists_fit, image_short, standing_root, names_kept}
use Rattle.push_down_base.proofs.Steps.{stands_there}

-- a merged predicate is written
pub made_predicate : {s : List ℕ} {p : Predicate} {e : Expr} (σ : Name → Expr) → Made s p e → W.Predicate s σ p.written p.list e
unfolding conjunction
made_predicate {s} {p} {e} σ h =
    record { item = λ n i. let z = sym h.anew ∙ i in cc; list = λ z. go (split_conjunction e) h.joined h.listed }
  where
    go : (es : List Expr) → conjunction es ≡ some e → Lists s p.list es → W.Joined s σ p.list e
    go [] i l = let z : ◌≡◌ {A = ℕ} 0 1 = cc in absurd (omega arith)
    go (x ∷ xs) i l = record { first = x; others = xs; pushes = pushes_of l; is = cc }

-- a plan of an accepted image
pub inside_of : (s : List ℕ) (w : Plan) → Accepted s w → {node : ℕ} {c : Focus} → focus node w ≡ some c → Inside s node w c
inside_of s w a e =
    record { short = image_short s w a; root = standing_root s w a; rules = names_kept s w a; lists = lists_fit w a.well; there = e }

-- what stands in an image stands in the same bytes elsewhere
pub elsewhere : {s t : List ℕ} {n : ℕ} {q : Plan} → t ≡ s → StandingP s n q → StandingP t n q
elsewhere e h = rw e h

module _ {s : List ℕ} {node : ℕ} {w : Plan} {c : Focus} (h : Inside s node w c) where
  -- the image is of its size
  pub few_records : size_p w ≤ max_records
  unfolding size_p
  few_records = omega (arith, h.short, h.root.here.head.room)

  pub all_records : 32 * size_p w ≤ length s
  unfolding size_p
  all_records = omega (arith, h.root.here.head.room)

  pub sized : Sized s
  unfolding size_p
  sized = record { tree = plan_tree w; at = h.root.here; deep = h.root.deep; few = few_records; short = h.short }

  -- what stands at the record
  pub stands_inside : StandingP s node c.plan
  stands_inside = stands_there h.short node w c h.there h.root

  pub stood_inside : Stood s node
  stood_inside = record { tree = plan_tree c.plan; at = stands_inside.here }

  pub end_within : node + size_p c.plan ≤ size_p w
  unfolding size_p
  end_within = omega (arith, within w node c h.there)

  pub level_small : {level : ℕ} → level ≡ word (flat 1 (plan_tree w)) (32 * node + 24) → level ≤ no_room
  level_small {level} e =
      let k = stands_inside.small in
      omega (arith, level_is w node c h.there level (omega (arith, k)) e, (split_at w node 1 c h.there).small, k)

  -- ---- the lists

  module _ {p : Predicate} {e : Expr} (m : Made s p e) where
    -- too many conjuncts
    pub too_long : (q : Plan) → max_list < p.list.len → within_limits (c.back (filter e q)) ≡ false
    unfolding list_p
    too_long q many =
        fits_long (c.back (filter e q))
        (list_back w node c h.there (filter e q) max_list h.lists
        ∙ lt-leb (larger (length (split_conjunction e)) (list_p q)) max_list (omega (arith, le-max_left (length (split_conjunction e)) (list_p q), long)))
      where
        long : max_list < length (split_conjunction e)
        long = go (leb (length (split_conjunction e)) max_list) refl
          where
            go : (b : Bool) → leb (length (split_conjunction e)) max_list ≡ b → max_list < length (split_conjunction e)
            go true t = absurd (omega (arith, (known_of m.listed (leb-true (length (split_conjunction e)) max_list t)).most))
            go false t = leb-false (length (split_conjunction e)) max_list t

    -- few enough
    pub few_lists : (q : Plan) → list_p q ≤ max_list → p.list.len ≤ max_list → leb (list_p (c.back (filter e q))) max_list ≡ true
    unfolding list_p
    few_lists q k few =
        list_back w node c h.there (filter e q) max_list h.lists
        ∙ le-leb (larger (length (split_conjunction e)) (list_p q)) max_list (max-le (omega (arith, lists_length m.listed few)) k)

-- where its records and its lists are within the limits, a plan fits exactly if its depth is
pub fits_is : {out : List ℕ} {n : ℕ} (p : Plan) → Begun out n (plan_tree p) → n ≤ max_records → leb (list_p p) max_list ≡ true
    → leb (depth_t (plan_tree p)) max_depth ≡ within_limits p
fits_is p b few lists = go (leb (depth_t (plan_tree p)) max_depth) refl
  where
    go : (d : Bool) → leb (depth_t (plan_tree p)) max_depth ≡ d → d ≡ within_limits p
    go true e = sym (fits_all p b few e lists)
    go false e = sym (fits_deep p e)

-- ---- what was written is tested

-- there was no room
pub fitting_full : {out : List ℕ} {n : ℕ} → max_records < n → Fitting false out n
fitting_full {n = n} many = record { full = λ h. refl; is = λ t rest e f. rw (lt-leb n max_records many) }

-- there was
pub fitting_is : {b : Bool} {out : List ℕ} {n : ℕ} → n ≤ max_records
    → ((t : Tree) (rest : List ℕ) → n ≡ size_t t → out ≡ flat 1 t ++ rest → b ≡ leb (depth_t t) max_depth) → Fitting b out n
fitting_is {b} {out} {n} few f = record {
  full = λ h. absurd (omega arith);
  is = λ t rest e g.
      let k : Begun out n t = record { count = e; rest = rest; bytes = g } in
      rw (le-leb n max_records few) (f t rest (begun_count k few) (g few));
}

-- where its lists are within the limit, the plan fits exactly if that says so
pub within_is : {b : Bool} {out : List ℕ} {n : ℕ} → Fitting b out n → (p : Plan) → Begun out n (plan_tree p) → leb (list_p p) max_list ≡ true
    → b ≡ within_limits p
within_is {n = n} f p g lists = f.is (plan_tree p) g.rest g.count g.bytes ∙ go (leb n max_records) refl
  where
    go : (d : Bool) → leb n max_records ≡ d → (d && leb (depth_t (plan_tree p)) max_depth) ≡ within_limits p
    go true e = fits_is p g (leb-true n max_records e) lists
    go false e = sym (fits_over p g (leb-false n max_records e))

-- what fits had room, and is not too deep
module _ {b : Bool} {out : List ℕ} {n : ℕ} (f : Fitting b out n) (e : b ≡ true) where
  pub fitting_few : n ≤ max_records
  fitting_few = go (leb n max_records) refl
    where
      go : (d : Bool) → leb n max_records ≡ d → n ≤ max_records
      go true t = leb-true n max_records t
      go false t = no_yes (sym (f.full (leb-false n max_records t)) ∙ e)

  pub fitting_deep : {t : Tree} → Begun out n t → leb (depth_t t) max_depth ≡ true
  fitting_deep {t} g = sym (rw (le-leb n max_records fitting_few) at (f.is t g.rest g.count g.bytes)) ∙ e
