-- How deep a plan is with another in the place of one.
--     level_of, level_at    how deep the plan at a record stands
--     Among, decided        a measure of the whole, with another plan in the place of one: when it is within a limit
--     deepened              the other is as deep as it stands, and the rest is as deep as it was
--     depth_back            when such a plan is within a depth
-- Assumes nothing.
use mathlib.Core.Path.{◌≡◌, refl, sym, ◌∙◌}
use mathlib.Core.Bool.{Bool, true, false}
use mathlib.Core.List.{List, [], ◌∷◌}
use mathlib.Core.Option.{some}
use Prim.Native.Nat.{ℕ, suc, ◌+◌, ◌≤◌, max as larger}
use native.Mathlib.Omega.{arith}
use lib.Dec.{leb, leb-suc-suc}
use borrow.Author.Tests.{le-leb, lt-leb, leb-true, leb-false}
use Rattle.image.specs.Tree.{Label, Forest, none, node}
use Rattle.plan.specs.Syntax.{Plan}
use Rattle.plan.specs.Trees.{expr_tree, each, entry_label, entry_kids, pair_label, pair_kids, key_label, key_kids, agg_label, agg_kids}
use Rattle.plan.specs.Trees.{win_label, win_kids, filter_kids, label_p, kids_p, forest_p}
use Rattle.plan.specs.Measure.{depth, depth_t, depth_p}
use Rattle.rewrite.specs.RewriteAt.{Focus, focus}
use Rattle.writing.proofs.Focused.{Way, through_filter, through_project, through_left, through_right, through_alias, through_distinct}
use Rattle.writing.proofs.Focused.{through_sort, through_repartition, through_limit, through_aggregate, through_window, Within}
use Rattle.writing.proofs.Focused.{Place, one, all, itself, below, input, first, later, focus_within}

-- ---- how deep the plan at a record stands

-- its level, where the whole is at d
unfoldable pub level_of : {n : ℕ} {x : Place} → Within n x → ℕ → ℕ
level_of (itself p) d = d
level_of (below w h) d = level_of h (d + 1)
level_of (input h) d = level_of h (d + 1)
level_of (first ps h) d = level_of h d
level_of (later p h) d = level_of h d

-- the level of the plan at a record
abbrev pub level_at : (p : Plan) (n : ℕ) (c : Focus) → focus n p ≡ some c → ℕ → ℕ
level_at p n c e d = level_of (focus_within p n c e) d

-- ---- a measure

-- with another in the place of one: the other's measure is reached, and none but what was there and the other's
pub record Among (old new other : ℕ) : Type 0 where
  pub low : other ≤ new
  pub high : new ≤ larger old other

-- where the old measure was within a limit, the new one is exactly if the other's is
pub decided : {old new other : ℕ} → Among old new other → (most : ℕ) → old ≤ most → leb new most ≡ leb other most
decided {new = new} {other} h most le = go (leb other most) refl
  where
    go : (b : Bool) → leb other most ≡ b → leb new most ≡ leb other most
    go true g = le-leb new most (omega (arith, h.high, leb-true other most g)) ∙ sym g
    go false g = lt-leb new most (omega (arith, h.low, leb-false other most g)) ∙ sym g

-- ---- the depth

-- a plan over one input: as deep as its own parts, or one deeper than the input
record Above (f : Plan → Plan) : Type 0 where
  own : ℕ
  is : (x : Plan) → depth_p (f x) ≡ larger own (suc (depth_p x))

-- a run of parts in front of others
depth_parts : {A : Type 0} (l : A → Label) (k : A → Forest) (xs : List A) (ns : Forest)
    → depth (each l k xs ns) ≡ larger (depth (each l k xs none)) (depth ns)
unfolding each depth
depth_parts l k [] ns = omega arith
depth_parts l k (x ∷ xs) ns = omega (arith, depth_parts l k xs ns)

-- the parts of a plan are one run
above_run : {A : Type 0} (l : A → Label) (k : A → Forest) (xs : List A) (f : Plan → Plan)
    → ((x : Plan) → kids_p (f x) ≡ each l k xs (node (label_p x) (kids_p x) none)) → Above f
unfolding depth depth_p
above_run l k xs f g =
    record { own = suc (depth (each l k xs none)); is = λ x. rw (g x) (omega (arith, depth_parts l k xs (node (label_p x) (kids_p x) none))) }

-- each way goes one deeper
above : {k : ℕ} {f : Plan → Plan} → Way k f → Above f
unfolding depth depth_p kids_p
above (through_filter e) = record { own = suc (depth_t (expr_tree e)); is = λ x. omega arith }
above (through_project es) = above_run entry_label entry_kids es _ (λ x. refl)
above (through_left k r on g) =
    record { own = suc (depth (node (label_p r) (kids_p r) (each pair_label pair_kids on (filter_kids g)))); is = λ x. omega arith }
above (through_right k l on g) =
    record { own = suc (larger (depth_p l) (depth (each pair_label pair_kids on (filter_kids g)))); is = λ x. omega arith }
above (through_alias q) = record { own = 0; is = λ x. omega arith }
above through_distinct = record { own = 0; is = λ x. omega arith }
above (through_sort f ks) = above_run key_label key_kids ks _ (λ x. refl)
above through_repartition = record { own = 0; is = λ x. omega arith }
above (through_limit i j) = record { own = 0; is = λ x. omega arith }
above (through_aggregate gs ags) =
    record {
      own = suc (larger (depth (each entry_label entry_kids gs none)) (depth (each agg_label agg_kids ags none)));
      is = λ x. omega (
        arith,
        depth_parts entry_label entry_kids gs (each agg_label agg_kids ags (node (label_p x) (kids_p x) none)),
        depth_parts agg_label agg_kids ags (node (label_p x) (kids_p x) none),
      );
    }
above (through_window ws) = above_run win_label win_kids ws _ (λ x. refl)

-- what is said of a place, where the whole is at depth d
abbrev Deepened : ℕ → ℕ → Plan → Place → Type 0
Deepened level d q (one p c) = Among (d + depth_p p) (d + depth_p (c.back q)) (level + depth_p q)
Deepened level d q (all ps c) = Among (d + depth (forest_p ps)) (d + depth (forest_p (c.back q))) (level + depth_p q)

deep : {n : ℕ} {x : Place} (h : Within n x) (d : ℕ) (q : Plan) → Deepened (level_of h d) d q x
unfolding level_of depth depth_p kids_p
deep (itself p) d q = record { low = omega arith; high = omega arith }
deep (below {p = p} {c} w h) d q =
    let k = deep h (d + 1) q in
    record { low = omega (arith, (above w).is (c.back q), k.low); high = omega (arith, (above w).is (c.back q), (above w).is p, k.high) }
deep (input h) d q = let k = deep h (d + 1) q in record { low = omega (arith, k.low); high = omega (arith, k.high) }
deep (first ps h) d q = let k = deep h d q in record { low = omega (arith, k.low); high = omega (arith, k.high) }
deep (later p h) d q = let k = deep h d q in record { low = omega (arith, k.low); high = omega (arith, k.high) }

module _ (p : Plan) (n : ℕ) (c : Focus) (e : focus n p ≡ some c) (q : Plan) where
  -- the plan stands at some level, and so does the other
  pub deepened : Among (suc (depth_p p)) (suc (depth_p (c.back q))) (level_at p n c e 1 + depth_p q)
  deepened = let k = deep (focus_within p n c e) 1 q in record { low = omega (arith, k.low); high = omega (arith, k.high) }

  -- where the whole was within a depth, it is again exactly if the new plan is where it stands
  pub depth_back : (most : ℕ) → depth_p p ≤ most → leb (depth_p (c.back q)) most ≡ leb (level_at p n c e 1 + depth_p q) (suc most)
  depth_back most le = sym (leb-suc-suc (depth_p (c.back q)) most) ∙ decided deepened (suc most) (omega arith)
