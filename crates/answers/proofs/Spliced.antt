-- A plan with another in the place of one of its plans, on flat bytes: what stands before it and behind it stays.
--     split_at    where the plan at a record stands, and that another in its place leaves the rest as it is
-- Assumes nothing.
use mathlib.Core.Path.{◌≡◌, refl, sym, ap, ◌∙◌}
use mathlib.Core.List.{List, [], ◌∷◌, ◌++◌, append_assoc, append-nil}
use mathlib.Core.Option.{Option, some}
use Prim.Native.Nat.{ℕ, suc, ◌+◌, ◌*◌, ◌≤◌}
use native.Mathlib.Omega.{arith}
use lib.ListN.{length, length-append}
use Rattle.image.specs.Tree.{Label, Forest, none, node}
use Rattle.image.specs.Flat.{bytes_of, flat_any, flat}
use Rattle.image.proofs.Writing.{bytes_of_length, flat_any_length, flat_length}
use Rattle.plan.specs.Syntax.{Expr, Entry, Pair, AggEntry, Kind, Plan, filter, project, join, alias, union, distinct}
use Rattle.plan.specs.Syntax.{sort, repartition, limit, aggregate, window, Plans, pcons}
use Rattle.plan.specs.Trees.{expr_tree, each, entry_label, entry_kids, pair_label, pair_kids, key_label, key_kids, agg_label}
use Rattle.plan.specs.Trees.{agg_kids, win_label, win_kids, filter_kids, label_p, kids_p, forest_p, plan_tree}
use Rattle.plan.specs.Measure.{size_e, size_p, sizes}
use Rattle.plan.proofs.Measure.{size_each}
use Rattle.rewrite.specs.RewriteAt.{Focus, focus}
use Rattle.writing.proofs.Focused.{Way, through_filter, through_project, through_left, through_right, through_alias, through_distinct}
use Rattle.writing.proofs.Focused.{through_sort, through_repartition, through_limit, through_aggregate, through_window, Within}
use Rattle.writing.proofs.Focused.{Place, one, all, itself, below, input, first, later, focus_within}

-- ---- what stands before a plan, how deep it is, and what stands behind it

pub record Split (d n : ℕ) (whole : List ℕ) (old : Plan) (new : Plan → List ℕ) : Type 0 where
  pub level : ℕ
  pub before : List ℕ
  pub after : List ℕ
  pub small : level ≤ d + n
  pub count : length before ≡ 32 * n
  pub is : whole ≡ before ++ (flat level (plan_tree old) ++ after)
  pub again : (q : Plan) → new q ≡ before ++ (flat level (plan_tree q) ++ after)

-- more before it and behind it
framed : {d e n m : ℕ} {w w' : List ℕ} {old : Plan} {new new' : Plan → List ℕ} (k : ℕ) (pre post : List ℕ) → length pre ≡ 32 * k → n ≡ k + m
    → e ≤ d + k
    → w' ≡ pre ++ (w ++ post) → ((q : Plan) → new' q ≡ pre ++ (new q ++ post)) → Split e m w old new → Split d n w' old new'
framed k pre post count e deep f g h =
    record {
      level = h.level;
      before = pre ++ h.before;
      after = h.after ++ post;
      small = omega (arith, h.small);
      count = simp length-append (omega (arith, h.count));
      is = f ∙ rw h.is (simp append_assoc);
      again = λ q. g q ∙ rw (h.again q) (simp append_assoc);
    }

-- ---- a plan over an input

-- the bytes of a plan over an input: k records, the input, and others
record Frame (d k : ℕ) (f : Plan → Plan) : Type 0 where
  pre : List ℕ
  post : List ℕ
  some : 1 ≤ k
  count : length pre ≡ 32 * k
  is : (x : Plan) → flat d (plan_tree (f x)) ≡ pre ++ (flat (d + 1) (plan_tree x) ++ post)

-- ---- the frames

-- k records of parts between the plan's own and its input
frame : (l : Label) (d k : ℕ) (f : Plan → Plan) (a b : List ℕ) → length a ≡ 32 * k → ((x : Plan) → label_p (f x) ≡ l)
    → ((x : Plan) → flat_any (d + 1) (kids_p (f x)) ≡ a ++ (flat (d + 1) (plan_tree x) ++ b)) → Frame d (suc k) f
frame l d k f a b count e g =
    record {
      pre = bytes_of l d 0 ++ a;
      post = b;
      some = omega arith;
      count = simp (length-append, bytes_of_length) (omega arith);
      is = λ x. rw (e x, g x) (simp append_assoc);
    }

-- a run of parts in front of others
flat_each : {A : Type 0} (l : A → Label) (k : A → Forest) (d : ℕ) (xs : List A) (ns : Forest)
    → flat_any d (each l k xs ns) ≡ flat_any d (each l k xs none) ++ flat_any d ns
unfolding each
flat_each l k d [] ns = refl
flat_each l k d (x ∷ xs) ns = rw (flat_each l k d xs ns) (simp append_assoc)

-- 32 bytes for each of their records
run_length : {A : Type 0} (l : A → Label) (k : A → Forest) (d : ℕ) (xs : List A) → length (flat_any d (each l k xs none)) ≡ 32 * sizes k xs
run_length l k d xs = flat_any_length d (each l k xs none) ∙ rw (size_each l k xs none) (omega arith)

-- the parts of the frame are one run
frame_run : {A : Type 0} (l : A → Label) (k : A → Forest) (xs : List A) (top : Label) (d : ℕ) (f : Plan → Plan) → ((x : Plan) → label_p (f x) ≡ top)
    → ((x : Plan) → kids_p (f x) ≡ each l k xs (node (label_p x) (kids_p x) none)) → Frame d (suc (sizes k xs)) f
frame_run l k xs top d f e g =
    frame top d (sizes k xs) f (flat_any (d + 1) (each l k xs none)) [] (run_length l k (d + 1) xs) e
    (λ x. rw (g x, flat_each l k (d + 1) xs (node (label_p x) (kids_p x) none)) (simp append_assoc))

-- there are none
frame_none : (top : Label) (d : ℕ) (f : Plan → Plan) → ((x : Plan) → label_p (f x) ≡ top)
    → ((x : Plan) → kids_p (f x) ≡ node (label_p x) (kids_p x) none) → Frame d 1 f
frame_none top d f e g = frame top d 0 f [] [] refl e (λ x. rw (g x) (simp append_assoc))

in_filter : (d : ℕ) (e : Expr) → Frame d (suc (size_e e)) (filter e)
unfolding label_p kids_p size_e
in_filter d e =
    frame _ d (size_e e) (filter e) (flat (d + 1) (expr_tree e)) [] (flat_length (d + 1) (expr_tree e)) (λ x. refl) (λ x. simp append_assoc)

in_left : (d : ℕ) (k : Kind) (r : Plan) (on : List Pair) (g : Option Expr) → Frame d 1 (λ l. join k l r on g)
unfolding label_p kids_p
in_left d k r on g =
    frame _ d 0 (λ l. join k l r on g) [] (flat_any (d + 1) (node (label_p r) (kids_p r) (each pair_label pair_kids on (filter_kids g)))) refl (λ x. refl)
    (λ x. simp append_assoc)

in_right : (d : ℕ) (k : Kind) (l : Plan) (on : List Pair) (g : Option Expr) → Frame d (suc (size_p l)) (λ r. join k l r on g)
unfolding label_p kids_p size_p
in_right d k l on g =
    frame _ d (size_p l) (λ r. join k l r on g) (flat (d + 1) (plan_tree l)) (flat_any (d + 1) (each pair_label pair_kids on (filter_kids g)))
    (flat_length (d + 1) (plan_tree l)) (λ x. refl) (λ x. simp append_assoc)

in_aggregate : (d : ℕ) (gs : List Entry) (ags : List AggEntry) → Frame d (suc (sizes entry_kids gs + sizes agg_kids ags)) (aggregate gs ags)
unfolding label_p kids_p
in_aggregate d gs ags =
    frame _ d (sizes entry_kids gs + sizes agg_kids ags) (aggregate gs ags)
    (flat_any (d + 1) (each entry_label entry_kids gs none) ++ flat_any (d + 1) (each agg_label agg_kids ags none)) []
    (simp length-append (omega (arith, run_length entry_label entry_kids (d + 1) gs, run_length agg_label agg_kids (d + 1) ags)))
    (λ x. refl)
    (λ x. rw (
      flat_each entry_label entry_kids (d + 1) gs (each agg_label agg_kids ags (node (label_p x) (kids_p x) none)),
      flat_each agg_label agg_kids (d + 1) ags (node (label_p x) (kids_p x) none),
    ) (simp append_assoc))

-- each way has its frame
frame_of : {k : ℕ} {f : Plan → Plan} (d : ℕ) → Way k f → Frame d k f
unfolding label_p kids_p
frame_of d (through_filter e) = in_filter d e
frame_of d (through_project es) = frame_run entry_label entry_kids es _ d (project es) (λ x. refl) (λ x. refl)
frame_of d (through_left k r on g) = in_left d k r on g
frame_of d (through_right k l on g) = in_right d k l on g
frame_of d (through_alias q) = frame_none _ d (alias q) (λ x. refl) (λ x. refl)
frame_of d through_distinct = frame_none _ d distinct (λ x. refl) (λ x. refl)
frame_of d (through_sort f ks) = frame_run key_label key_kids ks _ d (sort f ks) (λ x. refl) (λ x. refl)
frame_of d through_repartition = frame_none _ d repartition (λ x. refl) (λ x. refl)
frame_of d (through_limit i j) = frame_none _ d (limit i j) (λ x. refl) (λ x. refl)
frame_of d (through_aggregate gs ags) = in_aggregate d gs ags
frame_of d (through_window ws) = frame_run win_label win_kids ws _ d (window ws) (λ x. refl) (λ x. refl)

-- the bytes of a Union
union_flat : (d : ℕ) (ps qs : Plans) → flat d (plan_tree (union qs)) ≡ bytes_of (label_p (union ps)) d 0 ++ (flat_any (d + 1) (forest_p qs) ++ [])
unfolding label_p kids_p
union_flat d ps qs = rw (append-nil (flat_any (d + 1) (forest_p qs)))

-- the bytes of an input and of the later ones
pcons_flat : (d : ℕ) (p : Plan) (ps : Plans) → flat_any d (forest_p (pcons p ps)) ≡ flat d (plan_tree p) ++ flat_any d (forest_p ps)
unfolding forest_p
pcons_flat d p ps = simp append_assoc

-- ---- where the plan at a record stands

-- what is said of a place
abbrev Parted : ℕ → ℕ → Place → Type 0
Parted d n (one p c) = Split d n (flat d (plan_tree p)) c.plan (λ q. flat d (plan_tree (c.back q)))
Parted d n (all ps c) = Split d n (flat_any d (forest_p ps)) c.plan (λ q. flat_any d (forest_p (c.back q)))

split : {n : ℕ} {x : Place} → Within n x → (d : ℕ) → Parted d n x
unfolding size_p
split (itself p) d =
    record { level = d; before = []; after = []; small = omega arith; count = refl; is = sym (append-nil _); again = λ q. sym (append-nil _) }
split (below {k} {p = p} {c} w h) d =
    let a = frame_of d w in
    framed k a.pre a.post a.count refl (omega (arith, a.some)) (a.is p) (λ q. a.is (c.back q)) (split h (d + 1))
split (input {ps = ps} {c} h) d =
    framed 1 (bytes_of (label_p (union ps)) d 0) [] (bytes_of_length (label_p (union ps)) d 0) refl (omega arith) (union_flat d ps ps)
    (λ q. union_flat d ps (c.back q)) (split h (d + 1))
split (first {p = p} {c} ps h) d =
    framed 0 [] (flat_any d (forest_p ps)) refl (omega arith) (omega arith) (pcons_flat d p ps) (λ q. pcons_flat d (c.back q) ps) (split h d)
split (later {ps = ps} {c} p h) d =
    framed (size_p p) (flat d (plan_tree p)) [] (flat_length d (plan_tree p)) refl (omega arith)
    (pcons_flat d p ps ∙ ap (flat d (plan_tree p) ++◌) (sym (append-nil _)))
    (λ q. pcons_flat d p (c.back q) ∙ ap (flat d (plan_tree p) ++◌) (sym (append-nil _))) (split h d)

-- the plan at a record, and another in its place
pub split_at : (p : Plan) (n d : ℕ) (c : Focus) → focus n p ≡ some c
    → Split d n (flat d (plan_tree p)) c.plan (λ q. flat d (plan_tree (c.back q)))
split_at p n d c e = split (focus_within p n c e) d
