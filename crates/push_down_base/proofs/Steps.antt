-- Where the parts of a plan stand that stands in an image.
use Prim.Native.Nat.{ℕ, suc, ◌+◌, ◌-◌, ◌*◌, ◌≤◌}
use native.Mathlib.Omega.{arith}
use mathlib.Core.Path.{◌≡◌, subst}
use mathlib.Core.List.{List, [], ◌∷◌}
use mathlib.Core.Option.{Option, some}
use lib.ListN.{length, drop, length-drop}
use lib.Seq.{drop-drop}
use Rattle.image.specs.Tree.{Label, Forest, none, node, size, Deep, Stands, At}
use Rattle.image.specs.Limits.{work_bytes, max_below}
use Rattle.plan.specs.Syntax.{Expr, Plan, Plans, filter, project, join, alias, union, distinct, sort, repartition, limit, aggregate, window}
use Rattle.plan.specs.Syntax.{Entry, AggEntry, WinEntry, Pair, Key, Kind}
use Rattle.plan.specs.Integers.{FitsE, FitsP, FitsPs}
use Rattle.plan.specs.Measure.{size_e, size_p, sizes}
use Rattle.plan.specs.Trees.{label_e, kids_e, label_p, kids_p, forest_p, each, entry_label, entry_kids, key_label, key_kids, agg_label, agg_kids, win_label}
use Rattle.plan.specs.Trees.{win_kids}
use Rattle.conjuncts.specs.Standing.{Standing, StandingP}
use Rattle.rewrite.specs.RewriteAt.{Focus, focus}
use Rattle.push_down_base.specs.Paths.{Ways}
use Rattle.push_down_base.proofs.Finding.{path_to}

-- ---- depth

pub deep_more : (f : Forest) (d e : ℕ) → Deep f d → d ≤ e → Deep f e
deep_more none d e h le = tt
deep_more (node l cs ns) d e h le = (omega (arith, h.0), deep_more cs (d - 1) (e - 1) h.1 (omega arith), deep_more ns d e h.2 le)

-- ---- forests that stand at a record of an image

-- f stands at record m of s, no deeper than d
pub record On (s : List ℕ) (m d : ℕ) (f : Forest) : Type 0 where
  pub stands : Stands f (drop (32 * m) s) m
  pub deep : Deep f d

module _ {s : List ℕ} {m d : ℕ} {l : Label} {cs ns : Forest} (h : On s m d (node l cs ns)) where
  -- the first tree
  pub first_tree : At (record { label = l; below = cs }) (drop (32 * m) s) m
  first_tree = record { head = h.stands.head; below = h.stands.below }

  -- the trees after it
  pub rest_trees : On s (m + suc (size cs)) d ns
  rest_trees =
      let e : 32 * m + 32 * suc (size cs) ≡ 32 * (m + suc (size cs)) = omega arith in
      let n : m + 1 + size cs ≡ m + suc (size cs) = omega arith in
      record { stands = rw (drop-drop, e, n) at h.stands.after; deep = h.deep.2 }

-- past a run of parts
pub past_run : {A : Type 0} (l : A → Label) (k : A → Forest) (xs : List A) {s : List ℕ} {m d : ℕ} {ns : Forest}
    → On s m d (each l k xs ns) → On s (m + sizes k xs) d ns
unfolding each sizes
past_run l k [] {s} {m} {d} {ns} h = let e : m ≡ m + 0 = omega arith in subst (λ i. On s i d ns) e h
past_run l k (x ∷ xs) {s} {m} {d} {ns} h =
    let e : m + suc (size (k x)) + sizes k xs ≡ m + (suc (size (k x)) + sizes k xs) = omega arith in
    subst (λ i. On s i d ns) e (past_run l k xs (rest_trees h))

-- ---- plans and expressions

module _ {s : List ℕ} (short : length s ≤ work_bytes) where
  -- the children of a plan
  pub children : {n : ℕ} {p : Plan} → StandingP s n p → On s (n + 1) max_below (kids_p p)
  children {n} h =
      let e : 32 * n + 32 ≡ 32 * (n + 1) = omega arith in
      record { stands = rw (drop-drop, e) at h.here.below; deep = h.deep }

  module _ {m d : ℕ} {ns : Forest} (small : d ≤ max_below) where
    -- a plan in front of other trees
    pub plan_first : {p : Plan} → On s m d (node (label_p p) (kids_p p) ns) → FitsP p → StandingP s m p
    plan_first {p} h f =
        let t = first_tree h in
        let r = t.head.room in
        record {
          within = omega (arith, r, length-drop (32 * m) s);
          here = t;
          deep = deep_more (kids_p p) (d - 1) max_below h.deep.1 (omega arith);
          fits = f;
          small = omega (arith, r, length-drop (32 * m) s);
        }

    -- an expression in front of other trees
    pub expr_first : {e : Expr} → On s m d (node (label_e e) (kids_e e) ns) → FitsE e → Standing s m e
    expr_first {e} h f =
        let t = first_tree h in
        let r = t.head.room in
        record {
          within = omega (arith, r, length-drop (32 * m) s);
          here = t;
          deep = deep_more (kids_e e) (d - 1) max_below h.deep.1 (omega arith);
          fits = f;
          small = omega (arith, r, length-drop (32 * m) s);
        }

  -- ---- the inputs of each kind of plan

  pub filter_input : {n : ℕ} {e : Expr} {p : Plan} → StandingP s n (filter e p) → StandingP s (n + 1 + size_e e) p
  unfolding kids_p size_e
  filter_input {n} {e} {p} h = plan_first (omega arith) (rest_trees (children h)) h.fits.1

  pub filter_predicate : {n : ℕ} {e : Expr} {p : Plan} → StandingP s n (filter e p) → Standing s (n + 1) e
  unfolding kids_p
  filter_predicate h = expr_first (omega arith) (children h) h.fits.0

  pub project_input : {n : ℕ} {es : List Entry} {p : Plan} → StandingP s n (project es p) → StandingP s (n + 1 + sizes entry_kids es) p
  unfolding kids_p
  project_input {es = es} h = plan_first (omega arith) (past_run entry_label entry_kids es (children h)) h.fits.1

  pub sort_input : {n : ℕ} {f : Option ℕ} {ks : List Key} {p : Plan} → StandingP s n (sort f ks p) → StandingP s (n + 1 + sizes key_kids ks) p
  unfolding kids_p
  sort_input {ks = ks} h = plan_first (omega arith) (past_run key_label key_kids ks (children h)) h.fits.1

  pub aggregate_input : {n : ℕ} {gs : List Entry} {ags : List AggEntry} {p : Plan} → StandingP s n (aggregate gs ags p)
      → StandingP s (n + 1 + sizes entry_kids gs + sizes agg_kids ags) p
  unfolding kids_p
  aggregate_input {gs = gs} {ags} h =
      plan_first (omega arith) (past_run agg_label agg_kids ags (past_run entry_label entry_kids gs (children h))) h.fits.2

  pub window_input : {n : ℕ} {ws : List WinEntry} {p : Plan} → StandingP s n (window ws p) → StandingP s (n + 1 + sizes win_kids ws) p
  unfolding kids_p
  window_input {ws = ws} h = plan_first (omega arith) (past_run win_label win_kids ws (children h)) h.fits.1

  pub left_input : {n : ℕ} {k : Kind} {l r : Plan} {on : List Pair} {f : Option Expr} → StandingP s n (join k l r on f) → StandingP s (n + 1) l
  unfolding kids_p
  left_input h = plan_first (omega arith) (children h) h.fits.0

  pub right_input : {n : ℕ} {k : Kind} {l r : Plan} {on : List Pair} {f : Option Expr} → StandingP s n (join k l r on f)
      → StandingP s (n + 1 + size_p l) r
  unfolding kids_p size_p
  right_input h = plan_first (omega arith) (rest_trees (children h)) h.fits.1

  -- the one input of a plan whose only child it is
  pub alias_input : {n i : ℕ} {p : Plan} → StandingP s n (alias i p) → StandingP s (n + 1) p
  unfolding kids_p
  alias_input h = plan_first (omega arith) (children h) h.fits

  pub distinct_input : {n : ℕ} {p : Plan} → StandingP s n (distinct p) → StandingP s (n + 1) p
  unfolding kids_p
  distinct_input h = plan_first (omega arith) (children h) h.fits

  pub repartition_input : {n : ℕ} {p : Plan} → StandingP s n (repartition p) → StandingP s (n + 1) p
  unfolding kids_p
  repartition_input h = plan_first (omega arith) (children h) h.fits

  pub limit_input : {n i j : ℕ} {p : Plan} → StandingP s n (limit i j p) → StandingP s (n + 1) p
  unfolding kids_p
  limit_input h = plan_first (omega arith) (children h) h.fits

  pub union_inputs : {n : ℕ} {ps : Plans} → StandingP s n (union ps) → On s (n + 1) max_below (forest_p ps)
  unfolding kids_p
  union_inputs h = children h

  -- ---- what stands at a record

  at : {m n : ℕ} {p : Plan} → m ≡ n → StandingP s m p → StandingP s n p
  at {p = p} e h = subst (λ i. StandingP s i p) e h

  ways : Ways (λ n p t C. (b : ℕ) → StandingP s b p → StandingP s (b + n) t)
      (λ n ps t C. (b d : ℕ) → d ≤ max_below → On s b d (forest_p ps) → FitsPs ps → StandingP s (b + n) t)
  unfolding kids_p size_p
  ways = record {
    root = λ p b h. at (omega arith) h;
    in_filter = λ n p t C e k b h. at (omega arith) (k _ (filter_input h));
    in_project = λ n p t C es k b h. at (omega arith) (k _ (project_input h));
    in_left = λ n l t C j r on f k b h. at (omega arith) (k _ (left_input h));
    in_right = λ n r t C j l on f k b h. at (omega arith) (k _ (right_input h));
    in_alias = λ n p t C i k b h. at (omega arith) (k _ (alias_input h));
    in_union = λ n ps t C k b h. at (omega arith) (k (b + 1) max_below (omega arith) (union_inputs h) h.fits);
    in_distinct = λ n p t C k b h. at (omega arith) (k _ (distinct_input h));
    in_sort = λ n p t C f ks k b h. at (omega arith) (k _ (sort_input h));
    in_repartition = λ n p t C k b h. at (omega arith) (k _ (repartition_input h));
    in_limit = λ n p t C i j k b h. at (omega arith) (k _ (limit_input h));
    in_aggregate = λ n p t C gs ags k b h. at (omega arith) (k _ (aggregate_input h));
    in_window = λ n p t C ws k b h. at (omega arith) (k _ (window_input h));
    in_first = λ n p t C ps k b d le h f. k b (plan_first le h f.0);
    in_later = λ n ps t C p k b d le h f. at (omega arith) (k (b + size_p p) d le (rest_trees h) f.1);
  }

  pub stands_there : (n : ℕ) (p : Plan) (c : Focus) → focus n p ≡ some c → StandingP s 0 p → StandingP s n c.plan
  stands_there n p c e h = at (omega arith) (path_to ways n p c e 0 h)
