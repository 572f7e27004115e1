-- The conjuncts over a plan, divided: which move over each kind, and that the definition moves the same.
--     takes-..         the input of each kind of plan
--     divides_of       the lists that `select_side` makes
--     ..-groups        over an Aggregate
--     ..-pushed, project_kept   what the definition answers
-- Assumes nothing.
use Prim.Native.Nat.{ℕ, suc, ◌+◌, ◌≤◌}
use native.Mathlib.Omega.{arith}
use mathlib.Core.Path.{◌≡◌, refl, sym, ap, ap₂, fun_ext, ◌∙◌}
use mathlib.Core.Bool.{Bool, true, false, not}
use mathlib.Core.List.{List, [], ◌∷◌, map}
use lib.ListN.{length}
use borrow.Author.Tests.{leb-true}
use Rattle.image.specs.Limits.{work_bytes, max_fields, max_list}
use Rattle.plan.specs.Columns.{on_cols, on_cols_all}
use Rattle.plan.specs.Lists.{◌&◌, all, choose, put, keep, anil}
use Rattle.plan.specs.Measure.{sizes}
use Rattle.plan.specs.Schema.{has, schema}
use Rattle.plan.specs.Syntax.{Name, Expr, col, num, bool, nul, bin, neg, test, between, inlist, fn, Exprs, enil, econs, Entry, AggEntry, WinEntry}
use Rattle.plan.specs.Syntax.{Plan, filter, project, aggregate, window}
use Rattle.plan.specs.Trees.{plan_tree, kids_p, each, entry_kids, agg_kids, win_kids}
use Rattle.plan.proofs.Lists.{all_and, all_true, and_r, keep_all, All-map, All-keep}
use Rattle.acceptance.specs.Names.{sound}
use Rattle.acceptance.proofs.NamesRule.{rule_sound}
use Rattle.rewrite.specs.Limits.{list_p}
use Rattle.rewrite.specs.Utils.{replace_cols, replace_cols_all, split_conjunction, with_filters, is_empty}
use Rattle.rewrite.specs.PushDownFilter.{Transformed, transformed_no, transformed_yes, pushable, stay, move, in_groups, in_partitions}
use Rattle.rewrite.specs.PushDownFilter.{rewrite_filter, rewrite_projection}
use Rattle.rewrite.specs.PushDownFilter.{rewrite_aggregate, rewrite_window}
use Rattle.conjuncts.specs.Items.{Conjuncts, listed, Lists}
use Rattle.conjuncts.specs.Standing.{StandingP}
use Rattle.conjuncts.proofs.Listed.{lists_none, known_of}
use Rattle.writing.proofs.Maps.{plan_none}
use Rattle.push_down_base.specs.Predicates.{Predicate}
use Rattle.push_down_base.specs.Arms.{Shaped, Placed, Takes}
use Rattle.push_down_arms.specs.Divided.{Divided, Singles, Divides, pushed}
use Rattle.push_down_arms.specs.Movable.{may_move, entry_first}
use Rattle.push_down_base.proofs.Answering.{few}
use Rattle.push_down_arms.proofs.Framing.{project_frame, aggregate_frame, window_frame}
use Rattle.push_down_base.proofs.LastChild.{project_last, aggregate_last, window_last}
use Rattle.push_down_arms.proofs.Moves.{project_moves, group_moves, window_moves}
use Rattle.push_down_arms.proofs.Passing.{at}
use Rattle.push_down_base.proofs.Plain.{split_plain}
use Rattle.push_down_base.proofs.Scoping.{keep_length}
use Rattle.push_down_base.proofs.Steps.{project_input, aggregate_input, window_input}

-- ---- the input of each kind of plan

module _ {s : List ℕ} {x : ℕ} {q : Plan} (short : length s ≤ work_bytes) where
  pub project_takes : (es : List Entry) → StandingP s x (project es q) → Takes s x (project es) q
  unfolding list_p
  project_takes es h = record {
    own = suc (sizes entry_kids es);
    frame = project_frame es;
    last = project_last es q x;
    input = at (omega arith) (project_input short h);
    lists = λ r. refl;
  }

  pub aggregate_takes : (gs : List Entry) (ags : List AggEntry) → StandingP s x (aggregate gs ags q) → Takes s x (aggregate gs ags) q
  unfolding list_p
  aggregate_takes gs ags h = record {
    own = suc (sizes entry_kids gs + sizes agg_kids ags);
    frame = aggregate_frame gs ags;
    last = aggregate_last gs ags q x;
    input = at (omega arith) (aggregate_input short h);
    lists = λ r. refl;
  }

  pub window_takes : (ws : List WinEntry) → StandingP s x (window ws q) → Takes s x (window ws) q
  unfolding list_p
  window_takes ws h = record {
    own = suc (sizes win_kids ws);
    frame = window_frame ws;
    last = window_last ws q x;
    input = at (omega arith) (window_input short h);
    lists = λ r. refl;
  }

-- ---- the lists

-- a plan that keeps the rules has no more fields than a schema holds
pub fields_few : {s : List ℕ} {x : ℕ} {q : Plan} → Placed s x q → length (schema q) ≤ max_fields
unfolding sound
fields_few {q = q} h = leb-true (length (schema q)) max_fields (and_r _ _ (rule_sound _ q h.rules))

singles : (e : Expr) → Singles (split_conjunction e)
singles e = All-map (λ x w. w.one) (split_plain e)

module _ {s : List ℕ} {p : Predicate} {e : Expr} (h : Shaped s p e) where
  kept_small : {c : Conjuncts} (f : Expr → Bool) → Lists s c (keep f (split_conjunction e)) → c.len ≤ max_list
  kept_small f l = (known_of l (omega (arith, keep_length f (split_conjunction e), few h))).most

  pub divides_of : {d : Divided} (t : Name → Bool) → Lists s d.kept (keep (λ a. not (on_cols t a)) (split_conjunction e))
      → Lists s d.moved (keep (on_cols t) (split_conjunction e)) → Divides s d (stay (on_cols t) e) (move (on_cols t) e)
  divides_of t k m = record {
    kept = k;
    kept_most = kept_small (λ a. not (on_cols t a)) k;
    kept_single = All-keep (λ a. not (on_cols t a)) (singles e);
    moved = m;
    moved_most = kept_small (on_cols t) m;
    moved_single = All-keep (on_cols t) (singles e);
  }

-- ---- over an Aggregate

first_group : (gs : List Entry) (ags : List AggEntry) (q : Plan) → entry_first (kids_p (aggregate gs ags q)) ≡ not (is_empty gs)
unfolding kids_p each
first_group [] [] q = plan_none q
first_group [] (a ∷ ags) q = refl
first_group (g ∷ gs) ags q = refl

module _ (gs : List Entry) (ags : List AggEntry) (q : Plan) where
  pub some_groups : entry_first (kids_p (aggregate gs ags q)) ≡ true → on_cols (may_move (plan_tree (aggregate gs ags q))) ≡ in_groups gs
  some_groups h = go gs (sym (first_group gs ags q) ∙ h)
    where
      go : (gs : List Entry) → not (is_empty gs) ≡ true → on_cols (may_move (plan_tree (aggregate gs ags q))) ≡ in_groups gs
      go [] h = cc
      go (g ∷ gs) h = ap on_cols (fun_ext (λ x. group_moves x (g ∷ gs) ags q))

  no_groups : entry_first (kids_p (aggregate gs ags q)) ≡ false → gs ≡ []
  no_groups h = go gs (sym (first_group gs ags q) ∙ h)
    where
      go : (gs : List Entry) → not (is_empty gs) ≡ false → gs ≡ []
      go [] h = refl
      go (g ∷ gs) h = cc

keep_none : {A : Type 0} (xs : List A) → keep (λ x. false) xs ≡ []
unfolding keep put
keep_none [] = refl
keep_none (x ∷ xs) = keep_none xs

-- without groups nothing moves
pub divides_none : {s : List ℕ} {p : Predicate} {e : Expr} {d : Divided} (gs : List Entry) (ags : List AggEntry) (q : Plan) → Shaped s p e
    → entry_first (kids_p (aggregate gs ags q)) ≡ false → d.kept ≡ p.list → (listed d.moved ≡ []) × (d.moved.len ≡ 0)
    → Divides s d (stay (in_groups gs) e) (move (in_groups gs) e)
divides_none {e = e} gs ags q h z k m = rw (no_groups gs ags q z, keep_all, keep_none) (record {
  kept = rw k h.listed;
  kept_most = rw k h.most;
  kept_single = singles e;
  moved = lists_none m;
  moved_most = omega (arith, m.1);
  moved_single = anil;
})

-- ---- what the definition answers

-- each of several tests, all at once
module _ {A : Type 0} (f : A → Name → Bool) (ws : List A) where
  mutual
    unfolding on_cols

    cols_each : (e : Expr) → on_cols (λ x. all (λ w. f w x) ws) e ≡ all (λ w. on_cols (f w) e) ws
    cols_each (col x) = refl
    cols_each (num z) = sym (all_true ws)
    cols_each (bool b) = sym (all_true ws)
    cols_each (nul t) = sym (all_true ws)
    cols_each (bin o a b) = ap₂ ◌&◌ (cols_each a) (cols_each b) ∙ sym (all_and _ _ ws)
    cols_each (neg a) = cols_each a
    cols_each (test t a) = cols_each a
    cols_each (between n a l u) =
        ap₂ ◌&◌ (cols_each a) (ap₂ ◌&◌ (cols_each l) (cols_each u) ∙ sym (all_and _ _ ws)) ∙ sym (all_and _ _ ws)
    cols_each (inlist n a xs) = ap₂ ◌&◌ (cols_each a) (cols_each_all xs) ∙ sym (all_and _ _ ws)
    cols_each (fn p q r xs) = cols_each_all xs

    cols_each_all : (es : Exprs) → on_cols_all (λ x. all (λ w. f w x) ws) es ≡ all (λ w. on_cols_all (f w) es) ws
    cols_each_all enil = sym (all_true ws)
    cols_each_all (econs x xs) = ap₂ ◌&◌ (cols_each x) (cols_each_all xs) ∙ sym (all_and _ _ ws)

-- a column for itself changes nothing
mutual
  unfolding replace_cols replace_cols_all

  replace_none : (e : Expr) → replace_cols col e ≡ e
  replace_none (col x) = refl
  replace_none (num z) = refl
  replace_none (bool b) = refl
  replace_none (nul t) = refl
  replace_none (bin o a b) = ap₂ (bin o) (replace_none a) (replace_none b)
  replace_none (neg a) = ap neg (replace_none a)
  replace_none (test t a) = ap (test t) (replace_none a)
  replace_none (between n a l u) = rw (replace_none a, replace_none l, replace_none u)
  replace_none (inlist n a xs) = ap₂ (inlist n) (replace_none a) (replace_none_all xs)
  replace_none (fn p q r xs) = ap (fn p q r) (replace_none_all xs)

  replace_none_all : (es : Exprs) → replace_cols_all col es ≡ es
  replace_none_all enil = refl
  replace_none_all (econs x xs) = ap₂ econs (replace_none x) (replace_none_all xs)

map_none : (es : List Expr) → map (replace_cols col) es ≡ es
map_none [] = refl
map_none (e ∷ es) = ap₂ ◌∷◌ (replace_none e) (map_none es)

-- the answer for one way to divide
abbrev answer : (Plan → Plan) → Plan → Expr → (Expr → Bool) → Transformed
answer f q e push = pushed f q (stay push e) (move push e)

pub aggregate_pushed : (e : Expr) (gs : List Entry) (ags : List AggEntry) (q : Plan)
    → rewrite_filter e (aggregate gs ags q) ≡ pushed (aggregate gs ags) q (stay (in_groups gs) e) (move (in_groups gs) e)
unfolding rewrite_filter rewrite_aggregate
aggregate_pushed e gs ags q = refl

module _ (e : Expr) (ws : List WinEntry) (q : Plan) where
  in_window : on_cols (may_move (plan_tree (window ws q))) ≡ in_partitions ws
  in_window =
      ap on_cols (fun_ext (λ x. window_moves x ws q)) ∙ fun_ext (λ c. cols_each (λ (w : WinEntry) x. has w.parts x) ws c)

  pub window_pushed : rewrite_filter e (window ws q) ≡ answer (window ws) q e (on_cols (may_move (plan_tree (window ws q))))
  unfolding rewrite_filter rewrite_window
  window_pushed =
      ap (λ ds. record {
        plan = with_filters (stay (in_partitions ws) e) (window ws (with_filters ds q));
        transformed = not (is_empty (move (in_partitions ws) e));
      }) (sym (map_none (move (in_partitions ws) e)))
      ∙ ap (answer (window ws) q e) (sym in_window)

is_none : {A : Type 0} (xs : List A) → length xs ≡ 0 → is_empty xs ≡ true
is_none [] h = refl
is_none (x ∷ xs) h = absurd (omega arith)

is_some : {A : Type 0} (xs : List A) → (length xs ≡ 0 → ⊥) → is_empty xs ≡ false
is_some [] h = absurd (h refl)
is_some (x ∷ xs) h = refl

-- the flag is raised where something moves
raised : (b : Bool) (t : Transformed) (p : Plan) → b ≡ false → choose b t (transformed_yes p) ≡ record { plan = p; transformed = not b }
unfolding choose
raised true t p e = cc
raised false t p e = refl

module _ (e : Expr) (es : List Entry) (q : Plan) where
  in_project : on_cols (may_move (plan_tree (project es q))) ≡ pushable es
  in_project = ap on_cols (fun_ext (λ x. project_moves x es q))

  count_is : length (move (pushable es) e) ≡ length (move (on_cols (may_move (plan_tree (project es q)))) e)
  count_is = ap (λ push. length (move push e)) (sym in_project)

  -- nothing moves
  pub project_kept : length (move (on_cols (may_move (plan_tree (project es q)))) e) ≡ 0
      → rewrite_filter e (project es q) ≡ transformed_no (filter e (project es q))
  unfolding rewrite_filter rewrite_projection choose
  project_kept z = rw (is_none (move (pushable es) e) (count_is ∙ z))

  -- something does
  pub project_pushed : (length (move (on_cols (may_move (plan_tree (project es q)))) e) ≡ 0 → ⊥)
      → rewrite_filter e (project es q) ≡ answer (project es) q e (on_cols (may_move (plan_tree (project es q))))
  unfolding rewrite_filter rewrite_projection
  project_pushed nz =
      raised (is_empty (move (pushable es) e)) _ _ (is_some (move (pushable es) e) (λ z. nz (sym count_is ∙ z)))
      ∙ ap (answer (project es) q e) (sym in_project)
