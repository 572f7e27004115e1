-- The kinds of plans whose input is their last child are frames.
use Prim.Native.Nat.{ℕ, suc, ◌+◌, ◌-◌}
use native.Mathlib.Omega.{arith}
use mathlib.Core.Path.{◌≡◌, refl, sym, ap, subst, ◌∙◌}
use mathlib.Core.List.{List, [], ◌∷◌, ◌++◌, append_assoc, append-nil}
use mathlib.Core.Option.{Option}
use lib.ListN.{length, take, length-append}
use lib.Seq.{take_at}
use Rattle.image.specs.Tree.{Label, Forest, none, node}
use Rattle.image.specs.Records.{Rec, recs, recs_any}
use Rattle.image.specs.Limits.{work_bytes}
use Rattle.image.specs.Room.{Wrote}
use Rattle.plan.specs.Syntax.{Entry, Key, AggEntry, WinEntry, Plan, scan, project, alias, distinct, sort, repartition, aggregate, window}
use Rattle.plan.specs.Measure.{sizes}
use Rattle.plan.specs.Trees.{label_p, kids_p, plan_tree, each, entry_label, entry_kids, key_label, key_kids, agg_label, agg_kids, win_label}
use Rattle.plan.specs.Trees.{win_kids}
use Rattle.push_down_base.specs.Around.{WroteAll}
use Rattle.push_down_base.specs.Frames.{Frame}
use Rattle.push_down_base.proofs.Runs.{run_recs, run_count}
use Rattle.push_down_base.proofs.WrittenRuns.{wrote_then, wrote_tree, tree_wrote}

-- a plan to read a frame's label from
abbrev none_read : Plan
none_read = scan 0 [] []

-- behind a run of parts
run_frame : {A : Type 0} (l : A → Label) (k : A → Forest) (xs : List A) (f : Plan → Plan) (top : Label)
    → ((q : Plan) → plan_tree (f q) ≡ record { label = top; below = each l k xs (node (label_p q) (kids_p q) none) }) → Frame f (suc (sizes k xs))
run_frame l k xs f top e = record {
  own = λ d. (top, d) ∷ recs_any (d + 1) (each l k xs none);
  count = λ d. ap suc (sym (run_count l k xs (d + 1)));
  is = λ d q. ap (recs d) (e q) ∙ ap (λ r. (top, d) ∷ r) (run_recs l k xs (d + 1) (node (label_p q) (kids_p q) none)
      ∙ ap (λ r. recs_any (d + 1) (each l k xs none) ++ r) (append-nil (recs (d + 1) (plan_tree q))));
}

-- behind the plan's own record
one_frame : (f : Plan → Plan) (top : Label) → ((q : Plan) → plan_tree (f q) ≡ record { label = top; below = node (label_p q) (kids_p q) none }) → Frame f 1
one_frame f top e = record {
  own = λ d. (top, d) ∷ [];
  count = λ d. refl;
  is = λ d q. ap (recs d) (e q) ∙ ap (λ r. (top, d) ∷ r) (append-nil (recs (d + 1) (plan_tree q)));
}

pub project_frame : (es : List Entry) → Frame (project es) (suc (sizes entry_kids es))
unfolding label_p kids_p
project_frame es = run_frame entry_label entry_kids es (project es) (label_p (project es none_read)) (λ q. refl)

pub sort_frame : (f : Option ℕ) (ks : List Key) → Frame (sort f ks) (suc (sizes key_kids ks))
unfolding label_p kids_p
sort_frame f ks = run_frame key_label key_kids ks (sort f ks) (label_p (sort f ks none_read)) (λ q. refl)

pub window_frame : (ws : List WinEntry) → Frame (window ws) (suc (sizes win_kids ws))
unfolding label_p kids_p
window_frame ws = run_frame win_label win_kids ws (window ws) (label_p (window ws none_read)) (λ q. refl)

pub alias_frame : (i : ℕ) → Frame (alias i) 1
unfolding label_p kids_p
alias_frame i = one_frame (alias i) (label_p (alias i none_read)) (λ q. refl)

pub distinct_frame : Frame distinct 1
unfolding label_p kids_p
distinct_frame = one_frame distinct (label_p (distinct none_read)) (λ q. refl)

pub repartition_frame : Frame repartition 1
unfolding label_p kids_p
repartition_frame = one_frame repartition (label_p (repartition none_read)) (λ q. refl)

pub aggregate_frame : (gs : List Entry) (ags : List AggEntry) → Frame (aggregate gs ags) (suc (sizes entry_kids gs + sizes agg_kids ags))
unfolding label_p kids_p
aggregate_frame gs ags = record {
  own = λ d. (label_p (aggregate gs ags none_read), d) ∷ (groups d ++ entries d);
  count = λ d. omega (arith, run_count entry_label entry_kids gs (d + 1), run_count agg_label agg_kids ags (d + 1), length-append (groups d) (entries d));
  is = λ d q. ap (λ r. (label_p (aggregate gs ags none_read), d) ∷ r)
      (run_recs entry_label entry_kids gs (d + 1) (each agg_label agg_kids ags (node (label_p q) (kids_p q) none))
      ∙ ap (λ r. groups d ++ r) (run_recs agg_label agg_kids ags (d + 1) (node (label_p q) (kids_p q) none)
      ∙ ap (λ r. entries d ++ r) (append-nil (recs (d + 1) (plan_tree q))))
      ∙ sym (append_assoc (groups d) (entries d) (recs (d + 1) (plan_tree q))));
}
  where
    groups : ℕ → List Rec
    groups d = recs_any (d + 1) (each entry_label entry_kids gs none)

    entries : ℕ → List Rec
    entries d = recs_any (d + 1) (each agg_label agg_kids ags none)

-- the plan's own records are written, and then another input
pub wrote_framed : {f : Plan → Plan} {k : ℕ} {out out₁ out₂ : List ℕ} {at level y r₁ r₂ : ℕ} (x : ℕ) (p q : Plan) → Frame f k → length out ≡ work_bytes
    → y ≡ x + k → WroteAll out out₁ at r₁ (take (y - x) (recs level (plan_tree (f p)))) → Wrote out₁ out₂ r₁ (level + 1) r₂ (plan_tree q)
    → Wrote out out₂ at level r₂ (plan_tree (f q))
wrote_framed {f} {k} {out} {out₁} {at = at} {level} {y} {r₁} x p q h long e w v =
    let n : y - x ≡ k = omega arith in
    let i : take (y - x) (recs level (plan_tree (f p))) ≡ h.own level =
    ap (λ j. take j (recs level (plan_tree (f p)))) n ∙ ap (take k) (h.is level p) ∙ take_at (h.own level) (recs (level + 1) (plan_tree p)) k
    (sym (h.count level)) in
    tree_wrote (h.is level q) (wrote_then long (subst (λ l. WroteAll out out₁ at r₁ l) i w) (wrote_tree v))
