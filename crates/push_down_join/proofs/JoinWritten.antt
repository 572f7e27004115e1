-- A join that is written over what moves to its inputs.
--     left_some, ..   what a join's lists are to the functions that write them
--     join_wrote      the label, the inputs, the keys and the filter, one after the other
-- Assumes nothing.
use mathlib.Core.Path.{◌≡◌, refl, sym, ap, subst, ◌∙◌}
use mathlib.Core.List.{List, [], ◌∷◌, ◌++◌, append_assoc}
use mathlib.Core.Option.{Option}
use Prim.Native.Nat.{ℕ, ◌+◌, ◌-◌, ◌≤◌, ◌<◌}
use lib.ListN.{length}
use Rattle.image.specs.Limits.{work_bytes, max_list, max_below, max_level}
use Rattle.image.specs.Room.{Low, Put, Wrote}
use Rattle.image.specs.Subtrees.{Subtree, tree_of}
use Rattle.image.specs.Tree.{Label, Tree, none}
use Rattle.image.specs.Records.{Rec, recs, recs_any}
use Rattle.plan.specs.Schema.{has, schema}
use Rattle.plan.specs.Read.{joins, nth}
use Rattle.plan.specs.Syntax.{Name, Expr, Pair, Kind, inner, left, right, full, left_semi, right_semi, left_anti, right_anti, Plan, join}
use Rattle.plan.specs.Trees.{join_number, label_p, kids_p, plan_tree, each, pair_label, pair_kids, filter_kids}
use Rattle.conjuncts.specs.Items.{Conjuncts}
use Rattle.conjuncts.specs.Standing.{StandingP}
use Rattle.conjuncts.proofs.Standing.{plan_standing}
use Rattle.writing.specs.Maps.{MapsTo}
use Rattle.writing.specs.Pushed.{Some}
use Rattle.writing.proofs.Maps.{plan_deep}
use Rattle.writing.proofs.Pushing.{pushes_of}
use Rattle.push_down_base.specs.Around.{WroteAll}
use Rattle.push_down_base.specs.Arms.{Placed}
use Rattle.push_down_join.specs.JoinPlans.{Moves, Moved, pair_recs, Carries}
use Rattle.push_down_join.specs.Scopes.{Scope, Scopes, Asked}
use Rattle.push_down_base.specs.Parting.{Reads}
use Rattle.push_down_join.specs.Sides.{SomeSided, Side}
use Rattle.push_down_join.proofs.JoinParts.{pairs_join}
use Rattle.push_down_base.proofs.Runs.{run_recs}
use Rattle.push_down_base.proofs.WrittenRuns.{wrote_one, wrote_then, wrote_tree, tree_wrote}

module _ {plan map : Subtree} {sc : Scope} {v : Moves} {k : Kind} {l r : Plan} {on : List Pair} {f : Option Expr} {P G : List Expr}
    {σ : Name → Expr} (h : Carries plan map sc v k l r on f P G σ) where
  pub left_side : Side map sc.fields sc.left σ (schema l ++ schema r) (has (schema l))
  left_side = record { maps = h.maps; names = h.scopes.names; masks = h.scopes.left }

  pub right_side : Side map sc.fields sc.right σ (schema l ++ schema r) (has (schema r))
  right_side = record { maps = h.maps; names = h.scopes.names; masks = h.scopes.right }

  pub left_some : SomeSided plan.image.now v.left
  left_some = record { mapping = σ; names = schema l ++ schema r; test = has (schema l); exprs = _; sides = h.moved.left; most = h.left_most }

  pub right_some : SomeSided plan.image.now v.right
  right_some = record { mapping = σ; names = schema l ++ schema r; test = has (schema r); exprs = _; sides = h.moved.right; most = h.right_most }

  pub kept_some : Some plan.image.now v.kept
  kept_some = record { mapping = σ; exprs = _; pushes = pushes_of h.moved.kept.lists; most = h.moved.kept.most }

  -- its parts may be written where there is room below
  pub carried_low : (level : ℕ) → level + max_below < max_level → Low level (tree_of plan).below
  carried_low level lt = record { depth = max_below; deep = plan_deep plan h.standing; low = lt }

-- the pairs that are written are the join's
pub pairs_are : {t : Tree} {out out₁ : List ℕ} {at n : ℕ} (level : ℕ) (p : Plan) → t ≡ plan_tree p
    → WroteAll out out₁ at n (pair_recs level t.below) → WroteAll out out₁ at n (pair_recs level (kids_p p))
pairs_are {out = out} {out₁} {at} {n} level p e w = subst (λ (u : Tree). WroteAll out out₁ at n (pair_recs level u.below)) e w

-- one after the other
regroup : (x : Rec) (a b y c d : List Rec) → y ≡ c ++ d → x ∷ (a ++ (b ++ y)) ≡ ((((x ∷ []) ++ a) ++ b) ++ c) ++ d
regroup x a b y c d e = rw e (simp append_assoc)

pub join_wrote : {out o₁ o₂ o₃ o₄ o₅ : List ℕ} {at n₁ n₂ n₃ n₄ n₅ level : ℕ} {top : Label} (k : Kind) (l r L R : Plan) (on : List Pair)
    (f g : Option Expr)
    → length out ≡ work_bytes → Put out o₁ at level n₁ top → top ≡ label_p (join k l r on f) → Wrote o₁ o₂ n₁ (level + 1) n₂ (plan_tree L)
    → Wrote o₂ o₃ n₂ (level + 1) n₃ (plan_tree R) → WroteAll o₃ o₄ n₃ n₄ (pair_recs (level + 1) (kids_p (join k l r on f)))
    → WroteAll o₄ o₅ n₄ n₅ (recs_any (level + 1) (filter_kids g)) → Wrote out o₅ at level n₅ (plan_tree (join k L R on g))
unfolding label_p kids_p
join_wrote {o₃ = o₃} {o₄} {n₃ = n₃} {n₄} {level = level} {top} k l r L R on f g long p e wl wr wp wc =
    tree_wrote
    (ap (λ t. (t, level) ∷ recs_any (level + 1) (kids_p (join k L R on g))) (sym e)
    ∙ regroup (top, level) (recs (level + 1) (plan_tree L)) (recs (level + 1) (plan_tree R)) _ (recs_any (level + 1) (each pair_label pair_kids on none))
    (recs_any (level + 1) (filter_kids g)) (run_recs pair_label pair_kids on (level + 1) (filter_kids g)))
    (wrote_then long (wrote_then long (wrote_then long (wrote_then long (wrote_one p) (wrote_tree wl)) (wrote_tree wr))
    (subst (λ ps. WroteAll o₃ o₄ n₃ n₄ ps) (pairs_join (level + 1) k l r on f) wp)) wc)

-- ---- what the functions are asked

pub asked : {s : List ℕ} {sc : Scope} {c : Conjuncts} {l r : List Name} {on : List Pair} {es : List Expr} → Scopes sc l r on → Reads s (l ++ r) c es
    → Asked s sc c
asked {l = l} {r} {on} {es} sc h = record { lefts = l; rights = r; keys = on; exprs = es; scopes = sc; reads = h }

-- the kind with a kind's number
pub kind_numbered : (k : Kind) → nth inner joins (join_number k - 1) ≡ k
unfolding nth
kind_numbered inner = refl
kind_numbered left = refl
kind_numbered right = refl
kind_numbered full = refl
kind_numbered left_semi = refl
kind_numbered right_semi = refl
kind_numbered left_anti = refl
kind_numbered right_anti = refl

pub kind_of : (t : Subtree) {k : Kind} {l r : Plan} {on : List Pair} {f : Option Expr} → StandingP t.image.now t.number (join k l r on f)
    → (tree_of t).label.p ≡ join_number k
unfolding label_p
kind_of t h = ap (λ (u : Tree). u.label.p) (plan_standing t refl refl h)

pub carries : {plan map : Subtree} {sc : Scope} {v : Moves} {k : Kind} {l r : Plan} {on : List Pair} {f : Option Expr} {P G : List Expr}
    {σ : Name → Expr} → Placed plan.image.now plan.number (join k l r on f) → MapsTo map σ → Scopes sc (schema l) (schema r) on
    → Moved plan.image.now σ v k (schema l) (schema r) on P G
    → (v.left.len ≤ max_list) × (v.right.len ≤ max_list) × (v.conditions.len ≤ max_list)
    → Carries plan map sc v k l r on f P G σ
carries h m sc v few = record {
  short = h.short;
  standing = h.standing;
  maps = m;
  scopes = sc;
  moved = v;
  left_most = few.0;
  right_most = few.1;
  conditions_most = few.2;
}
