-- What stands at the record that is rewritten: a Filter, a Join, or a plan that stays as it is.
use Prim.Native.Nat.{ℕ}
use mathlib.Core.Path.{◌≡◌, refl, sym, ap, subst, ◌∙◌}
use mathlib.Core.Bool.{true}
use mathlib.Core.List.{List, []}
use mathlib.Core.Option.{Option}
use native.Mathlib.Nat.{le_trans}
use lib.Dec.{eqb}
use Rattle.plan.specs.Syntax.{Expr, Kind, Pair, Plan}
use Rattle.plan.specs.Syntax.{scan, filter, project, join, alias, union, distinct, sort, repartition, limit, aggregate, window}
use Rattle.plan.specs.Trees.{label_p}
use Rattle.plan.proofs.Bools.{no_yes}
use Rattle.rewrite.specs.PushDownFilter.{transformed_no, rewrite, merges}
use Rattle.rewrite.specs.RewriteAt.{Focus}
use Rattle.push_down_base.specs.Arms.{Placed}
use Rattle.push_down_merge.specs.Merging.{Inside, FilterInside}
use Rattle.push_down_merge.specs.Found.{JoinInside}
use Rattle.push_down_stays.specs.Staying.{Stays}
use Rattle.push_down_merge.proofs.Naming.{rule_there}
use Rattle.push_down_merge.proofs.Within.{lists_there}
use Rattle.push_down_merge.proofs.Tested.{stands_inside}
use Rattle.push_down_stays.proofs.KindOf.{kind_there, when_filter, when_join}

pub record AFilter (p : Plan) : Type 0 where
  pub expr : Expr
  pub plan : Plan
  pub is : p ≡ filter expr plan

pub a_filter : (p : Plan) → (label_p p).kind ≡ 33 → AFilter p
a_filter p h = when_filter AFilter (λ e q. record { expr = e; plan = q; is = refl }) p h

-- what stands at the record of a Filter is one
pub the_filter : {s : List ℕ} {node : ℕ} {w : Plan} {c : Focus} → FilterInside s node → Inside s node w c → AFilter c.plan
unfolding label_p
the_filter {c = c} f h =
    a_filter c.plan
    (sym (kind_there (stands_inside h)) ∙ kind_there (stands_inside f.inside) ∙ ap (λ p. (label_p p).kind) f.is)

pub record AJoin (p : Plan) : Type 0 where
  pub kind : Kind
  pub lhs : Plan
  pub rhs : Plan
  pub keys : List Pair
  pub condition : Option Expr
  pub is : p ≡ join kind lhs rhs keys condition

pub a_join : (p : Plan) → (label_p p).kind ≡ 35 → AJoin p
a_join p h = when_join AJoin (λ k l r on f. record { kind = k; lhs = l; rhs = r; keys = on; condition = f; is = refl }) p h

pub the_join : {s : List ℕ} {node : ℕ} {w : Plan} {c : Focus} → JoinInside s node → Inside s node w c → AJoin c.plan
unfolding label_p
the_join {c = c} f h =
    a_join c.plan
    (sym (kind_there (stands_inside h)) ∙ kind_there (stands_inside f.inside) ∙ ap (λ p. (label_p p).kind) f.is)

-- what was found, in its own place
pub placed_inside : {s : List ℕ} {node : ℕ} {w : Plan} {c : Focus} {p : Plan} → Inside s node w c → c.plan ≡ p → Placed s node p
placed_inside {s} {node} {w} {c} h e = subst (Placed s node) e (record {
  short = h.short;
  standing = stands_inside h;
  rules = rule_there eqb node w c h.there h.rules;
  lists = le_trans (lists_there node w c h.there) h.lists;
})

-- a plan that is neither
unchanged : (p : Plan) → ((label_p p).kind ≡ 33 → ⊥) → ((label_p p).kind ≡ 35 → ⊥) → (rewrite p ≡ transformed_no p) × (merges p ≡ [])
unfolding rewrite merges label_p
unchanged (scan t fs es) f j = (refl, refl)
unchanged (filter e p) f j = absurd (f refl)
unchanged (project es p) f j = (refl, refl)
unchanged (join k l r on g) f j = absurd (j refl)
unchanged (alias q p) f j = (refl, refl)
unchanged (union ps) f j = (refl, refl)
unchanged (distinct p) f j = (refl, refl)
unchanged (sort n ks p) f j = (refl, refl)
unchanged (repartition p) f j = (refl, refl)
unchanged (limit n k p) f j = (refl, refl)
unchanged (aggregate gs ags p) f j = (refl, refl)
unchanged (window ws p) f j = (refl, refl)

pub other_stays : (p : Plan) → ((label_p p).kind ≡ 33 → ⊥) → ((label_p p).kind ≡ 35 → ⊥) → Stays true p
other_stays p f j = let u = unchanged p f j in record { kept = record { yes = λ y. u.0; no = λ n. no_yes (sym n) }; unmerged = λ y. u.1 }
