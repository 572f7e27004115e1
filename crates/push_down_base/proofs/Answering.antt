-- Answers whose lists are none too long.
use Prim.Native.Nat.{ℕ, ◌≤◌}
use native.Mathlib.Omega.{arith}
use native.Mathlib.Nat.{max-le, le_trans, le_of_eq}
use mathlib.Core.Path.{◌≡◌, sym}
use mathlib.Core.List.{List}
use lib.ListN.{length}
use Rattle.image.specs.Limits.{max_list}
use Rattle.image.specs.Room.{Wrote}
use Rattle.plan.specs.Syntax.{Expr, Plan, filter}
use Rattle.plan.specs.Trees.{plan_tree}
use Rattle.rewrite.specs.Utils.{split_conjunction}
use Rattle.rewrite.specs.Limits.{list_p}
use Rattle.rewrite.specs.PushDownFilter.{Transformed}
use Rattle.conjuncts.proofs.Listed.{lists_length}
use Rattle.push_down_base.specs.Predicates.{Predicate}
use Rattle.push_down_base.specs.Arms.{Shaped, Rests, Written, Answers, Takes}

pub answers : {before after : List ℕ} {at level : ℕ} {r : Written} {t : Transformed} → r.flag ≡ t.transformed → list_p t.plan ≤ max_list
    → Wrote before after at level r.next (plan_tree t.plan) → Answers before after at level r t
answers f small w = record { flag = f; fits = λ h. w; over = λ h. absurd (omega (arith, small)) }

-- the conjuncts of a predicate are no more than its list
pub few : {s : List ℕ} {p : Predicate} {e : Expr} → Shaped s p e → length (split_conjunction e) ≤ max_list
few h = le_trans (le_of_eq (lists_length h.listed h.most)) h.most

-- .. nor are those of a Filter of it
pub filter_few : {s : List ℕ} {p : Predicate} {e : Expr} (q : Plan) → Shaped s p e → list_p q ≤ max_list → list_p (filter e q) ≤ max_list
unfolding list_p
filter_few q h k = max-le (few h) k

-- .. nor are those of a plan that takes it whole
pub taken_few : {s : List ℕ} {x : ℕ} {p : Predicate} {e : Expr} {f : Plan → Plan} {q : Plan} → Takes s x f q → Rests s x p e (f q)
    → list_p (f (filter e q)) ≤ max_list
taken_few {e = e} {q = q} t h =
    le_trans (le_of_eq (t.lists (filter e q))) (filter_few q h.shaped (le_trans (le_of_eq (sym (t.lists q))) h.placed.lists))
