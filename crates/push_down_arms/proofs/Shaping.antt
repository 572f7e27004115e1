-- What is written for a predicate in its shape, and for a list.
use Prim.Native.Nat.{ℕ, ◌≤◌}
use native.Mathlib.Omega.{arith}
use mathlib.Core.Path.{◌≡◌, refl, sym}
use mathlib.Core.List.{List, [], ◌∷◌}
use mathlib.Core.Option.{some}
use lib.ListN.{length}
use Rattle.std.specs.Prelude.{None}
use Rattle.image.specs.Limits.{max_list}
use Rattle.plan.specs.Syntax.{Name, Expr, Plan}
use Rattle.rewrite.specs.Utils.{split_conjunction, conjoin, conjunction, with_filters}
use Rattle.conjuncts.specs.Items.{Conjuncts, Item, Lists}
use Rattle.conjuncts.specs.Standing.{Standing}
use Rattle.writing.specs.Pushed.{Pushes, Joined}
use Rattle.writing.specs.Pushed as W
use Rattle.writing.proofs.Pushing.{pushed_plain, pushes_of, pushes_length}
use Rattle.push_down_arms.specs.Over.{under}
use Rattle.push_down_base.specs.Predicates.{Predicate, Perhaps, gone, left}
use Rattle.push_down_base.specs.Arms.{Shaped}
use Rattle.push_down_base.proofs.Plain.{split_some}

-- a plan under the conjunction of a list is the plan under the list
pub under_list : (es : List Expr) (p : Plan) → under (conjunction es) p ≡ with_filters es p
unfolding conjunction with_filters
under_list [] p = refl
under_list (e ∷ es) p = refl

-- a list that is joined anew
pub list_perhaps : {s : List ℕ} {σ : Name → Expr} (c : Conjuncts) (es : List Expr) → c.len ≤ max_list → Pushes s σ c es
    → Perhaps s σ (record { written = None; list = c }) (conjunction es)
unfolding conjunction
list_perhaps c [] small h = gone refl (sym (pushes_length h small))
list_perhaps c (e ∷ es) small h =
    left (record { item = λ n i. cc; list = λ z. record { first = e; others = es; pushes = h; is = refl } })
    (λ z. omega (arith, pushes_length h small))

-- an expression that stands at a record that is not the first is an item
pub standing_item : {s : List ℕ} {n : ℕ} {e : Expr} → Standing s n e → (n ≡ 0 → ⊥) → Item s n e
standing_item h nz = record { none = λ z. absurd (nz z); some = λ f. h; small = h.small }

pub joins_back : {e : Expr} (x : Expr) (xs : List Expr) → conjunction (x ∷ xs) ≡ some e → e ≡ conjoin x xs
unfolding conjunction
joins_back x xs h = cc

-- a predicate in its shape, its columns as they are
pub shaped_predicate : {s : List ℕ} {p : Predicate} {e : Expr} (σ : Name → Expr) → Shaped s p e → W.Predicate s σ p.written p.list e
shaped_predicate {s} {p} {e} σ h =
    record {
      item = λ n i. let k = h.stands n i in pushed_plain (standing_item k.1 (λ z. omega (arith, k.0)));
      list = λ z. go (split_conjunction e) h.listed (h.joined z) (split_some e);
    }
  where
    go : (es : List Expr) → Lists s p.list es → conjunction es ≡ some e → 1 ≤ length es → Joined s σ p.list e
    go [] l k m = absurd (omega arith)
    go (x ∷ xs) l k m = record { first = x; others = xs; pushes = pushes_of l; is = joins_back x xs k }

pub shaped_perhaps : {s : List ℕ} {p : Predicate} {e : Expr} (σ : Name → Expr) → Shaped s p e → Perhaps s σ p (some e)
shaped_perhaps {e = e} σ h =
    left (shaped_predicate σ h) (λ z. omega (arith, pushes_length (pushes_of {σ = σ} h.listed) h.most, split_some e))
