-- Laws of predicates that are read, simplified and merged.
use Rattle.std.specs.Prelude.{Some, None}
use mathlib.Core.Path.{◌≡◌, refl, sym, ap, subst, ◌∙◌}
use mathlib.Core.Bool.{Bool, true, false, ◌||◌}
use mathlib.Core.List.{List}
use mathlib.Core.Option.{Option, some}
use Prim.Native.Nat.{ℕ, ◌+◌, ◌*◌, ◌≤◌, ◌<◌}
use native.Mathlib.Omega.{arith}
use lib.ListN.{length, drop}
use lib.Dec.{eqb}
use borrow.Author.Tests.{ne_eqb, eq-eqb}
use Rattle.image.specs.Limits.{work_bytes, max_list}
use Rattle.image.specs.Word.{word}
use Rattle.plan.specs.Measure.{size_e}
use Rattle.plan.specs.Trees.{kids_p}
use Rattle.plan.specs.Lists.{choose}
use Rattle.plan.specs.Syntax.{Expr, Plan, filter}
use Rattle.rewrite.specs.Utils.{split_conjunction, conjunction}
use Rattle.rewrite.specs.SimplifyPredicates.{simplify_predicates}
use Rattle.rewrite.specs.ReorderPredicates.{Reordered, reorder_predicates}
use Rattle.rewrite.specs.PushDownFilter.{simplify_filter, merged}
use Rattle.conjuncts.specs.Standing.{Standing, StandingP}
use Rattle.conjuncts.specs.Items.{Conjuncts, Lists, Known}
use Rattle.conjuncts.proofs.Listed.{known_of, lists_length}
use Rattle.push_down_base.specs.Predicates.{Predicate}
use Rattle.push_down_base.specs.Arms.{Shaped}
use Rattle.push_down_merge.specs.Merging.{Remains, nothing, something, Made}
use Rattle.push_down_base.proofs.Plain.{Joins, Joined?, none_left, some_left, joined?, merged_plain, new_plain}
use Rattle.push_down_base.proofs.Steps.{children}
use Rattle.simplify_expressions.proofs.Few.{simplified_few}
use Rattle.push_down_merge.proofs.Shorter.{new_few}

-- the conjuncts simplified and reordered
abbrev renewed : Expr → Reordered
renewed e = reorder_predicates (simplify_predicates (split_conjunction e))

or_true : (b : Bool) → (b || true) ≡ true
or_true true = refl
or_true false = refl

module _ {s : List ℕ} where
  -- the list of a predicate is whole
  pub shaped_known : {p : Predicate} {e : Expr} → Shaped s p e → Known s p.list
  shaped_known {e = e} h = record { exprs = split_conjunction e; lists = h.listed; most = h.most }

  -- a predicate as it is written
  pub shaped_written : {n : ℕ} {c : Conjuncts} {e : Expr} → 0 < n → Standing s n e → Lists s c (split_conjunction e)
      → length (split_conjunction e) ≤ max_list → Shaped s (record { written = Some n; list = c }) e
  shaped_written {n} past h l few =
      record { listed = l; most = (known_of l few).most; stands = λ m i. let z : n ≡ m = cc in rw (← z) (past, h); joined = λ z. cc }

  -- a predicate made of a list, if there is any
  pub made_of : {c : Conjuncts} {es : List Expr} {e : Expr} → Joins es e → Lists s c es → Made s (record { written = None; list = c }) e
  made_of j l = record { anew = refl; listed = rw j.parts l; joined = rw j.parts j.whole }

  pub made_shaped : {p : Predicate} {e : Expr} → Made s p e → p.list.len ≤ max_list → Shaped s p e
  made_shaped h few = record { listed = h.listed; most = few; stands = λ n i. let z = sym h.anew ∙ i in cc; joined = λ z. h.joined }

  -- ---- simplified

  pub simplified_known : {p : Predicate} {e : Expr} {c : Conjuncts} → Shaped s p e → Lists s c (simplify_predicates (split_conjunction e)) → Known s c
  simplified_known {e = e} h l =
      known_of l (omega (arith, simplified_few (split_conjunction e), lists_length h.listed h.most, h.most))

  module _ {p : Predicate} {e : Expr} (h : Shaped s p e) where
    few : length (renewed e).predicates ≤ max_list
    few = omega (arith, new_few (split_conjunction e), lists_length h.listed h.most, h.most)

    new_remains : {c : Conjuncts} → Lists s c (renewed e).predicates → Remains s (record { written = None; list = c }) (conjunction (renewed e).predicates)
    new_remains {c} l = go (joined? (renewed e).predicates (new_plain e))
      where
        k : c.len ≤ max_list
        k = (known_of l few).most

        go : {o : Option Expr} → Joined? (renewed e).predicates o → Remains s (record { written = None; list = c }) o
        go (none_left z) = nothing refl (sym (lists_length l k) ∙ ap length z)
        go (some_left j) = something (made_shaped (made_of j l) k)

    -- a new order
    pub simplified_moved : {c : Conjuncts} → Lists s c (renewed e).predicates × ((renewed e).changed ≡ true)
        → Remains s (record { written = None; list = c }) (simplify_filter e)
    unfolding simplify_filter choose
    simplified_moved l = rw (l.1, or_true) (new_remains l.0)

    -- none
    module _ {c : Conjuncts} (l : Lists s c (simplify_predicates (split_conjunction e)))
        (k : ((renewed e).predicates ≡ simplify_predicates (split_conjunction e)) × ((renewed e).changed ≡ false)) where
      there : Lists s c (renewed e).predicates
      there = rw k.0 l

      -- what the code tests is what the definition does
      test_is : eqb p.list.len c.len ≡ eqb (length (split_conjunction e)) (length (renewed e).predicates)
      test_is = rw (lists_length h.listed h.most, lists_length there (known_of there few).most)

      -- fewer predicates
      pub simplified_new : (p.list.len ≡ c.len → ⊥) → Remains s (record { written = None; list = c }) (simplify_filter e)
      unfolding simplify_filter choose
      simplified_new n = rw (← test_is, ne_eqb _ _ n) (new_remains there)

      -- the predicate as it is
      pub simplified_old : p.list.len ≡ c.len → Remains s p (simplify_filter e)
      unfolding simplify_filter choose
      simplified_old n = rw (← test_is, eq-eqb _ _ n, k.1) (something h)

  -- ---- merged

  pub merge_made : {c : Conjuncts} (e b : Expr) {m : Expr} → conjunction (merged e b) ≡ some m → Lists s c (merged e b)
      → Made s (record { written = None; list = c }) m
  merge_made {c} e b {m} i l = go (joined? (merged e b) (merged_plain e b)) i
    where
      go : {o : Option Expr} → Joined? (merged e b) o → o ≡ some m → Made s (record { written = None; list = c }) m
      go (none_left z) i = let z : ◌≡◌ {A = ℕ} 0 1 = cc in absurd (omega arith)
      go (some_left {e = x} j) i = let k : x ≡ m = cc in subst (λ y. Made s (record { written = None; list = c }) y) k (made_of j l)

  -- ---- the parts of a Filter

  module _ (short : length s ≤ work_bytes) {x : ℕ} {e : Expr} {q : Plan} (h : StandingP s x (filter e q)) where
    -- its input follows its predicate
    pub filter_next : word (drop (32 * (x + 1)) s) 28 ≡ x + 1 + size_e e
    unfolding kids_p size_e
    filter_next = (children short h).stands.next ∙ omega arith

    pub filter_room : 28 + 4 ≤ length (drop (32 * (x + 1)) s)
    unfolding kids_p
    filter_room = omega (arith, (children short h).stands.head.room)
