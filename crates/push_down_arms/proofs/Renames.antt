-- Renamed predicates: no longer than they were, and read off a predicate whose columns are to be replaced.
use Prim.Native.Nat.{ℕ, ◌+◌, ◌≤◌}
use native.Mathlib.Nat.{le_trans, le_of_eq, max-le}
use mathlib.Core.Path.{◌≡◌, ap, ◌∙◌}
use mathlib.Core.List.{List, map}
use mathlib.Core.Option.{some}
use lib.ListN.{length}
use borrow.Author.Tests.{leb-true}
use Rattle.image.specs.Limits.{max_list, max_fields}
use Rattle.plan.specs.Syntax.{Name, Expr, Plan, filter, alias}
use Rattle.image.specs.Tree.{Tree}
use Rattle.image.specs.Subtrees.{Subtree}
use Rattle.plan.specs.Schema.{schema, requalify}
use Rattle.plan.specs.Trees.{kids_p}
use Rattle.conjuncts.specs.Standing.{StandingP}
use Rattle.writing.proofs.Maps.{plan_is}
use Rattle.push_down_base.specs.Inputs.{Last, last_of}
use Rattle.plan.proofs.Lists.{and_l, and_r}
use Rattle.acceptance.specs.Names.{sound}
use Rattle.acceptance.specs.NamesRule.{rule}
use Rattle.rewrite.specs.Limits.{list_p}
use Rattle.rewrite.specs.PushDownFilter.{renamed, ren}
use Rattle.writing.specs.Pushed as W
use Rattle.push_down_base.specs.Predicates.{Predicate, Perhaps, left}
use Rattle.push_down_base.specs.Arms.{Rests}
use Rattle.push_down_base.proofs.Answering.{few}
use Rattle.push_down_arms.proofs.Changes.{map_count}
use Rattle.push_down_base.proofs.Plain.{renamed_parts}

-- what is left of a predicate is a predicate
pub whole_left : {s : List ℕ} {σ : Name → Expr} {p : Predicate} {e : Expr} → Perhaps s σ p (some e) → W.Predicate s σ p.written p.list e
whole_left (left h f) = h

module _ {s : List ℕ} {x i : ℕ} {p : Predicate} {e : Expr} {q : Plan} (h : Rests s x p e (alias i q)) where
  -- an alias has as many fields as its input, and no more than `max_fields`
  pub alias_few : length (schema (alias i q)) ≤ max_fields
  unfolding rule schema sound
  alias_few = leb-true (length (map (requalify i) (schema q))) max_fields (and_r _ _ (and_l _ _ h.placed.rules))

  pub alias_wide : length (schema (alias i q)) ≡ length (schema q)
  unfolding schema
  alias_wide = map_count (requalify i) (schema q)

  -- the lists of the answer
  pub alias_lists : list_p (alias i (filter (renamed (schema (alias i q)) (schema q) e) q)) ≤ max_list
  unfolding list_p renamed
  alias_lists = max-le (le_trans (le_of_eq (renamed_parts (ren (schema (alias i q)) (schema q)) e)) (few h.shaped)) h.placed.lists

-- the last child of an alias is its input
pub alias_last : {t u : Subtree} {i : ℕ} {q : Plan} → Last t u → StandingP t.image.now t.number (alias i q) → u.number ≡ t.number + 1
unfolding kids_p
alias_last {t} w h = w.number ∙ ap (λ (v : Tree). last_of t.number (t.number + 1) v.below) (plan_is t h)
