-- One merge of two Filters.
use Rattle.std.specs.Option.{is_none}
use mathlib.Core.Path.{◌≡◌, refl, sym, ap, subst, ◌∙◌}
use mathlib.Core.Bool.{Bool, true, false}
use mathlib.Core.List.{List, [], ◌∷◌, ◌++◌}
use mathlib.Core.Option.{Option, none, some}
use Prim.Native.Nat.{ℕ, ◌+◌, ◌≤◌}
use native.Mathlib.Nat.{le_trans, le-max_left, le-max_right}
use native.Mathlib.Omega.{arith}
use lib.Dec.{eqb, leb}
use lib.ListN.{length, length-append}
use borrow.Author.Tests.{leb-true, leb-false, eqb-true}
use Rattle.image.specs.Limits.{work_bytes, max_list}
use Rattle.plan.specs.Syntax.{Expr, Plan, filter, scan, project, join, alias, union, distinct, sort, repartition, limit, aggregate, window}
use Rattle.plan.specs.Trees.{label_p}
use Rattle.plan.specs.Schema.{schema}
use Rattle.plan.proofs.Bools.{no_yes}
use Rattle.plan.proofs.Lists.{and_l, and_r}
use Rattle.acceptance.specs.NamesRule.{reads, reads?, rule, ok}
use Rattle.rewrite.specs.Utils.{split_conjunction, conjunction, unique}
use Rattle.rewrite.specs.Limits.{list_p, within_limits}
use Rattle.rewrite.specs.RewriteAt.{Focus}
use Rattle.rewrite.specs.PushDownFilter.{merged, merges_under}
use Rattle.conjuncts.specs.Standing.{Standing, StandingP}
use Rattle.conjuncts.proofs.Listed.{lists_length}
use Rattle.push_down_base.specs.Predicates.{Predicate}
use Rattle.push_down_base.specs.Arms.{Shaped, Placed, Rests}
use Rattle.push_down_merge.specs.Merging.{Remains, nothing, something, Made, Inside, is_filter}
use Rattle.push_down_base.proofs.Plain.{Joined?, none_left, some_left, joined?, merged_plain, split_some}
use Rattle.push_down_base.proofs.Perhapsing.{is_gone, both}
use Rattle.push_down_base.proofs.Steps.{filter_predicate}
use Rattle.push_down_merge.proofs.Merges.{made_shaped}
use Rattle.push_down_merge.proofs.Scoped.{merged_reads}
use Rattle.push_down_merge.proofs.Tested.{too_long}

-- ---- what is left of a predicate

-- an expression is left
pub record Leaves (s : List ℕ) (p : Predicate) (o : Option Expr) : Type 0 where
  pub expr : Expr
  pub is : o ≡ some expr
  pub shaped : Shaped s p expr

module _ {s : List ℕ} {p : Predicate} where
  -- nothing is left
  pub leaves_none : {o : Option Expr} → Remains s p o → is_gone p ≡ true → o ≡ none
  leaves_none (nothing w l) h = refl
  leaves_none (something {e = e} x) h =
      let z = eqb-true p.list.len 0 (both (is_none p.written) (eqb p.list.len 0) h).1 in
      absurd (omega (arith, lists_length x.listed x.most, split_some e))

  pub leaves_some : {o : Option Expr} → Remains s p o → is_gone p ≡ false → Leaves s p o
  leaves_some (nothing w l) h = no_yes (sym h ∙ rw (w, l))
  leaves_some (something {e = e} x) h = record { expr = e; is = refl; shaped = x }

-- ---- the plan below

-- the input of a Filter in its own place
pub input_placed : {s : List ℕ} {y : ℕ} (b : Expr) {q : Plan} → length s ≤ work_bytes → ok (filter b q) ≡ true → list_p (filter b q) ≤ max_list
    → StandingP s y q → Placed s y q
unfolding list_p rule
input_placed b {q} short rules lists k =
    record {
      short = short;
      standing = k;
      rules = and_r (reads (schema q) b) (ok q) rules;
      lists = le_trans (le-max_right (length (split_conjunction b)) (list_p q)) lists;
    }

-- the conjuncts of a Filter are few enough
pub own_few : (b : Expr) (q : Plan) → list_p (filter b q) ≤ max_list → length (split_conjunction b) ≤ max_list
unfolding list_p
own_few b q h = le_trans (le-max_left (length (split_conjunction b)) (list_p q)) h

-- the predicate of a Filter in its own place, read at record n of the same bytes: what stands there, and what is made of it
module _ {s t : List ℕ} {x n : ℕ} (i : t ≡ s) (k : n ≡ x + 1) {e : Expr} {q : Plan} (h : Placed s x (filter e q)) where
  pub predicate_stands : Standing t n e
  predicate_stands = rw (i, k) (filter_predicate h.short h.standing)

  pub predicate_shaped : {p : Predicate} → ((e : Expr) → Standing t n e → length (split_conjunction e) ≤ max_list → Shaped t p e) → Shaped s p e
  predicate_shaped {p} f = subst (λ b. Shaped b p e) i (f e predicate_stands (own_few e q h.lists))

-- where the merged Filter fits, its conjuncts are few enough
merge_few : {s : List ℕ} {node : ℕ} {w : Plan} {c : Focus} {p : Predicate} {m : Expr} (q : Plan) → Inside s node w c → Made s p m
    → within_limits (c.back (filter m q)) ≡ true → p.list.len ≤ max_list
merge_few {p = p} q h k t = go (leb p.list.len max_list) refl
  where
    go : (d : Bool) → leb p.list.len max_list ≡ d → p.list.len ≤ max_list
    go true f = leb-true p.list.len max_list f
    go false f = no_yes (sym (too_long h k q (leb-false p.list.len max_list f)) ∙ t)

-- ---- a plan that is no Filter

-- nothing is merged
pub unmerged : (e : Expr) (q : Plan) → is_filter q ≡ false → merges_under e q ≡ []
unfolding merges_under
unmerged e (filter b q) h = no_yes (sym h)
unmerged e (scan t fs es) h = refl
unmerged e (project es p) h = refl
unmerged e (join k l r on f) h = refl
unmerged e (alias i p) h = refl
unmerged e (union ps) h = refl
unmerged e (distinct p) h = refl
unmerged e (sort f ks p) h = refl
unmerged e (repartition p) h = refl
unmerged e (limit n k p) h = refl
unmerged e (aggregate gs ags p) h = refl
unmerged e (window ws p) h = refl

-- ---- the kind of a plan

pub kind_filter : (q : Plan) → eqb (label_p q).kind 33 ≡ is_filter q
unfolding label_p
kind_filter (filter b q) = refl
kind_filter (scan t fs es) = refl
kind_filter (project es p) = refl
kind_filter (join k l r on f) = refl
kind_filter (alias i p) = refl
kind_filter (union ps) = refl
kind_filter (distinct p) = refl
kind_filter (sort f ks p) = refl
kind_filter (repartition p) = refl
kind_filter (limit n k p) = refl
kind_filter (aggregate gs ags p) = refl
kind_filter (window ws p) = refl

-- ---- the Filter that two become

unique_some : (es : List Expr) → 1 ≤ length es → 1 ≤ length (unique es)
unfolding unique
unique_some [] h = absurd (omega arith)
unique_some (e ∷ es) h = omega arith

merged_more : (e b : Expr) → 1 ≤ length (merged e b)
unfolding merged
merged_more e b =
    unique_some (split_conjunction b ++ split_conjunction e)
    (omega (arith, length-append (split_conjunction b) (split_conjunction e), split_some b))

-- the merged predicate over the input, at record y
pub record Merge (s : List ℕ) (y : ℕ) (p : Predicate) (e b : Expr) (q : Plan) : Type 0 where
  pub expr : Expr
  pub is : conjunction (merged e b) ≡ some expr
  pub made : Made s p expr
  pub input : Placed s y q

module _ {s : List ℕ} {x y : ℕ} {p p' : Predicate} {e b : Expr} {q : Plan} (h : Rests s x p e (filter b q)) where
  -- a merge leaves something
  pub one_merge : ((m : Expr) → conjunction (merged e b) ≡ some m → Made s p' m) → StandingP s y q → Merge s y p' e b q
  one_merge f k = go (joined? (merged e b) (merged_plain e b)) refl
    where
      go : {o : Option Expr} → Joined? (merged e b) o → conjunction (merged e b) ≡ o → Merge s y p' e b q
      go (none_left z) i = absurd (omega (arith, merged_more e b, ap length z))
      go (some_left {e = m} j) i =
          record { expr = m; is = i; made = f m i; input = input_placed b h.placed.short h.placed.rules h.placed.lists k }

  -- where it fits, it rests on the input
  pub merge_rests : {node : ℕ} {w : Plan} {c : Focus} → Inside s node w c → (m : Merge s y p' e b q)
      → within_limits (c.back (filter m.expr q)) ≡ true → Rests s y p' m.expr q
  unfolding schema rule
  merge_rests i m t =
      record {
        placed = m.input;
        shaped = made_shaped m.made (merge_few q i m.made t);
        scope =
            subst (λ o. reads? (schema q) o ≡ true) m.is
            (merged_reads (schema q) e b h.scope (and_l (reads (schema q) b) (ok q) h.placed.rules));
      }
