-- An expression is evaluated child by child: what is seen of the children so far, and what is still to come.
--     seen_none, seen_next, seen_all      before, in and after the loop over the children
--     tree_column, tree_literal, tree_operator    the value of a record and its type, by its label
-- Assumes nothing.
use mathlib.Core.Path.{◌≡◌, refl, sym, ap, subst, ◌∙◌}
use mathlib.Core.List.{List, [], ◌∷◌, ◌++◌, append_assoc, append-nil}
use Prim.Native.Nat.{ℕ, ◌≤◌}
use lib.IntN.{ℤ}
use lib.ListN.{length}
use Rattle.image.specs.Tree.{Label, Forest, none, node, Tree}
use Rattle.plan.specs.Read.{exprs_of}
use Rattle.plan.specs.Syntax.{Value, Name, nm}
use Rattle.plan.specs.Types.{Types, type_of_expr}
use Rattle.plan.specs.Values.{ValueRecord, Valued, literal_of}
use Rattle.std.specs.Prelude.{Some, None}
use Rattle.meaning.specs.Meaning.{Env, look, eval, evals}
use Rattle.rewrite.specs.RowTest.{lent, no_functions}
use Rattle.utils.specs.Fields.{Fields, Names}
use Rattle.evaluate.specs.Operators.{expr_in, operated, operated_type, Sees, SeesRight}
use Rattle.evaluate.specs.declared.operands.Seen.{Seen}
use Rattle.evaluate.proofs.Evaluating.{at_column, at_literal, at_operator, type_column, type_literal, type_operator}

-- the columns of a lent row
abbrev pub row : List Name → List ℕ → List ℤ → List ℕ → Env
row ns ts zs ms = look ns (lent ts zs ms)

-- the values of the children seen so far, and that with those of `rest` they are all
pub record SoFar (ρ : Env) (seen : Seen) (t : Tree) (rest : Forest) : Type 0 where
  pub values : List Value
  pub sees : Sees seen values
  pub all : values ++ evals no_functions ρ (exprs_of rest) ≡ evals no_functions ρ (exprs_of t.below)

-- on the row of any names that the fields are; and what is seen is right
abbrev pub Done : Fields → List ℕ → List ℤ → List ℕ → Seen → Tree → Forest → Type 0
Done fields ts zs ms seen t rest =
    SeesRight seen × ((ns : List Name) → Names fields ns → length ts ≤ length ns → SoFar (row ns ts zs ms) seen t rest)

pub seen_none : {seen : Seen} (ρ : Env) (t : Tree) → Sees seen [] → SoFar ρ seen t t.below
seen_none ρ t h = record { values = []; sees = h; all = refl }

pub seen_next : {ρ : Env} {seen after : Seen} {t : Tree} (v : ValueRecord) (child : Tree) {ns : Forest}
    → SoFar ρ seen t (node child.label child.below ns) → v.case ≡ eval no_functions ρ (expr_in child)
    → ((vs : List Value) → Sees seen vs → Sees after (vs ++ (v.case ∷ []))) → SoFar ρ after t ns
unfolding exprs_of eval
seen_next {ρ} v child {ns} h e add =
    record {
      values = h.values ++ (v.case ∷ []);
      sees = add h.values h.sees;
      all = append_assoc h.values (v.case ∷ []) (evals no_functions ρ (exprs_of ns))
          ∙ ap (λ w. h.values ++ (w ∷ evals no_functions ρ (exprs_of ns))) e ∙ h.all;
    }

pub seen_all : {ρ : Env} {seen : Seen} {t : Tree} → SoFar ρ seen t none → Sees seen (evals no_functions ρ (exprs_of t.below))
unfolding exprs_of eval
seen_all {seen = seen} h = subst (Sees seen) (sym (append-nil h.values) ∙ h.all) h.sees

module _ (τ : Types) (ρ : Env) {l : Label} (t : Tree) (is : l ≡ t.label) where
  -- a record that is the value of the tree's expression, and of its type
  abbrev Its : ValueRecord → Type 0
  Its v = Valued v (type_of_expr τ (expr_in t)) (eval no_functions ρ (expr_in t))

  pub tree_column : (v : ValueRecord) → l.kind ≡ 1 → Valued v (τ (nm l.p l.q)) (ρ (nm l.p l.q)) → Its v
  tree_column v e h = record {
    type = h.type ∙ rw is (type_column τ t.label (exprs_of t.below) (rw is at e));
    value = h.value ∙ rw is (sym (at_column ρ t.label (exprs_of t.below) (rw is at e)));
  }

  pub tree_literal : (v : ValueRecord) → literal_of l ≡ Some v → Its v
  tree_literal v e = record {
    type = type_literal τ t.label (exprs_of t.below) v (rw is at e);
    value = at_literal ρ t.label (exprs_of t.below) v (rw is at e);
  }

  pub tree_operator : (v : ValueRecord) → (l.kind ≡ 1 → ⊥) → literal_of l ≡ None
      → Valued v (operated_type l) (operated l.kind l.p (evals no_functions ρ (exprs_of t.below))) → Its v
  tree_operator v n e h = record {
    type = h.type ∙ rw is (type_operator τ t.label (exprs_of t.below) (rw is at n) (rw is at e));
    value = h.value ∙ rw is (at_operator ρ t.label (exprs_of t.below) (rw is at n) (rw is at e));
  }
