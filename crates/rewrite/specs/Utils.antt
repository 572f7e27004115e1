-- What src/push_down_filter.rs takes from src/utils.rs and from other crates, on trees: the columns of an expression, replacing columns,
-- conjuncts, equal expressions, volatile and leafward functions. Definitions only; their laws are in Exprs and Project.
use Rattle.std.specs.Prelude.{ℕ, ◌≡◌, Bool, true, false, not, ◌||◌, List, [], ◌∷◌, ◌++◌, ℤ, pos, negsuc}
use Rattle.std.proofs.Common.{sym, ap}
use Rattle.std.proofs.Math.Bool.{Bool-discrete, decide}
use Rattle.std.proofs.Math.Option.{Option, none, some}
use Rattle.std.proofs.Math.Decide.{ℕ_discrete}
use Rattle.std.proofs.Math.IntN.{pos-ne-negsuc}
use Rattle.plan.specs.Columns.{on_cols}
use Rattle.plan.specs.Lists.{keep}
use Rattle.plan.specs.Syntax.{is_volatile, is_leafward}
use Rattle.plan.specs.Syntax.{Name, Name-disc, Cmp-disc, Op-disc, Test-disc, and, or, cmp, Expr, Expr-disc, col, num, bool, nul, bin, neg}
use Rattle.plan.specs.Syntax.{test, between, inlist, fn, Exprs, enil, econs, Plan, filter}
use Rattle.plan.specs.Schema.{has}

-- has_all_column_refs: the columns of an expression are names of the schema. (The source's schema_columns also holds each field without its
-- qualifier. Over the inputs of an accepted join that says the same: SchemaColumns.left-only, right-only.)
abbrev pub has_all_column_refs : List Name → Expr → Bool
has_all_column_refs s e = on_cols (has s) e

-- column_refs is empty
abbrev pub no_columns : Expr → Bool
no_columns e = on_cols (λ x. false) e

-- ---- functions

unfoldable mutual
  -- some function's marks pass the test
  pub any_fn : (ℕ → Bool) → Expr → Bool
  any_fn c (col x) = false
  any_fn c (num z) = false
  any_fn c (bool b) = false
  any_fn c (nul t) = false
  any_fn c (bin o a b) = any_fn c a || any_fn c b
  any_fn c (neg a) = any_fn c a
  any_fn c (test t a) = any_fn c a
  any_fn c (between n a l u) = any_fn c a || (any_fn c l || any_fn c u)
  any_fn c (inlist n a xs) = any_fn c a || any_fn_all c xs
  any_fn c (fn p q r xs) = c q || any_fn_all c xs

  pub any_fn_all : (ℕ → Bool) → Exprs → Bool
  any_fn_all c enil = false
  any_fn_all c (econs x xs) = any_fn c x || any_fn_all c xs

-- is_volatile: some function is
abbrev pub is_volatile_expr : Expr → Bool
is_volatile_expr e = any_fn is_volatile e

-- placement() == MoveTowardsLeafNodes: the topmost expression is a function so marked
unfoldable pub is_leafward_expr : Expr → Bool
is_leafward_expr (fn p q r xs) = is_leafward q
is_leafward_expr (col x) = false
is_leafward_expr (num z) = false
is_leafward_expr (bool b) = false
is_leafward_expr (nul t) = false
is_leafward_expr (bin o a b) = false
is_leafward_expr (neg a) = false
is_leafward_expr (test t a) = false
is_leafward_expr (between n a l u) = false
is_leafward_expr (inlist n a xs) = false

-- ---- replace_cols_by_name, replace_col

unfoldable mutual
  pub replace_cols : (Name → Expr) → Expr → Expr
  replace_cols σ (col x) = σ x
  replace_cols σ (num z) = num z
  replace_cols σ (bool b) = bool b
  replace_cols σ (nul t) = nul t
  replace_cols σ (bin o a b) = bin o (replace_cols σ a) (replace_cols σ b)
  replace_cols σ (neg a) = neg (replace_cols σ a)
  replace_cols σ (test t a) = test t (replace_cols σ a)
  replace_cols σ (between n a l h) = between n (replace_cols σ a) (replace_cols σ l) (replace_cols σ h)
  replace_cols σ (inlist n a xs) = inlist n (replace_cols σ a) (replace_cols_all σ xs)
  replace_cols σ (fn p q r xs) = fn p q r (replace_cols_all σ xs)

  pub replace_cols_all : (Name → Expr) → Exprs → Exprs
  replace_cols_all σ enil = enil
  replace_cols_all σ (econs x xs) = econs (replace_cols σ x) (replace_cols_all σ xs)

-- ---- conjuncts

-- split_conjunction: a predicate split at its Ands, left operand first
unfoldable pub split_conjunction : Expr → List Expr
split_conjunction (bin and a b) = split_conjunction a ++ split_conjunction b
split_conjunction (bin or a b) = bin or a b ∷ []
split_conjunction (bin (cmp c) a b) = bin (cmp c) a b ∷ []
split_conjunction (col x) = col x ∷ []
split_conjunction (num z) = num z ∷ []
split_conjunction (bool b) = bool b ∷ []
split_conjunction (nul t) = nul t ∷ []
split_conjunction (neg a) = neg a ∷ []
split_conjunction (test t a) = test t a ∷ []
split_conjunction (between n a l h) = between n a l h ∷ []
split_conjunction (inlist n a xs) = inlist n a xs ∷ []
split_conjunction (fn p q r xs) = fn p q r xs ∷ []

-- the conjuncts of a join's filter
unfoldable pub split_conjunction? : Option Expr → List Expr
split_conjunction? none = []
split_conjunction? (some e) = split_conjunction e

-- joined left-deep, behind a first
unfoldable pub conjoin : Expr → List Expr → Expr
conjoin e [] = e
conjoin e (x ∷ xs) = conjoin (bin and e x) xs

-- conjunction: a list joined left-deep, none of an empty one
unfoldable pub conjunction : List Expr → Option Expr
conjunction [] = none
conjunction (e ∷ es) = some (conjoin e es)

-- with_filters: a Filter over the plan, or the plan itself where nothing is left to test
unfoldable pub with_filters : List Expr → Plan → Plan
with_filters [] p = p
with_filters (e ∷ es) p = filter (conjoin e es) p

-- ---- equal expressions

-- equality of integers, as a decision that computes: the library's is shut
unfoldable pub both_pos : (a b : ℕ) → Dec (a ≡ b) → Dec (pos a ≡ pos b)
both_pos a b (yes p) = yes (ap pos p)
both_pos a b (no f) = no (λ e. f (cc))

-- .. of two negative ones
unfoldable pub both_neg : (a b : ℕ) → Dec (a ≡ b) → Dec (negsuc a ≡ negsuc b)
both_neg a b (yes p) = yes (ap negsuc p)
both_neg a b (no f) = no (λ e. f (cc))

-- .. of any two
unfoldable pub Z-eq : Discrete ℤ
unfolding both_pos both_neg
Z-eq (pos a) (pos b) = both_pos a b (ℕ_discrete a b)
Z-eq (pos a) (negsuc b) = no (λ e. pos-ne-negsuc a b e)
Z-eq (negsuc a) (pos b) = no (λ e. pos-ne-negsuc b a (sym e))
Z-eq (negsuc a) (negsuc b) = both_neg a b (ℕ_discrete a b)

-- as a decision and as a test
abbrev pub Expr-eq : Discrete Expr
Expr-eq = Expr-disc (Name-disc ℕ_discrete) Z-eq Bool-discrete ℕ_discrete (Op-disc Cmp-disc) Test-disc

-- two expressions are equal
unfoldable pub same_e : Expr → Expr → Bool
same_e a b = decide (Expr-eq a b)

-- IndexSet, `.unique()`: later equal ones dropped
unfoldable pub unique : List Expr → List Expr
unique [] = []
unique (e ∷ es) = e ∷ keep (λ x. not (same_e e x)) (unique es)

-- is_empty
abbrev pub is_empty : {A : Type 0} → List A → Bool
is_empty [] = true
is_empty (x ∷ xs) = false
