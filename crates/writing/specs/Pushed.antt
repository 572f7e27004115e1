-- What is written for the items of a list: an expression as it stands, or with its columns replaced.
use Rattle.std.specs.Prelude.{◌≡◌, Option, Some as just, None as nothing, List, [], ◌∷◌, ℕ, ◌-◌, ◌≤◌, ◌<◌}
use Rattle.image.specs.Limits.{max_list}
use Rattle.plan.specs.Syntax.{Name, Expr}
use Rattle.rewrite.specs.Utils.{replace_cols, conjoin}
use Rattle.conjuncts.specs.Items.{Conjuncts, Holds, Item, clause_by, replaced_by}

-- e is the expression of the item n, its columns replaced by σ
pub record Changed (s : List ℕ) (σ : Name → Expr) (n : ℕ) (e : Expr) : Type 0 where
  pub from : Expr
  pub item : Item s n from
  pub is : e ≡ replace_cols σ from

-- e is written for the number n, where columns are replaced by σ
pub record Pushed (s : List ℕ) (σ : Name → Expr) (n : ℕ) (e : Expr) : Type 0 where
  pub plain : n < replaced_by → Item s n e
  pub changed : replaced_by ≤ n → Changed s σ (n - replaced_by) e
  pub small : n < clause_by

-- the numbers stand for the expressions, one by one
pub data Each (R : ℕ → Expr → Type 0) : List ℕ → List Expr → Type 0 where
  nil : Each R [] []
  cons : {n : ℕ} {e : Expr} {ns : List ℕ} {es : List Expr} → R n e → Each R ns es → Each R (n ∷ ns) (e ∷ es)

-- es is written for the list c
pub record Pushes (s : List ℕ) (σ : Name → Expr) (c : Conjuncts) (es : List Expr) : Type 0 where
  pub numbers : List ℕ
  pub holds : Holds c numbers
  pub items : Each (Pushed s σ) numbers es

-- e is the list c, joined left-deep
pub record Joined (s : List ℕ) (σ : Name → Expr) (c : Conjuncts) (e : Expr) : Type 0 where
  pub first : Expr
  pub others : List Expr
  pub pushes : Pushes s σ c (first ∷ others)
  pub is : e ≡ conjoin first others

-- e is written for the item `written`, or where there is none for the list c
pub record Predicate (s : List ℕ) (σ : Name → Expr) (written : Option ℕ) (c : Conjuncts) (e : Expr) : Type 0 where
  pub item : (n : ℕ) → written ≡ just n → Pushed s σ n e
  pub list : written ≡ nothing → Joined s σ c e

-- ---- what functions ask for

-- something is written for the number n
pub record One (s : List ℕ) (n : ℕ) : Type 0 where
  pub mapping : Name → Expr
  pub expr : Expr
  pub pushed : Pushed s mapping n expr

-- something is written for the list c, which is whole
pub record Some (s : List ℕ) (c : Conjuncts) : Type 0 where
  pub mapping : Name → Expr
  pub exprs : List Expr
  pub pushes : Pushes s mapping c exprs
  pub most : c.len ≤ max_list

-- a predicate is written
pub record Predicated (s : List ℕ) (written : Option ℕ) (c : Conjuncts) : Type 0 where
  pub mapping : Name → Expr
  pub expr : Expr
  pub predicate : Predicate s mapping written c expr
  pub most : c.len ≤ max_list
