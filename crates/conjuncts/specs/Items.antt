-- A list of conjuncts as a list of expressions: what each item stands for.
use Rattle.std.specs.Prelude.{◌≡◌, false, List, [], ◌∷◌, ℕ, ◌*◌, ◌≤◌, ◌<◌, Option, None, Some as there}
use Rattle.image.specs.Limits.{max_list, max_records}
use Rattle.image.specs.Subtrees.{Subtree}
use Rattle.plan.specs.Syntax.{Expr, bool}
use Rattle.conjuncts.specs.Standing.{Standing}
use Rattle.bounded.specs.declared.Bounded.{Bounded}
-- the numbers in a list of the code: `listed`; and `Holds xs`: those of xs, or as many as there is room for
pub use Rattle.bounded.specs.Lists.{listed, Holds}
-- .. and how many it says that it has
unfoldable pub use Rattle.bounded.specs.Lists.{most}

-- the list of the code
abbrev pub Conjuncts : Type 0
Conjuncts = Bounded ℕ max_list

abbrev pub FALSE : Expr
FALSE = bool false

-- ---- the numbers of items: those of the code's module `items`

-- FALSE, which needs no record; each other number below max_records is an expression's, by its record
abbrev pub false_item : ℕ
false_item = 0

-- so much more for the expression with its columns replaced
abbrev pub replaced_by : ℕ
replaced_by = max_records

-- so much more for the clause out of an OR
abbrev pub clause_by : ℕ
clause_by = 2 * max_records

-- ---- the expressions of a list

-- the number n stands for e
pub record Item (s : List ℕ) (n : ℕ) (e : Expr) : Type 0 where
  pub none : n ≡ false_item → e ≡ FALSE
  pub some : (n ≡ false_item → ⊥) → Standing s n e
  pub small : n < max_records

pub data Items (s : List ℕ) : List ℕ → List Expr → Type 0 where
  inil : Items s [] []
  icons : {n : ℕ} {e : Expr} {ns : List ℕ} {es : List Expr} → Item s n e → Items s ns es → Items s (n ∷ ns) (e ∷ es)

-- c is the list es
pub record Lists (s : List ℕ) (c : Conjuncts) (es : List Expr) : Type 0 where
  pub numbers : List ℕ
  pub holds : Holds c numbers
  pub items : Items s numbers es

-- ---- what functions ask for

-- the number n stands for some expression
pub record Present (s : List ℕ) (n : ℕ) : Type 0 where
  pub expr : Expr
  pub item : Item s n expr

-- c is some list, perhaps of too many
pub record Some (s : List ℕ) (c : Conjuncts) : Type 0 where
  pub exprs : List Expr
  pub lists : Lists s c exprs

-- c is some list, and whole
pub record Known (s : List ℕ) (c : Conjuncts) : Type 0 where
  pub exprs : List Expr
  pub lists : Lists s c exprs
  pub most : c.len ≤ max_list

-- ---- the tree of an item

-- t is the tree of e, whose record has the number n
pub record Found (s : List ℕ) (n : ℕ) (t : Subtree) (e : Expr) : Type 0 where
  pub image : t.image.now ≡ s
  pub number : t.number ≡ n
  pub standing : Standing s n e

-- FALSE has none; any other item has one
abbrev pub ItemTree : List ℕ → ℕ → Option Subtree → Expr → Type 0
ItemTree s n None e = e ≡ FALSE
ItemTree s n (there t) e = Found s n t e
