-- A fingerprint: a number below 2 ^ 32 for each expression, made of the labels and the shape of its records, parents first. Equal
-- expressions have the same; that expressions which differ mostly have others makes the code fast, and no proof needs it.
use Rattle.std.specs.Prelude.{◌≡◌, cond, List, ℕ, ◌+◌, ◌*◌, ◌%◌, ◌<◌, eqb, length, get_or}
use Rattle.image.specs.Limits.{max_list}
use Rattle.image.specs.Tree.{Label, Forest, none, node, link}
use Rattle.plan.specs.Syntax.{Expr}
use Rattle.plan.specs.Trees.{expr_tree}
use Rattle.conjuncts.specs.Items.{Conjuncts, FALSE, Lists}

-- one record more: its label, and its shape
unfoldable pub mixed : ℕ → Label → ℕ → ℕ
mixed h l shape =
    (16777619 * h + shape + 101 * l.kind + 10007 * l.p + 100003 * l.q + 1000003 * l.r + 10000019 * l.lo + 100000007 * l.hi) % 4294967296

-- a link leads somewhere
abbrev pub leads : ℕ → ℕ
leads link = cond (eqb link 0) 0 1

-- the shape of a record, by its links: whether it has a child, and whether a sibling follows
unfoldable pub shape : ℕ → ℕ → ℕ
shape first next = leads first + 2 * leads next

-- the records of a forest more
unfoldable pub mixed_any : ℕ → Forest → ℕ
mixed_any h none = h
mixed_any h (node l cs ns) = mixed_any (mixed_any (mixed h l (shape (link 1 cs) (link 1 ns))) cs) ns

-- all of an expression; the next of its top is apart
unfoldable pub fingerprint : Expr → ℕ
fingerprint e = mixed_any (mixed 0 (expr_tree e).label (shape (link 1 (expr_tree e).below) 0)) (expr_tree e).below

-- the fingerprints of a list, of as many as a list has room for
abbrev pub Prints : List ℕ → List Expr → Type 0
Prints ps es = (i : ℕ) → i < length es → i < max_list → get_or ps i 0 ≡ fingerprint (get_or es i FALSE)

-- c is the list es, and ps are its fingerprints
pub record Printed (s : List ℕ) (c : Conjuncts) (ps : List ℕ) (es : List Expr) : Type 0 where
  pub lists : Lists s c es
  pub prints : Prints ps es

-- c is some list, and ps are its fingerprints
pub record Fingerprinted (s : List ℕ) (c : Conjuncts) (ps : List ℕ) : Type 0 where
  pub exprs : List Expr
  pub printed : Printed s c ps exprs
