-- A Filter over a TableScan: which of its conjuncts the scan takes.
use Rattle.std.specs.Prelude.{◌≡◌, Bool, not, List, [], ◌∷◌, ◌++◌, ℕ, length}
use Rattle.image.specs.Tree.{Label}
use Rattle.plan.specs.Kinds.{number_q, FieldPart}
use Rattle.plan.specs.Columns.{on_cols}
use Rattle.plan.specs.Lists.{◌&◌}
use Rattle.plan.specs.Syntax.{Name, Expr, Field, scan}
use Rattle.plan.specs.Trees.{label_e}
use Rattle.rewrite.specs.Utils.{no_columns}
use Rattle.rewrite.specs.PushDownFilter.{supported_filters, unsupported_filters, volatile_filters}
use Rattle.conjuncts.specs.Items.{Conjuncts, Item, Lists}
use Rattle.push_down_base.specs.Predicates.{Predicate}
use Rattle.push_down_base.specs.Arms.{Placed, Rests}

-- it has a column, and all its columns pass the test: `supports_pushdown fs` is `supports (marked fs)`
abbrev pub supports : (Name → Bool) → Expr → Bool
supports t e = not (no_columns e) & on_cols t e

-- of a record with the label l and the number n: a field adds nothing to the list ds, which becomes r, and an expression itself
pub record Adds (s : List ℕ) (l : Label) (n : ℕ) (r : Conjuncts) (ds : List Expr) : Type 0 where
  pub field : l.kind ≡ number_q FieldPart → Lists s r ds
  pub filter : (e : Expr) → l ≡ label_e e → Item s n e → Lists s r (ds ++ (e ∷ []))

-- of the conjuncts of e a scan of the k fields fs takes one list, and leaves the other
pub record Shares (s : List ℕ) (k : ℕ) (taken left : Conjuncts) (fs : List Field) (e : Expr) : Type 0 where
  pub count : k ≡ length fs
  pub takes : Lists s taken (supported_filters fs e)
  pub leaves : Lists s left (unsupported_filters fs e ++ volatile_filters e)

-- some scan of k fields stands at record x
pub record SomeScan (s : List ℕ) (x k : ℕ) : Type 0 where
  pub table : ℕ
  pub fields : List Field
  pub filters : List Expr
  pub placed : Placed s x (scan table fields filters)
  pub count : k ≡ length fields

-- some predicate rests on a TableScan
pub record OverScan (s : List ℕ) (x : ℕ) (p : Predicate) : Type 0 where
  pub expr : Expr
  pub table : ℕ
  pub fields : List Field
  pub filters : List Expr
  pub rests : Rests s x p expr (scan table fields filters)
