-- The predicates above a join: those of a Filter over it, and none.
--     over_reads, over_under  a Filter's conjuncts read both inputs' fields, though a semi or anti join has only one input's
--     none_under              no predicate above it
-- Assumes nothing.
use mathlib.Core.Path.{◌≡◌}
use mathlib.Core.Bool.{true}
use mathlib.Core.List.{List, [], ◌++◌}
use mathlib.Core.Option.{Option}
use Prim.Native.Nat.{ℕ}
use Rattle.plan.specs.Columns.{on_cols}
use Rattle.plan.specs.Schema.{has, schema, sides}
use Rattle.plan.specs.Syntax.{Name, Expr, Pair, Kind, inner, left, right, full, left_semi, right_semi, left_anti, right_anti, Plan, join}
use Rattle.plan.specs.Lists.{anil}
use Rattle.rewrite.specs.Utils.{split_conjunction}
use Rattle.rewrite.proofs.Exprs.{on_cols_mono}
use Rattle.rewrite.proofs.Project.{split_cols}
use Rattle.conjuncts.specs.Items.{Conjuncts, listed}
use Rattle.push_down_base.specs.Arms.{Placed, Rests}
use Rattle.push_down_join.specs.JoinPlans.{JoinUnder, OverJoin}
use Rattle.push_down_base.specs.Predicates.{Predicate}
use Rattle.push_down_base.specs.Parting.{Reads}
use Rattle.push_down_join.proofs.JoinScope.{front, back}
use Rattle.push_down_base.proofs.Plain.{split_plain}
use Rattle.push_down_base.proofs.Scoping.{reads_none}

-- what reads a join's schema reads its inputs'
widened : (k : Kind) (s t : List Name) (e : Expr) → on_cols (has (sides k s t)) e ≡ true → on_cols (has (s ++ t)) e ≡ true
widened inner s t e h = h
widened left s t e h = h
widened right s t e h = h
widened full s t e h = h
widened left_semi s t e h = on_cols_mono (has s) (has (s ++ t)) (front s t) e h
widened right_semi s t e h = on_cols_mono (has t) (has (s ++ t)) (back s t) e h
widened left_anti s t e h = on_cols_mono (has s) (has (s ++ t)) (front s t) e h
widened right_anti s t e h = on_cols_mono (has t) (has (s ++ t)) (back s t) e h

pub over_reads : {s : List ℕ} {x : ℕ} {p : Predicate} {e : Expr} {k : Kind} {l r : Plan} {on : List Pair} {f : Option Expr}
    → Rests s x p e (join k l r on f) → Reads s (schema l ++ schema r) p.list (split_conjunction e)
unfolding schema
over_reads {e = e} {k} {l} {r} h = record {
  lists = h.shaped.listed;
  over = split_cols (has (schema l ++ schema r)) e (widened k (schema l) (schema r) e h.scope);
  most = h.shaped.most;
}

pub over_under : {s : List ℕ} {x : ℕ} {p : Predicate} → OverJoin s x p → JoinUnder s x p.list
over_under h = record {
  kind = h.kind;
  lhs = h.lhs;
  rhs = h.rhs;
  keys = h.keys;
  condition = h.condition;
  placed = h.rests.placed;
  exprs = split_conjunction h.expr;
  reads = over_reads h.rests;
  plain = split_plain h.expr;
}

-- no predicate above it: the Join node itself
pub none_under : {s : List ℕ} {x : ℕ} {c : Conjuncts} {k : Kind} {l r : Plan} {on : List Pair} {f : Option Expr} → Placed s x (join k l r on f)
    → (listed c ≡ []) × (c.len ≡ 0) → JoinUnder s x c
none_under {k = k} {l} {r} {on} {f} h e = record {
  kind = k;
  lhs = l;
  rhs = r;
  keys = on;
  condition = f;
  placed = h;
  exprs = [];
  reads = reads_none e;
  plain = anil;
}
