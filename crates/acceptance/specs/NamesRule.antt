-- The name rules of a plan in the form that proofs by induction on plans want, and the widths of a Union's inputs, which rows need too:
-- every reference names a field of the schema that it stands over, every schema is sound.
use Rattle.std.specs.Prelude.{ℕ, Bool, true, List, ◌++◌, map, length, eqb}
use Rattle.std.proofs.Math.Option.{Option, none, some}
use Rattle.plan.specs.Lists.{◌&◌, all}
use Rattle.plan.specs.Syntax.{Name, Expr, Field, Entry, Pair, Key, AggEntry, WinEntry, Plan, scan, filter, project, join, alias, union}
use Rattle.plan.specs.Syntax.{distinct, sort, repartition, limit, aggregate, window, Plans, pnil, pcons}
use Rattle.plan.specs.Schema.{schema, schema_first, requalify, has}
use Rattle.plan.specs.Columns.{on_cols}
use Rattle.acceptance.specs.Names.{sound}

-- the columns of an expression are names of the schema
abbrev pub reads : List Name → Expr → Bool
reads s e = on_cols (has s) e

abbrev pub reads? : List Name → Option Expr → Bool
reads? s none = true
reads? s (some e) = reads s e

-- the name rules, with a test of the widths of a Union's inputs
unfoldable mutual
  pub rule : (ℕ → ℕ → Bool) → Plan → Bool
  rule w (scan t fs es) = sound (map (λ (f : Field). f.name) fs) & all (reads (map (λ (f : Field). f.name) fs)) es
  rule w (filter e p) = reads (schema p) e & rule w p
  rule w (project es p) = sound (map (λ (e : Entry). e.name) es) & (all (λ (e : Entry). reads (schema p) e.expr) es & rule w p)
  rule w (join k l r on f) =
      sound (schema l ++ schema r)
      & (all (λ (k : Pair). reads (schema l) k.lhs & reads (schema r) k.rhs) on
      & (reads? (schema l ++ schema r) f & (rule w l & rule w r)))
  rule w (alias q p) = sound (map (requalify q) (schema p)) & rule w p
  rule w (union ps) = rule_all w (length (schema_first ps)) ps
  rule w (distinct p) = rule w p
  rule w (sort f ks p) = all (λ (k : Key). reads (schema p) k.expr) ks & rule w p
  rule w (repartition p) = rule w p
  rule w (limit n k p) = rule w p
  rule w (aggregate gs ags p) =
      sound (map (λ (e : Entry). e.name) gs ++ map (λ (a : AggEntry). a.name) ags)
      & (all (λ (e : Entry). reads (schema p) e.expr) gs & (all (λ (a : AggEntry). reads (schema p) a.expr) ags & rule w p))
  rule w (window ws p) =
      sound (schema p ++ map (λ (w : WinEntry). w.name) ws)
      & (all (λ (w : WinEntry). reads (schema p) w.expr & all (has (schema p)) w.parts) ws & rule w p)

  pub rule_all : (ℕ → ℕ → Bool) → ℕ → Plans → Bool
  rule_all w n pnil = true
  rule_all w n (pcons p ps) = w (length (schema p)) n & (rule w p & rule_all w n ps)

-- test 6 alone
abbrev pub names_rule : Plan → Bool
names_rule p = rule (λ a b. true) p

-- what rows need: the inputs of a Union are of one width, too (that is a part of test 7)
abbrev pub ok : Plan → Bool
ok p = rule eqb p

abbrev pub ok_all : ℕ → Plans → Bool
ok_all n ps = rule_all eqb n ps
