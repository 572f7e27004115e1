-- A plan under a Filter, if there is a predicate.
use Rattle.std.proofs.Math.Option.{Option, none, some}
use Rattle.plan.specs.Syntax.{Expr, Plan, filter}

abbrev pub under : Option Expr → Plan → Plan
under none p = p
under (some e) p = filter e p
