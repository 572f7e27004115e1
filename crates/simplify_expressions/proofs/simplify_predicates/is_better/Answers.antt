-- `simplify_predicates::is_better` meets its contract.
use Rattle.std.proofs.Common.{rules}
use Rattle.simplify_expressions.proofs.Sides.{and_is}
use Rattle.simplify_expressions.proofs.simplify_predicates.is_better.Goals as goal

pub returns-then-is_null : goal.returns-then-is_null
returns-then-is_null c =
    rw (c.is_strict.ensures, c.is_strict-2.ensures, ← c.is_null.ensures, ← c.is_null-none.ensures, c.if-is_null.true, and_is, and_is)

pub returns : goal.returns
returns c =
    rw (
      c.lies_past-2.ensures,
      c.lies_past.ensures,
      c.is_strict.ensures,
      c.is_strict-2.ensures,
      ← c.is_null.ensures,
      ← c.is_null-none.ensures,
      c.if-is_null.false,
      c.if-none.false,
      ← c.code_of-b.ensures,
      ← c.code_of-a.ensures,
      and_is,
      and_is,
    ) (search rules)
