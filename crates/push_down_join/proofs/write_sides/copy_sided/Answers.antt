use Rattle.push_down_join.proofs.Siding.{clause_standing}
use Rattle.push_down_join.proofs.write_sides.copy_sided.Goals as goal

pub returns-then-n-lt-CLAUSE-clause-wrote : goal.returns-then-n-lt-CLAUSE-clause-wrote
returns-then-n-lt-CLAUSE-clause-wrote g c = λ σ m ns t f k e h. c.copy_item.ensures.wrote σ m e (h.written c.if-n-lt-CLAUSE.true)

pub copy_or_clause-requires-clause-there : goal.copy_or_clause-requires-clause-there
copy_or_clause-requires-clause-there g c =
    record { expr = _; standing = clause_standing (c.requires.one_sided.sided.clause c.if-n-lt-CLAUSE.false) }

pub returns-else-n-lt-CLAUSE-clause-wrote : goal.returns-else-n-lt-CLAUSE-clause-wrote
returns-else-n-lt-CLAUSE-clause-wrote g c =
    λ σ m ns t f k e h. let q = h.clause c.if-n-lt-CLAUSE.false in
    c.copy_or_clause.ensures.wrote q.from e ns t (clause_standing q) f q.reads k q.is
