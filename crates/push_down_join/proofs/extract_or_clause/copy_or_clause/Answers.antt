-- `extract_or_clause::copy_or_clause` meets its contract.
use native.Mathlib.Omega.{arith}
use Rattle.image.specs.Subtrees.{Subtree}
use Rattle.writing.proofs.Maps.{deep_low, expr_deep, expr_is}
use Rattle.push_down_join.proofs.Extracting.{or_whole}
use Rattle.push_down_join.proofs.extract_or_clause.copy_or_clause.Goals as goal

pub copy_clause-requires : goal.copy_clause-requires
copy_clause-requires c =
    let x : Subtree = record { image = c.args.s; base = 0; number = c.args.n; past = omega arith; stood = c.copy_clause-arg-2-1.given.1.0 } in
    (omega arith, (c.requires.len_le_max_fields, deep_low _ c.requires.shallow (expr_deep x c.requires.there.standing)))

pub returns-clause-wrote : goal.returns-clause-wrote
returns-clause-wrote c =
    let x : Subtree = record { image = c.args.s; base = 0; number = c.args.n; past = omega arith; stood = c.copy_clause-arg-2-1.given.1.0 } in
    λ e k ns d h g held m gives. c.copy_clause.ensures.wrote e k ns d (expr_is x h) g held m (or_whole d e gives)
