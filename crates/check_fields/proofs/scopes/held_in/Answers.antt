-- `scopes::held_in` meets its contract.
use mathlib.Core.Path.{◌∙◌}
use native.Mathlib.Omega.{arith}
use Rattle.check_fields.proofs.Scoping.{passed_seen}
use Rattle.check_fields.proofs.scopes.held_in.Goals as goal

pub returns : goal.returns
returns g c =
    c.passed.ensures ∙ passed_seen _ c.args.here.view c.args.here.trees _ (omega arith) c.seek_seen.ensures
