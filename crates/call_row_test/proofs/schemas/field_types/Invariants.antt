-- `schemas::field_types` meets its contract. The loop's invariant: the types of the places passed stand there.
use mathlib.Core.Path.{◌≡◌}
use Prim.Native.Nat.{ℕ, ◌<◌}
use lib.ListN.{length, get_or}
use Rattle.image.specs.Limits.{max_fields}
use Rattle.check_fields.specs.Rules.{seen}
use Rattle.check_fields.specs.Scopes.{scope_at}
use Rattle.check_types.specs.ByPlace.{ty_at}
use Rattle.call_row_test.proofs.schemas.field_types.Given as goal

abbrev pub invariant-loop-k : goal.invariant-loop-k
invariant-loop-k g l =
    (length l.types ≡ max_fields) × ((m : ℕ) → m < l.k → get_or l.types m 0 ≡ ty_at m (seen (scope_at l.fields)))
