-- `places::same_fields` meets its contract. The loop's invariant: the types agree at every place passed.
use mathlib.Core.Path.{◌≡◌}
use Prim.Native.Nat.{ℕ, ◌<◌}
use Rattle.check_fields.specs.Rules.{seen}
use Rattle.check_fields.specs.Scopes.{scope_at}
use Rattle.check_types.specs.ByPlace.{ty_at}
use Rattle.check_types.proofs.places.same_fields.Given as goal

abbrev pub invariant-loop-k : goal.invariant-loop-k
invariant-loop-k g l = (m : ℕ) → m < l.k → ty_at m (seen (scope_at l.fields)) ≡ ty_at m (seen (scope_at l.others))
