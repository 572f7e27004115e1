-- An answer of the check that refuses nothing is that of an accepted image; a refusal's number is not 0.
use Prim.Native.Nat.{ℕ, ◌≤◌}
use native.Mathlib.Omega.{arith}
use mathlib.Core.Path.{◌≡◌, sym, ap, ◌∙◌}
use mathlib.Core.List.{List}
use Rattle.std.specs.Prelude.{Result, Ok, Err}
use Rattle.image.specs.Limits.{max_records}
use Rattle.image.specs.Refusals.{number_of, named}
use Rattle.image.specs.declared.refusals.Refusal.{Refusal}
use Rattle.image.specs.declared.refusals.Refusal.TheVariants.{Buffer, Record, Link, Depth, Form, Names, Types, Absent, Row, Function, TooLarge, NoRoom}
use Rattle.acceptance.specs.Check.{verdict, check}
use Rattle.acceptance.proofs.Places.{place_within}
use Rattle.check_image.specs.Answer.{refused, verdict_of}

module _ (s : List ℕ) {a : Result (Unit {0}) Refusal} (e : verdict_of a ≡ check s) where
  pub is_accepted : a ≡ Ok tt → check s ≡ verdict 0 0
  is_accepted h = sym e ∙ ap verdict_of h

  pub is_refused : {r : Refusal} → a ≡ Err r → refused r ≡ check s
  is_refused {r} h = sym (ap verdict_of h) ∙ e

-- the record that the check names is small
pub small_record : (s : List ℕ) (r : Refusal) → refused r ≡ check s → named r ≤ max_records
small_record s r e = omega (arith, place_within s, ap (λ v. v.place) e)

pub no_zero : (r : Refusal) → number_of r ≡ 0 → ⊥
no_zero Buffer h = omega arith
no_zero (Record r) h = omega arith
no_zero (Link r) h = omega arith
no_zero (Depth r) h = omega arith
no_zero (Form r) h = omega arith
no_zero (Names r) h = omega arith
no_zero (Types r) h = omega arith
no_zero (Absent r) h = omega arith
no_zero Row h = omega arith
no_zero (Function r) h = omega arith
no_zero (TooLarge r) h = omega arith
no_zero NoRoom h = omega arith
