-- The number and the record of the check's answer.
use Rattle.std.specs.Prelude.{Result, Ok, Err}
use Rattle.image.specs.Refusals.{number_of, named}
use Rattle.image.specs.declared.refusals.Refusal.{Refusal}
use Rattle.acceptance.specs.Check.{Verdict, verdict}

abbrev pub refused : Refusal → Verdict
refused r = verdict (number_of r) (named r)

abbrev pub verdict_of : Result (Unit {0}) Refusal → Verdict
verdict_of (Ok u) = verdict 0 0
verdict_of (Err r) = refused r
