-- The number, the record and the truth of the row test's answer.
use Rattle.std.specs.Prelude.{Result, Ok, Err}
use Rattle.image.specs.declared.refusals.Refusal.{Refusal}
use Rattle.check_image.specs.Answer.{refused}
use Rattle.rewrite.specs.RowTest.{Tested, no_test, truth_number}
use Rattle.evaluate.specs.Truths.{value_of}
use Rattle.evaluate.specs.declared.logic.Truth.{Truth}

abbrev pub tested_of : Result Truth Refusal → Tested
tested_of (Ok t) = record { number = 0; place = 0; truth = truth_number (value_of t) }
tested_of (Err r) = no_test (refused r)
