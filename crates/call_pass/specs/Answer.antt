-- What the pass's answer says, beside the output.
use Rattle.std.specs.Prelude.{List, ℕ, ◌≤◌, Result, Ok, Err}
use Rattle.image.specs.Limits.{max_records}
use Rattle.image.specs.Refusals.{named}
use Rattle.image.specs.declared.refusals.Refusal.{Refusal}
use Rattle.plan.specs.Trees.{bit_of}
use Rattle.acceptance.specs.Check.{Verdict}
use Rattle.check_image.specs.Answer.{refused}
use Rattle.rewrite.specs.OnBytes.{Passed, zeros}
use Rattle.call_pass.specs.declared.call_pass.Answer.{Answer}

-- a refusal hands out what stands in the output
abbrev pub refusal : Verdict → List ℕ → Passed
refusal v out = record { number = v.number; place = v.place; visits = 0; changed = 0; finished = 0; records = 0; output = out }

abbrev pub passed_of : Result Answer Refusal → List ℕ → Passed
passed_of (Ok a) out =
    record {
      number = 0;
      place = 0;
      visits = a.visits;
      changed = a.changed;
      finished = bit_of a.finished;
      records = a.records;
      output = out;
    }
passed_of (Err r) out = refusal (refused r) out

-- the same, where an output of this length is cleared after a refusal
abbrev pub outcome_of : ℕ → Result Answer Refusal → List ℕ → Passed
outcome_of room (Ok a) out = passed_of (Ok a) out
outcome_of room (Err r) out = passed_of (Err r) (zeros room)

-- the record and the count are small
abbrev pub Small : Result Answer Refusal → Type 0
Small (Ok a) = a.records ≤ max_records
Small (Err r) = named r ≤ max_records
