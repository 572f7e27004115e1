-- What the rewrite's answer says, beside the output.
use Rattle.std.specs.Prelude.{List, ℕ, Result, Ok, Err}
use Rattle.image.specs.declared.refusals.Refusal.{Refusal}
use Rattle.plan.specs.Trees.{bit_of}
use Rattle.acceptance.specs.Check.{Verdict}
use Rattle.check_image.specs.Answer.{refused}
use Rattle.rewrite.specs.OnBytes.{Rewritten, zeros}
use Rattle.call_rewrite.specs.declared.call_rewrite.Answer.{Answer}

-- a refusal hands out what stands in the output
abbrev pub refusal : Verdict → List ℕ → Rewritten
refusal v out = record { number = v.number; place = v.place; flag = 0; records = 0; output = out }

abbrev pub rewritten_of : Result Answer Refusal → List ℕ → Rewritten
rewritten_of (Ok a) out = record { number = 0; place = 0; flag = bit_of a.flag; records = a.records; output = out }
rewritten_of (Err r) out = refusal (refused r) out

-- the same, where an output of this length is cleared after a refusal
abbrev pub outcome_of : ℕ → Result Answer Refusal → List ℕ → Rewritten
outcome_of room (Ok a) out = rewritten_of (Ok a) out
outcome_of room (Err r) out = rewritten_of (Err r) (zeros room)
