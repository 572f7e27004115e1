-- What the structs of the boundary say, in the words of the definitions.
use Rattle.acceptance.specs.Check as C
use Rattle.std.specs.Prelude.{List, ℕ, ◌*◌, ◌+◌}
use Rattle.rewrite.specs.OnBytes as O
use Rattle.rewrite.specs.RowTest as R
use Rattle.push_down_filter.specs.declared.Verdict.{Verdict}
use Rattle.push_down_filter.specs.declared.Tested.{Tested}
use Rattle.push_down_filter.specs.declared.Rewritten.{Rewritten}
use Rattle.push_down_filter.specs.declared.Passed.{Passed}

-- major, minor and patch, three digits each
abbrev pub version : ℕ
version = 1000000 * 0 + 1000 * 1 + 0

abbrev pub verdict_is : Verdict → C.Verdict
verdict_is v = C.verdict v.number v.«record»

abbrev pub tested_is : Tested → R.Tested
tested_is t = record { number = t.number; place = t.«record»; truth = t.truth }

-- beside the whole output
abbrev pub rewritten_is : Rewritten → List ℕ → O.Rewritten
rewritten_is r out = record { number = r.number; place = r.«record»; flag = r.flag; records = r.records; output = out }

abbrev pub passed_is : Passed → List ℕ → O.Passed
passed_is r out =
    record {
      number = r.number;
      place = r.«record»;
      visits = r.visits;
      changed = r.changed;
      finished = r.finished;
      records = r.records;
      output = out;
    }
