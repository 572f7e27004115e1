-- What the code's truths stand for.
use Rattle.std.specs.Prelude.{true, false}
use Rattle.plan.specs.Syntax.{Value, null, truth}
use Rattle.evaluate.specs.declared.logic.Truth.{Truth}
use Rattle.evaluate.specs.declared.logic.Truth.TheVariants.{False, True, Unknown}

-- UNKNOWN is NULL
abbrev pub value_of : Truth → Value
value_of False = truth false
value_of True = truth true
value_of Unknown = null
