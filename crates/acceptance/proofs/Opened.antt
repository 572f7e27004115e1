-- Everything opened that the check computes by: `unfolding checked` under a statement about closed bytes lets `refl` run it.
use Prim.Native.Nat.{ℕ}
use mathlib.Core.List.{List}
use Rattle.image.specs.Word.{word}
use Rattle.image.specs.Links.{parse}
use Rattle.image.specs.Lowest.{or_else, unless, lowest, first_false}
use Rattle.plan.specs.Lists.{◌&◌, all, any, flatten}
use Rattle.plan.specs.Kinds.{among, what_of}
use Rattle.plan.specs.Words.{words_ok, in_range, row_fits}
use Rattle.plan.specs.Form.{end, one, past, perhaps, is_and, conjuncts, exprs_in, form_ok, bad_form}
use Rattle.plan.specs.Read.{signed, nth, exprs_of, run, plans_of, plan_at}
use Rattle.plan.specs.Syntax.{Plan}
use Rattle.plan.specs.Schema.{schema, schema_first}
use Rattle.plan.specs.Types.{type_of_expr, types, types_first, scans, scans_all}
use Rattle.acceptance.specs.Marks.{marks_in, marks_in_all, marks_of, marks_of_all}
use Rattle.acceptance.specs.Names.{holders, one_field, sound, sound_plan, bad_name}
use Rattle.acceptance.specs.Types.{of_type, typed_operands, first_scanned, as_first, typed_plan, bad_type}
use Rattle.acceptance.specs.Check.{Verdict, at, buffer_ok, bad_words, linked, too_deep, check_plan, check_tree, check}

-- of a plan: tests 6 and 7
unfoldable pub plan_checked : Plan → Verdict
unfolding ◌&◌ all any flatten or_else unless at schema schema_first type_of_expr types types_first scans scans_all first_false marks_in marks_in_all
    marks_of marks_of_all holders one_field sound sound_plan bad_name of_type typed_operands first_scanned as_first typed_plan bad_type
    check_plan
plan_checked p = check_plan p

unfoldable pub checked : List ℕ → Verdict
unfolding plan_checked word parse lowest among what_of words_ok in_range row_fits end one past perhaps is_and conjuncts exprs_in form_ok bad_form signed
    nth exprs_of run plans_of plan_at buffer_ok bad_words linked too_deep check_tree check
checked s = check s
