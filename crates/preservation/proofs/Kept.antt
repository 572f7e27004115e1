-- The rewrite keeps words, integers and form: where test 2 finds nothing in the plan given, and test 5 no run that is too short, they find
-- nothing of the kind in the answer. How long the lists of the answer are is a matter of test 11.
use Prim.Native.Nat.{ℕ}
use mathlib.Core.Path.{◌≡◌}
use mathlib.Core.Bool.{Bool, true}
use Rattle.plan.proofs.Lists.{and_l, and_r, and_intro}
use Rattle.plan.specs.Syntax.{Plan}
use Rattle.rewrite.specs.RewriteAt.{granted, rewrite_at}
use Rattle.preservation.proofs.Everywhere.{any_words}
use Rattle.preservation.proofs.RecordsKept.{rewrite_at_kept}
use Rattle.preservation.proofs.IntegersTest.{Integers}
use Rattle.preservation.proofs.WordsTest.{Words, words_ok_plan, words_closed}
use Rattle.preservation.proofs.ExprForm.{Runs}
use Rattle.preservation.proofs.FormTest.{formed}

pub words_kept : (n : ℕ) (p : Plan) (b : Bool) (q : Plan) → words_ok_plan p ≡ true → rewrite_at n p ≡ granted b q → words_ok_plan q ≡ true
unfolding words_ok_plan
words_kept n p b q h e =
    and_intro (rewrite_at_kept Words words_closed n p b q (and_l _ _ h) e) (rewrite_at_kept Integers (any_words _ _) n p b q (and_r _ _ h) e)

pub form_kept : (n : ℕ) (p : Plan) (b : Bool) (q : Plan) → formed p ≡ true → rewrite_at n p ≡ granted b q → formed q ≡ true
unfolding formed
form_kept n p b q h e = rewrite_at_kept Runs (any_words _ _) n p b q h e
