-- What the lister prints, in bytes (docs/FORMAT.md, The lister). It reads an image from standard input, runs a pass of budget 10,000, and
-- prints depth, kind, p, q, r, lo and hi of each record, then the counts; of a refused pass only "refused N at R".
use Rattle.std.specs.Prelude.{ℕ, List, ◌++◌}
use Rattle.image.specs.Limits.{work_bytes}
use Rattle.image.specs.Lowest.{alone}
use Rattle.plan.specs.Lists.{choose}
use Rattle.plan.specs.Trees.{plan_tree}
use Rattle.acceptance.specs.Check.{check}
use Rattle.rewrite.specs.OnBytes.{plan_in, is_accepted}
use Rattle.rewrite.specs.Pass.{PassAnswer, passed, pass_refused, pass_call}
use Rattle.text.specs.Lines.{lines, counts, refusal}

-- what a pass came to: the plan that it leaves, its root at depth 1, and the counts; or the refusal alone
unfoldable pub told : PassAnswer → List ℕ
told (passed v c f q) = lines 1 (alone (plan_tree q)) ++ counts v c f
told (pass_refused n r) = refusal n r

-- of any bytes: a pass of budget 10,000 over the plan in them, with room for the largest image; or the test that refuses them
unfoldable pub listing : List ℕ → List ℕ
listing s = choose (is_accepted s) (told (pass_call 10000 work_bytes (plan_in s))) (refusal (check s).number (check s).place)
