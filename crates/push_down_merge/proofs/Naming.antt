-- The name rules hold of a plan within a plan.
use Prim.Native.Nat.{ℕ}
use mathlib.Core.Path.{◌≡◌}
use mathlib.Core.Bool.{Bool, true}
use mathlib.Core.Option.{some}
use Rattle.plan.proofs.Lists.{and_l, and_r}
use Rattle.plan.specs.Syntax.{Plan}
use Rattle.acceptance.specs.NamesRule.{rule, rule_all}
use Rattle.rewrite.specs.RewriteAt.{Focus, focus}
use Rattle.push_down_base.specs.Paths.{Ways}
use Rattle.push_down_base.proofs.Finding.{path_to}

module _ (w : ℕ → ℕ → Bool) where
  ways : Ways (λ n p t C. rule w p ≡ true → rule w t ≡ true) (λ n ps t C. (k : ℕ) → rule_all w k ps ≡ true → rule w t ≡ true)
  unfolding rule
  ways = record {
    root = λ p h. h;
    in_filter = λ n p t C e k h. k (and_r _ _ h);
    in_project = λ n p t C es k h. k (and_r _ _ (and_r _ _ h));
    in_left = λ n l t C j r on f k h. k (and_l _ _ (and_r _ _ (and_r _ _ (and_r _ _ h))));
    in_right = λ n r t C j l on f k h. k (and_r _ _ (and_r _ _ (and_r _ _ (and_r _ _ h))));
    in_alias = λ n p t C i k h. k (and_r _ _ h);
    in_union = λ n ps t C k h. k _ h;
    in_distinct = λ n p t C k h. k h;
    in_sort = λ n p t C f ks k h. k (and_r _ _ h);
    in_repartition = λ n p t C k h. k h;
    in_limit = λ n p t C i j k h. k h;
    in_aggregate = λ n p t C gs ags k h. k (and_r _ _ (and_r _ _ (and_r _ _ h)));
    in_window = λ n p t C ws k h. k (and_r _ _ (and_r _ _ h));
    in_first = λ n p t C ps k j h. k (and_l _ _ (and_r _ _ h));
    in_later = λ n ps t C p k j h. k j (and_r _ _ (and_r _ _ h));
  }

  pub rule_there : (n : ℕ) (p : Plan) (c : Focus) → focus n p ≡ some c → rule w p ≡ true → rule w c.plan ≡ true
  rule_there n p c e h = path_to ways n p c e h
