use Rattle.rewrite.specs.Utils.{split_conjunction?}
use Rattle.push_down_join.proofs.JoinCounts.{split_plain?}
use Rattle.push_down_join.proofs.push_down_all_join.push_down_join.Goals as goal

pub returns-clause-answers : goal.returns-clause-answers
returns-clause-answers c =
    λ k l r on f P h q p. c.push_down_all_join.ensures.answers k l r on f P (split_conjunction? f) h q (c.own_filter.ensures k l r on f h) p
    (split_plain? f)
