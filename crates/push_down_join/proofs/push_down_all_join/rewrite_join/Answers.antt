use Rattle.rewrite.specs.Utils.{split_conjunction}
use Rattle.rewrite.specs.PushDownFilter.{rewrite_filter}
use Rattle.push_down_base.proofs.Plain.{split_plain}
use Rattle.push_down_join.proofs.JoinsUnder.{over_reads, over_under}
use Rattle.push_down_join.proofs.push_down_all_join.rewrite_join.Goals as goal

pub push_down_join-requires-clause-join_under : goal.push_down_join-requires-clause-join_under
unfolding rewrite_filter
push_down_join-requires-clause-join_under c = over_under c.requires.over_join

pub returns-clause-answers : goal.returns-clause-answers
unfolding rewrite_filter
returns-clause-answers c =
    λ e k l r on f h. c.push_down_join.ensures.answers k l r on f (split_conjunction e) h.placed (over_reads h) (split_plain e)
