use Rattle.rewrite.specs.PushDownFilter.{merged}
use Rattle.push_down_merge.proofs.Merges.{merge_made}
use Rattle.push_down_merge.proofs.filter.merge.Goals as goal

pub returns : goal.returns
unfolding merged
returns c =
    λ e b m h k i. rw c.joined.ensures (merge_made e b i (c.unique.ensures _ _ k h.listed))
