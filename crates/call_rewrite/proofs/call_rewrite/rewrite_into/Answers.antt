-- `call_rewrite::rewrite_into` meets its contract.
use Rattle.std.proofs.Common.{rules}
use Rattle.push_down_rewrite.proofs.Outcoming.{outcomes_as}
use Rattle.call_rewrite.proofs.call_rewrite.rewrite_into.Goals as goal

pub returns : goal.returns
returns c =
    λ w f h. let o = c.rewrite_anew.ensures.outcomes w f h in search (rules, outcomes_as)
