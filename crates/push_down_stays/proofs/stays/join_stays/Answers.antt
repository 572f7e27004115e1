-- `stays::join_stays` meets its contract.
use mathlib.Core.Path.{◌∙◌}
use mathlib.Core.List.{[]}
use Rattle.rewrite.specs.Utils.{split_conjunction?}
use Rattle.conjuncts.proofs.Listed.{lists_length}
use Rattle.push_down_base.proofs.Scoping.{reads_none}
use Rattle.push_down_stays.proofs.Stayings.{says_as, bare_join_kept, join_kept, join_shallow}
use Rattle.push_down_stays.proofs.stays.join_stays.Goals as goal

pub returns-then-g-eq0 : goal.returns-then-g-eq0
returns-then-g-eq0 c =
    λ k l r on f h. let g = c.own_filter-g.ensures k l r on f h in
    bare_join_kept k l r on f (lists_length g.lists g.most ∙ c.if-g-eq0.true)

pub nothing_moves-requires : goal.nothing_moves-requires
nothing_moves-requires c =
    let p = c.requires in record {
      kind = p.kind;
      lhs = p.lhs;
      rhs = p.rhs;
      keys = p.keys;
      condition = p.condition;
      placed = p.placed;
      above = [];
      reads = reads_none c.empty.ensures;
      own = split_conjunction? p.condition;
      reads_own = c.own_filter-g.ensures p.kind p.lhs p.rhs p.keys p.condition p.placed;
    }

pub returns-then-own_left_deep : goal.returns-then-own_left_deep
returns-then-own_left_deep c =
    λ k l r on f h. join_kept k l r on f (says_as c.if-own_left_deep.true (c.own_left_deep.ensures k l r on f h))
    (c.nothing_moves.ensures k l r on f [] (split_conjunction? f) h (reads_none c.empty.ensures)
    (c.own_filter-g.ensures k l r on f h))

pub returns : goal.returns
returns c =
    λ k l r on f h. join_shallow k l r on f (says_as c.if-own_left_deep.false (c.own_left_deep.ensures k l r on f h))
