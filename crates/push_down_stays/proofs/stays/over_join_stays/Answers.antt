-- `stays::over_join_stays` meets its contract.
use Rattle.rewrite.specs.Utils.{split_conjunction, split_conjunction?}
use Rattle.push_down_join.proofs.JoinsUnder.{over_reads}
use Rattle.push_down_stays.proofs.Stayings.{says_as, over_join_kept, over_join_shallow, above_join_shallow}
use Rattle.push_down_stays.proofs.stays.over_join_stays.Goals as goal

pub returns-then-not-joined_left_deep : goal.returns-then-not-joined_left_deep
returns-then-not-joined_left_deep c =
    λ e k l r on f h. above_join_shallow k l r on f e
    (says_as (c.if-not-joined_left_deep.true) (c.joined_left_deep.ensures e h.shaped))

pub joined_left_deep-requires : goal.joined_left_deep-requires
joined_left_deep-requires c =
    let r = c.requires.rests in (record { expr = _; shaped = r.shaped }, r.placed.short)

pub nothing_moves-requires : goal.nothing_moves-requires
nothing_moves-requires c =
    let p = c.requires in
    let h = p.rests in record {
      kind = p.kind;
      lhs = p.lhs;
      rhs = p.rhs;
      keys = p.keys;
      condition = p.condition;
      placed = h.placed;
      above = split_conjunction p.expr;
      reads = over_reads h;
      own = split_conjunction? p.condition;
      reads_own = c.own_filter.ensures p.kind p.lhs p.rhs p.keys p.condition h.placed;
    }

pub returns-then-own_left_deep : goal.returns-then-own_left_deep
returns-then-own_left_deep c =
    λ e k l r on f h. over_join_kept k l r on f e (says_as c.if-own_left_deep.true
    (c.own_left_deep.ensures k l r on f h.placed))
    (says_as (c.if-not-joined_left_deep.false) (c.joined_left_deep.ensures e h.shaped))
    (c.nothing_moves.ensures k l r on f (split_conjunction e) (split_conjunction? f) h.placed (over_reads h)
    (c.own_filter.ensures k l r on f h.placed))

pub returns : goal.returns
returns c =
    λ e k l r on f h. over_join_shallow k l r on f e (says_as c.if-own_left_deep.false (c.own_left_deep.ensures k l r on f h.placed))
