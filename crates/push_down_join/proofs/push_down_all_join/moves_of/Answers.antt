use mathlib.Core.Path.{ap, ◌∙◌}
use mathlib.Core.List.{◌++◌}
use native.Mathlib.Omega.{arith}
use Rattle.plan.specs.Schema.{has}
use Rattle.plan.proofs.Lists.{All-append}
use Rattle.rewrite.specs.PushDownFilter.{is_inner, join_conditions, left_push, right_push}
use Rattle.push_down_base.proofs.Scoping.{known_reads}
use Rattle.push_down_join.proofs.Siding.{smalls_of}
use Rattle.push_down_join.proofs.SideLists.{left_push_is, right_push_is, wholes}
use Rattle.push_down_join.proofs.MovedLists.{lists_append, lists_count, sides_count, moves_flag}
use Rattle.push_down_join.proofs.push_down_all_join.moves_of.Goals as goal

pub side_push-left_push-requires-clause-wholes : goal.side_push-left_push-requires-clause-wholes
side_push-left_push-requires-clause-wholes c =
    let p = c.requires.0 in
    let g = c.requires.1 in (
      wholes (c.parts_of-above.ensures p.lefts p.rights p.keys p.exprs p.scopes p.reads).left,
      wholes (c.parts_of-own.ensures g.lefts g.rights g.keys g.exprs g.scopes g.reads).left,
    )

pub side_push-right_push-requires-clause-wholes : goal.side_push-right_push-requires-clause-wholes
side_push-right_push-requires-clause-wholes c =
    let p = c.requires.0 in
    let g = c.requires.1 in (
      wholes (c.parts_of-above.ensures p.lefts p.rights p.keys p.exprs p.scopes p.reads).right,
      wholes (c.parts_of-own.ensures g.lefts g.rights g.keys g.exprs g.scopes g.reads).right,
    )

pub append-requires : goal.append-requires
append-requires c =
    let g = c.requires.1 in (
      smalls_of (known_reads (c.parts_of-own.ensures g.lefts g.rights g.keys g.exprs
          g.scopes g.reads).rest),
      omega arith,
    )

pub returns : goal.returns
returns c =
    λ k l r on P G σ e sc h g w. let above = c.parts_of-above.ensures l r on P sc h in
    let own = c.parts_of-own.ensures l r on G sc g in
    let over = rw e at c.lr_is_preserved.ensures in
    let at = rw e at c.on_lr_is_preserved.ensures in
    let inner = c.is_inner-inner.ensures ∙ ap is_inner e in
    let left = rw (left_push_is k l r on P G σ w over.0 over.1 at.0 at.1 (ap is_inner e) (All-append above.left.keyed.over
    own.left.keyed.over))
    at (c.side_push-left_push.ensures σ (l ++ r) (has l) _ _ _ _ _ _ above.left own.left
    sc.names sc.left) in
    let right = rw (right_push_is k l r on P G σ w over.0 over.1 at.0 at.1 (ap is_inner e) (All-append above.right.keyed.over
    own.right.keyed.over))
    at (c.side_push-right_push.ensures σ (l ++ r) (has r) _ _ _ _ _ _ above.right own.right
    sc.names sc.right) in
    let rest = rw (over.0, over.1) at above.rest in
    let joined = rw inner at (c.if_list-join_conditions.ensures _ _ _ rest) in
    let stays = rw (at.0, at.1) at own.rest in
    record {
      left = left;
      right = right;
      conditions = lists_append joined.lists stays.lists c.append.ensures;
      kept = rw (← inner) (c.if_list.ensures _ _ _ rest);
      flag = moves_flag _ _ _ (join_conditions k l r on P G) (left_push k l r on P G) (right_push k l r on P G) (lists_count joined.lists)
          (sides_count left) (sides_count right);
    }
