use Rattle.push_down_base.proofs.Scoping.{known_reads, reads_keep}
use Rattle.push_down_join.proofs.push_down_all_join.parts_of.Goals as goal

pub push_to-requires-2-clause-known : goal.push_to-requires-2-clause-known
push_to-requires-2-clause-known c =
    let p = c.requires in
    let k = p.scopes in known_reads (c.push_to.ensures p.exprs _ p.lefts p.reads k.names k.left).1

pub select_side-requires-clause-known : goal.select_side-requires-clause-known
select_side-requires-clause-known c =
    let p = c.requires in known_reads (c.infer_join_predicates-keyed.ensures p.lefts p.rights p.keys p.exprs p.scopes p.reads)

pub select_side-requires-2-clause-known : goal.select_side-requires-2-clause-known
select_side-requires-2-clause-known c =
    let p = c.requires in
    let k = p.scopes in
    let i = c.infer_join_predicates-keyed.ensures p.lefts p.rights p.keys p.exprs k p.reads in
    known_reads (reads_keep _ i (c.select_side.ensures _ _ _ i.lists k.names i.over k.leftward).1)

pub returns : goal.returns
returns c =
    λ l r on es k h. let left = c.push_to.ensures es _ l h k.names k.left in
    let right = c.push_to-2.ensures _ _ r left.1 k.names k.right in
    let keyed = c.infer_join_predicates-keyed.ensures l r on es k h in
    let keys = c.select_side.ensures _ _ _ keyed.lists k.names keyed.over k.leftward in
    let keyed-stay = reads_keep _ keyed keys.1 in
    record {
      left = record { moved = left.0; keyed = reads_keep _ keyed keys.0; rest = c.if_list.ensures _ _ _ right.1 };
      right = record {
        moved = right.0;
        keyed = reads_keep _ keyed-stay (c.select_side-2.ensures _ _ _ keyed-stay.lists k.names keyed-stay.over k.rightward).0;
        rest = c.if_list-2.ensures _ _ _ right.1;
      };
      rest = right.1;
    }
