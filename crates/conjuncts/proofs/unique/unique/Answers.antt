-- `unique::unique` meets its contract.
use Rattle.conjuncts.proofs.Listed.{lists_none}
use Rattle.conjuncts.proofs.Onto.{onto_unique}
use Rattle.conjuncts.proofs.unique.unique.Goals as goal

pub unique_onto-once-requires : goal.unique_onto-once-requires
unique_onto-once-requires c =
    record { some = record { exprs = _; lists = lists_none c.empty.ensures }; known = c.requires.known }

pub unique_onto-requires : goal.unique_onto-requires
unique_onto-requires c =
    record {
      some = record { exprs = _; lists = c.unique_onto-once.ensures _ _ (lists_none c.empty.ensures) c.requires.known.lists };
      known =
          c.requires.known_2;
    }

pub returns : goal.returns
returns c =
    λ xs ys h k. rw (← onto_unique xs ys)
    (c.unique_onto.ensures _ ys (c.unique_onto-once.ensures _ xs (lists_none c.empty.ensures) h) k)
