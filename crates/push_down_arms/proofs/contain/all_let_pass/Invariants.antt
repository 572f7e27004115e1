-- `contain::all_let_pass` meets its contract. The loop's invariant: each part so far lets the conjunct pass.
use mathlib.Core.Path.{◌≡◌}
use Rattle.image.specs.Subtrees.{forest, tree_of}
use Rattle.utils.specs.Fields.{named}
use Rattle.push_down_arms.specs.Movable.{lets_all}
use Rattle.push_down_arms.proofs.contain.all_let_pass.Given as goal

abbrev pub invariant-loop-part : goal.invariant-loop-part
invariant-loop-part g l = lets_all (named l.c) (tree_of l.plan).below ≡ lets_all (named l.c) (forest l.part-iterator)
