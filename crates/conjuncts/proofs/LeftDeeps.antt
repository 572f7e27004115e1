-- Whether an expression is joined left-deep, by its operands.
use mathlib.Core.Path.{◌≡◌, sym, ap, ◌∙◌}
use mathlib.Core.Bool.{Bool, true, false, not}
use Rattle.plan.proofs.Bools.{no_yes}
use Rattle.plan.specs.Syntax.{Expr, bin, and}
use Rattle.plan.specs.Trees.{label_e}
use Rattle.rewrite.specs.Utils.{conjoin, conjunction}
use Rattle.rewrite.proofs.LeftDeep.{deeper, shallower, right_and}
use Rattle.std.specs.Option.{is_some}
use Rattle.std.specs.Prelude.{Option, Some, None}
use Rattle.image.specs.Subtrees.{tree_of}
use Rattle.image.specs.declared.trees.Stretch.{Stretch}
use Prim.Native.Nat.{ℕ}
use Rattle.conjuncts.specs.Labels.{is_and}
use Rattle.conjuncts.specs.Operands.{IsAnd}
use Rattle.conjuncts.specs.Says.{Says, LeftDeep}
use Rattle.conjuncts.proofs.Operands.{and_label, single}

-- the right operand is asked for its own operands, to see whether it is an And
pub asked : {N : ℕ} (r : Stretch N) (o : Option (Stretch N × Stretch N)) (b : Bool) → IsAnd r o → is_some o ≡ not b → is_and (tree_of r).label ≡ not b
asked r None b h e = h ∙ e
asked r (Some p) b h e = h.0 ∙ e

-- an expression that is no And is
pub alone : {e : Expr} → is_and (label_e e) ≡ false → Says true (LeftDeep e)
unfolding conjunction conjoin
alone {e = e} t = record { yes = λ y. ap conjunction (single e t); no = λ n. no_yes (sym n) }

module _ {e a b : Expr} (is : e ≡ bin and a b) where
  -- an And whose right operand is one is not
  pub and_right : {v : Bool} → v ≡ false → is_and (label_e b) ≡ true → Says v (LeftDeep e)
  and_right f r =
      let d = and_label b r in
      record {
        yes = λ y. no_yes (sym f ∙ y);
        no = λ n k. right_and a b d.lhs d.rhs d.is (rw is at k);
      }

  -- another is, if its left operand is
  pub and_deep : {v : Bool} → is_and (label_e b) ≡ false → Says v (LeftDeep a) → Says v (LeftDeep e)
  and_deep r k =
      let one = single b r in
      record {
        yes = λ y. rw is (deeper a b one (k.yes y));
        no = λ n j. k.no n (shallower a b one (rw is at j));
      }
