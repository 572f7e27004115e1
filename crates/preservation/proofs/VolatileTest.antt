-- No volatile function, as a test of every record of a plan, which the rewrite keeps.
use Prim.Native.Nat.{ℕ}
use mathlib.Core.Path.{◌≡◌, refl, sym, ap₂, ◌∙◌}
use mathlib.Core.Bool.{Bool, true, not}
use Rattle.image.specs.Tree.{Forest, none, node}
use Rattle.image.specs.Lowest.{alone}
use Rattle.plan.specs.Lists.{◌&◌}
use Rattle.plan.specs.Syntax.{Plan}
use Rattle.plan.specs.Trees.{label_e, label_p, plan_tree}
use Rattle.rewrite.specs.RewriteAt.{granted, rewrite_at}
use Rattle.preservation.specs.Volatile.{volatile, none_volatile, NoVolatile}
use Rattle.preservation.proofs.Everywhere.{Tests, Closed, everywhere}
use Rattle.preservation.proofs.RecordsKept.{rewrite_at_kept}
use Rattle.preservation.proofs.Rules.{sound}
use Rattle.preservation.proofs.Labels.{words_tree}

abbrev Lasting : Tests
Lasting = record { label = λ l. not (volatile l); number = λ z. true; least = λ m n. true }

-- the statement's test is that of all records
as_test : (f : Forest) → none_volatile f ≡ sound (λ l cs. not (volatile l)) f
unfolding none_volatile sound
as_test none = refl
as_test (node l cs ns) = ap₂ (λ x y. not (volatile l) & (x & y)) (as_test cs) (as_test ns)

of_plan : (p : Plan) → none_volatile (alone (plan_tree p)) ≡ everywhere Lasting p
of_plan p = as_test (alone (plan_tree p)) ∙ words_tree Lasting (λ z. refl) (λ m n. refl) p

-- the rewrite adds operators, Filters and columns, and no function
no_function : Closed Lasting
unfolding volatile label_e label_p ◌&◌
no_function = record {
  binary = λ o a b. refl;
  false_literal = refl;
  filters = λ e p. refl;
  of_field = λ f h. refl;
  of_entry = λ e h. refl;
  of_agg = λ a h. refl;
  of_win = λ w h. refl;
  of_alias = λ q p x h k. refl;
}

pub volatile_kept : (n : ℕ) (p : Plan) (b : Bool) (q : Plan) → NoVolatile p → rewrite_at n p ≡ granted b q → NoVolatile q
volatile_kept n p b q h e = of_plan q ∙ rewrite_at_kept Lasting no_function n p b q (sym (of_plan p) ∙ h) e
