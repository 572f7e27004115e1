-- What a granted rewrite leaves may stand where the plan stood: it is well formed, has no volatile function if that had none, and the same rows.
use Prim.Native.Nat.{ℕ}
use mathlib.Core.Path.{◌≡◌, subst}
use mathlib.Core.Bool.{Bool, true}
use borrow.Author.Tests.{leb-true}
use Rattle.image.specs.Limits.{max_records, max_depth}
use Rattle.plan.proofs.Lists.{and_l, and_r, and_intro}
use Rattle.plan.specs.Syntax.{Plan}
use Rattle.plan.specs.Measure.{size_p, depth_p}
use Rattle.acceptance.specs.Accepted.{WellFormed}
use Rattle.acceptance.proofs.NamesRule.{ok_names}
use Rattle.acceptance.specs.NamesRule.{ok}
use Rattle.acceptance.proofs.TypesRule.{types_ok, names_typed_ok}
use Rattle.acceptance.proofs.NamesMarks.{names_iff}
use Rattle.acceptance.proofs.TypesMarks.{types_iff}
use Rattle.rewrite.specs.Limits.{within_limits}
use Rattle.rewrite.specs.RewriteAt.{granted, rewrite_at}
use Rattle.rewrite.proofs.Rewrite.{Keeps}
use Rattle.rewrite.proofs.AtRecord.{Leaves, Answered, was_granted, rewrite_at_answered, types_ok_again}
use Rattle.preservation.specs.Volatile.{NoVolatile}
use Rattle.preservation.proofs.Depth.{not_too_deep}
use Rattle.preservation.proofs.WordsTest.{words_ok_plan, words_ok_law}
use Rattle.preservation.proofs.FormTest.{formed, formed_law}
use Rattle.preservation.proofs.Kept.{words_kept, form_kept}
use Rattle.preservation.proofs.VolatileTest.{volatile_kept}

pub record Granted (q p : Plan) : Type 0 where
  pub keeps : Keeps q p
  pub well : WellFormed q
  pub not_volatile : NoVolatile q

-- the rules that the row theorem asks of a plan
pub well_ok : (p : Plan) → WellFormed p → ok p ≡ true
unfolding types_ok
well_ok p w = names_typed_ok p ((names_iff p).0 w.names) (and_l _ _ ((types_iff p).0 w.types))

leaves : {p q : Plan} {f : Bool} → Answered p (granted f q) → Leaves q p
leaves (was_granted l) = l

module _ (n : ℕ) (p : Plan) (w : WellFormed p) (f : Bool) (q : Plan) (e : rewrite_at n p ≡ granted f q) where
  left : Leaves q p
  left = leaves (subst (Answered p) e (rewrite_at_answered n p (well_ok p w)))

  words_again : words_ok_plan q ≡ true
  words_again = words_kept n p f q ((words_ok_law p).1 (w.words, w.integers)) e

  form_again : formed q ≡ true
  form_again = form_kept n p f q (and_l _ _ ((formed_law p).0 w.form)) e

  -- ACCEPTANCE IS KEPT, also of plans with volatile functions
  pub granted_well : WellFormed q
  unfolding within_limits size_p
  granted_well = record {
    records = leb-true (size_p q) max_records (and_l _ _ left.fitting);
    words = ((words_ok_law q).0 words_again).0;
    depth = not_too_deep q (leb-true (depth_p q) max_depth (and_l _ _ (and_r _ _ left.fitting)));
    form = (formed_law q).1 (and_intro form_again (and_r _ _ (and_r _ _ left.fitting)));
    names = (names_iff q).1 (ok_names q left.keeps.well);
    types = (types_iff q).1 (types_ok_again q p left.keeps ((types_iff p).0 w.types));
    integers = ((words_ok_law q).0 words_again).1;
  }

  pub granted_keeps : NoVolatile p → Granted q p
  granted_keeps v = record { keeps = left.keeps; well = granted_well; not_volatile = volatile_kept n p f q v e }
