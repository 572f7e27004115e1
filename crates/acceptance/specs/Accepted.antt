-- What the check promises: an image is accepted if and only if it is the image of a well-formed plan.
-- The theorem is `exactly_one` of proofs/Converse.antt.
use Rattle.std.specs.Prelude.{ℕ, ◌≤◌, ◌≡◌, List, None}
use Rattle.image.specs.Flat.{size_t, enc}
use Rattle.image.specs.Limits.{max_records}
use Rattle.image.specs.Lowest.{alone}
use Rattle.acceptance.specs.Check.{too_deep}
use Rattle.acceptance.specs.Names.{bad_name}
use Rattle.acceptance.specs.Types.{bad_type}
use Rattle.plan.specs.Words.{Worded}
use Rattle.plan.specs.Integers.{FitsP}
use Rattle.plan.specs.Form.{bad_form}
use Rattle.plan.specs.Syntax.{Plan}
use Rattle.plan.specs.Trees.{plan_tree}

-- a plan that meets no test; that its integers have 64 bits is no test's, since no image has others
pub record WellFormed (p : Plan) : Type 0 where
  pub records : size_t (plan_tree p) ≤ max_records
  pub words : Worded (alone (plan_tree p))
  pub depth : too_deep (plan_tree p) ≡ None
  pub form : bad_form (plan_tree p) ≡ None
  pub names : bad_name p ≡ None
  pub types : bad_type p ≡ None
  pub integers : FitsP p

-- s is the image of p, which is well formed
pub record Accepted (s : List ℕ) (p : Plan) : Type 0 where
  pub image : s ≡ enc 0 (plan_tree p)
  pub well : WellFormed p
