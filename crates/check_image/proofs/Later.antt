-- Names and types of an image that meets none of the tests 1 to 5: what the code finds on records is what the check finds on the plan.
use Prim.Native.Nat.{ℕ, ◌/◌}
use native.Mathlib.Omega.{arith}
use mathlib.Core.Path.{◌≡◌, refl, sym, ap, ◌∙◌}
use mathlib.Core.List.{List}
use lib.ListN.{length}
use Rattle.std.specs.Prelude.{None, Some, Ok, Err}
use Rattle.image.specs.declared.refusals.Refusal.{Refusal}
use Rattle.check_image.specs.Answer.{refused}
use Rattle.image.specs.Lowest.{Found, alone}
use Rattle.image.specs.Subtrees.{Subtree, tree_of}
use Rattle.image.specs.Tree.{Tree}
use Rattle.plan.specs.Read.{plan_at}
use Rattle.plan.specs.Form.{bad_form}
use Rattle.plan.specs.Words.{Worded}
use Rattle.plan.proofs.PlanOf.{plan_tree_whole}
use Rattle.acceptance.specs.Names.{bad_name}
use Rattle.acceptance.specs.Types.{bad_type}
use Rattle.acceptance.specs.Check.{Links, linked, verdict, at, check_plan, check}
use Rattle.check_form.specs.Formed.{Formed, formed, numbered, later}
use Rattle.check_form.specs.Sound.{Sound}
use Rattle.check_form.proofs.Sound.{check_is}
use Rattle.check_fields.specs.Rules.{bad_names, bad_types}
use Rattle.check_names.proofs.TreeNames.{tree_names}
use Rattle.check_names.proofs.TreeTypes.{tree_types}

-- of the tree that the links come to, by what they rest on
module _ (s : List ℕ) (t : Tree) (links : linked s (length s / 32) ≡ Links.tree t) (words : Worded (alone t)) (form : bad_form t ≡ None) where
  names_are : bad_name (plan_at t) ≡ bad_names t
  names_are = sym (tree_names (plan_at t)) ∙ ap bad_names (plan_tree_whole t words form)

  types_are : bad_type (plan_at t) ≡ bad_types t
  types_are = sym (tree_types (plan_at t)) ∙ ap bad_types (plan_tree_whole t words form)

  -- the verdict of the tests 6 and 7, on the records
  later_is : later (linked s (length s / 32)) ≡ at 6 (bad_names t) (at 7 (bad_types t) (verdict 0 0))
  unfolding check_plan
  later_is = rw (links, names_are, types_are)

  pub name_later : (r : ℕ) → Some r ≡ bad_names t → verdict 6 r ≡ later (linked s (length s / 32))
  unfolding at
  name_later r e = go (bad_names t) refl e ∙ sym later_is
    where
      go : (f : Found) → bad_names t ≡ f → Some r ≡ f → verdict 6 r ≡ at 6 (bad_names t) (at 7 (bad_types t) (verdict 0 0))
      go None e h = let z : ◌≡◌ {A = ℕ} 0 1 = cc in absurd (omega arith)
      go (Some q) e h = let i : r ≡ q = cc in rw (e, i)

  module _ (none : None ≡ bad_names t) where
    no_name : bad_names t ≡ None
    no_name = sym none

    pub type_later : (r : ℕ) → Some r ≡ bad_types t → verdict 7 r ≡ later (linked s (length s / 32))
    unfolding at
    type_later r e = go (bad_types t) refl e ∙ sym (later_is ∙ rw no_name)
      where
        go : (f : Found) → bad_types t ≡ f → Some r ≡ f → verdict 7 r ≡ at 7 (bad_types t) (verdict 0 0)
        go None e h = let z : ◌≡◌ {A = ℕ} 0 1 = cc in absurd (omega arith)
        go (Some q) e h = let i : r ≡ q = cc in rw (e, i)

    pub none_later : None ≡ bad_types t → verdict 0 0 ≡ later (linked s (length s / 32))
    unfolding at
    none_later e = go (bad_types t) refl e ∙ sym (later_is ∙ rw no_name)
      where
        go : (f : Found) → bad_types t ≡ f → None ≡ f → verdict 0 0 ≡ at 7 (bad_types t) (verdict 0 0)
        go None e h = rw e
        go (Some q) e h = let z : ◌≡◌ {A = ℕ} 0 1 = cc in absurd (omega arith)

-- .. of one that meets none of the tests 1 to 5
module _ {x : Subtree} (w : Sound x) where
  abbrev s : List ℕ
  s = x.image.now

  abbrev t : Tree
  t = tree_of x

  pub later_name : (r : ℕ) → Some r ≡ bad_names t → verdict 6 r ≡ later (linked s (length s / 32))
  later_name r e = name_later s t w.links w.words w.form r e

  module _ (none : None ≡ bad_names t) where
    pub later_type : (r : ℕ) → Some r ≡ bad_types t → verdict 7 r ≡ later (linked s (length s / 32))
    later_type r e = type_later s t w.links w.words w.form none r e

    pub later_none : None ≡ bad_types t → verdict 0 0 ≡ later (linked s (length s / 32))
    later_none e = none_later s t w.links w.words w.form none e

-- the answer for the tests 1 to 5 is the check's
module _ (s : List ℕ) {f : Formed} (is : formed s ≡ f) where
  told : numbered f (later (linked s (length s / 32))) ≡ check s
  told = sym (check_is s ∙ ap (λ (x : Formed). numbered x (later (linked s (length s / 32)))) is)

  pub told_refusal : {r : Refusal} → f ≡ Err r → refused r ≡ check s
  told_refusal {r} e = rw e at told

  pub told_whole : f ≡ Ok tt → later (linked s (length s / 32)) ≡ check s
  told_whole e = rw e at told
