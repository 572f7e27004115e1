-- The check of an image up to its form, as the code hands it back; and its verdict.
use Rattle.std.specs.Prelude.{◌≡◌, cond, List, ℕ, ◌/◌, length, None, Some, Result, Ok, Err}
use Rattle.image.specs.Tree.{Tree}
use Rattle.image.specs.Lowest.{Found}
use Rattle.image.specs.Subtrees.{Subtree, tree_of}
use Rattle.image.specs.Refusals.{number_of, named}
use Rattle.image.specs.declared.refusals.Refusal.{Refusal}
use Rattle.image.specs.declared.refusals.Refusal.TheVariants.{Buffer, Record, Link, Depth, Form}
use Rattle.plan.specs.Form.{bad_form}
use Rattle.plan.specs.Read.{plan_at}
use Rattle.acceptance.specs.Check.{buffer_ok, bad_words, Links, tree, broken, linked, too_deep, Verdict, verdict, check_plan}

-- nothing, or why it is refused
abbrev pub Formed : Type 0
Formed = Result (Unit {0}) Refusal

-- the record found; the later tests where there is none
unfoldable pub stop : Found → (ℕ → Refusal) → Formed → Formed
stop (Some r) at rest = Err (at r)
stop None at rest = rest

unfoldable pub formed_tree : Tree → Formed
formed_tree t = stop (too_deep t) Depth (stop (bad_form t) Form (Ok tt))

abbrev pub formed_links : Links → Formed
formed_links (broken r) = Err (Link r)
formed_links (tree t) = formed_tree t

-- the first of the tests 1 to 5 that s meets
unfoldable pub formed : List ℕ → Formed
formed s = cond (buffer_ok s) (stop (bad_words (length s / 32) s 0) Record (formed_links (linked s (length s / 32)))) (Err Buffer)

-- s meets none of them, and x is the tree of its records
pub record Passed (s : List ℕ) (x : Subtree) : Type 0 where
  pub image : x.image.now ≡ s
  pub number : x.number ≡ 0
  pub links : linked s (length s / 32) ≡ tree (tree_of x)
  pub is : formed s ≡ Ok tt

-- that is so, or the first that it meets
abbrev pub Checked : List ℕ → Result Subtree Refusal → Type 0
Checked s (Ok x) = Passed s x
Checked s (Err r) = formed s ≡ Err r

-- its verdict; v is that of the later tests
abbrev pub numbered : Formed → Verdict → Verdict
numbered (Ok u) v = v
numbered (Err r) v = verdict (number_of r) (named r)

-- what is left of the check: names and types
abbrev pub later : Links → Verdict
later (tree t) = check_plan (plan_at t)
later (broken r) = verdict 3 r
