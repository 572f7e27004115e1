-- The check of an image: seven tests, and the answer is the first that is met, at the lowest record that meets it (Link: the first met).
-- In plain words, each with an image: docs/FORMAT.md, Refusals. Form (5) stands in plan/specs/Form.antt, Name (6) in Names.antt, Type (7)
-- in Types.antt.
use Rattle.std.specs.Prelude.{Bool, not, cond, List, ℕ, zero, suc, ◌+◌, ◌/◌, ◌%◌, eqb, leb, length, drop, None, Some}
use Rattle.image.specs.Word.{word}
use Rattle.image.specs.Tree.{Label, Tree, label_at}
use Rattle.image.specs.Links.{Parsed, good, bad, parse}
use Rattle.image.specs.Limits.{max_records, max_depth}
use Rattle.image.specs.Lowest.{Found, or_else, unless, lowest, alone}
use Rattle.plan.specs.Lists.{◌&◌}
use Rattle.plan.specs.Words.{words_ok}
use Rattle.plan.specs.Form.{bad_form}
use Rattle.plan.specs.Read.{plan_at}
use Rattle.plan.specs.Syntax.{Plan}
use Rattle.acceptance.specs.Names.{bad_name}
use Rattle.acceptance.specs.Types.{bad_type}

-- ---- Buffer (1)

unfoldable pub buffer_ok : List ℕ → Bool
buffer_ok s = not (eqb (length s) 0) & eqb (length s % 32) 0 & leb (length s / 32) max_records

-- ---- Record (2): of the k records at the start of s, the first with the number b

unfoldable pub bad_words : ℕ → List ℕ → ℕ → Found
bad_words zero s b = None
bad_words (suc k) s b = or_else (unless (words_ok (label_at s)) b) (bad_words k (drop 32 s) (b + 1))

-- ---- Link (3): the tree, or the record that has the first bad link met, or the first record that is left

pub data Links : Type 0 where
  tree : Tree → Links
  broken : ℕ → Links

-- the children are read; the root's next is met last
abbrev pub rooted : Label → ℕ → ℕ → Parsed → Links
rooted l n next (bad r) = broken r
rooted l n next (good cs j) = cond (eqb next 0) (cond (eqb j n) (tree (record { label = l; below = cs })) (broken j)) (broken 0)

-- the n records of s; the root is read, and record 1 is the next unread
unfoldable pub linked : List ℕ → ℕ → Links
linked s n = rooted (label_at s) n (word s 28) (parse (suc n) s n 1 (word s 24) 0)

-- ---- Depth (4)

unfoldable pub too_deep : Tree → Found
too_deep t = lowest (λ d l cs. leb d max_depth) (λ d l cs. (d + 1, d + 1)) 1 1 0 (alone t)

-- ---- the check

-- a number and a record; 0 and 0 if the image is accepted
pub record Verdict : Type 0 where
  pub number : ℕ
  pub place : ℕ

abbrev pub verdict : ℕ → ℕ → Verdict
verdict n r = record { number = n; place = r }

-- the number n at the record found; the later tests where there is none
unfoldable pub at : ℕ → Found → Verdict → Verdict
at n (Some r) v = verdict n r
at n None v = v

-- Name (6) and Type (7), of a plan
unfoldable pub check_plan : Plan → Verdict
check_plan p = at 6 (bad_name p) (at 7 (bad_type p) (verdict 0 0))

-- a tree of the right form is the tree of a plan
unfoldable pub check_tree : Tree → Verdict
check_tree t = at 4 (too_deep t) (at 5 (bad_form t) (check_plan (plan_at t)))

abbrev pub check_links : Links → Verdict
check_links (broken r) = verdict 3 r
check_links (tree t) = check_tree t

unfoldable pub check : List ℕ → Verdict
check s = at 1 (unless (buffer_ok s) 0) (at 2 (bad_words (length s / 32) s 0) (check_links (linked s (length s / 32))))
