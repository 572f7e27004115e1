-- What the links of an image come to, as the code hands it back.
use Rattle.std.specs.Prelude.{◌≡◌, List, ℕ, Result, Ok, Err}
use Rattle.image.specs.Subtrees.{Subtree, tree_of}
use Rattle.image.specs.declared.links.BadLink.{BadLink}
use Rattle.acceptance.specs.Check.{tree, broken, linked}

-- x is the tree that the links of the n records of s come to
pub record Root (s : List ℕ) (n : ℕ) (x : Subtree) : Type 0 where
  pub image : x.image.now ≡ s
  pub number : x.number ≡ 0
  pub is : linked s n ≡ tree (tree_of x)

-- they come to it, or a record has a bad one
abbrev pub Read : List ℕ → ℕ → Result Subtree BadLink → Type 0
Read s n (Ok x) = Root s n x
Read s n (Err bad) = linked s n ≡ broken bad.0
