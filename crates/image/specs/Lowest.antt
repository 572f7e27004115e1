-- The lowest record, by number, of a forest that breaks a rule.
use Rattle.std.specs.Prelude.{Bool, true, false, List, [], ◌∷◌, ℕ, ◌+◌, Option, Some, None}
use Rattle.image.specs.Tree.{Label, Forest, none, node, Tree, size}

-- a record, or none
abbrev pub Found : Type 0
Found = Option ℕ

-- the first, and where it is none the second
unfoldable pub or_else : Found → Found → Found
or_else (Some r) g = Some r
or_else None g = g

-- the record b, unless the rule holds of it
unfoldable pub unless : Bool → ℕ → Found
unless true b = None
unless false b = Some b

-- A rule sees a record's label, its children, and what is handed down to it: c to the first tree of a forest, `after` to those beside it.
module _ {C : Type 0} (rule : C → Label → Forest → Bool) (hand : C → Label → Forest → C × C) where
  -- of the records of a forest whose first has the number b
  unfoldable pub lowest : C → C → ℕ → Forest → Found
  lowest c after b none = None
  lowest c after b (node l cs ns) =
      or_else (unless (rule c l cs) b)
      (or_else (lowest (hand c l cs).0 (hand c l cs).1 (b + 1) cs) (lowest after after (b + 1 + size cs) ns))

-- the tree alone
abbrev pub alone : Tree → Forest
alone t = node t.label t.below none

-- the place of the first mark that is false, of marks that are counted from b
unfoldable pub first_false : ℕ → List Bool → Found
first_false b [] = None
first_false b (m ∷ ms) = or_else (unless m b) (first_false (b + 1) ms)
