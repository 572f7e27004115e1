-- The records of a tree one after another, each with its depth.
use Rattle.std.specs.Prelude.{List, [], ◌∷◌, ◌++◌, ℕ, ◌+◌}
use Rattle.image.specs.Tree.{Label, Forest, none, node, Tree}
use Rattle.image.specs.Flat.{bytes_of}

-- a label and a depth
abbrev pub Rec : Type 0
Rec = Label × ℕ

-- the records of a forest whose first are at depth d
abbrev pub recs_any : ℕ → Forest → List Rec
recs_any d none = []
recs_any d (node l cs ns) = (l, d) ∷ (recs_any (d + 1) cs ++ recs_any d ns)

-- the records of a tree whose top is at depth d
abbrev pub recs : ℕ → Tree → List Rec
recs d t = (t.label, d) ∷ recs_any (d + 1) t.below

-- records written flat
abbrev pub flats : List Rec → List ℕ
flats [] = []
flats (x ∷ xs) = bytes_of x.0 x.1 0 ++ flats xs
