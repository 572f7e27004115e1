-- Renames as an image: an entry for each name, with a column below it.
use Rattle.std.specs.Prelude.{List, [], ◌∷◌, ◌++◌, ℕ, zero, suc, ◌+◌, ◌<◌}
use Rattle.image.specs.Tree.{Label, none, Tree}
use Rattle.image.specs.Flat.{bytes_of}
use Rattle.plan.specs.Kinds.{plan, number_e, number_q, Column, EntryPart, Projection}
use Rattle.plan.specs.Syntax.{Name, col, Entry}
use Rattle.plan.specs.Trees.{label, qualifier, ident, each, entry_label, entry_kids}
use Rattle.utils.specs.Fields.{Fields, field_at}

-- the label of this kind with this name
abbrev pub named_label : ℕ → Name → Label
named_label k x = record { kind = k; p = qualifier x; q = ident x; r = 0; lo = 0; hi = 0 }

-- 32 bits hold both parts of the name
pub record SmallName (x : Name) : Type 0 where
  pub q : qualifier x < 4294967296
  pub n : ident x < 4294967296

-- the link to a record that has k before the end
abbrev pub link_to : ℕ → ℕ → ℕ
link_to b zero = 0
link_to b (suc k) = b

-- the bytes of a rename
abbrev pub rename_bytes : Name → Name → ℕ → ℕ → List ℕ
rename_bytes x y a b = bytes_of (named_label (number_q EntryPart) x) a b ++ bytes_of (named_label (number_e Column) y) 0 0

-- the name x for the name y
abbrev pub rename_of : Name → Name → Entry
rename_of x y = record { name = x; expr = col y }

-- the renames from place i on, k of them
abbrev pub renames_from : Fields → Fields → ℕ → ℕ → List Entry
renames_from f g i zero = []
renames_from f g i (suc k) = rename_of (field_at f i) (field_at g i) ∷ renames_from f g (i + 1) k

-- the tree of the renames
abbrev pub renames_tree : Fields → Fields → ℕ → Tree
renames_tree f g n =
    record { label = label (plan Projection) 0 0 0 0 0; below = each entry_label entry_kids (renames_from f g 0 n) none }
