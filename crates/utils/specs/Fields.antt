-- The schema that the code's list holds.
use Rattle.std.specs.Prelude.{cond, List, [], ◌∷◌, map, ℕ, suc, get_or}
use Rattle.image.specs.Limits.{max_fields}
use Rattle.bounded.specs.declared.Bounded.{Bounded}
use Rattle.bounded.specs.Lists.{Holds}
use Rattle.plan.specs.Schema.{same}
use Rattle.plan.specs.Syntax.{Name, nm}
use Rattle.utils.specs.declared.schema_columns.ColumnReference.{ColumnReference}

-- the list of the code
abbrev pub Fields : Type 0
Fields = Bounded ColumnReference max_fields

-- a name as the code has it, and back
abbrev pub coded : Name → ColumnReference
coded (nm q n) = record { q = q; n = n }

abbrev pub named : ColumnReference → Name
named x = nm x.q x.n

-- the name of the field i
abbrev pub field_at : Fields → ℕ → Name
field_at f i = named (get_or f.at i (coded (nm 0 0)))

-- f holds the names ns, or as many of them as there is room for
pub record Names (f : Fields) (ns : List Name) : Type 0 where
  pub holds : Holds f (map coded ns)

-- the first place of a name, or the length
unfoldable pub place_in : List Name → Name → ℕ
place_in [] x = 0
place_in (y ∷ ns) x = cond (same y x) 0 (suc (place_in ns x))
