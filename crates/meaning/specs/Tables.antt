-- The tables and the functions that a plan may have (docs/MEANING.md, Values, rows, tables, functions): what fits its types. Assumes
-- nothing.
use Rattle.std.specs.Prelude.{ℕ, Bool, List, [], ◌∷◌, ℤ}
use Rattle.plan.specs.Integers.{Every}
use Rattle.plan.specs.Syntax.{Value, null, int, truth, Plan}
use Rattle.plan.specs.Types.{Scanned, scans}
use Rattle.meaning.specs.Meaning.{World, Row}

-- a value of the type (1 integer, 2 boolean) or NULL
pub data OfType : ℕ → Value → Type 0 where
  no_value : {t : ℕ} → OfType t null
  integer : {z : ℤ} → OfType 1 (int z)
  boolean : {b : Bool} → OfType 2 (truth b)

-- a value of the field's type or NULL in every field, and no more values than fields
pub data RowFits : List ℕ → Row → Type 0 where
  no_fields : RowFits [] []
  field_fits : {t : ℕ} {ts : List ℕ} {v : Value} {r : Row} → OfType t v → RowFits ts r → RowFits (t ∷ ts) (v ∷ r)

-- a table is any list of rows, each with a value of the field's type or NULL in every field
abbrev pub TableFits : List ℕ → List Row → Type 0
TableFits ts rs = Every (RowFits ts) rs

-- for each scan of a list, the rows of its table fit its types
unfoldable pub ScansFit : World → List Scanned → Type 0
ScansFit W ss = Every (λ (s : Scanned). TableFits s.row_types (W.table s.table)) ss

-- for each scan of the plan
abbrev pub TablesFit : World → Plan → Type 0
TablesFit W p = ScansFit W (scans p)

-- a total meaning gives p, q, r and the argument values one value of type r or NULL
abbrev pub FunctionsFit : World → Type 0
FunctionsFit W = (p q r : ℕ) (vs : List Value) → OfType r (W.fun p q r vs)
