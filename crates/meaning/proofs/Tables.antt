-- Tables that fit the scans of a plan: what that says of its inputs, and of the width of rows.
use Prim.Native.Nat.{ℕ, suc}
use mathlib.Core.Path.{◌≡◌, refl, ap}
use mathlib.Core.List.{List, [], ◌∷◌, ◌++◌}
use lib.ListN.{length}
use Rattle.plan.specs.Types.{Scanned}
use Rattle.plan.specs.Lists.{All, anil, acons}
use Rattle.meaning.specs.Meaning.{World, Row}
use Rattle.meaning.specs.Tables.{RowFits, no_fields, field_fits, TableFits, ScansFit}

-- the scans of a join's left input, those of its right input; so for the inputs of a Union
module _ (W : World) where
  pub fit_left : (ss ts : List Scanned) → ScansFit W (ss ++ ts) → ScansFit W ss
  unfolding ScansFit
  fit_left [] ts h = tt
  fit_left (s ∷ ss) ts h = (h.0, fit_left ss ts h.1)

  pub fit_right : (ss ts : List Scanned) → ScansFit W (ss ++ ts) → ScansFit W ts
  unfolding ScansFit
  fit_right [] ts h = h
  fit_right (s ∷ ss) ts h = fit_right ss ts h.1

-- scans that are the same
pub fit_same : (W : World) {ss ts : List Scanned} → ss ≡ ts → ScansFit W ts → ScansFit W ss
fit_same W e h = rw e h

row_width : {ts : List ℕ} {r : Row} → RowFits ts r → length r ≡ length ts
row_width no_fields = refl
row_width (field_fits v r) = ap suc (row_width r)

table_wide : (ts : List ℕ) (rs : List Row) → TableFits ts rs → All (λ r. length r ≡ length ts) rs
table_wide ts [] h = anil
table_wide ts (r ∷ rs) h = acons (row_width h.0) (table_wide ts rs h.1)

-- the rows of a scan's table have a value for each of its fields
pub scan_wide : (W : World) (s : Scanned) → ScansFit W (s ∷ []) → All (λ r. length r ≡ length s.row_types) (W.table s.table)
unfolding ScansFit
scan_wide W s h = table_wide _ _ h.0
