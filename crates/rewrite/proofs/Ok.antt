-- What follows from the name rules of an accepted plan: each row has a value for each field.
use Prim.Native.Nat.{ℕ, suc, zero, ◌+◌}
use mathlib.Core.Path.{◌≡◌, refl, sym, ap, ap₂, ◌∙◌}
use mathlib.Core.Bool.{Bool, true}
use mathlib.Core.List.{List, [], ◌∷◌, ◌++◌, map}
use mathlib.Core.Option.{Option, none, some}
use lib.ListN.{length, take, drop, length-map, length-append, length-replicate}
use borrow.Author.Tests.{eqb-true}
use Rattle.plan.specs.Lists.{keep, All, anil, acons}
use Rattle.plan.proofs.Lists.{and_l, and_r, All-map, All-mapped, All-append, All-keep, All-flat, all_of}
use Rattle.plan.specs.Syntax.{null, Name, Field, Entry, Kind, inner, left, right, full, left_semi, right_semi, left_anti, right_anti, Plan}
use Rattle.plan.specs.Syntax.{scan, filter, project, join, alias, union, distinct, sort, repartition, limit, aggregate, window, Plans, pnil}
use Rattle.plan.specs.Syntax.{pcons}
use Rattle.meaning.specs.Meaning.{World, Row, entries, joined, outer, nulls, sorted, fetched, sorts_before_row, group_keys, rows, rows_all}
use Rattle.meaning.specs.Tables.{ScansFit, TablesFit}
use Rattle.meaning.proofs.Tables.{fit_left, fit_right, scan_wide}
use Rattle.plan.specs.Types.{scans, scans_all}
use Rattle.plan.specs.Schema.{schema, sides}
use Rattle.acceptance.specs.NamesRule.{rule, ok, ok_all}
use Rattle.rewrite.proofs.Join.{Wide}
use Rattle.rewrite.proofs.JoinLists.{All-or_else}
use Rattle.rewrite.proofs.Groups.{All-first_occurrences}
use Rattle.rewrite.proofs.Sort.{All-insert}

-- ---- each row has a value for each field

module _ {A : Type 0} {P : A → Type 0} where
  All-take : (n : ℕ) {xs : List A} → All P xs → All P (take n xs)
  All-take zero anil = anil
  All-take zero (acons h hs) = anil
  All-take (suc n) anil = anil
  All-take (suc n) (acons h hs) = acons h (All-take n hs)

  All-drop : (n : ℕ) {xs : List A} → All P xs → All P (drop n xs)
  All-drop zero anil = anil
  All-drop zero (acons h hs) = acons h hs
  All-drop (suc n) anil = anil
  All-drop (suc n) (acons h hs) = All-drop n hs

  All-fetched : (f : Option ℕ) {xs : List A} → All P xs → All P (fetched f xs)
  All-fetched none h = h
  All-fetched (some n) h = All-take n h

  All-sorted : (under : A → A → Bool) {xs : List A} → All P xs → All P (sorted under xs)
  All-sorted under anil = anil
  All-sorted under (acons {x = x} h hs) = All-insert under x h (All-sorted under hs)

wide_append : (s t : List Name) (a b : Row) → Wide s a → Wide t b → Wide (s ++ t) (a ++ b)
wide_append s t a b h k = simp length-append (ap₂ ◌+◌ h k)

-- NULL for a missing side
nulls_wide : (s : List Name) → Wide s (nulls (length s))
nulls_wide s = length-replicate (length s) null

-- a row with its matches on the other side
beside : (s t : List Name) (m : Row → Bool) (a : Row) {rs : List Row} → Wide s a → All (Wide t) rs
    → All (Wide (s ++ t)) (map (a ++◌) (keep m rs))
beside s t m a ha hr = All-mapped _ (All-keep _ (All-map (λ b hb. wide_append s t a b ha hb) hr))

left_wide : (m : Row → Row → Bool) (s t : List Name) {ls rs : List Row} → All (Wide s) ls → All (Wide t) rs
    → All (Wide (s ++ t)) (outer m ◌++◌ (◌++ nulls (length t)) ls rs)
left_wide m s t hl hr =
    All-flat _ (λ a ha. All-or_else _ (wide_append s t a _ ha (nulls_wide t)) (beside s t (m a) a ha hr)) hl

joined_wide : (k : Kind) (m : Row → Row → Bool) (s t : List Name) {ls rs : List Row} → All (Wide s) ls → All (Wide t) rs
    → All (Wide (sides k s t)) (joined k m (length s) (length t) ls rs)
joined_wide inner m s t hl hr = All-flat _ (λ a ha. beside s t (m a) a ha hr) hl
joined_wide left m s t hl hr = left_wide m s t hl hr
joined_wide right m s t hl hr =
    All-flat _ (λ b hb. All-or_else _ (wide_append s t (nulls (length s)) b (nulls_wide s) hb)
    (All-mapped _ (All-keep _ (All-map (λ a ha. wide_append s t a b ha hb) hl)))) hr
joined_wide full m s t hl hr =
    All-append (left_wide m s t hl hr) (beside s t _ (nulls (length s)) (nulls_wide s) hr)
joined_wide left_semi m s t hl hr = All-keep _ hl
joined_wide right_semi m s t hl hr = All-keep _ hr
joined_wide left_anti m s t hl hr = All-keep _ hl
joined_wide right_anti m s t hl hr = All-keep _ hr

module _ (W : World) where
  grouped_wide : (s : List Name) (gs : List Entry) (rs : List Row)
      → All (λ k. length k ≡ length gs) (group_keys gs (map (entries W s gs) rs))
  grouped_wide s [] rs = acons refl anil
  grouped_wide s (g ∷ gs) rs = All-first_occurrences (All-mapped _ (all_of (λ r. length-map (g ∷ gs) _) rs))

  mutual
    unfolding rows schema scans rule

    -- in a world whose tables fit the plan
    pub rows_wide : (p : Plan) → ok p ≡ true → TablesFit W p → All (Wide (schema p)) (rows W p)
    rows_wide (scan t fs es) h d =
        All-keep _ (All-map (λ r e. e ∙ length-map fs _ ∙ sym (length-map fs _))
        (scan_wide W (record { table = t; row_types = map (λ (f : Field). f.ty) fs }) d))
    rows_wide (filter e p) h d = All-keep _ (rows_wide p (and_r _ _ h) d)
    rows_wide (project es p) h d = All-mapped _ (all_of (λ r. length-map es _ ∙ sym (length-map es _)) (rows W p))
    rows_wide (join k l r on f) h d =
        let h' = and_r _ _ (and_r _ _ (and_r _ _ h)) in
        joined_wide k _ (schema l) (schema r)
        (rows_wide l (and_l _ _ h') (fit_left W (scans l) (scans r) d))
        (rows_wide r (and_r _ _ h') (fit_right W (scans l) (scans r) d))
    rows_wide (alias q p) h d = All-map (λ r e. e ∙ sym (length-map (schema p) _)) (rows_wide p (and_r _ _ h) d)
    rows_wide (union ps) h d = rows_all_wide ps _ h d
    rows_wide (distinct p) h d = All-first_occurrences (rows_wide p h d)
    rows_wide (sort f ks p) h d = All-fetched f (All-sorted (sorts_before_row W (schema p) ks) (rows_wide p (and_r _ _ h) d))
    rows_wide (repartition p) h d = rows_wide p h d
    rows_wide (limit n k p) h d = All-take n (All-drop k (rows_wide p h d))
    rows_wide (aggregate gs ags p) h d =
        All-mapped _ (All-map (λ k e. simp (length-append, length-map) (ap (◌+ length ags) e)) (grouped_wide (schema p) gs (rows W p)))
    rows_wide (window ws p) h d =
        All-mapped _ (All-map (λ r e. simp (length-append, length-map) (ap (◌+ length ws) e)) (rows_wide p (and_r _ _ (and_r _ _ h)) d))

    rows_all_wide : (ps : Plans) (n : ℕ) → ok_all n ps ≡ true → ScansFit W (scans_all ps) → All (λ r. length r ≡ n) (rows_all W ps)
    rows_all_wide pnil n h d = anil
    rows_all_wide (pcons p ps) n h d =
        All-append
        (All-map (λ r e. e ∙ eqb-true _ n (and_l _ _ h)) (rows_wide p (and_l _ _ (and_r _ _ h)) (fit_left W (scans p) (scans_all ps) d)))
        (rows_all_wide ps n (and_r _ _ (and_r _ _ h)) (fit_right W (scans p) (scans_all ps) d))
