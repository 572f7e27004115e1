-- What a scan takes of a predicate's conjuncts and what it leaves: how many, and what the answer is.
--     fields_count, fields_most   the fields of the scan, counted
--     lasting_over, ..            the lists read the scan's schema, and none is too long
--     scan_kept, scan_pushed      what the definition answers where nothing is taken, and where something is
--     pushed_fits, pushed_over    the lists of that answer
-- Assumes nothing.
use mathlib.Core.Path.{◌≡◌, refl, sym, ap, ◌∙◌}
use mathlib.Core.Bool.{Bool, true, false, not}
use mathlib.Core.List.{List, [], ◌∷◌, ◌++◌}
use Prim.Native.Nat.{ℕ, suc, ◌+◌, ◌≤◌, ◌<◌}
use native.Mathlib.Omega.{arith}
use native.Mathlib.Nat.{le_trans, le_of_eq, max-le, le-max_right}
use lib.ListN.{length, length-append}
use Rattle.image.specs.Limits.{max_list, no_room, max_fields}
use Rattle.plan.specs.Columns.{on_cols}
use Rattle.plan.specs.Lists.{put, keep, choose, All}
use Rattle.plan.specs.Schema.{has, schema}
use Rattle.plan.specs.Syntax.{Expr, Field, Plan, scan, filter}
use Rattle.plan.proofs.Lists.{All-append, All-keep}
use Rattle.rewrite.specs.Utils.{split_conjunction, conjoin, with_filters, unique, is_volatile_expr, is_empty}
use Rattle.rewrite.specs.Limits.{list_p}
use Rattle.rewrite.specs.PushDownFilter.{Transformed, transformed_no, transformed_yes, supports_pushdown, supported_filters, unsupported_filters}
use Rattle.rewrite.specs.PushDownFilter.{volatile_filters, non_volatile_filters, rewrite_scan, rewrite_filter}
use Rattle.rewrite.proofs.Project.{split_cols}
use Rattle.conjuncts.specs.Items.{Conjuncts, Lists}
use Rattle.conjuncts.proofs.Listed.{known_of}
use Rattle.utils.specs.Fields.{Fields, Names}
use Rattle.utils.proofs.Named.{names_count, names_fit}
use Rattle.push_down_base.specs.Predicates.{Predicate}
use Rattle.push_down_base.specs.Arms.{Rests, Placed, Written, Answers}
use Rattle.push_down_arms.specs.Scans.{SomeScan}
use Rattle.push_down_base.proofs.Answering.{few}
use Rattle.push_down_base.specs.Plain.{Plain}
use Rattle.push_down_base.proofs.Plain.{split_plain, split_joined}
use Rattle.push_down_base.proofs.Scoping.{keep_length}
use Rattle.push_down_arms.proofs.Supported.{scan_few, scan_width}

keep_both : {A : Type 0} (f : A → Bool) (xs : List A) → length (keep f xs) + length (keep (λ x. not (f x)) xs) ≡ length xs
unfolding keep put
keep_both f [] = refl
keep_both f (x ∷ xs) = go (f x) (keep_both f xs)
  where
    go : (b : Bool) → length (keep f xs) + length (keep (λ x. not (f x)) xs) ≡ length xs
        → length (put b x (keep f xs)) + length (put (not b) x (keep (λ x. not (f x)) xs)) ≡ suc (length xs)
    go true h = omega arith
    go false h = omega arith

module _ {s : List ℕ} {x t : ℕ} {fs : List Field} {es : List Expr} {f : Fields} (h : Placed s x (scan t fs es))
    (n : Names f (schema (scan t fs es))) where
  pub fields_most : f.len ≤ max_fields
  fields_most = names_fit n (omega (arith, scan_few h, scan_width h))

  pub fields_count : f.len ≡ length fs
  fields_count = sym (names_count n fields_most) ∙ scan_width h

-- a list of more than `max_list` is not whole
pub too_many : {s : List ℕ} {c : Conjuncts} {es : List Expr} → Lists s c es → max_list < c.len → length es ≤ max_list → ⊥
too_many l many small = omega (arith, (known_of l small).most)

-- the answer where something is taken
abbrev pub pushed_down : Expr → ℕ → List Field → List Expr → Transformed
pushed_down e t fs es =
    transformed_yes (with_filters (unsupported_filters fs e ++ volatile_filters e) (scan t fs (unique (es ++ supported_filters fs e))))

empty_none : (xs : List Expr) → length xs ≡ 0 → is_empty xs ≡ true
empty_none [] h = refl
empty_none (x ∷ xs) h = absurd (omega arith)

empty_some : (xs : List Expr) → (length xs ≡ 0 → ⊥) → is_empty xs ≡ false
empty_some [] h = absurd (h refl)
empty_some (x ∷ xs) h = refl

module _ {s : List ℕ} {x : ℕ} {p : Predicate} {e : Expr} {t : ℕ} {fs : List Field} {es : List Expr} (h : Rests s x p e (scan t fs es)) where
  pub some_scan : {k : ℕ} → k ≡ length fs → SomeScan s x k
  some_scan i = record { table = t; fields = fs; filters = es; placed = h.placed; count = i }

  pub lasting_over : All (λ a. on_cols (has (schema (scan t fs es))) a ≡ true) (non_volatile_filters e)
  lasting_over = All-keep (λ a. not (is_volatile_expr a)) (split_cols (has (schema (scan t fs es))) e h.scope)

  pub lasting_few : length (non_volatile_filters e) ≤ max_list
  lasting_few = omega (arith, few h.shaped, keep_length (λ a. not (is_volatile_expr a)) (split_conjunction e))

  pub volatile_few : length (volatile_filters e) ≤ max_list
  volatile_few = omega (arith, few h.shaped, keep_length (λ a. is_volatile_expr a) (split_conjunction e))

  pub taken_few : length (supported_filters fs e) ≤ max_list
  taken_few = omega (arith, lasting_few, keep_length (λ a. supports_pushdown fs a) (non_volatile_filters e))

  pub left_few : length (unsupported_filters fs e ++ volatile_filters e) ≤ max_list
  left_few = omega (
    arith,
    few h.shaped,
    keep_both (λ a. is_volatile_expr a) (split_conjunction e),
    keep_length (λ a. not (supports_pushdown fs a)) (non_volatile_filters e),
    length-append (unsupported_filters fs e) (volatile_filters e),
  )

  pub own_few : length es ≤ max_list
  unfolding list_p
  own_few = h.placed.lists

  pub left_plain : Plain (unsupported_filters fs e ++ volatile_filters e)
  left_plain =
      All-append (All-keep (λ a. not (supports_pushdown fs a)) (All-keep (λ a. not (is_volatile_expr a)) (split_plain e)))
      (All-keep (λ a. is_volatile_expr a) (split_plain e))

  -- nothing is taken
  pub scan_kept : length (supported_filters fs e) ≡ 0 → rewrite_filter e (scan t fs es) ≡ transformed_no (filter e (scan t fs es))
  unfolding rewrite_filter rewrite_scan choose
  scan_kept z = ap (λ b. choose b (transformed_no (filter e (scan t fs es))) (pushed_down e t fs es)) (empty_none (supported_filters fs e) z)

  -- something is
  pub scan_pushed : (length (supported_filters fs e) ≡ 0 → ⊥) → rewrite_filter e (scan t fs es) ≡ pushed_down e t fs es
  unfolding rewrite_filter rewrite_scan choose
  scan_pushed nz = ap (λ b. choose b (transformed_no (filter e (scan t fs es))) (pushed_down e t fs es)) (empty_some (supported_filters fs e) nz)

-- ---- the lists of the answer

abbrev over_scan : ℕ → List Field → List Expr → List Expr → Plan
over_scan t fs xs ys = with_filters xs (scan t fs ys)

pub pushed_fits : (t : ℕ) (fs : List Field) {xs : List Expr} (ys : List Expr) → Plain xs → length xs ≤ max_list → length ys ≤ max_list
    → list_p (over_scan t fs xs ys) ≤ max_list
unfolding with_filters list_p
pushed_fits t fs {xs} ys = go xs
  where
    go : (xs : List Expr) → Plain xs → length xs ≤ max_list → length ys ≤ max_list → list_p (over_scan t fs xs ys) ≤ max_list
    go [] h k l = l
    go (x ∷ xs) h k l = max-le (le_trans (le_of_eq (ap length (split_joined x h))) k) l

scan_lists : (t : ℕ) (fs : List Field) (xs ys : List Expr) → length ys ≤ list_p (over_scan t fs xs ys)
unfolding with_filters list_p
scan_lists t fs [] ys = omega arith
scan_lists t fs (x ∷ xs) ys = le-max_right (length (split_conjunction (conjoin x xs))) (length ys)

-- too many filters: nothing is written
pub pushed_over : {s out : List ℕ} {at level : ℕ} {r : Written} {c : Conjuncts} (t : ℕ) (fs : List Field) (xs ys : List Expr) → r.next ≡ no_room
    → r.flag ≡ true → Lists s c ys → max_list < c.len → Answers out out at level r (transformed_yes (over_scan t fs xs ys))
pushed_over t fs xs ys n f l many = record {
  flag = f;
  fits = λ small. absurd (too_many l many (le_trans (scan_lists t fs xs ys) small));
  over = λ big. (n, refl);
}
