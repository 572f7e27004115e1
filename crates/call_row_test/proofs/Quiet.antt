-- Records that are no plan's: those of expressions and of parts.
--     NoPlan          no record of a forest is a plan's
--     no_plan_e, no_plan_each, ..     the forests of which that holds
--     region, region_each     so no record where such a forest stands, or where a run of parts does
--     past_each       what stands after a run of parts
-- Assumes nothing.
use mathlib.Core.Path.{◌≡◌, refl, sym, subst}
use mathlib.Core.Bool.{Bool, true, false}
use mathlib.Core.List.{List, [], ◌∷◌}
use mathlib.Core.Option as O
use mathlib.Core.Option.{Option, some}
use Prim.Native.Nat.{ℕ, zero, suc, ◌+◌, ◌-◌, ◌*◌, ◌≤◌, ◌<◌}
use native.Mathlib.Omega.{arith}
use lib.Dec.{ltb}
use lib.ListN.{drop}
use lib.Seq.{drop-drop}
use borrow.Author.Tests.{ltb-true, ltb-false}
use Rattle.image.specs.Tree.{Label, Forest, none, node, size, label_at, Stands}
use Rattle.plan.specs.Kinds.{plan_w, what, what_of, among}
use Rattle.plan.specs.Measure.{sizes}
use Rattle.plan.specs.Syntax.{Expr, col, num, bool, nul, bin, neg, test, between, inlist, fn, Exprs, enil, econs, Field, Entry, Pair, Key}
use Rattle.plan.specs.Syntax.{AggEntry, WinEntry}
use Rattle.plan.specs.Trees.{label_e, kids_e, forest_e, in_front, each, nothing_below, column_label, field_label, entry_label, entry_kids, pair_label}
use Rattle.plan.specs.Trees.{pair_kids, key_label, key_kids, agg_label, agg_kids, win_label, win_kids, filter_kids}
use Rattle.plan.proofs.Written.{expr_what}

-- the label is no plan's
abbrev pub Other : Label → Type 0
Other l = plan_w (what l) ≡ false

abbrev pub NoPlan : Forest → Type 0
NoPlan none = Unit {0}
NoPlan (node l cs ns) = Other l × NoPlan cs × NoPlan ns

-- ---- forests without plans

pub other_e : (e : Expr) → Other (label_e e)
other_e e = rw (expr_what e).1

mutual
  unfolding kids_e forest_e

  pub no_plan_e : (e : Expr) → NoPlan (kids_e e)
  no_plan_e (col x) = tt
  no_plan_e (num z) = tt
  no_plan_e (bool b) = tt
  no_plan_e (nul t) = tt
  no_plan_e (bin o a b) = (other_e a, no_plan_e a, (other_e b, no_plan_e b, tt))
  no_plan_e (neg a) = (other_e a, no_plan_e a, tt)
  no_plan_e (test t a) = (other_e a, no_plan_e a, tt)
  no_plan_e (between n a l h) = (other_e a, no_plan_e a, (other_e l, no_plan_e l, (other_e h, no_plan_e h, tt)))
  no_plan_e (inlist n a xs) = (other_e a, no_plan_e a, no_plan_es xs)
  no_plan_e (fn p q r xs) = no_plan_es xs

  no_plan_es : (xs : Exprs) → NoPlan (forest_e xs)
  no_plan_es enil = tt
  no_plan_es (econs x xs) = (other_e x, no_plan_e x, no_plan_es xs)

pub no_plan_before : (e : Expr) (ns : Forest) → NoPlan ns → NoPlan (in_front e ns)
no_plan_before e ns h = (other_e e, no_plan_e e, h)

-- each part of a run, with what is below it
module _ {A : Type 0} (l : A → Label) (k : A → Forest) (is : (x : A) → Other (l x)) (no : (x : A) → NoPlan (k x)) where
  pub no_plan_each : (xs : List A) (ns : Forest) → NoPlan ns → NoPlan (each l k xs ns)
  unfolding each
  no_plan_each [] ns h = h
  no_plan_each (x ∷ xs) ns h = (is x, no x, no_plan_each xs ns h)

-- ---- where they stand

-- records counted from a later one
pub far : (s : List ℕ) (i m : ℕ) → m ≤ i → drop (32 * (i - m)) (drop (32 * m) s) ≡ drop (32 * i) s
far s i m h = let e : 32 * m + 32 * (i - m) ≡ 32 * i = omega arith in rw (drop-drop, e)

abbrev pub OtherAt : List ℕ → ℕ → Type 0
OtherAt s i = Other (label_at (drop (32 * i) s))

pub later_at : (s : List ℕ) (m i : ℕ) → m ≤ i → OtherAt (drop (32 * m) s) (i - m) → OtherAt s i
later_at s m i h k = subst (λ t. Other (label_at t)) (far s i m h) k

first_at : (s : List ℕ) (i : ℕ) → i ≡ 0 → Other (label_at s) → OtherAt s i
first_at s i e h = rw e h

by_place : (P : Type 0) (i m : ℕ) → (i ≡ 0 → P) → (0 < i → i - 1 < m → P) → (suc m ≤ i → P) → P
by_place P zero m a b c = a refl
by_place P (suc i) m a b c = go (ltb i m) refl
  where
    go : (t : Bool) → ltb i m ≡ t → P
    go true e = b (omega arith) (omega (arith, ltb-true i m e))
    go false e = c (omega (arith, ltb-false i m e))

pub region : (f : Forest) (s : List ℕ) (b : ℕ) → NoPlan f → Stands f s b → (i : ℕ) → i < size f → OtherAt s i
region none s b h w i l = absurd (omega arith)
region (node k cs ns) s b h w i l =
    by_place (OtherAt s i) i (size cs)
    (λ e. first_at s i e (subst Other (sym w.head.label) h.0))
    (λ p q. later_at s 1 i p (region cs (drop 32 s) (b + 1) h.1 w.below (i - 1) q))
    (λ p. later_at s (suc (size cs)) i p (region ns (drop (32 * suc (size cs)) s) (b + 1 + size cs) h.2 w.after (i - suc (size cs)) (omega arith)))

module _ {A : Type 0} (l : A → Label) (k : A → Forest) where
  pub past_each : (xs : List A) (ns : Forest) (s : List ℕ) (b : ℕ) → Stands (each l k xs ns) s b
      → Stands ns (drop (32 * sizes k xs) s) (b + sizes k xs)
  unfolding each sizes
  past_each [] ns s b w = let e : b + 0 ≡ b = omega arith in rw e w
  past_each (x ∷ xs) ns s b w =
      let e : 32 * suc (size (k x)) + 32 * sizes k xs ≡ 32 * (suc (size (k x)) + sizes k xs) = omega arith in
      let f : b + 1 + size (k x) + sizes k xs ≡ b + (suc (size (k x)) + sizes k xs) = omega arith in
      rw (drop-drop, e, f) at (past_each xs ns (drop (32 * suc (size (k x))) s) (b + 1 + size (k x)) w.after)

  module _ (is : (x : A) → Other (l x)) (no : (x : A) → NoPlan (k x)) where
    pub region_each : (xs : List A) (ns : Forest) (s : List ℕ) (b : ℕ) → Stands (each l k xs ns) s b → (i : ℕ) → i < sizes k xs → OtherAt s i
    unfolding each sizes
    region_each [] ns s b w i h = absurd (omega arith)
    region_each (x ∷ xs) ns s b w i h =
        by_place (OtherAt s i) i (size (k x))
        (λ e. first_at s i e (subst Other (sym w.head.label) (is x)))
        (λ p q. later_at s 1 i p (region (k x) (drop 32 s) (b + 1) (no x) w.below (i - 1) q))
        (λ p. later_at s (suc (size (k x))) i p (region_each xs ns (drop (32 * suc (size (k x))) s) (b + 1 + size (k x)) w.after
        (i - suc (size (k x))) (omega arith)))

-- ---- the parts

pub other_field : (f : Field) → Other (field_label f)
unfolding what_of among
other_field f = refl

pub other_entry : (e : Entry) → Other (entry_label e)
unfolding what_of among
other_entry e = refl

other_pair : (k : Pair) → Other (pair_label k)
unfolding what_of among
other_pair k = refl

pub other_key : (k : Key) → Other (key_label k)
unfolding what_of among
other_key k = refl

pub other_agg : (a : AggEntry) → Other (agg_label a)
unfolding what_of among
other_agg a = refl

pub other_win : (w : WinEntry) → Other (win_label w)
unfolding what_of among
other_win w = refl

pub below_entry : (e : Entry) → NoPlan (entry_kids e)
below_entry e = no_plan_before e.expr none tt

pub below_key : (k : Key) → NoPlan (key_kids k)
below_key k = no_plan_before k.expr none tt

pub below_agg : (a : AggEntry) → NoPlan (agg_kids a)
below_agg a = no_plan_before a.expr none tt

pub below_win : (w : WinEntry) → NoPlan (win_kids w)
unfolding what_of among
below_win w = no_plan_before w.expr (each column_label nothing_below w.parts none)
    (no_plan_each column_label nothing_below (λ x. refl) (λ x. tt) w.parts none tt)

no_plan_filter : (f : Option Expr) → NoPlan (filter_kids f)
no_plan_filter O.none = tt
no_plan_filter (some e) = no_plan_before e none tt

-- what a join has after its inputs
pub no_plan_join : (on : List Pair) (f : Option Expr) → NoPlan (each pair_label pair_kids on (filter_kids f))
no_plan_join on f =
    no_plan_each pair_label pair_kids other_pair (λ k. no_plan_before k.lhs (in_front k.rhs none) (no_plan_before k.rhs none tt)) on
    (filter_kids f) (no_plan_filter f)

-- what a scan has
pub no_plan_scan : (fs : List Field) (es : List Expr) → NoPlan (each field_label nothing_below fs (each label_e kids_e es none))
no_plan_scan fs es = no_plan_each field_label nothing_below other_field (λ f. tt) fs (each label_e kids_e es none)
    (no_plan_each label_e kids_e other_e no_plan_e es none tt)
