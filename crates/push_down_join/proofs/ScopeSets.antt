-- Laws of the sets of a join's fields.
--     partner_records  the partner by the records of a join is that by its keys
--     place_left       a name has a place in front exactly if the left schema has it
--     masks_mapped     the set of the fields whose image passes a test
--     other_side       a name of one side is not of the other
-- Assumes nothing.
use mathlib.Core.Path.{◌≡◌, refl, sym, ap, ap₂, ◌∙◌}
use mathlib.Core.Bool.{Bool, true, false, not, ◌||◌, cond}
use mathlib.Core.List.{List, [], ◌∷◌, ◌++◌, map}
use mathlib.Core.Option as O
use mathlib.Core.Option.{Option, some}
use Prim.Native.Nat.{ℕ, zero, suc, ◌<◌}
use native.Mathlib.Omega.{arith}
use lib.Dec.{ltb}
use lib.ListN.{length, length-map}
use borrow.Author.Tests.{ltb-true, ltb-false, lt-ltb, le-ltb}
use Rattle.plan.specs.Lists.{any}
use Rattle.plan.specs.Schema.{has, same, nodup}
use Rattle.plan.specs.Syntax.{Name, nm, Expr, col, num, bool, nul, bin, neg, test, between, inlist, fn, Pair, Kind, Plan, scan, filter, project, join}
use Rattle.plan.specs.Syntax.{alias}
use Rattle.plan.specs.Syntax.{union, distinct, sort, repartition, limit, aggregate, window}
use Rattle.plan.specs.Trees.{label_e, kids_e, label_p, kids_p, each, pair_label, pair_kids, filter_kids}
use Rattle.plan.proofs.Names.{apart}
use Rattle.rewrite.specs.SimplifyPredicates.{as_column}
use Rattle.rewrite.specs.PushDownFilter.{pair_of, partner}
use Rattle.utils.specs.Fields.{place_in}
use Rattle.utils.specs.Masks.{name_at, Masks}
use Rattle.push_down_join.specs.Partners.{column_of, or_else, pair_in, key_in, partner_in}

-- ---- the partner by the records of a join

column_is : (e : Expr) → column_of (label_e e) ≡ as_column e
unfolding label_e as_column
column_is (col (nm q n)) = refl
column_is (num z) = refl
column_is (bool b) = refl
column_is (nul t) = refl
column_is (bin o a b) = refl
column_is (neg a) = refl
column_is (test t a) = refl
column_is (between n a l u) = refl
column_is (inlist n a xs) = refl
column_is (fn p q r xs) = refl

module _ (x : Name) where
  no_plan : (p : Plan) → key_in x (label_p p) (kids_p p) ≡ O.none
  unfolding key_in label_p
  no_plan (scan t fs es) = refl
  no_plan (filter e p) = refl
  no_plan (project es p) = refl
  no_plan (join k l r on f) = refl
  no_plan (alias q p) = refl
  no_plan (union ps) = refl
  no_plan (distinct p) = refl
  no_plan (sort f ks p) = refl
  no_plan (repartition p) = refl
  no_plan (limit n k p) = refl
  no_plan (aggregate gs ags p) = refl
  no_plan (window ws p) = refl

  no_expr : (e : Expr) → key_in x (label_e e) (kids_e e) ≡ O.none
  unfolding key_in label_e
  no_expr (col (nm q n)) = refl
  no_expr (num z) = refl
  no_expr (bool b) = refl
  no_expr (nul t) = refl
  no_expr (bin o a b) = refl
  no_expr (neg a) = refl
  no_expr (test t a) = refl
  no_expr (between n a l u) = refl
  no_expr (inlist n a xs) = refl
  no_expr (fn p q r xs) = refl

  -- the first pair that holds it
  pair_else : (a b rest : Option Name) → or_else (pair_of x a b O.none) rest ≡ pair_of x a b rest
  unfolding pair_of
  pair_else O.none b rest = refl
  pair_else (some y) O.none rest = refl
  pair_else (some y) (some z) rest = go (same y x) (same z x)
    where
      go : (s t : Bool) → or_else (cond s (some z) (cond t (some y) O.none)) rest ≡ cond s (some z) (cond t (some y) rest)
      go true t = refl
      go false true = refl
      go false false = refl

  key_pair : (k : Pair) → key_in x (pair_label k) (pair_kids k) ≡ pair_of x (as_column k.lhs) (as_column k.rhs) O.none
  unfolding key_in pair_in
  key_pair k = rw (column_is k.lhs, column_is k.rhs)

  in_filter : (f : Option Expr) → partner_in x (filter_kids f) ≡ O.none
  unfolding partner_in
  in_filter O.none = refl
  in_filter (some e) = rw (no_expr e)

  in_keys : (on : List Pair) (f : Option Expr) → partner_in x (each pair_label pair_kids on (filter_kids f)) ≡ partner on x
  unfolding each partner_in partner
  in_keys [] f = in_filter f
  in_keys (k ∷ on) f =
      ap₂ or_else (key_pair k) (in_keys on f) ∙ pair_else (as_column k.lhs) (as_column k.rhs) (partner on x)

  pub partner_records : (k : Kind) (l r : Plan) (on : List Pair) (f : Option Expr) → partner_in x (kids_p (join k l r on f)) ≡ partner on x
  unfolding partner_in kids_p
  partner_records k l r on f = rw (no_plan l, no_plan r) (in_keys on f)

-- ---- places and sides

suc_ltb : (p n : ℕ) → ltb (suc p) (suc n) ≡ ltb p n
suc_ltb p n = go (ltb p n) refl
  where
    go : (b : Bool) → ltb p n ≡ b → ltb (suc p) (suc n) ≡ b
    go true e = lt-ltb (suc p) (suc n) (omega (arith, ltb-true p n e))
    go false e = le-ltb (suc p) (suc n) (omega (arith, ltb-false p n e))

pub place_left : (l r : List Name) (y : Name) → ltb (place_in (l ++ r) y) (length l) ≡ has l y
unfolding place_in any
place_left [] r y = le-ltb (place_in r y) 0 (omega arith)
place_left (z ∷ l) r y = go (same z y) (place_left l r y)
  where
    go : (b : Bool) → ltb (place_in (l ++ r) y) (length l) ≡ has l y → ltb (cond b 0 (suc (place_in (l ++ r) y))) (suc (length l)) ≡ (b || has l y)
    go true h = lt-ltb 0 (suc (length l)) (omega arith)
    go false h = suc_ltb (place_in (l ++ r) y) (length l) ∙ h

name_mapped : (f : Name → Name) (ns : List Name) (i : ℕ) → i < length ns → name_at (map f ns) i ≡ f (name_at ns i)
name_mapped f [] i lt = absurd (omega arith)
name_mapped f (x ∷ ns) zero lt = refl
name_mapped f (x ∷ ns) (suc i) lt = name_mapped f ns i (omega arith)

pub map_same : {f g : Name → Name} → ((x : Name) → f x ≡ g x) → (ns : List Name) → map f ns ≡ map g ns
map_same h [] = refl
map_same h (x ∷ ns) = ap₂ ◌∷◌ (h x) (map_same h ns)

pub masks_mapped : {m : ℕ} (ns : List Name) (f : Name → Name) (c : Name → Bool) → Masks m (map f ns) c → Masks m ns (λ x. c (f x))
masks_mapped ns f c h =
    let n = length-map ns f in
    record {
      small = h.small;
      marks = λ i lt. h.marks i (omega arith) ∙ ap c (name_mapped f ns i lt);
      beyond = λ i le. h.beyond i (omega arith);
    }

-- a name of both together is of one of them
either_side : (l r : List Name) (y : Name) → has (l ++ r) y ≡ true → (has l y || has r y) ≡ true
unfolding any
either_side [] r y h = h
either_side (z ∷ l) r y h = go (same z y) h (either_side l r y)
  where
    go : (b : Bool) → (b || has (l ++ r) y) ≡ true → (has (l ++ r) y ≡ true → (has l y || has r y) ≡ true) → ((b || has l y) || has r y) ≡ true
    go true h f = refl
    go false h f = f h

-- it is of the right one exactly if it is not of the left one
pub other_side : (l r : List Name) → nodup (l ++ r) ≡ true → (y : Name) → has (l ++ r) y ≡ true → not (has l y) ≡ has r y
other_side l r n y h = go (has l y) (has r y) refl refl (either_side l r y h)
  where
    go : (a b : Bool) → has l y ≡ a → has r y ≡ b → (a || b) ≡ true → not a ≡ b
    go true true ea eb h = sym (apart l r n y eb) ∙ ea
    go true false ea eb h = refl
    go false true ea eb h = refl
    go false false ea eb h = sym h
