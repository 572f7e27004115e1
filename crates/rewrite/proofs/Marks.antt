-- Where plans stand among the records of a plan: at those of a plan's kind, 32 to 43. A rewrite finds a plan at a record exactly if its kind is one
-- of these, and the pass by records goes from one of them to the next. So both can be read off the image.
use Prim.Native.Nat.{ℕ, zero, suc, ◌+◌, ◌-◌}
use native.Mathlib.Omega.{arith}
use native.Mathlib.Nat.{suc-sub-suc, sub-zero}
use mathlib.Core.Path.{◌≡◌, refl, sym, ap, ap₂, ◌∙◌}
use mathlib.Core.Bool.{Bool, true, false}
use mathlib.Core.List.{List, [], ◌∷◌, ◌++◌, map, append_assoc, append-nil}
use mathlib.Core.Option as O
use mathlib.Core.Option.{Option, some}
use lib.ListN.{length, get_or, length-append}
use lib.Dec.{eqb, leb, leb-zero, leb-suc-zero, leb-suc-suc, eqb-suc-zero}
use Rattle.image.specs.Tree.{Label, Forest, none, node, size}
use Rattle.plan.specs.Lists.{choose, ◌&◌}
use Rattle.plan.specs.Syntax.{Name, Expr, col, num, bool, nul, bin, neg, test, between, inlist, fn, Exprs, enil, econs, Field, Entry, Pair}
use Rattle.plan.specs.Syntax.{Key, AggEntry, WinEntry, Kind, Plans, pnil, pcons, Plan, scan, filter, project, join, alias, union, distinct}
use Rattle.plan.specs.Syntax.{sort, repartition, limit, aggregate, window}
use Rattle.plan.specs.Kinds.{is_plan, what_of, among}
use Rattle.plan.specs.Trees.{column_label, label_e, kids_e, forest_e, in_front, each, nothing_below, field_label, entry_label, entry_kids, pair_label}
use Rattle.plan.specs.Trees.{pair_kids, key_label, key_kids, agg_label, agg_kids, win_label, win_kids, filter_kids, label_p, kids_p, forest_p}
use Rattle.plan.specs.Measure.{size_e, size_p, sizes}
use Rattle.plan.proofs.KindRanges.{plan_number, plan_range}
use Rattle.rewrite.specs.RewriteAt.{Focus, FocusAll, here, focus_in, inside_all, first_of, later_of, focus, focus_all}
use Rattle.rewrite.specs.PassByRecords.{plan_records, plan_records_all}

-- which records hold plans, in reading order
unfoldable pub marks : Forest → List Bool
marks none = []
marks (node l cs ns) = is_plan l ∷ (marks cs ++ marks ns)

-- the marks of `plan_tree p`
unfoldable pub plan_marks : Plan → List Bool
plan_marks p = is_plan (label_p p) ∷ marks (kids_p p)

marks_size : (f : Forest) → length (marks f) ≡ size f
unfolding marks
marks_size none = refl
marks_size (node l cs ns) = ap suc (length-append (marks cs) (marks ns) ∙ ap₂ ◌+◌ (marks_size cs) (marks_size ns))

pub marks_length : (p : Plan) → length (plan_marks p) ≡ size_p p
unfolding plan_marks size_p
marks_length p = ap suc (marks_size (kids_p p))

-- ---- the marks, kind by kind

pub expr_mark : (e : Expr) → is_plan (label_e e) ≡ false
unfolding label_e what_of among
expr_mark (col x) = refl
expr_mark (num z) = refl
expr_mark (bool b) = refl
expr_mark (nul t) = refl
expr_mark (bin o a b) = refl
expr_mark (neg a) = refl
expr_mark (test t a) = refl
expr_mark (between n a l u) = refl
expr_mark (inlist n a xs) = refl
expr_mark (fn p q r xs) = refl

pub plan_mark : (p : Plan) → is_plan (label_p p) ≡ true
unfolding label_p what_of among
plan_mark (scan t fs es) = refl
plan_mark (filter e p) = refl
plan_mark (project es p) = refl
plan_mark (join k l r on f) = refl
plan_mark (alias q p) = refl
plan_mark (union ps) = refl
plan_mark (distinct p) = refl
plan_mark (sort f ks p) = refl
plan_mark (repartition p) = refl
plan_mark (limit n k p) = refl
plan_mark (aggregate gs ags p) = refl
plan_mark (window ws p) = refl

unfoldable pub falses : ℕ → List Bool
falses zero = []
falses (suc n) = false ∷ falses n

falses_add : (m n : ℕ) → falses (m + n) ≡ falses m ++ falses n
unfolding falses
falses_add zero n = let e : zero + n ≡ n = omega arith in ap falses e
falses_add (suc m) n = let e : suc m + n ≡ suc (m + n) = omega arith in ap falses e ∙ ap (false ∷◌) (falses_add m n)

falses_length : (n : ℕ) → length (falses n) ≡ n
unfolding falses
falses_length zero = refl
falses_length (suc n) = ap suc (falses_length n)

-- a tree without plans in front of other trees
plain : (l : Label) (cs ns : Forest) → is_plan l ≡ false → marks cs ≡ falses (size cs) → marks (node l cs ns) ≡ falses (suc (size cs)) ++ marks ns
unfolding marks falses
plain l cs ns h k = rw (h, k)

plain_all : (l : Label) (cs ns : Forest) → is_plan l ≡ false → marks cs ≡ falses (size cs) → marks ns ≡ falses (size ns)
    → marks (node l cs ns) ≡ falses (size (node l cs ns))
plain_all l cs ns h k j =
    let e : suc (size cs) + size ns ≡ suc (size cs + size ns) = omega arith in
    plain l cs ns h k ∙ ap (falses (suc (size cs)) ++◌) j ∙ sym (falses_add (suc (size cs)) (size ns)) ∙ ap falses e

plain_before : (e : Expr) (ns : Forest) → marks (kids_e e) ≡ falses (size (kids_e e)) → marks ns ≡ falses (size ns)
    → marks (in_front e ns) ≡ falses (size (in_front e ns))
plain_before e ns h k = plain_all (label_e e) (kids_e e) ns (expr_mark e) h k

mutual
  unfolding kids_e marks falses

  plain_e : (e : Expr) → marks (kids_e e) ≡ falses (size (kids_e e))
  plain_e (col x) = refl
  plain_e (num z) = refl
  plain_e (bool b) = refl
  plain_e (nul t) = refl
  plain_e (bin o a b) = plain_before a (in_front b none) (plain_e a) (plain_before b none (plain_e b) refl)
  plain_e (neg a) = plain_before a none (plain_e a) refl
  plain_e (test t a) = plain_before a none (plain_e a) refl
  plain_e (between n a l u) =
      plain_before a (in_front l (in_front u none)) (plain_e a) (plain_before l (in_front u none) (plain_e l) (plain_before u none (plain_e u) refl))
  plain_e (inlist n a xs) = plain_before a (forest_e xs) (plain_e a) (plain_es xs)
  plain_e (fn p q r xs) = plain_es xs

  plain_es : (xs : Exprs) → marks (forest_e xs) ≡ falses (size (forest_e xs))
  plain_es enil = refl
  plain_es (econs x xs) = plain_before x (forest_e xs) (plain_e x) (plain_es xs)

plain_expr : (e : Expr) (ns : Forest) → marks ns ≡ falses (size ns) → marks (in_front e ns) ≡ falses (size (in_front e ns))
plain_expr e ns h = plain_before e ns (plain_e e) h

module _ {A : Type 0} (l : A → Label) (k : A → Forest) (h : (x : A) → is_plan (l x) ≡ false) (j : (x : A) → marks (k x) ≡ falses (size (k x))) where
  plain_each : (xs : List A) (ns : Forest) → marks (each l k xs ns) ≡ falses (sizes k xs) ++ marks ns
  unfolding each sizes falses
  plain_each [] ns = refl
  plain_each (x ∷ xs) ns =
      plain (l x) (k x) (each l k xs ns) (h x) (j x)
      ∙ ap (falses (suc (size (k x))) ++◌) (plain_each xs ns)
      ∙ sym (append_assoc (falses (suc (size (k x)))) (falses (sizes k xs)) (marks ns))
      ∙ ap (◌++ marks ns) (sym (falses_add (suc (size (k x))) (sizes k xs)))

-- a plan's own mark, then those of its children
one_plan : (p : Plan) → marks (node (label_p p) (kids_p p) none) ≡ plan_marks p
unfolding marks plan_marks
one_plan p = ap (is_plan (label_p p) ∷◌) (append-nil (marks (kids_p p)))

part_e : {A : Type 0} (f : A → Expr) (x : A) → marks (in_front (f x) none) ≡ falses (size (in_front (f x) none))
unfolding marks falses
part_e f x = plain_expr (f x) none refl

plain_pair : (k : Pair) → marks (pair_kids k) ≡ falses (size (pair_kids k))
unfolding marks falses
plain_pair k = plain_expr k.lhs (in_front k.rhs none) (plain_expr k.rhs none refl)

plain_columns : (xs : List Name) → marks (each column_label nothing_below xs none) ≡ falses (size (each column_label nothing_below xs none))
unfolding each marks falses what_of among
plain_columns [] = refl
plain_columns (x ∷ xs) = plain_all (column_label x) none (each column_label nothing_below xs none) refl refl (plain_columns xs)

plain_win : (w : WinEntry) → marks (win_kids w) ≡ falses (size (win_kids w))
plain_win w = plain_expr w.expr (each column_label nothing_below w.parts none) (plain_columns w.parts)

plain_own : (f : Option Expr) → marks (filter_kids f) ≡ falses (size (filter_kids f))
unfolding marks falses
plain_own O.none = refl
plain_own (some e) = plain_expr e none refl

entries_marks : (es : List Entry) (ns : Forest) → marks (each entry_label entry_kids es ns) ≡ falses (sizes entry_kids es) ++ marks ns
unfolding what_of among
entries_marks es ns = plain_each entry_label entry_kids (λ x. refl) (part_e (λ (e : Entry). e.expr)) es ns

pub marks_scan : (t : ℕ) (fs : List Field) (es : List Expr) → plan_marks (scan t fs es) ≡ true ∷ falses (sizes nothing_below fs + sizes kids_e es)
unfolding plan_marks label_p kids_p what_of among marks falses
marks_scan t fs es =
    ap (true ∷◌) (plain_each field_label nothing_below (λ x. refl) (λ x. refl) fs (each label_e kids_e es none)
    ∙ ap (falses (sizes nothing_below fs) ++◌) (plain_each label_e kids_e expr_mark plain_e es none ∙ append-nil (falses (sizes kids_e es)))
    ∙ sym (falses_add (sizes nothing_below fs) (sizes kids_e es)))

pub marks_filter : (e : Expr) (p : Plan) → plan_marks (filter e p) ≡ true ∷ (falses (size_e e) ++ plan_marks p)
unfolding plan_marks label_p kids_p what_of among size_e
marks_filter e p =
    ap (true ∷◌) (plain (label_e e) (kids_e e) (node (label_p p) (kids_p p) none) (expr_mark e) (plain_e e)
    ∙ ap (falses (suc (size (kids_e e))) ++◌) (one_plan p))

pub marks_project : (es : List Entry) (p : Plan) → plan_marks (project es p) ≡ true ∷ (falses (sizes entry_kids es) ++ plan_marks p)
unfolding plan_marks label_p kids_p what_of among
marks_project es p = ap (true ∷◌) (entries_marks es _ ∙ ap (falses (sizes entry_kids es) ++◌) (one_plan p))

pub marks_join : (k : Kind) (l r : Plan) (on : List Pair) (f : Option Expr)
    → plan_marks (join k l r on f) ≡ true ∷ (plan_marks l ++ (plan_marks r ++ falses (sizes pair_kids on + size (filter_kids f))))
unfolding plan_marks label_p kids_p what_of among marks
marks_join k l r on f =
    ap (λ bs. true ∷ (plan_marks l ++ (plan_marks r ++ bs)))
    (plain_each pair_label pair_kids (λ x. refl) plain_pair on (filter_kids f)
    ∙ ap (falses (sizes pair_kids on) ++◌) (plain_own f)
    ∙ sym (falses_add (sizes pair_kids on) (size (filter_kids f))))

pub marks_alias : (q : ℕ) (p : Plan) → plan_marks (alias q p) ≡ true ∷ plan_marks p
unfolding plan_marks label_p kids_p what_of among
marks_alias q p = ap (true ∷◌) (one_plan p)

pub marks_union : (ps : Plans) → plan_marks (union ps) ≡ true ∷ marks (forest_p ps)
unfolding plan_marks label_p kids_p what_of among
marks_union ps = refl

pub marks_distinct : (p : Plan) → plan_marks (distinct p) ≡ true ∷ plan_marks p
unfolding plan_marks label_p kids_p what_of among
marks_distinct p = ap (true ∷◌) (one_plan p)

pub marks_sort : (f : Option ℕ) (ks : List Key) (p : Plan) → plan_marks (sort f ks p) ≡ true ∷ (falses (sizes key_kids ks) ++ plan_marks p)
unfolding plan_marks label_p kids_p what_of among
marks_sort f ks p =
    ap (true ∷◌) (plain_each key_label key_kids (λ x. refl) (part_e (λ (k : Key). k.expr)) ks _ ∙ ap (falses (sizes key_kids ks) ++◌) (one_plan p))

pub marks_repartition : (p : Plan) → plan_marks (repartition p) ≡ true ∷ plan_marks p
unfolding plan_marks label_p kids_p what_of among
marks_repartition p = ap (true ∷◌) (one_plan p)

pub marks_limit : (n k : ℕ) (p : Plan) → plan_marks (limit n k p) ≡ true ∷ plan_marks p
unfolding plan_marks label_p kids_p what_of among
marks_limit n k p = ap (true ∷◌) (one_plan p)

pub marks_aggregate : (gs : List Entry) (ags : List AggEntry) (p : Plan)
    → plan_marks (aggregate gs ags p) ≡ true ∷ (falses (sizes entry_kids gs + sizes agg_kids ags) ++ plan_marks p)
unfolding plan_marks label_p kids_p what_of among
marks_aggregate gs ags p =
    ap (true ∷◌) (entries_marks gs _
    ∙ ap (falses (sizes entry_kids gs) ++◌)
    (plain_each agg_label agg_kids (λ x. refl) (part_e (λ (a : AggEntry). a.expr)) ags _ ∙ ap (falses (sizes agg_kids ags) ++◌) (one_plan p))
    ∙ sym (append_assoc (falses (sizes entry_kids gs)) (falses (sizes agg_kids ags)) (plan_marks p))
    ∙ ap (◌++ plan_marks p) (sym (falses_add (sizes entry_kids gs) (sizes agg_kids ags))))

pub marks_window : (ws : List WinEntry) (p : Plan) → plan_marks (window ws p) ≡ true ∷ (falses (sizes win_kids ws) ++ plan_marks p)
unfolding plan_marks label_p kids_p what_of among
marks_window ws p = ap (true ∷◌) (plain_each win_label win_kids (λ x. refl) plain_win ws _ ∙ ap (falses (sizes win_kids ws) ++◌) (one_plan p))

-- ---- the records that the pass goes through

unfoldable pub places : ℕ → List Bool → List ℕ
places i [] = []
places i (true ∷ bs) = i ∷ places (suc i) bs
places i (false ∷ bs) = places (suc i) bs

moved : {i j : ℕ} → i ≡ j → (bs : List Bool) → places i bs ≡ places j bs
moved e bs = ap (λ n. places n bs) e

places_append : (i : ℕ) (xs ys : List Bool) → places i (xs ++ ys) ≡ places i xs ++ places (i + length xs) ys
unfolding places
places_append i [] ys = let e : i ≡ i + 0 = omega arith in moved e ys
places_append i (true ∷ xs) ys =
    let e : suc i + length xs ≡ i + suc (length xs) = omega arith in
    ap (i ∷◌) (places_append (suc i) xs ys ∙ ap (places (suc i) xs ++◌) (moved e ys))
places_append i (false ∷ xs) ys =
    let e : suc i + length xs ≡ i + suc (length xs) = omega arith in
    places_append (suc i) xs ys
    ∙ ap (places (suc i) xs ++◌) (moved e ys)

places_falses : (i n : ℕ) (ys : List Bool) → places i (falses n ++ ys) ≡ places (i + n) ys
unfolding places falses
places_falses i zero ys = let e : i ≡ i + 0 = omega arith in moved e ys
places_falses i (suc n) ys = let e : suc i + n ≡ i + suc n = omega arith in places_falses (suc i) n ys ∙ moved e ys

places_none : (i n : ℕ) → places i (falses n) ≡ []
unfolding places falses
places_none i zero = refl
places_none i (suc n) = places_none (suc i) n

-- one run behind `m` records, right behind, and two runs
behind : (i m : ℕ) (bs : List Bool) (rs : List ℕ) → rs ≡ places (i + suc m) bs → rs ≡ places (suc i) (falses m ++ bs)
behind i m bs rs h = let e : i + suc m ≡ suc i + m = omega arith in h ∙ moved e bs ∙ sym (places_falses (suc i) m bs)

next : (i : ℕ) (bs : List Bool) (rs : List ℕ) → rs ≡ places (i + 1) bs → rs ≡ places (suc i) bs
next i bs rs h = let e : i + 1 ≡ suc i = omega arith in h ∙ moved e bs

two : (i m : ℕ) (xs ys : List Bool) (n : ℕ) → length xs ≡ m → (rs ss : List ℕ) → rs ≡ places (i + 1) xs → ss ≡ places (i + suc m) ys
    → rs ++ ss ≡ places (suc i) (xs ++ (ys ++ falses n))
two i m xs ys n w rs ss h k =
    let e : i + suc m ≡ suc i + length xs = omega arith in
    ap₂ ◌++◌ (next i xs rs h)
    (k ∙ moved e ys ∙ sym (append-nil _)
    ∙ ap (places (suc i + length xs) ys ++◌) (sym (places_none (suc i + length xs + length ys) n))
    ∙ sym (places_append (suc i + length xs) ys (falses n)))
    ∙ sym (places_append (suc i) xs (ys ++ falses n))

mutual
  unfolding plan_records places marks plan_marks kids_p

  pub records_marks : (p : Plan) (i : ℕ) → plan_records i p ≡ places i (plan_marks p)
  records_marks (scan t fs es) i = ap (i ∷◌) (sym (places_none (suc i) _)) ∙ ap (places i) (sym (marks_scan t fs es))
  records_marks (filter e p) i =
      ap (i ∷◌) (behind i (size_e e) (plan_marks p) (plan_records _ p) (records_marks p _))
      ∙ ap (places i) (sym (marks_filter e p))
  records_marks (project es p) i =
      ap (i ∷◌) (behind i (sizes entry_kids es) (plan_marks p) (plan_records _ p) (records_marks p _))
      ∙ ap (places i) (sym (marks_project es p))
  records_marks (join k l r on f) i =
      ap (i ∷◌)
      (two i (size_p l) (plan_marks l) (plan_marks r) (sizes pair_kids on + size (filter_kids f)) (marks_length l)
      (plan_records _ l) (plan_records _ r) (records_marks l _) (records_marks r _))
      ∙ ap (places i) (sym (marks_join k l r on f))
  records_marks (alias q p) i = ap (i ∷◌) (next i (plan_marks p) (plan_records _ p) (records_marks p _)) ∙ ap (places i) (sym (marks_alias q p))
  records_marks (union ps) i =
      ap (i ∷◌) (next i (marks (forest_p ps)) (plan_records_all _ ps) (records_marks_all ps _))
      ∙ ap (places i) (sym (marks_union ps))
  records_marks (distinct p) i = ap (i ∷◌) (next i (plan_marks p) (plan_records _ p) (records_marks p _)) ∙ ap (places i) (sym (marks_distinct p))
  records_marks (sort f ks p) i =
      ap (i ∷◌) (behind i (sizes key_kids ks) (plan_marks p) (plan_records _ p) (records_marks p _))
      ∙ ap (places i) (sym (marks_sort f ks p))
  records_marks (repartition p) i =
      ap (i ∷◌) (next i (plan_marks p) (plan_records _ p) (records_marks p _))
      ∙ ap (places i) (sym (marks_repartition p))
  records_marks (limit n k p) i = ap (i ∷◌) (next i (plan_marks p) (plan_records _ p) (records_marks p _)) ∙ ap (places i) (sym (marks_limit n k p))
  records_marks (aggregate gs ags p) i =
      ap (i ∷◌) (behind i (sizes entry_kids gs + sizes agg_kids ags) (plan_marks p) (plan_records _ p) (records_marks p _))
      ∙ ap (places i) (sym (marks_aggregate gs ags p))
  records_marks (window ws p) i =
      ap (i ∷◌) (behind i (sizes win_kids ws) (plan_marks p) (plan_records _ p) (records_marks p _))
      ∙ ap (places i) (sym (marks_window ws p))

  records_marks_all : (ps : Plans) (i : ℕ) → plan_records_all i ps ≡ places i (marks (forest_p ps))
  records_marks_all pnil i = refl
  records_marks_all (pcons p ps) i =
      ap₂ ◌++◌ (records_marks p i) (records_marks_all ps _ ∙ moved (ap (i +◌) (sym (marks_length p))) (marks (forest_p ps)))
      ∙ sym (places_append i (plan_marks p) (marks (forest_p ps)))

-- ---- the records at which a rewrite finds a plan

abbrev pub is_some : {A : Type 0} → Option A → Bool
is_some O.none = false
is_some (some x) = true

get_d_append : (xs ys : List Bool) (n : ℕ) → get_or (xs ++ ys) n false ≡ choose (leb (length xs) n) (get_or ys (n - length xs) false) (get_or xs n false)
unfolding choose
get_d_append [] ys n = rw (leb-zero n, sub-zero n)
get_d_append (x ∷ xs) ys zero = rw (leb-suc-zero (length xs))
get_d_append (x ∷ xs) ys (suc n) = rw (leb-suc-suc (length xs) n, suc-sub-suc n (length xs)) (get_d_append xs ys n)

get_d_falses : (m n : ℕ) → get_or (falses m) n false ≡ false
unfolding falses
get_d_falses zero n = refl
get_d_falses (suc m) zero = refl
get_d_falses (suc m) (suc n) = get_d_falses m n

get_d_end : (xs : List Bool) (m n : ℕ) → get_or (xs ++ falses m) n false ≡ get_or xs n false
get_d_end [] m n = get_d_falses m n
get_d_end (x ∷ xs) m zero = refl
get_d_end (x ∷ xs) m (suc n) = get_d_end xs m n

-- behind a plan's own record, and behind `m` more
at_next : (xs : List Bool) (n : ℕ) → get_or (true ∷ xs) n false ≡ choose (eqb n 0) true (get_or xs (n - 1) false)
unfolding choose
at_next xs zero = refl
at_next xs (suc n) = rw (eqb-suc-zero n, suc-sub-suc n 0, sub-zero n)

at_behind : (m : ℕ) (xs : List Bool) (n : ℕ)
    → get_or (true ∷ (falses m ++ xs)) n false ≡ choose (eqb n 0) true (choose (leb (suc m) n) (get_or xs (n - suc m) false) false)
unfolding choose
at_behind m xs zero = refl
at_behind m xs (suc n) = rw (eqb-suc-zero n, leb-suc-suc m n, suc-sub-suc n m) (get_d_append (falses m) xs n ∙ rw (falses_length m, get_d_falses m n))

at_two : (xs ys : List Bool) (m k : ℕ) → length xs ≡ k → (n : ℕ)
    → get_or (true ∷ (xs ++ (ys ++ falses m))) n false
    ≡ choose (eqb n 0) true (choose (leb (suc k) n) (get_or ys (n - suc k) false) (get_or xs (n - 1) false))
unfolding choose
at_two xs ys m k w zero = refl
at_two xs ys m k w (suc n) =
    rw (eqb-suc-zero n, leb-suc-suc k n, suc-sub-suc n k, suc-sub-suc n 0, sub-zero n)
    (get_d_append xs (ys ++ falses m) n
    ∙ ap₂ (λ j b. choose (leb j n) b (get_or xs n false)) w (get_d_end ys m (n - length xs) ∙ ap (λ j. get_or ys (n - j) false) w))

some_inside : (f : Plan → Plan) (o : Option Focus) → is_some (focus_in f o) ≡ is_some o
some_inside f O.none = refl
some_inside f (some c) = refl

some_inside_all : (f : Plans → Plan) (o : Option FocusAll) → is_some (inside_all f o) ≡ is_some o
some_inside_all f O.none = refl
some_inside_all f (some c) = refl

some_first : (ps : Plans) (o : Option Focus) → is_some (first_of ps o) ≡ is_some o
some_first ps O.none = refl
some_first ps (some c) = refl

some_later : (p : Plan) (o : Option FocusAll) → is_some (later_of p o) ≡ is_some o
some_later p O.none = refl
some_later p (some c) = refl

some_choose : {A : Type 0} (b : Bool) (x y : Option A) → is_some (choose b x y) ≡ choose b (is_some x) (is_some y)
unfolding choose
some_choose true x y = refl
some_choose false x y = refl

-- one input behind `m` records, or right behind the plan's own
inside_behind : (m n : ℕ) (xs : List Bool) (p : Plan) (f : Plan → Plan) (o : Option Focus) → is_some o ≡ get_or xs (n - suc m) false
    → is_some (choose (eqb n 0) (here p) (choose (leb (suc m) n) (focus_in f o) O.none)) ≡ get_or (true ∷ (falses m ++ xs)) n false
inside_behind m n xs p f o h =
    some_choose (eqb n 0) (here p) _
    ∙ ap (choose (eqb n 0) true) (some_choose (leb (suc m) n) (focus_in f o) O.none ∙ ap (λ b. choose (leb (suc m) n) b false) (some_inside f o ∙ h))
    ∙ sym (at_behind m xs n)

inside_next : (n : ℕ) (xs : List Bool) (p : Plan) (f : Plan → Plan) (o : Option Focus) → is_some o ≡ get_or xs (n - 1) false
    → is_some (choose (eqb n 0) (here p) (focus_in f o)) ≡ get_or (true ∷ xs) n false
inside_next n xs p f o h = some_choose (eqb n 0) (here p) _ ∙ ap (choose (eqb n 0) true) (some_inside f o ∙ h) ∙ sym (at_next xs n)

mutual
  unfolding focus marks plan_marks kids_p

  -- a plan is found at a record exactly if it is marked
  pub focus_marks : (p : Plan) (n : ℕ) → is_some (focus n p) ≡ get_or (plan_marks p) n false
  focus_marks (scan t fs es) n =
      some_choose (eqb n 0) (here (scan t fs es)) O.none
      ∙ ap (choose (eqb n 0) true) (sym (get_d_falses (sizes nothing_below fs + sizes kids_e es) (n - 1)))
      ∙ sym (at_next (falses (sizes nothing_below fs + sizes kids_e es)) n)
      ∙ ap (λ bs. get_or bs n false) (sym (marks_scan t fs es))
  focus_marks (filter e p) n =
      inside_behind (size_e e) n (plan_marks p) (filter e p) (filter e) (focus (n - suc (size_e e)) p) (focus_marks p (n - suc (size_e e)))
      ∙ ap (λ bs. get_or bs n false) (sym (marks_filter e p))
  focus_marks (project es p) n =
      inside_behind (sizes entry_kids es) n (plan_marks p) (project es p) (project es)
      (focus (n - suc (sizes entry_kids es)) p) (focus_marks p (n - suc (sizes entry_kids es)))
      ∙ ap (λ bs. get_or bs n false) (sym (marks_project es p))
  focus_marks (join k l r on f) n =
      some_choose (eqb n 0) (here (join k l r on f)) _
      ∙ ap (choose (eqb n 0) true)
      (some_choose (leb (suc (size_p l)) n) _ _
      ∙ ap₂ (choose (leb (suc (size_p l)) n))
      (some_inside (λ x. join k l x on f) (focus (n - suc (size_p l)) r) ∙ focus_marks r _)
      (some_inside (λ x. join k x r on f) (focus (n - 1) l) ∙ focus_marks l _))
      ∙ sym (at_two (plan_marks l) (plan_marks r) (sizes pair_kids on + size (filter_kids f)) (size_p l) (marks_length l) n)
      ∙ ap (λ bs. get_or bs n false) (sym (marks_join k l r on f))
  focus_marks (alias q p) n =
      inside_next n (plan_marks p) (alias q p) (alias q) (focus (n - 1) p) (focus_marks p (n - 1))
      ∙ ap (λ bs. get_or bs n false) (sym (marks_alias q p))
  focus_marks (union ps) n =
      some_choose (eqb n 0) (here (union ps)) _
      ∙ ap (choose (eqb n 0) true) (some_inside_all union (focus_all (n - 1) ps) ∙ focus_marks_all ps _)
      ∙ sym (at_next (marks (forest_p ps)) n)
      ∙ ap (λ bs. get_or bs n false) (sym (marks_union ps))
  focus_marks (distinct p) n =
      inside_next n (plan_marks p) (distinct p) distinct (focus (n - 1) p) (focus_marks p (n - 1))
      ∙ ap (λ bs. get_or bs n false) (sym (marks_distinct p))
  focus_marks (sort f ks p) n =
      inside_behind (sizes key_kids ks) n (plan_marks p) (sort f ks p) (sort f ks)
      (focus (n - suc (sizes key_kids ks)) p) (focus_marks p (n - suc (sizes key_kids ks)))
      ∙ ap (λ bs. get_or bs n false) (sym (marks_sort f ks p))
  focus_marks (repartition p) n =
      inside_next n (plan_marks p) (repartition p) repartition (focus (n - 1) p) (focus_marks p (n - 1))
      ∙ ap (λ bs. get_or bs n false) (sym (marks_repartition p))
  focus_marks (limit i j p) n =
      inside_next n (plan_marks p) (limit i j p) (limit i j) (focus (n - 1) p) (focus_marks p (n - 1))
      ∙ ap (λ bs. get_or bs n false) (sym (marks_limit i j p))
  focus_marks (aggregate gs ags p) n =
      inside_behind (sizes entry_kids gs + sizes agg_kids ags) n (plan_marks p) (aggregate gs ags p) (aggregate gs ags)
      (focus (n - suc (sizes entry_kids gs + sizes agg_kids ags)) p) (focus_marks p (n - suc (sizes entry_kids gs + sizes agg_kids ags)))
      ∙ ap (λ bs. get_or bs n false) (sym (marks_aggregate gs ags p))
  focus_marks (window ws p) n =
      inside_behind (sizes win_kids ws) n (plan_marks p) (window ws p) (window ws)
      (focus (n - suc (sizes win_kids ws)) p) (focus_marks p (n - suc (sizes win_kids ws)))
      ∙ ap (λ bs. get_or bs n false) (sym (marks_window ws p))

  focus_marks_all : (ps : Plans) (n : ℕ) → is_some (focus_all n ps) ≡ get_or (marks (forest_p ps)) n false
  focus_marks_all pnil n = refl
  focus_marks_all (pcons p ps) n =
      some_choose (leb (size_p p) n) _ _
      ∙ ap₂ (choose (leb (size_p p) n))
      (some_later p (focus_all (n - size_p p) ps) ∙ focus_marks_all ps _)
      (some_first ps (focus n p) ∙ focus_marks p n)
      ∙ ap (λ m. choose (leb m n) (get_or (marks (forest_p ps)) (n - m) false) (get_or (plan_marks p) n false)) (sym (marks_length p))
      ∙ sym (get_d_append (plan_marks p) (marks (forest_p ps)) n)

-- ---- the same by the kinds of the records

unfoldable pub kinds : Forest → List ℕ
kinds none = []
kinds (node l cs ns) = l.kind ∷ (kinds cs ++ kinds ns)

-- the kinds of the records of `plan_tree p`, in reading order
unfoldable pub plan_kinds : Plan → List ℕ
plan_kinds p = (label_p p).kind ∷ kinds (kids_p p)

map_append : {A B : Type 0} (f : A → B) (xs ys : List A) → map f (xs ++ ys) ≡ map f xs ++ map f ys
map_append f [] ys = refl
map_append f (x ∷ xs) ys = ap (f x ∷◌) (map_append f xs ys)

marks_kinds : (f : Forest) → marks f ≡ map plan_number (kinds f)
unfolding marks kinds
marks_kinds none = refl
marks_kinds (node l cs ns) =
    ap₂ ◌∷◌ (plan_range l) (ap₂ ◌++◌ (marks_kinds cs) (marks_kinds ns) ∙ sym (map_append plan_number (kinds cs) (kinds ns)))

at_kind : (xs : List ℕ) (n : ℕ) → get_or (map plan_number xs) n false ≡ plan_number (get_or xs n 0)
unfolding ◌&◌
at_kind [] n = refl
at_kind (x ∷ xs) zero = refl
at_kind (x ∷ xs) (suc n) = at_kind xs n

-- test 8: a plan is found at a record exactly if the record is there and its kind is 32 to 43
pub focus_kind : (n : ℕ) (p : Plan) → is_some (focus n p) ≡ plan_number (get_or (plan_kinds p) n 0)
unfolding plan_marks plan_kinds
focus_kind n p =
    focus_marks p n
    ∙ ap (λ bs. get_or bs n false) (ap₂ ◌∷◌ (plan_range (label_p p)) (marks_kinds (kids_p p)))
    ∙ at_kind (plan_kinds p) n
