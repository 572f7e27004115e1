-- Reordered and simplified lists are no longer than they were.
--     reordered_length    as long
--     simplified_few      no longer
-- Assumes nothing.
use mathlib.Core.Path.{◌≡◌, refl, ap, ◌∙◌}
use mathlib.Core.Bool.{Bool, true, false, not}
use mathlib.Core.List.{List, [], ◌∷◌, ◌++◌, map}
use mathlib.Core.Option.{Option, none, some}
use Prim.Native.Nat.{ℕ, suc, ◌+◌, ◌≤◌}
use native.Mathlib.Omega.{arith}
use lib.IntN.{ℤ}
use lib.Signed.{lt_z}
use lib.ListN.{length, length-append, length-map}
use Rattle.plan.specs.Syntax.{Expr, Name, bool}
use Rattle.plan.specs.Schema.{same}
use Rattle.plan.specs.Lists.{choose, any, put, keep, all, flatten}
use Rattle.meaning.specs.Meaning.{same_v}
use Rattle.rewrite.specs.Utils.{is_volatile_expr}
use Rattle.rewrite.specs.ReorderPredicates.{Reordered, is_cheap_predicate, needs_reorder, unchanged, cheap_first, reorder_predicates}
use Rattle.rewrite.specs.SimplifyPredicates.{Rel, same_as, above, below, Side, val, Item, Group, gt_z, eq_expr, up_expr, down_expr, final, eq_part}
use Rattle.rewrite.specs.SimplifyPredicates.{first_kind, of_kind, find_most_restrictive_predicate, most_restrictive, simplify_column_predicates}
use Rattle.rewrite.specs.SimplifyPredicates.{put_in, fresh, enter, name_under, view, add, sort_out, simplify_predicates}

-- ---- reordered

put_parts : (b : Bool) (e : Expr) (xs ys : List Expr) → length (put b e xs) + length (put (not b) e ys) ≡ suc (length xs + length ys)
unfolding put
put_parts true e xs ys = omega arith
put_parts false e xs ys = omega arith

parts : (f : Expr → Bool) (es : List Expr) → length (keep f es) + length (keep (λ e. not (f e)) es) ≡ length es
unfolding keep
parts f [] = refl
parts f (e ∷ es) = put_parts (f e) e (keep f es) (keep (λ x. not (f x)) es) ∙ ap suc (parts f es)

choose_length : (b : Bool) (x y : Reordered) (n : ℕ) → length x.predicates ≡ n → length y.predicates ≡ n → length (choose b x y).predicates ≡ n
unfolding choose
choose_length true x y n h k = h
choose_length false x y n h k = k

pub reordered_length : (es : List Expr) → length (reorder_predicates es).predicates ≡ length es
unfolding reorder_predicates
reordered_length es =
    choose_length (any is_volatile_expr es) (unchanged es) (choose (needs_reorder es) (cheap_first es) (unchanged es)) (length es) refl
    (choose_length (needs_reorder es) (cheap_first es) (unchanged es) (length es)
    (length-append (keep is_cheap_predicate es) (keep (λ e. not (is_cheap_predicate e)) es) ∙ parts is_cheap_predicate es)
    refl)

-- ---- simplified

choose_few : {A : Type 0} (b : Bool) (xs ys : List A) (n : ℕ) → length xs ≤ n → length ys ≤ n → length (choose b xs ys) ≤ n
unfolding choose
choose_few true xs ys n h k = h
choose_few false xs ys n h k = k

eq_few : (x : Name) (l : List Side) → length (eq_part x l) ≤ length l
eq_few x [] = omega arith
eq_few x (d ∷ l) =
    choose_few (all (λ e. same_v (val d) (val e)) l) (eq_expr x (final d l) ∷ []) (bool false ∷ []) (suc (length l)) (omega arith) (omega arith)

restrict_few : (past : ℤ → ℤ → Bool) (l : List Side) → length (most_restrictive past l) ≤ length l
restrict_few past [] = omega arith
restrict_few past (b ∷ l) =
    choose_few (all (of_kind (first_kind (b ∷ l))) (b ∷ l)) (find_most_restrictive_predicate past b l ∷ []) (b ∷ l) (suc (length l))
    (omega arith) (omega arith)

-- how many predicates a group was made of
sides : Group → ℕ
sides g = length g.eqs + (length g.ups + length g.downs)

column_few : (g : Group) → length (simplify_column_predicates g) ≤ sides g
unfolding sides
column_few g =
    let ups : List Expr = map (up_expr g.key) (most_restrictive lt_z g.ups) in
    let downs : List Expr = map (down_expr g.key) (most_restrictive gt_z g.downs) in
    rw (length-append (eq_part g.key g.eqs) (ups ++ downs), length-append ups downs, length-map, length-map)
    (omega (arith, eq_few g.key g.eqs, restrict_few lt_z g.ups, restrict_few gt_z g.downs))

total : List Group → ℕ
total [] = 0
total (g ∷ gs) = sides g + total gs

flat_few : (gs : List Group) → length (flatten simplify_column_predicates gs) ≤ total gs
unfolding flatten total
flat_few [] = omega arith
flat_few (g ∷ gs) =
    rw (length-append (simplify_column_predicates g) (flatten simplify_column_predicates gs)) (omega (arith, column_few g, flat_few gs))

put_sides : (i : Item) (g : Group) → sides (put_in i g) ≡ suc (sides g)
unfolding sides
put_sides i g = go i.rel
  where
    go : (r : Rel) → sides (put_in (record { key = i.key; rel = r; lit = i.lit; flipped = i.flipped }) g) ≡ suc (sides g)
    go same_as = omega arith
    go (above s) = omega arith
    go (below s) = omega arith

fresh_sides : (i : Item) → sides (fresh i) ≡ 1
unfolding sides
fresh_sides i = put_sides i (record { key = i.key; eqs = []; ups = []; downs = [] })

enter_total : (i : Item) (gs : List Group) → total (enter i gs) ≡ suc (total gs)
unfolding enter choose total
enter_total i [] = omega (arith, fresh_sides i)
enter_total i (g ∷ gs) = go (same g.key i.key) (name_under i.key g.key) (enter_total i gs)
  where
    go : (b c : Bool) → total (enter i gs) ≡ suc (total gs)
        → total (choose b (put_in i g ∷ gs) (choose c (fresh i ∷ g ∷ gs) (g ∷ enter i gs))) ≡ suc (total (g ∷ gs))
    go true c h = omega (arith, put_sides i g)
    go false true h = omega (arith, fresh_sides i)
    go false false h = omega arith

sorted_total : (es : List Expr) → length (sort_out es).others + total (sort_out es).groups ≡ length es
unfolding sort_out total
sorted_total [] = refl
sorted_total (e ∷ es) = go (view e) (sorted_total es)
  where
    go : (o : Option Item) → length (sort_out es).others + total (sort_out es).groups ≡ length es
        → length (add e o (sort_out es)).others + total (add e o (sort_out es)).groups ≡ suc (length es)
    go none h = omega arith
    go (some i) h = omega (arith, enter_total i (sort_out es).groups)

pub simplified_few : (es : List Expr) → length (simplify_predicates es) ≤ length es
unfolding simplify_predicates
simplified_few es =
    rw (length-append (sort_out es).others (flatten simplify_column_predicates (sort_out es).groups))
    (omega (arith, flat_few (sort_out es).groups, sorted_total es))
