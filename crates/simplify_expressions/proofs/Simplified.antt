-- The list that simplify_predicates makes, column by column.
--     eq_none, eq_last, eq_false      what a column's equalities come to
--     one_simplified                  a list of one stays as it is
--     Going                           the invariant of the loop over the columns: `going_start`, `going_next`, `going_end`, `going_zero`
-- Assumes nothing.
use mathlib.Core.Path.{◌≡◌, refl, sym, ap, ◌∙◌}
use mathlib.Core.Bool.{Bool, true, false}
use mathlib.Core.List.{List, [], ◌∷◌, ◌++◌, map, append_assoc, append-nil}
use mathlib.Core.Option.{Option, none, some}
use Prim.Native.Nat.{ℕ, suc, ◌≤◌, ◌<◌}
use native.Mathlib.Omega.{arith}
use lib.Signed.{lt_z}
use lib.ListN.{length, get_or, drop}
use Rattle.image.specs.Limits.{max_list}
use Rattle.plan.specs.Syntax.{Expr, Name, nm}
use Rattle.plan.specs.Lists.{choose, all, keep, flatten}
use Rattle.plan.proofs.Lists.{keep_all}
use Rattle.meaning.specs.Meaning.{same_v}
use Rattle.rewrite.specs.SimplifyPredicates.{Rel, same_as, above, below, bound_of, Side, val, Item, Group, eq_expr, up_expr, down_expr}
use Rattle.rewrite.specs.SimplifyPredicates.{final, eq_part, first_kind, of_kind, most_restrictive, simplify_column_predicates, fresh}
use Rattle.rewrite.specs.SimplifyPredicates.{enter, view, add, sort_out, simplify_predicates}
use Rattle.rewrite.proofs.Simplify.{view_back}
use Rattle.plan.specs.Values.{ValueRecord}
use Rattle.conjuncts.specs.Items.{Conjuncts, FALSE, Lists, Known}
use Rattle.conjuncts.proofs.Listed.{known_of}
use Rattle.simplify_expressions.specs.Seen.{side_in, Spelled}
use Rattle.simplify_expressions.specs.Classes.{group_of, least}
use Rattle.simplify_expressions.proofs.Grouped.{whole, group_is}
use Rattle.simplify_expressions.proofs.Ascending.{rest, sorted_ascends, least_head, rest_next, rest_end, groups_few}
use Rattle.simplify_expressions.proofs.Classed.{keep_few}

-- ---- a column's equalities

-- the last side is that of the last expression
final_last : (e : Expr) (es : List Expr) → final (side_in e) (map side_in es) ≡ side_in (get_or (e ∷ es) (length es) FALSE)
final_last e [] = refl
final_last e (x ∷ es) = final_last x es

pub eq_none : (x : Name) (es : List Expr) → length es ≡ 0 → eq_part x (map side_in es) ≡ []
eq_none x [] h = refl
eq_none x (e ∷ es) h = absurd (omega arith)

pub eq_last : (x : Name) (es : List Expr) (last : ℕ) → suc last ≡ length es → Spelled (eq_expr x) es
    → true ≡ all (λ d. same_v (val (side_in (get_or es 0 FALSE))) (val d)) (map side_in (drop 1 es)) → eq_part x (map side_in es) ≡ get_or es last FALSE ∷ []
unfolding choose
eq_last x [] last n h k = absurd (omega arith)
eq_last x (e ∷ es) last n h k =
    let m : last ≡ length es = omega arith in
    rw (← k, final_last e es, m) (ap (λ (y : Expr). y ∷ []) (h (length es) (omega arith)))

pub eq_false : (x : Name) (es : List Expr) → 0 < length es
    → false ≡ all (λ d. same_v (val (side_in (get_or es 0 FALSE))) (val d)) (map side_in (drop 1 es))
    → eq_part x (map side_in es) ≡ FALSE ∷ []
unfolding choose
eq_false x [] n k = absurd (omega arith)
eq_false x (e ∷ es) n k = rw (← k)

-- ---- one column

-- what is picked of a whole list is whole
pub known_kept : {s : List ℕ} {r : Conjuncts} (f : Expr → Bool) (es : List Expr) → Lists s r (keep f es) → length es ≤ max_list → Known s r
known_kept f es h small = known_of h (omega (arith, keep_few f es))

pub regroup : (a b c d : List Expr) → a ++ (b ++ (c ++ d)) ≡ ((a ++ b) ++ c) ++ d
regroup a b c d = sym (append_assoc (a ++ b) c d ∙ append_assoc a b (c ++ d))

-- ---- a list of one

either_way : (b : Bool) (l : List Side) → choose b l l ≡ l
unfolding choose
either_way true l = refl
either_way false l = refl

-- a comparison alone is what its column comes to
alone : (x : Name) (l : ValueRecord) (f : Bool) (r : Rel)
    → simplify_column_predicates (fresh (record { key = x; rel = r; lit = l; flipped = f })) ≡ bound_of f r x l ∷ []
unfolding choose all
alone x l f same_as = refl
alone x l f (above s) =
    let d : List Side = record { strict = s; lit = l; flipped = f } ∷ [] in
    append-nil (map (up_expr x) (most_restrictive lt_z d)) ∙ ap (map (up_expr x)) (either_way (all (of_kind (first_kind d)) d) d)
alone x l f (below s) =
    let d : List Side = record { strict = s; lit = l; flipped = f } ∷ [] in
    ap (map (down_expr x)) (either_way (all (of_kind (first_kind d)) d) d)

pub one_simplified : (es : List Expr) → length es ≤ 1 → simplify_predicates es ≡ es
unfolding simplify_predicates sort_out enter flatten
one_simplified [] h = refl
one_simplified (e ∷ d ∷ es) h = absurd (omega arith)
one_simplified (e ∷ []) h = go (view e) refl
  where
    go : (o : Option Item) → view e ≡ o → let s = add e o (sort_out []) in s.others ++ flatten simplify_column_predicates s.groups ≡ e ∷ []
    go none v = refl
    go (some i) v =
        append-nil (simplify_column_predicates (fresh i))
        ∙ (alone i.key i.lit i.flipped i.rel ∙ ap (λ (x : Expr). x ∷ []) (view_back e v))

-- ---- all columns

-- the columns up to `last` are done, and `key` comes next
pub record Going (s : List ℕ) (r : Conjuncts) (es : List Expr) (key : Option Name) (left : ℕ) : Type 0 where
  pub last : Option Name
  pub done : List Expr
  pub lists : Lists s r done
  pub is : done ++ flatten simplify_column_predicates (rest last (sort_out es).groups) ≡ simplify_predicates es
  pub next : key ≡ least last es
  pub few : length (rest last (sort_out es).groups) ≤ left

module _ {s : List ℕ} {r : Conjuncts} (es : List Expr) where
  pub going_start : {key : Option Name} {left : ℕ} → Lists s r (sort_out es).others → key ≡ least none es → length es ≤ left → Going s r es key left
  unfolding simplify_predicates
  going_start h e n =
      let all_left : rest none (sort_out es).groups ≡ (sort_out es).groups = keep_all (sort_out es).groups in
      record { last = none; done = (sort_out es).others; lists = h; is = rw all_left; next = e; few = rw all_left (omega (arith, groups_few es)) }

  pub going_next : {r' : Conjuncts} {key key' : Option Name} {left left' : ℕ} (q n : ℕ) (k : Going s r es key left) → left ≤ suc left' → key ≡ some (nm q n)
      → Lists s r' (k.done ++ simplify_column_predicates (group_of q n es)) → key' ≡ least (some (nm q n)) es → Going s r' es key' left'
  unfolding flatten
  going_next q n k fewer t h e =
      let gs = (sort_out es).groups in
      let m : rest k.last gs ≡ whole (nm q n) gs ∷ rest (some (nm q n)) gs =
      rest_next k.last (nm q n) gs (sorted_ascends es) (least_head k.last es ∙ (sym k.next ∙ t)) in
      record {
        last = some (nm q n);
        done = k.done ++ simplify_column_predicates (group_of q n es);
        lists = h;
        is =
            append_assoc k.done (simplify_column_predicates (group_of q n es)) (flatten simplify_column_predicates (rest (some (nm q n)) gs))
            ∙ (ap (λ (g : Group). k.done ++ (simplify_column_predicates g ++ flatten simplify_column_predicates (rest (some (nm q n)) gs)))
            (group_is q n es)
            ∙ (ap (λ (l : List Group). k.done ++ flatten simplify_column_predicates l) (sym m) ∙ k.is));
        next = e;
        few = omega (arith, k.few, ap length m);
      }

  ended : {key : Option Name} {left : ℕ} (k : Going s r es key left) → rest k.last (sort_out es).groups ≡ [] → Lists s r (simplify_predicates es)
  unfolding flatten
  ended k e =
      let d : k.done ≡ simplify_predicates es = sym (append-nil k.done) ∙ (rw e at k.is) in
      rw (← d) k.lists

  pub going_end : {key : Option Name} {left : ℕ} → Going s r es key left → key ≡ none → Lists s r (simplify_predicates es)
  going_end k t = ended k (rest_end k.last (sort_out es).groups (least_head k.last es ∙ (sym k.next ∙ t)))

  pub going_zero : {key : Option Name} {left : ℕ} → Going s r es key left → left ≡ 0 → Lists s r (simplify_predicates es)
  going_zero k z = ended k (go (rest k.last (sort_out es).groups) (omega (arith, k.few)))
    where
      go : (l : List Group) → length l ≤ 0 → l ≡ []
      go [] h = refl
      go (g ∷ l) h = absurd (omega arith)
