-- Laws of the lists that move to one side of a join.
--     append-start, ..             the items of a list appended, each with so much more
--     smalls_of                    the items of a list of conjuncts are plain
--     sides-of, sides_swapped, ..  what is written for a list as it stands, with its keys swapped, and for its clauses
-- Assumes nothing.
use mathlib.Core.Path.{◌≡◌, refl, sym, ap, ◌∙◌}
use mathlib.Core.Bool.{Bool, true, false, cond}
use mathlib.Core.List.{List, [], ◌∷◌, ◌++◌, map, map-append, append_assoc, append-nil}
use mathlib.Core.Option as O
use mathlib.Core.Option.{Option, some}
use Prim.Native.Nat.{ℕ, ◌+◌, ◌-◌, ◌≤◌, ◌<◌}
use native.Mathlib.Omega.{arith}
use native.Mathlib.Numerals.{add-one}
use lib.ListN.{length, take, drop, get_or}
use lib.Seq.{take-suc, take_all}
use Rattle.image.specs.Limits.{max_list}
use Rattle.plan.specs.Columns.{on_cols}
use Rattle.plan.specs.Lists.{put, keep, flatten}
use Rattle.plan.specs.Schema.{has}
use Rattle.plan.specs.Syntax.{Name, Expr}
use Rattle.rewrite.specs.Utils.{replace_cols}
use Rattle.rewrite.specs.PushDownFilter.{is_or, extract_or_clause, extract_or_clauses_for_join}
use Rattle.rewrite.specs.PushDownFilter as P
use Rattle.conjuncts.specs.Items.{Conjuncts, FALSE, listed, Holds, Item, Items, inil, icons, Lists, Known, replaced_by, clause_by}
use Rattle.conjuncts.specs.Standing.{Standing}
use Rattle.conjuncts.proofs.Listed.{whole, lists_length, lists_room, lists_at, next, at_end}
use Rattle.push_down_join.specs.Clauses.{or_clause, yields}
use Rattle.writing.specs.Pushed.{Pushed, Each, nil, cons}
use Rattle.writing.proofs.Pushing.{pushed_plain, pushed_changed}
use Rattle.push_down_join.specs.Sides.{ClauseOf, Sided, Sides, Smalls}

-- ---- items appended

pub smalls_of : {s : List ℕ} {c : Conjuncts} → Known s c → Smalls c
smalls_of h = record { most = h.most; room = lists_room h.lists h.most; each = λ i lt. (lists_at h.lists h.most i _ lt refl).small }

-- so many are appended, of the items of a list that is whole
module _ {c : Conjuncts} {items ys : List ℕ} (h : Holds c ys) (small : c.len ≤ max_list) (is : items ≡ listed c) (i : ℕ) where
  pub append_step : (m x : ℕ) (xs : List ℕ) → i < length items → x ≡ get_or items i 0
      → (xs ++ map (λ y. y + m) (take i ys)) ++ ((x + m) ∷ []) ≡ xs ++ map (λ y. y + m) (take (i + 1) ys)
  append_step m x xs lt e =
      let k : x ≡ get_or ys i 0 = rw (is ∙ whole h small) at e in
      let l : i < length ys = rw (is ∙ whole h small) at lt in
      rw (add-one, take-suc ys i 0 l, map-append, k) (append_assoc xs (map (λ y. y + m) (take i ys)) ((get_or ys i 0 + m) ∷ []))

  -- all are
  pub append_end : length items ≤ i → take i ys ≡ ys
  append_end le = take_all i ys (rw (is ∙ whole h small) at le)

-- ---- what is written

module _ {R : ℕ → Expr → Type 0} where
  each_append : {ns ms : List ℕ} {es fs : List Expr} → Each R ns es → Each R ms fs → Each R (ns ++ ms) (es ++ fs)
  each_append nil k = k
  each_append (cons h hs) k = cons h (each_append hs k)

module _ {s : List ℕ} {σ : Name → Expr} {ns : List Name} {t : Name → Bool} where
  sided_pushed : {n : ℕ} {e : Expr} → Pushed s σ n e → Sided s σ ns t n e
  sided_pushed h = record { written = λ lt. h; clause = λ le. absurd (omega (arith, h.small)); small = omega (arith, h.small) }

  sided_clause : {n : ℕ} {e from : Expr} → Item s n from → on_cols (has ns) from ≡ true → or_clause t from ≡ some e → Sided s σ ns t (n + clause_by) e
  sided_clause {n} {from = from} h r e =
      let z : n + clause_by - clause_by ≡ n = omega arith in
      record {
        written = λ lt. absurd (omega arith);
        clause = λ le. record { from = from; item = rw z h; reads = r; is = e };
        small = omega (arith, h.small);
      }

  each_plain : {xs : List ℕ} {es : List Expr} → Items s xs es → Each (Sided s σ ns t) (map (λ y. y + 0) xs) es
  each_plain inil = nil
  each_plain (icons {n = n} {e} h hs) = let z : n ≡ n + 0 = omega arith in cons {n = n + 0} {e = e} (rw (← z) (sided_pushed (pushed_plain h))) (each_plain hs)

  each_swapped : {xs : List ℕ} {es : List Expr} → Items s xs es → Each (Sided s σ ns t) (map (λ y. y + replaced_by) xs) (map (replace_cols σ) es)
  each_swapped inil = nil
  each_swapped (icons h hs) = cons (sided_pushed (pushed_changed h)) (each_swapped hs)

  -- nothing is appended to a list
  pub sides_none : {c : Conjuncts} → Lists s c [] → Sides s σ ns t c []
  sides_none h = record { numbers = h.numbers; holds = h.holds; items = none_of h.items }
    where
      none_of : {xs : List ℕ} → Items s xs [] → Each (Sided s σ ns t) xs []
      none_of inil = nil

  module _ {to c r : Conjuncts} {es fs : List Expr} (h : Sides s σ ns t to es) (k : Lists s c fs) where
    -- a list as it stands is
    pub sides_plain : ((xs ys : List ℕ) → Holds to xs → Holds c ys → Holds r (xs ++ map (λ y. y + 0) ys)) → Sides s σ ns t r (es ++ fs)
    sides_plain f = record {
      numbers = h.numbers ++ map (λ y. y + 0) k.numbers;
      holds = f h.numbers k.numbers h.holds k.holds;
      items = each_append h.items (each_plain k.items);
    }

    -- a list with its columns replaced is
    pub sides_swapped : ((xs ys : List ℕ) → Holds to xs → Holds c ys → Holds r (xs ++ map (λ y. y + replaced_by) ys))
        → Sides s σ ns t r (es ++ map (replace_cols σ) fs)
    sides_swapped f = record {
      numbers = h.numbers ++ map (λ y. y + replaced_by) k.numbers;
      holds = f h.numbers k.numbers h.holds k.holds;
      items = each_append h.items (each_swapped k.items);
    }

  -- the clause of an item is, or none
  module _ {to : Conjuncts} {es : List Expr} (e : Expr) {o : Bool} (h : Sides s σ ns t to es) (is : o ≡ yields (or_clause t e)) where
    pub sides_nothing : o ≡ false → Sides s σ ns t to (es ++ P.listed (or_clause t e))
    unfolding P.listed
    sides_nothing k = go (or_clause t e) (sym is ∙ k)
      where
        go : (x : Option Expr) → yields x ≡ false → Sides s σ ns t to (es ++ P.listed x)
        go O.none z = rw (append-nil es) h
        go (some a) z = let w : ◌≡◌ {A = ℕ} 0 1 = cc in absurd (omega arith)

    pub sides_made : {r : Conjuncts} {n : ℕ} → o ≡ true → Item s n e → on_cols (has ns) e ≡ true
        → ((xs : List ℕ) → Holds to xs → Holds r (xs ++ ((n + clause_by) ∷ []))) → Sides s σ ns t r (es ++ P.listed (or_clause t e))
    unfolding P.listed
    sides_made {r} {n} k i held f = go (or_clause t e) refl (sym is ∙ k)
      where
        go : (x : Option Expr) → or_clause t e ≡ x → yields x ≡ true → Sides s σ ns t r (es ++ P.listed x)
        go O.none p z = let w : ◌≡◌ {A = ℕ} 0 1 = cc in absurd (omega arith)
        go (some a) p z = record {
          numbers = h.numbers ++ ((n + clause_by) ∷ []);
          holds = f h.numbers h.holds;
          items = each_append h.items (cons (sided_clause i held p) nil);
        }

-- ---- the clauses of a list

-- in a loop over the items of a list that is whole: the item that is met at i, and how many there are
module _ {s : List ℕ} {c : Conjuncts} {es : List Expr} (h : Lists s c es) (small : c.len ≤ max_list) {items : List ℕ} (is : items ≡ listed c) where
  pub walk_all : length items ≡ length es
  walk_all = ap length is ∙ (lists_room h small ∙ sym (lists_length h small))

  pub walk_item : (i n : ℕ) → i < length items → n ≡ get_or items i 0 → Item s n (get_or es i FALSE)
  walk_item i n lt e = lists_at h small i n (omega (arith, walk_all, lists_length h small)) (e ∙ ap (λ xs. get_or xs i 0) is)

-- one by one
pub clauses_each : (t : Name → Bool) (es : List Expr) → extract_or_clauses_for_join t es ≡ flatten (λ e. P.listed (or_clause t e)) es
unfolding extract_or_clauses_for_join flatten keep put P.listed
clauses_each t [] = refl
clauses_each t (e ∷ es) = go (is_or e) (clauses_each t es)
  where
    go : (b : Bool) → flatten (λ e. P.listed (extract_or_clause t e)) (keep is_or es) ≡ flatten (λ e. P.listed (or_clause t e)) es
        → flatten (λ e. P.listed (extract_or_clause t e)) (put b e (keep is_or es))
        ≡ P.listed (cond b (extract_or_clause t e) O.none) ++ flatten (λ e. P.listed (or_clause t e)) es
    go true h = ap (P.listed (extract_or_clause t e) ++◌) h
    go false h = h

-- the next one
pub flat_next : (f : Expr → List Expr) (es : List Expr) (i : ℕ) → i < length es
    → flatten f (drop i es) ≡ f (get_or es i FALSE) ++ flatten f (drop (i + 1) es)
unfolding flatten
flat_next f es i lt = rw (next es i lt)

-- those of the first i are appended to es
pub record Clauses (s : List ℕ) (σ : Name → Expr) (ns : List Name) (t : Name → Bool) (r : Conjuncts) (es fs : List Expr) (i : ℕ) : Type 0 where
  pub done : List Expr
  pub sides : Sides s σ ns t r done
  pub is : done ++ flatten (λ e. P.listed (or_clause t e)) (drop i fs) ≡ es ++ flatten (λ e. P.listed (or_clause t e)) fs

module _ {s : List ℕ} {σ : Name → Expr} {ns : List Name} {t : Name → Bool} {es : List Expr} where
  pub clauses_start : {r : Conjuncts} (fs : List Expr) → Sides s σ ns t r es → Clauses s σ ns t r es fs 0
  clauses_start fs h = record { done = es; sides = h; is = refl }

  pub clauses_step : {r r' : Conjuncts} {fs : List Expr} (i : ℕ) → i < length fs → Clauses s σ ns t r es fs i
      → ((ds : List Expr) → Sides s σ ns t r ds → Sides s σ ns t r' (ds ++ P.listed (or_clause t (get_or fs i FALSE)))) → Clauses s σ ns t r' es fs (i + 1)
  clauses_step {fs = fs} i lt h f = record {
    done = h.done ++ P.listed (or_clause t (get_or fs i FALSE));
    sides = f h.done h.sides;
    is = append_assoc h.done (P.listed (or_clause t (get_or fs i FALSE))) (flatten (λ e. P.listed (or_clause t e)) (drop (i + 1) fs))
        ∙ ap (h.done ++◌) (sym (flat_next (λ e. P.listed (or_clause t e)) fs i lt)) ∙ h.is;
  }

  pub clauses_end : {r : Conjuncts} {fs : List Expr} (i : ℕ) → length fs ≤ i → Clauses s σ ns t r es fs i
      → Sides s σ ns t r (es ++ extract_or_clauses_for_join t fs)
  unfolding flatten
  clauses_end {fs = fs} i le h =
      let e : h.done ≡ es ++ flatten (λ e. P.listed (or_clause t e)) fs = sym (append-nil h.done) ∙ (rw (at_end fs i le) at h.is) in
      rw (clauses_each t fs, ← e) h.sides

-- ---- the list of a side, in order

flat_append : {A B : Type 0} (f : A → List B) (xs ys : List A) → flatten f (xs ++ ys) ≡ flatten f xs ++ flatten f ys
unfolding flatten
flat_append f [] ys = refl
flat_append f (x ∷ xs) ys = ap (f x ++◌) (flat_append f xs ys) ∙ sym (append_assoc (f x) (flatten f xs) (flatten f ys))

clauses_append : (t : Name → Bool) (u v : List Expr)
    → extract_or_clauses_for_join t (u ++ v) ≡ extract_or_clauses_for_join t u ++ extract_or_clauses_for_join t v
clauses_append t u v =
    clauses_each t (u ++ v) ∙ flat_append (λ e. P.listed (or_clause t e)) u v ∙ rw (clauses_each t u, clauses_each t v)

pub side_order : (f : Expr → Expr) (t : Name → Bool) (a i u b j v : List Expr)
    → ((((a ++ map f i) ++ map f j) ++ b) ++ extract_or_clauses_for_join t u) ++ extract_or_clauses_for_join t v
    ≡ a ++ (map f (i ++ j) ++ (b ++ extract_or_clauses_for_join t (u ++ v)))
side_order f t a i u b j v = rw (map-append, clauses_append t u v) (simp append_assoc)

-- an item that has a clause stands at a record: FALSE has none
pub clause_standing : {s : List ℕ} {ns : List Name} {t : Name → Bool} {n : ℕ} {e : Expr} (h : ClauseOf s ns t n e) → Standing s n h.from
unfolding is_or
clause_standing {t = t} {e = e} h = h.item.some (λ z. never (sym (ap (or_clause t) (h.item.none z)) ∙ h.is))
  where
    never : ◌≡◌ {A = Option Expr} O.none (some e) → ⊥
    never p = let w : ◌≡◌ {A = ℕ} 0 1 = cc in absurd (omega arith)
