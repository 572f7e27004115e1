-- What a rewrite changes is not as it was: if what became of a Filter or a Join is that plan, then nothing moved, and what was joined again was
-- joined so before.
use Prim.Native.Nat.{ℕ, ◌+◌, ◌≤◌}
use native.Mathlib.Nat.{le_refl}
use native.Mathlib.Omega.{arith}
use mathlib.Core.Path.{◌≡◌, refl, sym, ap, ◌∙◌}
use mathlib.Core.Bool.{Bool, true, false, not, ◌||◌}
use mathlib.Core.List.{List, [], ◌∷◌, ◌++◌, map}
use mathlib.Core.Option.{Option, none, some}
use lib.Dec.{eqb}
use lib.ListN.{length, length-append}
use borrow.Author.Tests.{eqb-true, eqb-false}
use Rattle.plan.specs.Columns.{on_cols}
use Rattle.plan.specs.Lists.{◌&◌, choose, put, keep}
use Rattle.plan.specs.Measure.{size_p}
use Rattle.plan.specs.Schema.{schema}
use Rattle.plan.specs.Syntax.{Expr, Field, Entry, AggEntry, WinEntry, Pair, Kind, inner, left, right, full, left_semi, right_semi, left_anti, right_anti}
use Rattle.plan.specs.Syntax.{Plan, scan, filter, project, join, alias, union, distinct, sort, repartition, limit, aggregate, window}
use Rattle.plan.specs.Trees.{label_p, plan_tree}
use Rattle.plan.proofs.Lists.{and_intro, All-append, All-keep}
use Rattle.plan.proofs.Measure.{size_filter}
use Rattle.rewrite.specs.Utils.{split_conjunction, split_conjunction?, conjoin, conjunction, with_filters, unique, is_volatile_expr, is_empty}
use Rattle.rewrite.specs.SimplifyPredicates.{simplify_predicates}
use Rattle.rewrite.specs.ReorderPredicates.{Reordered, reorder_predicates}
use Rattle.rewrite.specs.PushDownFilter.{Transformed, transformed_yes, transformed_no, resume, merged, simplify_filter, simplify_merged}
use Rattle.rewrite.specs.PushDownFilter.{rewrite_filter, rewrite}
use Rattle.rewrite.specs.PushDownFilter.{is_inner, push_not, if_list, left_push, right_push, keep_predicates, join_conditions}
use Rattle.rewrite.specs.PushDownFilter.{on_filter_join_conditions, unpushed, nothing_moves, push_down_all_join, push_down_join}
use Rattle.rewrite.specs.PushDownFilter.{supports_pushdown, supported_filters, unsupported_filters, volatile_filters, non_volatile_filters}
use Rattle.rewrite.specs.PushDownFilter.{rewrite_scan}
use Rattle.rewrite.specs.PushDownFilter.{pushable, stay, move, rewrite_projection, in_groups, rewrite_aggregate, rewrite_window}
use Rattle.rewrite.proofs.Staying.{none_in, all_left, kept_all, own_all}
use Rattle.conjuncts.specs.Says.{LeftDeep}
use Rattle.push_down_arms.specs.Divided.{pushed}
use Rattle.push_down_base.specs.Plain.{Plain}
use Rattle.push_down_merge.specs.Merging.{is_filter}
use Rattle.push_down_arms.specs.Movable.{may_move}
use Rattle.push_down_arms.proofs.Divisions.{aggregate_pushed, window_pushed, project_kept, project_pushed}
use Rattle.push_down_base.proofs.Plain.{split_plain, split_joined, new_plain}
use Rattle.push_down_merge.proofs.Shorter.{new_few}
use Rattle.push_down_stays.specs.Staying.{may_stay}
use Rattle.plan.proofs.Bools.{no_yes}

clash : {A : Type 0} → ◌≡◌ {A = ℕ} 0 1 → A
clash z = absurd (omega arith)

-- ---- lists of conjuncts over a plan

-- no plan is a Filter over itself
no_self : (e : Expr) (q : Plan) → q ≡ filter e q → ⊥
no_self e q h = omega (arith, ap size_p h, size_filter e q)

none_over : (us : List Expr) (q : Plan) → with_filters us q ≡ q → us ≡ []
unfolding with_filters
none_over [] q h = refl
none_over (x ∷ xs) q h = absurd (no_self (conjoin x xs) q (sym h))

pub record Over (us : List Expr) (q r : Plan) (e : Expr) : Type 0 where
  pub joined : conjunction us ≡ some e
  pub same : q ≡ r

over_list : (us : List Expr) {q r : Plan} {e : Expr} → is_filter q ≡ false → with_filters us q ≡ filter e r → Over us q r e
unfolding with_filters conjunction
over_list [] o h = no_yes (sym o ∙ ap is_filter h)
over_list (x ∷ xs) o h = record { joined = cc; same = cc }

parts_are : (us : List Expr) {e : Expr} → Plain us → conjunction us ≡ some e → split_conjunction e ≡ us
unfolding conjunction
parts_are [] p h = let z : ◌≡◌ {A = ℕ} 0 1 = cc in clash z
parts_are (x ∷ xs) {e} p h = let i : conjoin x xs ≡ e = cc in rw (← i) (split_joined x p)

-- ---- what simplifying leaves

-- x has no more conjuncts than e, and is e or joined left-deep
pub record Simpler (e x : Expr) : Type 0 where
  pub few : length (split_conjunction x) ≤ length (split_conjunction e)
  pub same : conjunction (split_conjunction x) ≡ some e → x ≡ e

pub itself : (e : Expr) → Simpler e e
itself e = record { few = le_refl (length (split_conjunction e)); same = λ i. refl }

simpler : (e x : Expr) → simplify_filter e ≡ some x → Simpler e x
unfolding simplify_filter choose
simpler e x h = go (not (eqb (length (split_conjunction e)) (length new.predicates)) || new.changed) h
  where
    new : Reordered
    new = reorder_predicates (simplify_predicates (split_conjunction e))

    go : (b : Bool) → choose b (conjunction new.predicates) (some e) ≡ some x → Simpler e x
    go true k = let i = parts_are new.predicates (new_plain e) k in
        record { few = omega (arith, ap length i, new_few (split_conjunction e)); same = λ j. let m = ap conjunction i in cc }
    go false k = let i : e ≡ x = cc in rw i (itself x)

-- ---- Filter over TableScan, Projection, Aggregate, Window

parted : (f : Expr → Bool) (es : List Expr) → length (keep f es) + length (keep (λ x. not (f x)) es) ≡ length es
unfolding keep put
parted f [] = refl
parted f (x ∷ xs) = go (f x) (parted f xs)
  where
    go : (b : Bool) → length (keep f xs) + length (keep (λ x. not (f x)) xs) ≡ length xs
        → length (put b x (keep f xs)) + length (put (not b) x (keep (λ x. not (f x)) xs)) ≡ length (x ∷ xs)
    go true h = omega arith
    go false h = omega arith

some_in : {A : Type 0} (xs : List A) → is_empty xs ≡ false → 1 ≤ length xs
some_in [] h = no_yes (sym h)
some_in (x ∷ xs) h = omega arith

unmapped : {A B : Type 0} (f : A → B) (xs : List A) → map f xs ≡ [] → xs ≡ []
unmapped f [] h = refl
unmapped f (x ∷ xs) h = let z : ◌≡◌ {A = ℕ} 0 1 = cc in clash z

pub left_plain : (fs : List Field) (x : Expr) → Plain (unsupported_filters fs x ++ volatile_filters x)
left_plain fs x = All-append (All-keep _ (All-keep _ (split_plain x))) (All-keep _ (split_plain x))

module _ {e x : Expr} (w : Simpler e x) where
  -- what a scan takes is missing above it
  pub scan_was : (t : ℕ) (fs : List Field) (es : List Expr) → Plain (unsupported_filters fs x ++ volatile_filters x)
      → (rewrite_filter x (scan t fs es)).plan ≡ filter e (scan t fs es) → (x ≡ e) × (supported_filters fs x ≡ [])
  unfolding rewrite_filter rewrite_scan choose
  scan_was t fs es plain h = go (is_empty (supported_filters fs x)) refl h
    where
      above : List Expr
      above = unsupported_filters fs x ++ volatile_filters x

      go : (b : Bool) → is_empty (supported_filters fs x) ≡ b
          → (choose b (transformed_no (filter x (scan t fs es)))
          (transformed_yes (with_filters above (scan t fs (unique (es ++ supported_filters fs x)))))).plan ≡ filter e (scan t fs es)
          → (x ≡ e) × (supported_filters fs x ≡ [])
      go true n k = (cc, none_in (supported_filters fs x) n)
      go false n k =
          let o = over_list above refl k in
          let i = parts_are above plain o.joined in
          absurd (omega (
            arith,
            ap length i,
            w.few,
            length-append (unsupported_filters fs x) (volatile_filters x),
            some_in (supported_filters fs x) n,
            parted (supports_pushdown fs) (non_volatile_filters x),
            parted is_volatile_expr (split_conjunction x),
          ))

  -- what moves below a plan is a Filter over its input
  pub pushed_was : (f : Plan → Plan) (q : Plan) (push : Expr → Bool) → ((p : Plan) → is_filter (f p) ≡ false)
      → ((p r : Plan) → f p ≡ f r → p ≡ r) → (pushed f q (stay push x) (move push x)).plan ≡ filter e (f q)
      → (x ≡ e) × ((length (move push x) ≡ 0) × LeftDeep e)
  pushed_was f q push other inj h =
      let o = over_list (stay push x) (other _) h in
      let m = unmapped _ (move push x) (none_over _ q (inj _ q o.same)) in
      let j : conjunction (split_conjunction x) ≡ some e = ap conjunction (sym (all_left push (split_conjunction x) m)) ∙ o.joined in
      let same = w.same j in
      (same, (ap length m, ap (λ y. conjunction (split_conjunction y)) (sym same) ∙ j))

  pub aggregate_was : (gs : List Entry) (ags : List AggEntry) (q : Plan)
      → (rewrite_filter x (aggregate gs ags q)).plan ≡ filter e (aggregate gs ags q) → (x ≡ e) × ((length (move (in_groups gs) x) ≡ 0) × LeftDeep e)
  aggregate_was gs ags q h =
      pushed_was (aggregate gs ags) q (in_groups gs) (λ p. refl) (λ p r i. cc)
      (ap (λ (t : Transformed). t.plan) (sym (aggregate_pushed x gs ags q)) ∙ h)

  pub window_was : (ws : List WinEntry) (q : Plan) → (rewrite_filter x (window ws q)).plan ≡ filter e (window ws q)
      → (x ≡ e) × ((length (move (on_cols (may_move (plan_tree (window ws q)))) x) ≡ 0) × LeftDeep e)
  window_was ws q h =
      pushed_was (window ws) q _ (λ p. refl) (λ p r i. cc) (ap (λ (t : Transformed). t.plan) (sym (window_pushed x ws q)) ∙ h)

  pub project_was : (es : List Entry) (q : Plan) → (rewrite_filter x (project es q)).plan ≡ filter e (project es q)
      → (x ≡ e) × (length (move (on_cols (may_move (plan_tree (project es q)))) x) ≡ 0)
  project_was es q h = go (eqb (length (move (on_cols (may_move (plan_tree (project es q)))) x)) 0) refl
    where
      moved : ℕ
      moved = length (move (on_cols (may_move (plan_tree (project es q)))) x)

      go : (b : Bool) → eqb moved 0 ≡ b → (x ≡ e) × (moved ≡ 0)
      go true b =
          let z = eqb-true moved 0 b in
          let k : filter x (project es q) ≡ filter e (project es q) = ap (λ (t : Transformed). t.plan) (sym (project_kept x es q z)) ∙ h in
          (cc, z)
      go false b =
          let k = ap (λ (t : Transformed). t.plan) (sym (project_pushed x es q (eqb-false moved 0 b))) ∙ h in
          let u = pushed_was (project es) q _ (λ p. refl) (λ p r i. cc) k in
          (u.0, u.1.0)

-- ---- Join

-- the predicates P above a join, and G of its own, do not move, and its filter is G joined
pub record Unmoved (k : Kind) (l r : Plan) (on : List Pair) (P G : List Expr) (f : Option Expr) : Type 0 where
  pub unmoved : nothing_moves k (schema l) (schema r) on P G ≡ true
  pub own : conjunction G ≡ f

module _ (k : Kind) (l r : Plan) (on : List Pair) (P G : List Expr) where
  abbrev C : List Expr
  C = join_conditions k (schema l) (schema r) on P G

  abbrev L : List Expr
  L = left_push k (schema l) (schema r) on P G

  abbrev R : List Expr
  R = right_push k (schema l) (schema r) on P G

  abbrev O : List Expr
  O = on_filter_join_conditions k (schema l) (schema r) on P G

  unmoved_of : {f : Option Expr} → C ≡ [] → join k (with_filters L l) (with_filters R r) on (conjunction (C ++ O)) ≡ join k l r on f
      → Unmoved k l r on P G f
  unfolding ◌&◌
  unmoved_of {f} c h =
      let i : with_filters L l ≡ l = cc in
      let j : with_filters R r ≡ r = cc in
      let m : conjunction (C ++ O) ≡ f = cc in
      let u : nothing_moves k (schema l) (schema r) on P G ≡ true =
      and_intro (ap is_empty c) (and_intro (ap is_empty (none_over L l i)) (ap is_empty (none_over R r j))) in
      record { unmoved = u; own = ap conjunction (sym (own_all k (schema l) (schema r) on P G u)) ∙ ap (λ z. conjunction (z ++ O)) (sym c) ∙ m }

-- a Filter over it
pub over_join_was : (k : Kind) (l r : Plan) (on : List Pair) (f : Option Expr) {e x : Expr} → Simpler e x
    → (rewrite_filter x (join k l r on f)).plan ≡ filter e (join k l r on f)
    → (x ≡ e) × (LeftDeep e × Unmoved k l r on (split_conjunction x) (split_conjunction? f) f)
unfolding rewrite_filter push_down_all_join conjunction
over_join_was k l r on f {e} {x} w h =
    let P = split_conjunction x in
    let G = split_conjunction? f in
    let s = schema l in
    let t = schema r in
    let o = over_list (keep_predicates k s t on P G) refl h in
    let u = unmoved_of k l r on P G (no_conditions (is_inner k) (unpushed k s t on P G) o.joined) o.same in
    let j : conjunction P ≡ some e = ap conjunction (sym (kept_all k s t on P G u.unmoved)) ∙ o.joined in
    let same = w.same j in
    (same, (ap (λ y. conjunction (split_conjunction y)) (sym same) ∙ j, u))
  where
    -- of an Inner join nothing stays above
    no_conditions : {e : Expr} (b : Bool) (us : List Expr) → conjunction (if_list (not b) us) ≡ some e → if_list b us ≡ []
    no_conditions true us k = let z : ◌≡◌ {A = ℕ} 0 1 = cc in clash z
    no_conditions false us k = refl

-- the Join itself
pub join_was : (k : Kind) (l r : Plan) (on : List Pair) (f : Option Expr) → (push_down_join k l r on f []).plan ≡ join k l r on f
    → Unmoved k l r on [] (split_conjunction? f) f
unfolding push_down_all_join push_not keep with_filters
join_was k l r on f h =
    let G = split_conjunction? f in
    let s = schema l in
    let t = schema r in
    unmoved_of k l r on [] G (nothing_of (is_inner k))
    (ap (λ us. with_filters us (join k (with_filters (L k l r on [] G) l) (with_filters (R k l r on [] G) r) on
    (conjunction (C k l r on [] G ++ O k l r on [] G)))) (sym (nothing_of (not (is_inner k)))) ∙ h)
  where
    nothing_of : (b : Bool) → if_list b [] ≡ []
    nothing_of true = refl
    nothing_of false = refl

-- ---- Filter over any plan

-- under a list of conjuncts over what is no Filter there is none
once : (us : List Expr) (q : Plan) {r : Plan} {a b : Expr} → is_filter q ≡ false → with_filters us q ≡ filter a (filter b r) → ⊥
once us q o h = no_yes (sym o ∙ ap is_filter (over_list us o h).same)

once_or : (t : Bool) (q u : Plan) {r : Plan} (x : Expr) {a b : Expr} (us : List Expr) → is_filter q ≡ false → is_filter u ≡ false
    → (choose t (transformed_no (filter x q)) (transformed_yes (with_filters us u))).plan ≡ filter a (filter b r) → ⊥
unfolding choose
once_or true q u {r} x {a} {b} us o n h = let i : q ≡ filter b r = cc in no_yes (sym o ∙ ap is_filter i)
once_or false q u x us o n h = once us u n h

smaller : (e : Expr) (q r : Plan) → size_p (filter e q) ≤ size_p r → size_p q ≤ size_p r
smaller e q r h = omega (arith, size_filter e q)

-- no plan is so deep in itself
no_deeper : (a b : Expr) (p r : Plan) → size_p p ≤ size_p r → p ≡ filter a (filter b r) → ⊥
no_deeper a b p r n h = omega (arith, ap size_p h, size_filter a (filter b r), size_filter b r)

-- what becomes of a Filter is no Filter over a Filter over something as large as its input
never_twice : (p : Plan) (x a b : Expr) (r : Plan) → size_p p ≤ size_p r → (rewrite_filter x p).plan ≡ filter a (filter b r) → ⊥
unfolding rewrite_filter rewrite_scan rewrite_projection rewrite_aggregate rewrite_window push_down_all_join
never_twice (scan t fs es) x a b r n h = once_or (is_empty (supported_filters fs x)) _ _ x _ refl refl h
never_twice (filter c p) x a b r n h =
    go (simplify_merged (conjunction (merged x c))) (λ y. never_twice p y a b r (smaller c p r n)) h
  where
    go : (o : Option Expr) → ((y : Expr) → (rewrite_filter y p).plan ≡ filter a (filter b r) → ⊥)
        → (resume o (λ y. rewrite_filter y p) p).plan ≡ filter a (filter b r) → ⊥
    go none f k = no_deeper a b p r (smaller c p r n) k
    go (some y) f k = f y k
never_twice (project es p) x a b r n h = once_or (is_empty (move (pushable es) x)) _ _ x _ refl refl h
never_twice (join k l q on f) x a b r n h = once _ _ refl h
never_twice (alias i p) x a b r n h = let z : ◌≡◌ {A = ℕ} 0 1 = cc in clash z
never_twice (union ps) x a b r n h = let z : ◌≡◌ {A = ℕ} 0 1 = cc in clash z
never_twice (distinct p) x a b r n h = let z : ◌≡◌ {A = ℕ} 0 1 = cc in clash z
never_twice (sort none ks p) x a b r n h = let z : ◌≡◌ {A = ℕ} 0 1 = cc in clash z
never_twice (sort (some i) ks p) x a b r n h = let z : ◌≡◌ {A = ℕ} 0 1 = cc in clash z
never_twice (repartition p) x a b r n h = let z : ◌≡◌ {A = ℕ} 0 1 = cc in clash z
never_twice (limit i j p) x a b r n h = let z : ◌≡◌ {A = ℕ} 0 1 = cc in clash z
never_twice (aggregate gs ags p) x a b r n h = once _ _ refl h
never_twice (window ws p) x a b r n h = once _ _ refl h

-- over a plan over which it may not stay
goes : (q : Plan) (e x : Expr) → may_stay (label_p q) ≡ false → (rewrite_filter x q).plan ≡ filter e q → ⊥
unfolding label_p rewrite_filter push_down_all_join with_filters
goes (scan t fs es) e x m h = no_yes (sym m)
goes (filter b p) e x m h = go (simplify_merged (conjunction (merged x b))) h
  where
    go : (o : Option Expr) → (resume o (λ y. rewrite_filter y p) p).plan ≡ filter e (filter b p) → ⊥
    go none k = no_deeper e b p p (le_refl (size_p p)) k
    go (some y) k = never_twice p y e b p (le_refl (size_p p)) k
goes (project es p) e x m h = no_yes (sym m)
goes (join inner l r on f) e x m h = let z : ◌≡◌ {A = ℕ} 0 1 = cc in clash z
goes (join left l r on f) e x m h = no_yes (sym m)
goes (join right l r on f) e x m h = no_yes (sym m)
goes (join full l r on f) e x m h = no_yes (sym m)
goes (join left_semi l r on f) e x m h = no_yes (sym m)
goes (join right_semi l r on f) e x m h = no_yes (sym m)
goes (join left_anti l r on f) e x m h = no_yes (sym m)
goes (join right_anti l r on f) e x m h = no_yes (sym m)
goes (alias i p) e x m h = let z : ◌≡◌ {A = ℕ} 0 1 = cc in clash z
goes (union ps) e x m h = let z : ◌≡◌ {A = ℕ} 0 1 = cc in clash z
goes (distinct p) e x m h = let z : ◌≡◌ {A = ℕ} 0 1 = cc in clash z
goes (sort none ks p) e x m h = let z : ◌≡◌ {A = ℕ} 0 1 = cc in clash z
goes (sort (some i) ks p) e x m h = no_yes (sym m)
goes (repartition p) e x m h = let z : ◌≡◌ {A = ℕ} 0 1 = cc in clash z
goes (limit i j p) e x m h = no_yes (sym m)
goes (aggregate gs ags p) e x m h = no_yes (sym m)
goes (window ws p) e x m h = no_yes (sym m)

pub may_not_stay : (e : Expr) (q : Plan) → may_stay (label_p q) ≡ false → (rewrite (filter e q)).plan ≡ filter e q → ⊥
unfolding rewrite
may_not_stay e q m h = go (simplify_filter e) h
  where
    go : (o : Option Expr) → (resume o (λ x. rewrite_filter x q) q).plan ≡ filter e q → ⊥
    go none k = no_self e q k
    go (some x) k = goes q e x m k

-- over any other its predicate is as it was
predicate_was : (q : Plan) {e x : Expr} → is_filter q ≡ false → Simpler e x → (rewrite_filter x q).plan ≡ filter e q → x ≡ e
unfolding rewrite_filter
predicate_was (scan t fs es) {x = x} o w h = (scan_was w t fs es (left_plain fs x) h).0
predicate_was (filter b p) o w h = no_yes (sym o)
predicate_was (project es p) o w h = (project_was w es p h).0
predicate_was (join k l r on f) o w h = (over_join_was k l r on f w h).0
predicate_was (alias i p) o w h = let z : ◌≡◌ {A = ℕ} 0 1 = cc in clash z
predicate_was (union ps) o w h = let z : ◌≡◌ {A = ℕ} 0 1 = cc in clash z
predicate_was (distinct p) o w h = let z : ◌≡◌ {A = ℕ} 0 1 = cc in clash z
predicate_was (sort none ks p) o w h = let z : ◌≡◌ {A = ℕ} 0 1 = cc in clash z
predicate_was (sort (some i) ks p) o w h = cc
predicate_was (repartition p) o w h = let z : ◌≡◌ {A = ℕ} 0 1 = cc in clash z
predicate_was (limit i j p) o w h = cc
predicate_was (aggregate gs ags p) o w h = (aggregate_was w gs ags p h).0
predicate_was (window ws p) o w h = (window_was w ws p h).0

pub simple_was : (e : Expr) (q : Plan) → is_filter q ≡ false → (rewrite (filter e q)).plan ≡ filter e q → simplify_filter e ≡ some e
unfolding rewrite
simple_was e q o h = go (simplify_filter e) refl h
  where
    go : (u : Option Expr) → simplify_filter e ≡ u → (resume u (λ x. rewrite_filter x q) q).plan ≡ filter e q → simplify_filter e ≡ some e
    go none i k = absurd (no_self e q k)
    go (some x) i k = i ∙ ap some (predicate_was q o (simpler e x i) k)
