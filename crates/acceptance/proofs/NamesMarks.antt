-- Test 6 finds nothing exactly if the plan keeps the name rules.
use Prim.Native.Nat.{ℕ, suc}
use mathlib.Core.Path.{◌≡◌, refl}
use mathlib.Core.Logic.{◌↔◌}
use mathlib.Core.Bool.{Bool, true, false, ◌||◌, cond, true≢false}
use mathlib.Core.List.{List, [], ◌∷◌, ◌++◌}
use mathlib.Core.Option.{Option, none, some}
use lib.Dec.{eqb}
use Rattle.std.specs.Prelude.{None}
use Rattle.plan.specs.Lists.{all, any}
use Rattle.plan.proofs.Lists.{and_l, and_r, and_intro, and_assoc, and_true, true_and, all_append, all_flat, all_map, all_true}
use Rattle.plan.specs.Syntax.{Name, Expr, col, num, bool, nul, bin, neg, test, between, inlist, fn, Exprs, enil, econs, Plan, scan, filter}
use Rattle.plan.specs.Syntax.{project, join, alias, union, distinct, sort, repartition, limit, aggregate, window, Plans, pnil, pcons}
use Rattle.plan.specs.Schema.{same, has, schema, nodup}
use Rattle.plan.specs.Columns.{on_cols, on_cols_all}
use Rattle.plan.proofs.Names.{same_eq, not_true}
use Rattle.acceptance.specs.Marks.{marks_in, marks_in_all, marks_in?, marks_of, marks_of_all}
use Rattle.acceptance.specs.Names.{holders, one_field, sound, sound_inputs, sound_plan, name_rules, names_in, names_of, bad_name}
use Rattle.acceptance.proofs.Marks.{kept, none_false, all_kept}
use Rattle.acceptance.proofs.NamesRule.{names_nodup, rule_sound}
use Rattle.acceptance.specs.NamesRule.{reads, reads?, rule, rule_all, names_rule}

-- ---- in a sound schema a name has one holder exactly if it is there

no_holder : (s : List Name) (x : Name) → has s x ≡ false → holders s x ≡ 0
unfolding holders any
no_holder [] x h = refl
no_holder (y ∷ s) x h = go (same y x) h (no_holder s x)
  where
    go : (b : Bool) → b || has s x ≡ false → (has s x ≡ false → holders s x ≡ 0) → cond b (suc (holders s x)) (holders s x) ≡ 0
    go true h k = absurd (true≢false h)
    go false h k = k h

one_holder : (s : List Name) → nodup s ≡ true → (x : Name) → eqb (holders s x) 1 ≡ has s x
unfolding holders any
one_holder [] n x = refl
one_holder (y ∷ s) n x = go (same y x) refl (one_holder s (and_r _ _ n) x)
  where
    go : (b : Bool) → same y x ≡ b → eqb (holders s x) 1 ≡ has s x → eqb (cond b (suc (holders s x)) (holders s x)) 1 ≡ b || has s x
    go true e k = rw (no_holder s x (rw (same_eq y x e) at (not_true (has s y) (and_l _ _ n))))
    go false e k = k

-- the references of the schema s each name one field exactly if s has them
abbrev Single : List Name → Type 0
Single s = (x : Name) → eqb (holders s x) 1 ≡ has s x

single : (s : List Name) → sound s ≡ true → Single s
single s h = one_holder s (names_nodup s h)

single_in : (p : Plan) → names_rule p ≡ true → Single (schema p)
single_in p h = single (schema p) (rule_sound (λ a b. true) p h)

-- ---- expressions

module _ (s : List Name) (n : Single s) where
  mutual
    unfolding marks_in one_field all on_cols

    reads_kept : (e : Expr) → kept (names_in s e) ≡ reads s e
    reads_kept (col x) = simp (n x, and_true)
    reads_kept (num z) = true_and true
    reads_kept (bool b) = true_and true
    reads_kept (nul t) = true_and true
    reads_kept (bin o a b) = simp (true_and, all_append, reads_kept a, reads_kept b)
    reads_kept (neg a) = simp (true_and, reads_kept a)
    reads_kept (test t a) = simp (true_and, reads_kept a)
    reads_kept (between n a l u) = simp (true_and, all_append, and_assoc, reads_kept a, reads_kept l, reads_kept u)
    reads_kept (inlist n a xs) = simp (true_and, all_append, reads_kept a, reads_kept_all xs)
    reads_kept (fn p q r xs) = simp (true_and, reads_kept_all xs)

    reads_kept_all : (xs : Exprs) → kept (marks_in_all (one_field s) xs) ≡ on_cols_all (has s) xs
    reads_kept_all enil = refl
    reads_kept_all (econs x xs) = simp (all_append, reads_kept x, reads_kept_all xs)

  reads_kept? : (f : Option Expr) → kept (marks_in? (one_field s) f) ≡ reads? s f
  unfolding all
  reads_kept? none = refl
  reads_kept? (some e) = reads_kept e

-- ---- plans

sound_own : (p : Plan) → names_rule p ≡ true → sound_inputs p ≡ true → sound_plan p ≡ true
unfolding sound_plan
sound_own p h i = and_intro (rule_sound (λ a b. true) p h) i

-- what the marks say, plan by plan; an input keeps the rules, so its schema is sound, and its references are settled by `reads_kept`
mutual
  unfolding marks_of all rule schema sound_plan one_field

  names_kept : (p : Plan) → kept (names_of p) ≡ true → names_rule p ≡ true
  names_kept (scan t fs es) h =
      let g = simp (all_append, all_map, all_true, true_and, all_flat) at h in
      let s = and_l _ _ (and_l _ _ g) in
      and_intro s (simp (reads_kept (schema (scan t fs es)) (single _ s)) at (and_r _ _ g))
  names_kept (filter e p) h =
      let g = simp all_append at h in
      let k = names_kept p (and_r _ _ (and_r _ _ g)) in
      and_intro (simp (reads_kept (schema p) (single_in p k)) at (and_l _ _ (and_r _ _ g))) k
  names_kept (project es p) h =
      let g = simp (all_append, all_flat, true_and) at h in
      let k = names_kept p (and_r _ _ (and_r _ _ g)) in
      and_intro (and_l _ _ (and_l _ _ g)) (and_intro (simp (reads_kept (schema p) (single_in p k)) at (and_l _ _ (and_r _ _ g))) k)
  names_kept (join k l r on f) h =
      let g = simp (all_append, all_flat, true_and) at h in
      let b = and_r _ _ (and_l _ _ g) in
      let i = and_l _ _ (and_l _ _ (and_r _ _ g)) in
      let kl = names_kept l (and_l _ _ i) in
      let kr = names_kept r (and_r _ _ i) in
      let pairs = and_r _ _ (and_l _ _ (and_r _ _ g)) in
      let keys = simp (reads_kept (schema l) (single_in l kl), reads_kept (schema r) (single_in r kr)) at pairs in
      let own = simp (reads_kept? (schema l ++ schema r) (single _ b)) at (and_r _ _ (and_r _ _ g)) in
      and_intro b (and_intro keys (and_intro own (and_intro kl kr)))
  names_kept (alias q p) h = and_intro (and_l _ _ (and_l _ _ h)) (names_kept p (and_r _ _ h))
  names_kept (union ps) h = names_kept_all _ ps (and_r _ _ h)
  names_kept (distinct p) h = names_kept p (and_r _ _ h)
  names_kept (sort f ks p) h =
      let g = simp (all_append, all_flat, true_and) at h in
      let k = names_kept p (and_r _ _ (and_r _ _ g)) in
      and_intro (simp (reads_kept (schema p) (single_in p k)) at (and_l _ _ (and_r _ _ g))) k
  names_kept (repartition p) h = names_kept p (and_r _ _ h)
  names_kept (limit n k p) h = names_kept p (and_r _ _ h)
  names_kept (aggregate gs ags p) h =
      let g = simp (all_append, all_flat, true_and) at h in
      let k = names_kept p (and_r _ _ (and_r _ _ g)) in
      let parts = simp (reads_kept (schema p) (single_in p k)) at (and_l _ _ (and_r _ _ g)) in
      and_intro (and_l _ _ (and_l _ _ g)) (and_intro (and_l _ _ parts) (and_intro (and_r _ _ parts) k))
  names_kept (window ws p) h =
      let g = simp (all_append, all_flat, all_map, true_and) at h in
      let k = names_kept p (and_r _ _ (and_r _ _ g)) in
      let parts = simp (reads_kept (schema p) (single_in p k), single_in p k) at (and_l _ _ (and_r _ _ g)) in
      and_intro (and_l _ _ (and_l _ _ g)) (and_intro parts k)

  names_kept_all : (n : ℕ) (ps : Plans) → kept (marks_of_all name_rules ps) ≡ true → rule_all (λ a b. true) n ps ≡ true
  names_kept_all n pnil h = refl
  names_kept_all n (pcons p ps) h =
      let g = simp all_append at h in
      and_intro refl (and_intro (names_kept p (and_l _ _ g)) (names_kept_all n ps (and_r _ _ g)))

-- and back
mutual
  unfolding marks_of all rule schema one_field

  kept_names : (p : Plan) → names_rule p ≡ true → kept (names_of p) ≡ true
  kept_names (scan t fs es) h =
      simp (all_append, all_map, all_true, true_and, all_flat, reads_kept (schema (scan t fs es)) (single_in (scan t fs es) h))
      (and_intro (sound_own (scan t fs es) h refl) (and_r _ _ h))
  kept_names (filter e p) h =
      let k = and_r _ _ h in
      simp (all_append, reads_kept (schema p) (single_in p k))
      (and_intro (sound_own (filter e p) h refl) (and_intro (and_l _ _ h) (kept_names p k)))
  kept_names (project es p) h =
      let k = and_r _ _ (and_r _ _ h) in
      simp (all_append, all_flat, true_and, reads_kept (schema p) (single_in p k))
      (and_intro (sound_own (project es p) h refl) (and_intro (and_l _ _ (and_r _ _ h)) (kept_names p k)))
  kept_names (join k l r on f) h =
      let b = and_l _ _ h in
      let i = and_r _ _ (and_r _ _ h) in
      let hl = and_l _ _ (and_r _ _ i) in
      let hr = and_r _ _ (and_r _ _ i) in
      simp (
        all_append,
        all_flat,
        true_and,
        reads_kept (schema l) (single_in l hl),
        reads_kept (schema r) (single_in r hr),
        reads_kept? (schema l ++ schema r) (single _ b),
      )
      (and_intro (sound_own (join k l r on f) h b)
      (and_intro (and_intro (and_intro (kept_names l hl) (kept_names r hr)) (and_l _ _ (and_r _ _ h))) (and_l _ _ i)))
  kept_names (alias q p) h = and_intro (sound_own (alias q p) h refl) (kept_names p (and_r _ _ h))
  kept_names (union ps) h = and_intro (sound_own (union ps) h refl) (kept_names_all _ ps h)
  kept_names (distinct p) h = and_intro (sound_own (distinct p) h refl) (kept_names p h)
  kept_names (sort f ks p) h =
      let k = and_r _ _ h in
      simp (all_append, all_flat, true_and, reads_kept (schema p) (single_in p k))
      (and_intro (sound_own (sort f ks p) h refl) (and_intro (and_l _ _ h) (kept_names p k)))
  kept_names (repartition p) h = and_intro (sound_own (repartition p) h refl) (kept_names p h)
  kept_names (limit n k p) h = and_intro (sound_own (limit n k p) h refl) (kept_names p h)
  kept_names (aggregate gs ags p) h =
      let i = and_r _ _ h in
      let k = and_r _ _ (and_r _ _ i) in
      simp (all_append, all_flat, true_and, reads_kept (schema p) (single_in p k))
      (and_intro (sound_own (aggregate gs ags p) h refl) (and_intro (and_intro (and_l _ _ i) (and_l _ _ (and_r _ _ i))) (kept_names p k)))
  kept_names (window ws p) h =
      let k = and_r _ _ (and_r _ _ h) in
      simp (all_append, all_flat, all_map, true_and, reads_kept (schema p) (single_in p k), single_in p k)
      (and_intro (sound_own (window ws p) h refl) (and_intro (and_l _ _ (and_r _ _ h)) (kept_names p k)))

  kept_names_all : (n : ℕ) (ps : Plans) → rule_all (λ a b. true) n ps ≡ true → kept (marks_of_all name_rules ps) ≡ true
  kept_names_all n pnil h = refl
  kept_names_all n (pcons p ps) h =
      let k = and_r _ _ h in
      simp all_append (and_intro (kept_names p (and_l _ _ k)) (kept_names_all n ps (and_r _ _ k)))

-- ---- the test

-- test 6 finds nothing in a plan exactly if the plan keeps the name rules
pub names_iff : (p : Plan) → (bad_name p ≡ None) ↔ (names_rule p ≡ true)
unfolding bad_name
names_iff p = ((λ h. names_kept p (none_false 0 _ h)), (λ h. all_kept 0 _ (kept_names p h)))
