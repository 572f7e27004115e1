-- What follows from the name rules of a plan: its schemas repeat no name.
use Prim.Native.Nat.{ℕ}
use mathlib.Core.Path.{◌≡◌, refl}
use mathlib.Core.Bool.{Bool, true, false, not, ◌||◌}
use mathlib.Core.List.{List, [], ◌∷◌, ◌++◌}
use lib.Dec.{eqb}
use borrow.Author.Tests.{eqb-true, eq-eqb}
use Rattle.plan.specs.Lists.{◌&◌, any}
use Rattle.plan.proofs.Lists.{and_l, and_r, and_intro}
use Rattle.plan.specs.Syntax.{Name, nm, Kind, inner, left, right, full, left_semi}
use Rattle.plan.specs.Syntax.{right_semi, left_anti, right_anti, Plan, scan, filter, project, join, alias, union, distinct, sort, repartition}
use Rattle.plan.specs.Syntax.{limit, aggregate, window, Plans, pnil, pcons}
use Rattle.plan.specs.Schema.{same, schema, schema_first, sides, has, nodup}
use Rattle.acceptance.specs.Names.{clash, distinct_names, sound}
use Rattle.acceptance.specs.NamesRule.{rule, rule_all, names_rule, ok, ok_all}

-- ---- no schema repeats a name

clash_same : (x y : Name) → same y x ≡ true → clash x y ≡ true
unfolding ◌&◌
clash_same (nm q n) (nm r m) h = rw (eqb-true r q (and_l _ _ h), eqb-true m n (and_r (eqb r q) _ h), eq-eqb n n refl, eq-eqb q q refl)

no_clash : (x : Name) (s : List Name) → not (any (clash x) s) ≡ true → not (has s x) ≡ true
unfolding any
no_clash x [] h = refl
no_clash x (y ∷ s) h = go (same y x) refl (clash x y) refl h (no_clash x s)
  where
    go : (b : Bool) → same y x ≡ b → (c : Bool) → clash x y ≡ c → not (c || any (clash x) s) ≡ true
        → (not (any (clash x) s) ≡ true → not (has s x) ≡ true) → not (b || has s x) ≡ true
    go true e true f h k = h
    go true e false f h k = cc (clash_same x y e)
    go false e true f h k = cc
    go false e false f h k = k h

distinct_nodup : (s : List Name) → distinct_names s ≡ true → nodup s ≡ true
distinct_nodup [] h = refl
distinct_nodup (x ∷ s) h = and_intro (no_clash x s (and_l _ _ h)) (distinct_nodup s (and_r _ _ h))

pub names_nodup : (s : List Name) → sound s ≡ true → nodup s ≡ true
unfolding sound
names_nodup s h = distinct_nodup s (and_l _ _ h)

-- ---- a plan that keeps the rules has a sound schema

sides_sound : (k : Kind) (s t : List Name) → sound (s ++ t) ≡ true → sound s ≡ true → sound t ≡ true → sound (sides k s t) ≡ true
sides_sound inner s t h hs ht = h
sides_sound left s t h hs ht = h
sides_sound right s t h hs ht = h
sides_sound full s t h hs ht = h
sides_sound left_semi s t h hs ht = hs
sides_sound right_semi s t h hs ht = ht
sides_sound left_anti s t h hs ht = hs
sides_sound right_anti s t h hs ht = ht

sound_none : sound [] ≡ true
unfolding sound ◌&◌
sound_none = refl

module _ (w : ℕ → ℕ → Bool) where
  mutual
    unfolding rule schema

    pub rule_sound : (p : Plan) → rule w p ≡ true → sound (schema p) ≡ true
    rule_sound (scan t fs es) h = and_l _ _ h
    rule_sound (filter e p) h = rule_sound p (and_r _ _ h)
    rule_sound (project es p) h = and_l _ _ h
    rule_sound (join k l r on f) h =
        let h' = and_r _ _ (and_r _ _ (and_r _ _ h)) in
        sides_sound k _ _ (and_l _ _ h) (rule_sound l (and_l _ _ h')) (rule_sound r (and_r _ _ h'))
    rule_sound (alias q p) h = and_l _ _ h
    rule_sound (union ps) h = rule_sound_first ps _ h
    rule_sound (distinct p) h = rule_sound p h
    rule_sound (sort f ks p) h = rule_sound p (and_r _ _ h)
    rule_sound (repartition p) h = rule_sound p h
    rule_sound (limit n k p) h = rule_sound p h
    rule_sound (aggregate gs ags p) h = and_l _ _ h
    rule_sound (window ws p) h = and_l _ _ h

    rule_sound_first : (ps : Plans) (n : ℕ) → rule_all w n ps ≡ true → sound (schema_first ps) ≡ true
    rule_sound_first pnil n h = sound_none
    rule_sound_first (pcons p ps) n h = rule_sound p (and_l _ _ (and_r _ _ h))

pub ok_nodup : (p : Plan) → ok p ≡ true → nodup (schema p) ≡ true
ok_nodup p h = names_nodup _ (rule_sound eqb p h)

-- ---- what rows need has the rules of test 6

mutual
  unfolding rule

  pub ok_names : (p : Plan) → ok p ≡ true → names_rule p ≡ true
  ok_names (scan t fs es) h = h
  ok_names (filter e p) h = and_intro (and_l _ _ h) (ok_names p (and_r _ _ h))
  ok_names (project es p) h = and_intro (and_l _ _ h) (and_intro (and_l _ _ (and_r _ _ h)) (ok_names p (and_r _ _ (and_r _ _ h))))
  ok_names (join k l r on f) h =
      let i = and_r _ _ (and_r _ _ h) in
      let inputs = and_intro (ok_names l (and_l _ _ (and_r _ _ i))) (ok_names r (and_r _ _ (and_r _ _ i))) in
      and_intro (and_l _ _ h) (and_intro (and_l _ _ (and_r _ _ h)) (and_intro (and_l _ _ i) inputs))
  ok_names (alias q p) h = and_intro (and_l _ _ h) (ok_names p (and_r _ _ h))
  ok_names (union ps) h = ok_names_all ps _ h
  ok_names (distinct p) h = ok_names p h
  ok_names (sort f ks p) h = and_intro (and_l _ _ h) (ok_names p (and_r _ _ h))
  ok_names (repartition p) h = ok_names p h
  ok_names (limit n k p) h = ok_names p h
  ok_names (aggregate gs ags p) h =
      let i = and_r _ _ (and_r _ _ h) in
      and_intro (and_l _ _ h) (and_intro (and_l _ _ (and_r _ _ h)) (and_intro (and_l _ _ i) (ok_names p (and_r _ _ i))))
  ok_names (window ws p) h = and_intro (and_l _ _ h) (and_intro (and_l _ _ (and_r _ _ h)) (ok_names p (and_r _ _ (and_r _ _ h))))

  ok_names_all : (ps : Plans) (n : ℕ) → ok_all n ps ≡ true → rule_all (λ a b. true) n ps ≡ true
  ok_names_all pnil n h = refl
  ok_names_all (pcons p ps) n h =
      and_intro refl (and_intro (ok_names p (and_l _ _ (and_r _ _ h))) (ok_names_all ps n (and_r _ _ (and_r _ _ h))))
