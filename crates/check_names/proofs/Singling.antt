-- A schema is sound just if each field clashes with one field of it, itself, and there are not too many: what the code asks of a plan's
-- children
-- is the rule of the plan.
-- Assumes nothing.
use mathlib.Core.Path.{◌≡◌, refl, sym, ap, ◌∙◌}
use mathlib.Core.Bool.{Bool, true, false, cond, not, ◌&&◌, ◌||◌}
use mathlib.Core.Logic.{◌⊎◌, inl, inr}
use mathlib.Core.List.{List, [], ◌∷◌, ◌++◌, map, append-nil}
use Prim.Native.Nat.{ℕ, zero, suc, ◌+◌, ◌-◌, ◌≤◌, ◌<◌}
use native.Mathlib.Omega.{arith}
use lib.Dec.{eqb, leb}
use lib.ListN.{length, length-append}
use borrow.Author.Tests.{eq-eqb, ne_eqb, le-leb, leb-true, eqb-true, eqb-false}
use Rattle.check_fields.specs.declared.questions.Question.{Question}
use Rattle.check_fields.specs.declared.questions.Question.TheVariants.{ByName, Clashing, Nothing}
use Rattle.std.specs.Prelude.{Some}
use Rattle.image.specs.Limits.{max_fields}
use Rattle.image.specs.Tree.{Forest, none, node}
use Rattle.plan.specs.Lists.{◌&◌, any}
use Rattle.plan.proofs.Lists.{and_l, and_r, and_intro, and_true, true_and, and_false}
use Rattle.plan.specs.Kinds as K
use Rattle.plan.specs.Kinds.{What, expr, plan, part, unknown, what}
use Rattle.plan.specs.FieldSources.{own}
use Rattle.plan.specs.declared.field_sources.Role.{Role}
use Rattle.plan.specs.declared.field_sources.Role.TheVariants.{NoPlan, Creates, Joins, Renames, Extends, Passes}
use Rattle.plan.specs.Syntax.{Name, nm, full, right_semi, right_anti}
use Rattle.plan.specs.Trees.{join_number}
use Rattle.acceptance.specs.Names.{clash, distinct_names, sound}
use Rattle.check_fields.specs.Count.{counted, hits, near}
use Rattle.check_fields.specs.Fields.{Fld, Schema, name_of, made, schema_made_by, inputs, requalify, join_fields, input, names_in}
use Rattle.check_fields.specs.Rules.{sound_by}
use Rattle.check_names.specs.Singles.{all_of, called, single, own_of, own_view, by_name, clashing, own_question, known_inputs, apart}
use Rattle.check_fields.proofs.Counting.{renamed, counted-++}

-- ---- tests of all names

-- the names of two schemas, one after the other
pub all_of-++ : (h : Name → Bool) (s t : Schema) → all_of h (s ++ t) ≡ all_of h s & all_of h t
unfolding all_of ◌&◌
all_of-++ h [] t = refl
all_of-++ h (f ∷ s) t = go (h f.name) (all_of-++ h s t)
  where
    go : (b : Bool) → all_of h (s ++ t) ≡ all_of h s & all_of h t → b & all_of h (s ++ t) ≡ (b & all_of h s) & all_of h t
    go true e = e
    go false e = refl

-- tests that agree
pub all_of_cong : (h k : Name → Bool) → ((x : Name) → h x ≡ k x) → (s : Schema) → all_of h s ≡ all_of k s
unfolding all_of
all_of_cong h k e [] = refl
all_of_cong h k e (f ∷ s) = rw (e f.name, all_of_cong h k e s) refl

-- and counts by questions that agree
counted_cong : (h k : Name → Bool) → ((x : Name) → h x ≡ k x) → (s : Schema) → counted h s ≡ counted k s
unfolding counted
counted_cong h k e [] = refl
counted_cong h k e (f ∷ s) = rw (e f.name, counted_cong h k e s) refl

-- an alias calls all by one qualifier
pub all_of_renamed : (h : Name → Bool) (p : ℕ) (s : Schema) → all_of h (map (requalify p) s) ≡ all_of (λ x. h (called (Some p) x)) s
unfolding all_of requalify
all_of_renamed h p [] = refl
all_of_renamed h p (f ∷ s) = step f.name (all_of_renamed h p s)
  where
    step : (x : Name) → all_of h (map (requalify p) s) ≡ all_of (λ x. h (called (Some p) x)) s
        → all_of h (map (requalify p) (record { name = x; ty = f.ty } ∷ s)) ≡ h (called (Some p) x) & all_of (λ x. h (called (Some p) x)) s
    step (nm r m) e = rw e refl

-- ---- clashes

eqb_sym : (a b : ℕ) → eqb a b ≡ eqb b a
eqb_sym a b = go (eqb b a) refl
  where
    go : (x : Bool) → eqb b a ≡ x → eqb a b ≡ x
    go true e = eq-eqb a b (sym (eqb-true b a e))
    go false e = ne_eqb a b (λ q. eqb-false b a e (sym q))

-- a clash is mutual
clash_sym : (x y : Name) → clash x y ≡ clash y x
unfolding ◌&◌
clash_sym (nm q n) (nm r m) = rw (eqb_sym n m, eqb_sym q r) (ap (λ (b : Bool). eqb m n & b) (swap (eqb r q) (eqb q 0) (eqb r 0)))
  where
    swap : (a b c : Bool) → (a || (b || c)) ≡ (a || (c || b))
    swap true b c = refl
    swap false true true = refl
    swap false true false = refl
    swap false false true = refl
    swap false false false = refl

-- a name clashes with itself
clash_self : (x : Name) → clash x x ≡ true
unfolding ◌&◌
clash_self (nm q n) = rw (eq-eqb n n refl, eq-eqb q q refl)

-- the question for clashes
asks_clash : (q n : ℕ) (x : Name) → hits (Clashing q n) x ≡ clash (nm q n) x
unfolding ◌&◌
asks_clash q n (nm r m) = rw (eqb_sym m n, eqb_sym r q) (go (eqb q r) (eqb r 0) (eqb q 0) (eqb n m))
  where
    go : (a b c d : Bool) → (((a || b) || c) && d) ≡ (d & (a || (c || b)))
    go true b c true = refl
    go true b c false = refl
    go false true true true = refl
    go false true true false = refl
    go false true false true = refl
    go false true false false = refl
    go false false true true = refl
    go false false true false = refl
    go false false false true = refl
    go false false false false = refl

-- the name clashes with one field
abbrev once : Schema → Name → Bool
once s x = eqb (counted (clash x) s) 1

-- no field of the rest clashes
none_any : (x : Name) (s : Schema) → not (any (clash x) (names_in s)) ≡ eqb (counted (clash x) s + 1) 1
unfolding any counted names_in
none_any x [] = refl
none_any x (f ∷ s) = go (clash x f.name) (none_any x s)
  where
    go : (b : Bool) → not (any (clash x) (names_in s)) ≡ eqb (counted (clash x) s + 1) 1
        → not (b || any (clash x) (names_in s)) ≡ eqb (cond b (counted (clash x) s + 1) (counted (clash x) s) + 1) 1
    go true e = sym (ne_eqb (counted (clash x) s + 1 + 1) 1 (λ q. omega arith))
    go false e = e

-- then it counts for none of the rest
same_all : (f : Fld) (t s : Schema) → any (clash f.name) (names_in s) ≡ false → all_of (once (f ∷ t)) s ≡ all_of (once t) s
unfolding any all_of counted names_in ◌&◌
same_all f t [] e = refl
same_all f t (g ∷ s) e = go (clash f.name g.name) refl (λ h. same_all f t s h) e
  where
    go : (b : Bool) → clash f.name g.name ≡ b
        → (any (clash f.name) (names_in s) ≡ false → all_of (once (f ∷ t)) s ≡ all_of (once t) s)
        → (b || any (clash f.name) (names_in s)) ≡ false
        → (once (f ∷ t) g.name & all_of (once (f ∷ t)) s) ≡ (once t g.name & all_of (once t) s)
    go true q r h = let z : ◌≡◌ {A = ℕ} 0 1 = cc in absurd (omega arith)
    go false q r h = rw (clash_sym g.name f.name, q, r h) refl

-- no two fields clash if each clashes with one
distinct_once : (s : Schema) → distinct_names (names_in s) ≡ all_of (once s) s
unfolding all_of counted names_in ◌&◌
distinct_once [] = refl
distinct_once (f ∷ s) = go (any (clash f.name) (names_in s)) refl (distinct_once s)
  where
    go : (b : Bool) → any (clash f.name) (names_in s) ≡ b → distinct_names (names_in s) ≡ all_of (once s) s
        → (not b & distinct_names (names_in s))
        ≡ (eqb (cond (clash f.name f.name) (counted (clash f.name) s + 1) (counted (clash f.name) s)) 1 & all_of
        (once (f ∷ s)) s)
    go true e r = rw (clash_self f.name, ← none_any f.name s, e)
    go false e r = rw (clash_self f.name, ← none_any f.name s, e) (r ∙ sym (same_all f s s e))

-- and that is what the question for clashes finds
distinct_single : (s : Schema) → distinct_names (names_in s) ≡ all_of (single s clashing) s
distinct_single s = distinct_once s ∙ all_of_cong (once s) (single s clashing) agree s
  where
    agree : (x : Name) → once s x ≡ single s clashing x
    agree (nm q n) = ap (λ (k : ℕ). eqb k 1) (sym (counted_cong (hits (Clashing q n)) (clash (nm q n)) (asks_clash q n) s))

-- ---- sound schemas

-- as many names as fields
length_names : (s : Schema) → length (names_in s) ≡ length s
unfolding names_in
length_names [] = refl
length_names (f ∷ s) = ap suc (length_names s)

-- a schema is sound if the question tells its fields apart
pub sound_apart : (s : Schema) → sound (names_in s) ≡ apart clashing s
unfolding sound
sound_apart s = rw (distinct_single s, length_names s) refl

-- below an alias two fields clash if they share the name
pub renamed_apart : (p : ℕ) (s : Schema) → sound (names_in (map (requalify p) s)) ≡ apart by_name s
unfolding sound
renamed_apart p s =
    let t : Schema = map (requalify p) s in
    rw (
      distinct_single t,
      length_names t,
      length_renamed s,
      all_of_renamed (single t clashing) p s,
      all_of_cong (λ x. single t clashing (called (Some p) x)) (single s by_name) agree s,
    ) refl
  where
    length_renamed : (s : Schema) → length (map (requalify p) s) ≡ length s
    length_renamed [] = refl
    length_renamed (f ∷ s) = ap suc (length_renamed s)

    near_self : near p p ≡ true
    near_self = rw (eq-eqb p p refl)

    agree : (x : Name) → single (map (requalify p) s) clashing (called (Some p) x) ≡ single s by_name x
    agree (nm r m) =
        ap (λ (k : ℕ). eqb k 1)
        (renamed (Clashing p m) p s ∙ ap (λ (b : Bool). counted (hits (cond b (ByName m) Nothing)) s) near_self)

-- the names that parts make do not depend on what they stand over
names_made : (c d : Schema) (f : Forest) → names_in (made c f) ≡ names_in (made d f)
unfolding names_in made
names_made c d none = refl
names_made c d (node l cs ns) = go (what l) (names_made c d ns)
  where
    go : (w : What) → names_in (made c ns) ≡ names_in (made d ns)
        → names_in (schema_made_by w c l cs (made c ns)) ≡ names_in (schema_made_by w d l cs (made d ns))
    go (expr k) e = e
    go (plan k) e = e
    go unknown e = e
    go (part K.FieldPart) e = ap (λ (xs : List Name). name_of l ∷ xs) e
    go (part K.EntryPart) e = ap (λ (xs : List Name). name_of l ∷ xs) e
    go (part K.PairPart) e = e
    go (part K.KeyPart) e = e
    go (part K.AggPart) e = ap (λ (xs : List Name). name_of l ∷ xs) e
    go (part K.WinPart) e = ap (λ (xs : List Name). name_of l ∷ xs) e

-- the names of two schemas
names-++ : (s t : Schema) → names_in (s ++ t) ≡ names_in s ++ names_in t
unfolding names_in
names-++ [] t = refl
names-++ (f ∷ s) t = ap (λ (xs : List Name). f.name ∷ xs) (names-++ s t)

-- ---- both inputs of a join together

-- where none of all clashes, none of the first does
any_left : (x : Name) (a b : List Name) → not (any (clash x) (a ++ b)) ≡ true → not (any (clash x) a) ≡ true
unfolding any
any_left x [] b h = refl
any_left x (y ∷ a) b h = go (clash x y) (λ k. any_left x a b k) h
  where
    go : (c : Bool) → (not (any (clash x) (a ++ b)) ≡ true → not (any (clash x) a) ≡ true)
        → not (c || any (clash x) (a ++ b)) ≡ true → not (c || any (clash x) a) ≡ true
    go true r k = k
    go false r k = r k

-- so the first names are distinct
distinct_left : (a b : List Name) → distinct_names (a ++ b) ≡ true → distinct_names a ≡ true
distinct_left [] b h = refl
distinct_left (x ∷ a) b h = and_intro (any_left x a b (and_l _ _ h)) (distinct_left a b (and_r _ _ h))

-- and the others
distinct_right : (a b : List Name) → distinct_names (a ++ b) ≡ true → distinct_names b ≡ true
distinct_right [] b h = h
distinct_right (x ∷ a) b h = distinct_right a b (and_r _ _ h)

-- where two schemas together are sound, each of them is
module _ (a b : List Name) (h : sound (a ++ b) ≡ true) where
  few : length a + length b ≤ max_fields
  unfolding sound
  few =
      omega (
        arith,
        leb-true (length (a ++ b)) max_fields (and_r (distinct_names (a ++ b)) (leb (length (a ++ b)) max_fields) h),
        length-append a b,
      )

  sound_left : sound a ≡ true
  unfolding sound
  sound_left = and_intro (distinct_left a b (and_l _ _ h)) (le-leb (length a) max_fields (omega (arith, few)))

  sound_right : sound b ≡ true
  unfolding sound
  sound_right = and_intro (distinct_right a b (and_l _ _ h)) (le-leb (length b) max_fields (omega (arith, few)))

-- so a join's own schema is sound if both inputs together are
join_sound : (p : ℕ) (s t : Schema) → sound (names_in (join_fields p s t)) & sound (names_in (s ++ t)) ≡ sound (names_in (s ++ t))
unfolding join_fields input
join_sound p s t = go (sound (names_in (s ++ t))) refl
  where
    side : (a b : Bool) → sound (names_in (s ++ t)) ≡ true → sound (names_in (cond a (s ++ t) (input (cond b 1 0) (s ∷ t ∷ [])))) ≡ true
    side true b e = e
    side false true e = sound_right (names_in s) (names_in t) (rw names-++ at e)
    side false false e = sound_left (names_in s) (names_in t) (rw names-++ at e)

    go : (z : Bool) → sound (names_in (s ++ t)) ≡ z → sound (names_in (join_fields p s t)) & z ≡ z
    go true e = rw (side (leb p (join_number full)) (eqb p (join_number right_semi) || eqb p (join_number right_anti)) e) (true_and true)
    go false e = and_false _

-- ---- a schema beside one that is sound

-- the field is one of the schema
abbrev In : Fld → Schema → Type 0
In f [] = ⊥
In f (g ∷ s) = (f ≡ g) ⊎ In f s

all_in : (h : Name → Bool) (f : Fld) (s : Schema) → all_of h s ≡ true → In f s → h f.name ≡ true
unfolding all_of
all_in h f [] e m = absurd m
all_in h f (g ∷ s) e (inl q) = ap (λ (x : Fld). h x.name) q ∙ and_l _ _ e
all_in h f (g ∷ s) e (inr m) = all_in h f s (and_r _ _ e) m

all_intro : (h : Name → Bool) (s : Schema) → ((f : Fld) → In f s → h f.name ≡ true) → all_of h s ≡ true
unfolding all_of
all_intro h [] e = refl
all_intro h (g ∷ s) e = and_intro (e g (inl refl)) (all_intro h s (λ f m. e f (inr m)))

count_in : (h : Name → Bool) (f : Fld) (s : Schema) → In f s → h f.name ≡ true → 0 < counted h s
unfolding counted
count_in h f [] m e = absurd m
count_in h f (g ∷ s) (inl q) e = rw (sym (ap (λ (x : Fld). h x.name) q) ∙ e) (omega arith)
count_in h f (g ∷ s) (inr m) e = go (h g.name) (count_in h f s m e)
  where
    go : (b : Bool) → 0 < counted h s → 0 < cond b (counted h s + 1) (counted h s)
    go true l = omega arith
    go false l = l

count_some : (h : Name → Bool) (s : Schema) → (counted h s ≡ 0) ⊎ ((f : Fld) × In f s × (h f.name ≡ true))
unfolding counted
count_some h [] = inl refl
count_some h (g ∷ s) = go (h g.name) refl (count_some h s)
  where
    go : (b : Bool) → h g.name ≡ b → (counted h s ≡ 0) ⊎ ((f : Fld) × In f s × (h f.name ≡ true))
        → (cond b (counted h s + 1) (counted h s) ≡ 0) ⊎ ((f : Fld) × In f (g ∷ s) × (h f.name ≡ true))
    go true e k = inr (g, inl refl, e)
    go false e (inl z) = inl z
    go false e (inr k) = inr (k.0, inr k.1, k.2)

-- where a is sound and each field of b clashes with one of both, each of a does
beside : (a b : Schema) (h : Name → Bool) → ((x : Name) → h x ≡ eqb (counted (clash x) a + counted (clash x) b) 1)
    → all_of (once a) a ≡ true → all_of h b ≡ true → all_of h a ≡ true
beside a b h e p q = all_intro h a (λ f m. e f.name ∙ eq-eqb _ 1 (one f m (count_some (clash f.name) b)))
  where
    one : (f : Fld) → In f a → (counted (clash f.name) b ≡ 0) ⊎ ((g : Fld) × In g b × (clash f.name g.name ≡ true))
        → counted (clash f.name) a + counted (clash f.name) b ≡ 1
    one f m (inl z) = omega (arith, eqb-true (counted (clash f.name) a) 1 (all_in (once a) f a p m))
    one f m (inr k) =
        let g = k.0 in
        absurd (omega (
          arith,
          eqb-true (counted (clash g.name) a + counted (clash g.name) b) 1 (sym (e g.name) ∙ all_in h g b q k.1),
          count_in (clash g.name) f a m (clash_sym g.name f.name ∙ k.2),
          count_in (clash g.name) g b k.1 (clash_self g.name),
        ))

-- so of two schemas of which one is sound, the fields of the other tell
module _ (s t : Schema) where
  abbrev both_in : Name → Bool
  both_in = single (s ++ t) clashing

  agree_both : (x : Name) → both_in x ≡ eqb (counted (clash x) s + counted (clash x) t) 1
  agree_both (nm q n) =
      ap (λ (k : ℕ). eqb k 1) (counted_cong (hits (Clashing q n)) (clash (nm q n)) (asks_clash q n) (s ++ t) ∙ counted-++ (clash (nm q n)) s t)

  once_of : (a : Schema) → sound (names_in a) ≡ true → all_of (once a) a ≡ true
  unfolding sound
  once_of a e = sym (distinct_once a) ∙ and_l _ _ e

  tells : (a b : Bool) → (b ≡ true → a ≡ true) → b ≡ a & b
  unfolding ◌&◌
  tells true b f = refl
  tells false false f = refl
  tells false true f = sym (f refl)

  pub beside_left : sound (names_in s) ≡ true → all_of both_in t ≡ all_of both_in (s ++ t)
  beside_left e = tells _ _ (beside s t both_in agree_both (once_of s e)) ∙ sym (all_of-++ both_in s t)

  pub beside_right : sound (names_in t) ≡ true → all_of both_in s ≡ all_of both_in (s ++ t)
  unfolding ◌&◌
  beside_right e =
      tells _ _ (beside t s both_in (λ x. agree_both x ∙ ap (λ (k : ℕ). eqb k 1) (swapped (clash x))) (once_of t e))
      ∙ turned (all_of both_in t) (all_of both_in s) ∙ sym (all_of-++ both_in s t)
    where
      swapped : (h : Name → Bool) → counted h s + counted h t ≡ counted h t + counted h s
      swapped h = omega arith

      turned : (a b : Bool) → a & b ≡ b & a
      turned true true = refl
      turned true false = refl
      turned false true = refl
      turned false false = refl

-- the same by the number of the input that is sound
pub beside_own : (i : ℕ) (ins : List Schema) → i ≤ 1 → sound (names_in (input i ins)) ≡ true
    → all_of (single (input 0 ins ++ input 1 ins) clashing) (input (1 - i) ins)
    ≡ all_of (single (input 0 ins ++ input 1 ins) clashing) (input 0 ins ++ input 1 ins)
beside_own zero ins l e = beside_left (input 0 ins) (input 1 ins) e
beside_own (suc zero) ins l e = beside_right (input 0 ins) (input 1 ins) e
beside_own (suc (suc i)) ins l e = absurd (omega arith)

-- a semi or anti join has the fields of input 0 or 1
pub own_few : (p : ℕ) → own Joins p ≤ 1
own_few p = go (eqb p (join_number right_semi) || eqb p (join_number right_anti))
  where
    go : (a : Bool) → cond a 1 0 ≤ 1
    go true = omega arith
    go false = omega arith

-- ---- below an alias

-- the names as an alias calls them
names_renamed : (p : ℕ) (s : Schema) → names_in (map (requalify p) s) ≡ map (called (Some p)) (names_in s)
unfolding names_in requalify
names_renamed p [] = refl
names_renamed p (f ∷ s) = step f.name (names_renamed p s)
  where
    step : (x : Name) → names_in (map (requalify p) s) ≡ map (called (Some p)) (names_in s)
        → names_in (map (requalify p) (record { name = x; ty = f.ty } ∷ s)) ≡ called (Some p) x ∷ map (called (Some p)) (names_in s)
    step (nm r m) e = rw e refl

-- what clashes below clashes above
clash_renamed : (p : ℕ) (x y : Name) → clash x y ≡ true → clash (called (Some p) x) (called (Some p) y) ≡ true
clash_renamed p (nm q n) (nm r m) e = and_intro (and_l _ _ e) (rw (eq-eqb p p refl) refl)

any_renamed : (p : ℕ) (x : Name) (a : List Name) → not (any (clash (called (Some p) x)) (map (called (Some p)) a)) ≡ true
    → not (any (clash x) a) ≡ true
unfolding any
any_renamed p x [] h = refl
any_renamed p x (y ∷ a) h =
    go (clash x y) (clash (called (Some p) x) (called (Some p) y)) (clash_renamed p x y) (λ k. any_renamed p x a k) h
  where
    go : (c d : Bool) → (c ≡ true → d ≡ true)
        → (not (any (clash (called (Some p) x)) (map (called (Some p)) a)) ≡ true → not (any (clash x) a) ≡ true)
        → not (d || any (clash (called (Some p) x)) (map (called (Some p)) a)) ≡ true → not (c || any (clash x) a) ≡ true
    go false false f r k = r k
    go false true f r k = let z : ◌≡◌ {A = ℕ} 0 1 = cc in absurd (omega arith)
    go true true f r k = k
    go true false f r k = let e : false ≡ true = f refl in let z : ◌≡◌ {A = ℕ} 0 1 = cc in absurd (omega arith)

distinct_renamed : (p : ℕ) (a : List Name) → distinct_names (map (called (Some p)) a) ≡ true → distinct_names a ≡ true
distinct_renamed p [] h = refl
distinct_renamed p (x ∷ a) h = and_intro (any_renamed p x a (and_l _ _ h)) (distinct_renamed p a (and_r _ _ h))

length_map : (p : ℕ) (a : List Name) → length (map (called (Some p)) a) ≡ length a
length_map p [] = refl
length_map p (x ∷ a) = ap suc (length_map p a)

-- where an alias is sound, its input is
sound_renamed : (p : ℕ) (a : List Name) → sound (map (called (Some p)) a) ≡ true → sound a ≡ true
unfolding sound
sound_renamed p a h = and_intro (distinct_renamed p a (and_l _ _ h)) (rw length_map at (and_r _ _ h))

-- where a plan keeps the rule, the inputs that are known are sound
pub known_sound : (r : Role) (p : ℕ) (parts : Schema) (ins : List Schema) → sound_by r p parts ins ≡ true → (i : ℕ) → i < known_inputs r
    → sound (names_in (input i ins)) ≡ true
known_sound NoPlan p parts ins h i l = absurd (omega arith)
known_sound Creates p parts ins h i l = absurd (omega arith)
known_sound Joins p parts ins h zero l = sound_left (names_in (input 0 ins)) (names_in (input 1 ins)) (rw names-++ at (and_r _ _ h))
known_sound Joins p parts ins h (suc zero) l = sound_right (names_in (input 0 ins)) (names_in (input 1 ins)) (rw names-++ at (and_r _ _ h))
known_sound Joins p parts ins h (suc (suc i)) l = absurd (omega arith)
known_sound Renames p parts ins h zero l = sound_renamed p (names_in (input 0 ins)) (rw names_renamed at (and_l _ _ h))
known_sound Renames p parts ins h (suc i) l = absurd (omega arith)
known_sound Extends p parts ins h zero l = sound_left (names_in (input 0 ins)) (names_in parts) (rw names-++ at (and_l _ _ h))
known_sound Extends p parts ins h (suc i) l = absurd (omega arith)
known_sound Passes p parts ins h zero l = and_l _ _ h
known_sound Passes p parts ins h (suc i) l = absurd (omega arith)

-- ---- the rule of a plan

-- what stands alone in a scope
apart_alone : (asks : Name → Question) (s : Schema) → apart asks s ≡ apart asks (s ++ [])
apart_alone asks s = ap (apart asks) (sym (append-nil s))

-- a schema that stands alone
sound_alone : (s : Schema) → sound (names_in s) & true ≡ apart clashing (s ++ [])
sound_alone s = and_true _ ∙ sound_apart s ∙ apart_alone clashing s

-- the rule of a plan is that the schema which the code reads off its children is told apart
pub rule_by_role : (r : Role) (p : ℕ) (c : Schema) (cs : Forest)
    → apart (own_question r) (own_of (own_view r) cs) ≡ sound_by r p (made c cs) (inputs cs)
rule_by_role r p c cs = sym (go r)
  where
    s : Schema
    s = input 0 (inputs cs)

    go : (r : Role) → sound_by r p (made c cs) (inputs cs) ≡ apart (own_question r) (own_of (own_view r) cs)
    go NoPlan = sound_alone s
    go Creates = ap (λ (xs : List Name). sound xs & true) (names_made c [] cs) ∙ sound_alone (made [] cs)
    go Joins = join_sound p s (input 1 (inputs cs)) ∙ sound_apart (s ++ input 1 (inputs cs))
    go Renames = and_true _ ∙ renamed_apart p s ∙ apart_alone by_name s
    go Extends =
        and_true _
        ∙ ap sound (names-++ s (made c cs) ∙ ap (λ (xs : List Name). names_in s ++ xs) (names_made c [] cs) ∙ sym (names-++ s (made [] cs)))
        ∙ sound_apart (s ++ made [] cs)
    go Passes = sound_alone s
