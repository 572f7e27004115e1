-- Theorem (c): a Filter moves below a stable Sort that has no fetch.
--
--     Filter e           Sort ks
--       Sort ks  becomes   Filter e
--         p                  p
use native.Mathlib.Omega.{arith}
use mathlib.Core.Path.{◌≡◌, refl, sym, ap, ◌∙◌}
use mathlib.Core.Bool.{Bool, true, false, not, ◌||◌, cond}
use mathlib.Core.List.{List, [], ◌∷◌}
use mathlib.Core.Option.{none}
use lib.IntN.{ℤ, pos, negsuc}
use lib.Signed.{lt_z}
use borrow.Author.Tests.{ltb-true, ltb-false, le-ltb}
use Rattle.plan.specs.Lists.{◌&◌, put, keep, All, anil, acons}
use Rattle.plan.proofs.Lists.{All-map, All-keep}
use Rattle.plan.specs.Syntax.{Value, Name, Expr, Key, Plan, filter, sort}
use Rattle.meaning.specs.Meaning.{World, is_n, code, sorts_before, lex, insert_row, sorted, sorts_before_row, rows}
use Rattle.plan.specs.Schema.{schema}

-- a strict order whose ties are an equivalence
record Order {A : Type 0} (u : A → A → Bool) : Type 0 where
  asym : (a b : A) → u a b ≡ true → u b a ≡ false
  trans : (a b c : A) → u a b ≡ false → u b c ≡ false → u a c ≡ false

-- ---- filtering a sorted list

module _ {A : Type 0} {P : A → Type 0} (u : A → A → Bool) where
  pub All-insert : (x : A) {ys : List A} → P x → All P ys → All P (insert_row u x ys)
  All-insert x h anil = acons h anil
  All-insert x h (acons {x = y} {xs = ys} k ks) = go (u y x) (All-insert x h ks)
    where
      go : (b : Bool) → All P (insert_row u x ys) → All P (cond b (y ∷ insert_row u x ys) (x ∷ y ∷ ys))
      go true hs = acons k hs
      go false hs = acons h (acons k ks)

data Sorted {A : Type 0} (u : A → A → Bool) : List A → Type 0 where
  snil : Sorted u []
  scons : {x : A} {xs : List A} → All (λ y. u y x ≡ false) xs → Sorted u xs → Sorted u (x ∷ xs)

module _ {A : Type 0} (u : A → A → Bool) (O : Order u) (p : A → Bool) where
  -- an element that fails the test leaves no trace
  skip : (x : A) (ys : List A) → p x ≡ false → keep p (insert_row u x ys) ≡ keep p ys
  unfolding keep put
  skip x [] h = rw h
  skip x (y ∷ ys) h = go (u y x) (skip x ys h)
    where
      go : (b : Bool) → keep p (insert_row u x ys) ≡ keep p ys → keep p (cond b (y ∷ insert_row u x ys) (x ∷ y ∷ ys)) ≡ keep p (y ∷ ys)
      go true k = ap (put (p y) y) k
      go false k = rw h

  -- nothing in the list stands before `x`
  ahead : (x : A) {ys : List A} → All (λ y. u y x ≡ false) ys → insert_row u x ys ≡ x ∷ ys
  ahead x anil = refl
  ahead x (acons h hs) = rw h

  -- an element that passes it goes to the same place among those that do
  stay : (x : A) {ys : List A} → Sorted u ys → p x ≡ true → keep p (insert_row u x ys) ≡ insert_row u x (keep p ys)
  unfolding keep put
  stay x snil h = rw h
  stay x (scons {x = y} {xs = ys} a s) h = go (u y x) refl (p y) refl (stay x s h)
    where
      go : (b : Bool) → u y x ≡ b → (c : Bool) → p y ≡ c → keep p (insert_row u x ys) ≡ insert_row u x (keep p ys)
          → keep p (cond b (y ∷ insert_row u x ys) (x ∷ y ∷ ys)) ≡ insert_row u x (put c y (keep p ys))
      go true e true q k = rw (q, e, k)
      go true e false q k = rw q k
      go false e true q k = rw (h, q, e)
      go false e false q k = rw (h, q) (sym (ahead x (All-keep p (All-map (λ z hz. O.trans z y x hz e) a))))

  insert_sorted : (x : A) {ys : List A} → Sorted u ys → Sorted u (insert_row u x ys)
  insert_sorted x snil = scons anil snil
  insert_sorted x (scons {x = y} {xs = ys} a s) = go (u y x) refl (insert_sorted x s)
    where
      go : (b : Bool) → u y x ≡ b → Sorted u (insert_row u x ys) → Sorted u (cond b (y ∷ insert_row u x ys) (x ∷ y ∷ ys))
      go true e k = scons (All-insert u x (O.asym y x e) a) k
      go false e k = scons (acons e (All-map (λ z hz. O.trans z y x hz e) a)) (scons a s)

  sorted_sorted : (xs : List A) → Sorted u (sorted u xs)
  sorted_sorted [] = snil
  sorted_sorted (x ∷ xs) = insert_sorted x (sorted_sorted xs)

  keep_sorted : (xs : List A) → keep p (sorted u xs) ≡ sorted u (keep p xs)
  unfolding keep put
  keep_sorted [] = refl
  keep_sorted (x ∷ xs) = go (p x) refl (keep_sorted xs)
    where
      go : (b : Bool) → p x ≡ b → keep p (sorted u xs) ≡ sorted u (keep p xs)
          → keep p (insert_row u x (sorted u xs)) ≡ sorted u (put b x (keep p xs))
      go true e k = stay x (sorted_sorted xs) e ∙ ap (insert_row u x) k
      go false e k = skip x (sorted u xs) e ∙ k

-- ---- the keys' order

pub lt_z_asym : (a b : ℤ) → lt_z a b ≡ true → lt_z b a ≡ false
lt_z_asym (pos a) (pos b) h = le-ltb b a (omega (arith, ltb-true a b h))
lt_z_asym (pos a) (negsuc b) h = cc
lt_z_asym (negsuc a) (pos b) h = refl
lt_z_asym (negsuc a) (negsuc b) h = le-ltb a b (omega (arith, ltb-true b a h))

pub lt_z_trans : (a b c : ℤ) → lt_z a b ≡ false → lt_z b c ≡ false → lt_z a c ≡ false
lt_z_trans (pos a) (pos b) (pos c) h k = le-ltb a c (omega (arith, ltb-false a b h, ltb-false b c k))
lt_z_trans (pos a) (pos b) (negsuc c) h k = refl
lt_z_trans (pos a) (negsuc b) (pos c) h k = cc
lt_z_trans (pos a) (negsuc b) (negsuc c) h k = refl
lt_z_trans (negsuc a) (pos b) c h k = cc
lt_z_trans (negsuc a) (negsuc b) (pos c) h k = cc
lt_z_trans (negsuc a) (negsuc b) (negsuc c) h k = le-ltb c a (omega (arith, ltb-false b a h, ltb-false c b k))

dir_asym : (d : Bool) (a b : ℤ) → cond d (lt_z b a) (lt_z a b) ≡ true → cond d (lt_z a b) (lt_z b a) ≡ false
dir_asym true a b h = lt_z_asym b a h
dir_asym false a b h = lt_z_asym a b h

dir_trans : (d : Bool) (a b c : ℤ) → cond d (lt_z b a) (lt_z a b) ≡ false → cond d (lt_z c b) (lt_z b c) ≡ false
    → cond d (lt_z c a) (lt_z a c) ≡ false
dir_trans true a b c h k = lt_z_trans c b a k h
dir_trans false a b c h k = lt_z_trans a b c h k

before_asym : (d : Bool) (a b : Value) → sorts_before d a b ≡ true → sorts_before d b a ≡ false
unfolding sorts_before ◌&◌
before_asym d a b h = go (is_n a) (is_n b) h
  where
    go : (m n : Bool) → not m & (n || cond d (lt_z (code b) (code a)) (lt_z (code a) (code b))) ≡ true
        → not n & (m || cond d (lt_z (code a) (code b)) (lt_z (code b) (code a))) ≡ false
    go true n h = cc
    go false true h = refl
    go false false h = dir_asym d (code a) (code b) h

before_trans : (d : Bool) (a b c : Value) → sorts_before d a b ≡ false → sorts_before d b c ≡ false → sorts_before d a c ≡ false
unfolding sorts_before ◌&◌
before_trans d a b c h k = go (is_n a) (is_n b) (is_n c) h k
  where
    go : (l m n : Bool) → not l & (m || cond d (lt_z (code b) (code a)) (lt_z (code a) (code b))) ≡ false
        → not m & (n || cond d (lt_z (code c) (code b)) (lt_z (code b) (code c))) ≡ false
        → not l & (n || cond d (lt_z (code c) (code a)) (lt_z (code a) (code c))) ≡ false
    go true m n h k = refl
    go false true n h k = cc
    go false false true h k = cc
    go false false false h k = dir_trans d (code a) (code b) (code c) h k

module _ {A : Type 0} (u v : A → A → Bool) (Ou : Order u) (Ov : Order v) where
  lex_asym : (a b : A) → lex u v a b ≡ true → lex u v b a ≡ false
  unfolding lex ◌&◌
  lex_asym a b h = go (u a b) (u b a) refl refl h
    where
      go : (m n : Bool) → u a b ≡ m → u b a ≡ n → m || (not n & v a b) ≡ true → n || (not m & v b a) ≡ false
      go true true e f h = sym f ∙ Ou.asym a b e
      go true false e f h = refl
      go false true e f h = cc
      go false false e f h = Ov.asym a b h

  lex_trans : (a b c : A) → lex u v a b ≡ false → lex u v b c ≡ false → lex u v a c ≡ false
  unfolding lex ◌&◌
  lex_trans a b c h k = go (u a b) (u b a) (u b c) (u c b) (u a c) (u c a) refl refl refl refl refl refl h k
    where
      go : (m n i j s t : Bool) → u a b ≡ m → u b a ≡ n → u b c ≡ i → u c b ≡ j → u a c ≡ s → u c a ≡ t
          → m || (not n & v a b) ≡ false → i || (not j & v b c) ≡ false → s || (not t & v a c) ≡ false
      go true n i j s t e₁ e₂ e₃ e₄ e₅ e₆ h k = cc
      go false n true j s t e₁ e₂ e₃ e₄ e₅ e₆ h k = cc
      go false n false j true t e₁ e₂ e₃ e₄ e₅ e₆ h k = sym e₅ ∙ Ou.trans a b c e₁ e₃
      go false n false j false true e₁ e₂ e₃ e₄ e₅ e₆ h k = refl
      go false true false j false false e₁ e₂ e₃ e₄ e₅ e₆ h k = cc (Ou.trans b c a e₃ e₆)
      go false false false true false false e₁ e₂ e₃ e₄ e₅ e₆ h k = cc (Ou.trans c a b e₆ e₁)
      go false false false false false false e₁ e₂ e₃ e₄ e₅ e₆ h k = Ov.trans a b c h k

  lex_order : Order (lex u v)
  lex_order = record { asym = lex_asym; trans = lex_trans }

module _ (W : World) where
  key_order : (s : List Name) (ks : List Key) → Order (sorts_before_row W s ks)
  key_order s [] = record { asym = λ a b h. refl; trans = λ a b c h k. refl }
  key_order s (k ∷ ks) =
      lex_order _ _ (record { asym = λ a b. before_asym k.desc _ _; trans = λ a b c. before_trans k.desc _ _ _ }) (key_order s ks)

  pub sort_rows : (e : Expr) (ks : List Key) (p : Plan) → rows W (filter e (sort none ks p)) ≡ rows W (sort none ks (filter e p))
  unfolding rows schema
  sort_rows e ks p = keep_sorted _ (key_order (schema p) ks) _ (rows W p)
