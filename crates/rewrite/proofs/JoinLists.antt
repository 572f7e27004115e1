-- Joins as functions on lists, for any two sides: what moves from above a join, or from its filter, to a side.
-- The four laws are stated for sides A and B. The right-hand kinds are the left-hand ones with the sides changed.
use mathlib.Core.Path.{◌≡◌, refl, sym, ap, ap₂, ◌∙◌}
use mathlib.Core.Bool.{Bool, true, false, not, ◌||◌}
use mathlib.Core.List.{List, [], ◌∷◌, map}
use Rattle.plan.specs.Lists.{◌&◌, put, when, keep, any, flatten, All, anil, acons}
use Rattle.plan.proofs.Lists.{and_comm, AndSort, All-map, All-mapped, All-keep, keep_keep, keep_map, keep_flat}
use Rattle.plan.proofs.Lists.{keep_cong, keep_when, flat_cong, flat_keep}
use Rattle.meaning.specs.Meaning.{outer, or_else}

module _ {A : Type 0} where
  keep_and : (b : Bool) (f : A → Bool) (xs : List A) → keep (λ x. b & f x) xs ≡ when b (keep f xs)
  unfolding when keep put ◌&◌
  keep_and true f xs = refl
  keep_and false f [] = refl
  keep_and false f (x ∷ xs) = keep_and false f xs

  any_and : (b : Bool) (f : A → Bool) (xs : List A) → any (λ x. b & f x) xs ≡ b & any f xs
  unfolding ◌&◌ any
  any_and true f xs = refl
  any_and false f [] = refl
  any_and false f (x ∷ xs) = any_and false f xs

  any_put : (f : A → Bool) (b : Bool) (x : A) (xs : List A) → any f (put b x xs) ≡ (b & f x) || any f xs
  unfolding ◌&◌ any put
  any_put f true x xs = refl
  any_put f false x xs = refl

  any_keep : (f g : A → Bool) (xs : List A) → any f (keep g xs) ≡ any (λ x. g x & f x) xs
  unfolding keep any
  any_keep f g [] = refl
  any_keep f g (x ∷ xs) = any_put f (g x) x _ ∙ ap ((g x & f x) ||◌) (any_keep f g xs)

  any_cong : (f g : A → Bool) {xs : List A} → All (λ x. f x ≡ g x) xs → any f xs ≡ any g xs
  unfolding any
  any_cong f g anil = refl
  any_cong f g (acons h hs) = ap₂ ◌||◌ h (any_cong f g hs)

pub All-or_else : {A : Type 0} {P : A → Type 0} {xs : List A} (d : A) → P d → All P xs → All P (or_else d xs)
All-or_else d h anil = acons h anil
All-or_else d h (acons k ks) = acons k ks

module _ {A B : Type 0} where
  map_when : (f : A → B) (b : Bool) (xs : List A) → map f (when b xs) ≡ when b (map f xs)
  unfolding when
  map_when f true xs = refl
  map_when f false xs = refl

-- `p` above and `m` between the sides are `k` above, `m'` between, `a` on the one side and `b` on the other
module _ {A B : Type 0} (m m' : A → B → Bool) (a : A → Bool) (b : B → Bool) where
  module _ {C : Type 0} (f : A → B → C) (p k : C → Bool) where
    -- Inner: tests of a pair move freely between above, the join and both sides
    pub inner_law : {xs : List A} {ys : List B}
        → All (λ x. All (λ y. m x y & p (f x y) ≡ (a x & (b y & m' x y)) & k (f x y)) ys) xs
        → keep p (flatten (λ x. map (f x) (keep (m x) ys)) xs) ≡ keep k (flatten (λ x. map (f x) (keep (m' x) (keep b ys))) (keep a xs))
    inner_law {xs} {ys} h =
        simp (keep_flat, keep_map, keep_keep, flat_keep, ← map_when, ← keep_and)
        (flat_cong _ _ (All-map (λ x hx. ap (map (f x)) (keep_cong _ _ hx)) h))

    -- Left, and Right with its sides changed: a row of the one side stays with its matches, or with `d`
    module _ (d : A → C) where
      row_law : (x : A) (ys : List B) → p (d x) ≡ a x & k (d x)
          → All (λ y. (m x y ≡ b y & m' x y) × (p (f x y) ≡ a x & k (f x y))) ys
          → keep p (or_else (d x) (map (f x) (keep (m x) ys)))
          ≡ when (a x) (keep k (or_else (d x) (map (f x) (keep (m' x) (keep b ys)))))
      row_law x ys e h =
          keep_cong p (λ c. a x & k c) (All-or_else (d x) e (All-mapped (f x) (All-keep (m x) (All-map (λ y hy. hy.1) h))))
          ∙ keep_and (a x) k (or_else (d x) (map (f x) (keep (m x) ys)))
          ∙ ap (λ zs. when (a x) (keep k (or_else (d x) (map (f x) zs))))
          (keep_cong _ _ (All-map (λ y hy. hy.0) h) ∙ sym (keep_keep (m' x) b ys))

      pub outer_law : {xs : List A} {ys : List B}
          → All (λ x. (p (d x) ≡ a x & k (d x)) × All (λ y. (m x y ≡ b y & m' x y) × (p (f x y) ≡ a x & k (f x y))) ys) xs
          → keep p (outer m f d xs ys) ≡ keep k (outer m' f d (keep a xs) (keep b ys))
      outer_law {xs} {ys} h =
          simp (keep_flat, flat_keep, keep_when) (flat_cong _ _ (All-map (λ x hx. row_law x ys hx.0 hx.1) h))

  module _ (p k : A → Bool) where
    -- the semi joins: what stands above reads the one side, so it may go into "any row matches" and out again
    pub semi_law : {xs : List A} {ys : List B} → All (λ x. All (λ y. p x & m x y ≡ (a x & k x) & (b y & m' x y)) ys) xs
        → keep p (keep (λ x. any (m x) ys) xs) ≡ keep k (keep (λ x. any (m' x) (keep b ys)) (keep a xs))
    semi_law {xs} {ys} h = simp (keep_keep, any_keep) (keep_cong _ _ (All-map (λ x hx. point x hx) h))
      where
        point : (x : A) → All (λ y. p x & m x y ≡ (a x & k x) & (b y & m' x y)) ys
            → any (m x) ys & p x ≡ (a x & any (λ y. b y & m' x y) ys) & k x
        point x hx =
            and_comm (any (m x) ys) (p x) ∙ sym (any_and (p x) (m x) ys) ∙ any_cong _ _ hx ∙ any_and (a x & k x) _ ys ∙ simp AndSort

    -- the anti joins: what stands above goes to the one side, what stands in the filter to the other
    pub anti_law : {xs : List A} {ys : List B} → All (λ x. (p x ≡ a x & k x) × All (λ y. m x y ≡ b y & m' x y) ys) xs
        → keep p (keep (λ x. not (any (m x) ys)) xs) ≡ keep k (keep (λ x. not (any (m' x) (keep b ys))) (keep a xs))
    anti_law {xs} {ys} h =
        simp (keep_keep, any_keep)
        (keep_cong _ _ (All-map (λ x hx. ap₂ (λ u v. not u & v) (any_cong _ _ hx.1) hx.0 ∙ simp AndSort) h))
