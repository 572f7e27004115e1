-- Laws of lists and Boolean tests, by which every rule of the rewrite is proved. Assumes nothing.
-- A list function that tests an element goes through `put` or `when`, whose laws have two clauses, one for each Boolean.
use mathlib.Core.Path.{◌≡◌, refl, sym, ap, ap₂, ◌∙◌}
use mathlib.Core.Bool.{Bool, true, false, not}
use mathlib.Core.List.{List, [], ◌∷◌, ◌++◌, map}
use Rattle.plan.specs.Lists.{◌&◌, put, when, keep, all, flatten, All, anil, acons}

-- ---- Booleans

pub and_intro : {a b : Bool} → a ≡ true → b ≡ true → a & b ≡ true
unfolding ◌&◌
and_intro h k = rw (h, k)

pub and_l : (a b : Bool) → a & b ≡ true → a ≡ true
unfolding ◌&◌
and_l true b h = refl
and_l false b h = h

pub and_r : (a b : Bool) → a & b ≡ true → b ≡ true
unfolding ◌&◌
and_r true b h = h
and_r false b h = cc

pub and_true : (a : Bool) → a & true ≡ a
unfolding ◌&◌
and_true true = refl
and_true false = refl

pub true_and : (a : Bool) → true & a ≡ a
unfolding ◌&◌
true_and a = refl

pub and_false : (a : Bool) → a & false ≡ false
unfolding ◌&◌
and_false true = refl
and_false false = refl

pub and_assoc : (a b c : Bool) → (a & b) & c ≡ a & (b & c)
unfolding ◌&◌
and_assoc true b c = refl
and_assoc false b c = refl

pub and_comm : (a b : Bool) → a & b ≡ b & a
unfolding ◌&◌
and_comm true b = sym (and_true b)
and_comm false b = sym (and_false b)

pub and_left_comm : (a b c : Bool) → a & (b & c) ≡ b & (a & c)
unfolding ◌&◌
and_left_comm true b c = refl
and_left_comm false b c = sym (and_false b)

-- the conjunctions, sorted: `simp AndSort` settles what differs only in order and brackets
pub ruleset AndSort = (and_assoc, and_comm, and_left_comm, and_true)

-- ---- what holds of every element

module _ {A : Type 0} where
  pub All-map : {P Q : A → Type 0} {xs : List A} → ((x : A) → P x → Q x) → All P xs → All Q xs
  All-map f anil = anil
  All-map f (acons {x = x} h hs) = acons (f x h) (All-map f hs)

  pub All-both : {P Q R : A → Type 0} {xs : List A} → ((x : A) → P x → Q x → R x) → All P xs → All Q xs → All R xs
  All-both f anil anil = anil
  All-both f (acons {x = x} h hs) (acons k ks) = acons (f x h k) (All-both f hs ks)

  pub All-append : {P : A → Type 0} {xs ys : List A} → All P xs → All P ys → All P (xs ++ ys)
  All-append anil k = k
  All-append (acons h hs) k = acons h (All-append hs k)

  pub all_of : {P : A → Type 0} → ((x : A) → P x) → (xs : List A) → All P xs
  all_of f [] = anil
  all_of f (x ∷ xs) = acons (f x) (all_of f xs)

-- ---- keeping, testing all

module _ {A : Type 0} where
  All-put : {P : A → Type 0} {xs : List A} (b : Bool) (x : A) → P x → All P xs → All P (put b x xs)
  unfolding put
  All-put true x h hs = acons h hs
  All-put false x h hs = hs

  pub All-keep : {P : A → Type 0} (f : A → Bool) {xs : List A} → All P xs → All P (keep f xs)
  unfolding keep put
  All-keep f anil = anil
  All-keep f (acons {x = x} h hs) = All-put (f x) x h (All-keep f hs)

  pub keep_cong : (f g : A → Bool) {xs : List A} → All (λ x. f x ≡ g x) xs → keep f xs ≡ keep g xs
  unfolding keep put
  keep_cong f g anil = refl
  keep_cong f g (acons h hs) = rw (h, keep_cong f g hs)

  keep_put : (f : A → Bool) (b : Bool) (x : A) (xs : List A) → keep f (put b x xs) ≡ put (b & f x) x (keep f xs)
  unfolding ◌&◌ put keep
  keep_put f true x xs = refl
  keep_put f false x xs = refl

  pub keep_keep : (f g : A → Bool) (xs : List A) → keep f (keep g xs) ≡ keep (λ x. g x & f x) xs
  unfolding ◌&◌ keep put
  keep_keep f g [] = refl
  keep_keep f g (x ∷ xs) = rw (keep_put f (g x), keep_keep f g xs)

  append_put : (b : Bool) (x : A) (xs ys : List A) → put b x xs ++ ys ≡ put b x (xs ++ ys)
  unfolding put
  append_put true x xs ys = refl
  append_put false x xs ys = refl

  pub keep_append : (f : A → Bool) (xs ys : List A) → keep f (xs ++ ys) ≡ keep f xs ++ keep f ys
  unfolding keep put
  keep_append f [] ys = refl
  keep_append f (x ∷ xs) ys = rw (append_put (f x), keep_append f xs ys)

  pub keep_all : (xs : List A) → keep (λ x. true) xs ≡ xs
  unfolding keep put
  keep_all [] = refl
  keep_all (x ∷ xs) = ap (x ∷◌) (keep_all xs)

  pub all_append : (f : A → Bool) (xs ys : List A) → all f (xs ++ ys) ≡ all f xs & all f ys
  unfolding ◌&◌ all
  all_append f [] ys = refl
  all_append f (x ∷ xs) ys = rw (all_append f xs ys, and_assoc (f x))

  pub all_true : (xs : List A) → all (λ x. true) xs ≡ true
  unfolding all ◌&◌
  all_true [] = refl
  all_true (x ∷ xs) = all_true xs

  pub all_and : (f g : A → Bool) (xs : List A) → all (λ x. f x & g x) xs ≡ all f xs & all g xs
  unfolding all
  all_and f g [] = sym (and_true true)
  all_and f g (x ∷ xs) = ap ((f x & g x) &◌) (all_and f g xs) ∙ simp AndSort

  -- a test of all, list by list of a partition
  parts_put : (t f : A → Bool) (b : Bool) (x : A) (xs ys : List A) → all t (put b x xs) & all t (put (not b) x ys) ≡ t x & (all t xs & all t ys)
  unfolding ◌&◌ put all
  parts_put t f true x xs ys = and_assoc (t x) (all t xs) (all t ys)
  parts_put t f false x xs ys = and_left_comm (all t xs) (t x) (all t ys)

  pub all_parts : (t f : A → Bool) (xs : List A) → all t (keep f xs) & all t (keep (λ x. not (f x)) xs) ≡ all t xs
  unfolding ◌&◌ keep all put
  all_parts t f [] = refl
  all_parts t f (x ∷ xs) = parts_put t f (f x) x _ _ ∙ ap (t x &◌) (all_parts t f xs)

  pub all_cong : (f g : A → Bool) {xs : List A} → All (λ x. f x ≡ g x) xs → all f xs ≡ all g xs
  unfolding all ◌&◌
  all_cong f g anil = refl
  all_cong f g (acons h hs) = ap₂ ◌&◌ h (all_cong f g hs)

  pub keep_when : (f : A → Bool) (b : Bool) (xs : List A) → keep f (when b xs) ≡ when b (keep f xs)
  unfolding when keep put
  keep_when f true xs = refl
  keep_when f false xs = refl

module _ {A B : Type 0} where
  pub flat_cong : (f g : A → List B) {xs : List A} → All (λ x. f x ≡ g x) xs → flatten f xs ≡ flatten g xs
  unfolding flatten
  flat_cong f g anil = refl
  flat_cong f g (acons h hs) = rw (h, flat_cong f g hs)

  map_put : (f : A → B) (b : Bool) (x : A) (xs : List A) → map f (put b x xs) ≡ put b (f x) (map f xs)
  unfolding put
  map_put f true x xs = refl
  map_put f false x xs = refl

  pub all_map : (t : B → Bool) (f : A → B) (xs : List A) → all t (map f xs) ≡ all (λ x. t (f x)) xs
  unfolding all ◌&◌
  all_map t f [] = refl
  all_map t f (x ∷ xs) = ap (t (f x) &◌) (all_map t f xs)

  pub all_flat : (t : B → Bool) (f : A → List B) (xs : List A) → all t (flatten f xs) ≡ all (λ x. all t (f x)) xs
  unfolding all flatten
  all_flat t f [] = refl
  all_flat t f (x ∷ xs) = all_append t (f x) (flatten f xs) ∙ ap (all t (f x) &◌) (all_flat t f xs)

  pub keep_map : (p : B → Bool) (f : A → B) (xs : List A) → keep p (map f xs) ≡ map f (keep (λ x. p (f x)) xs)
  unfolding keep put
  keep_map p f [] = refl
  keep_map p f (x ∷ xs) = rw (keep_map p f xs, map_put f (p (f x)))

  pub keep_flat : (p : B → Bool) (f : A → List B) (xs : List A) → keep p (flatten f xs) ≡ flatten (λ x. keep p (f x)) xs
  unfolding keep flatten put
  keep_flat p f [] = refl
  keep_flat p f (x ∷ xs) = rw (keep_append p (f x), keep_flat p f xs)

  flat_put : (f : A → List B) (b : Bool) (x : A) (xs : List A) → flatten f (put b x xs) ≡ when b (f x) ++ flatten f xs
  unfolding put when flatten
  flat_put f true x xs = refl
  flat_put f false x xs = refl

  pub flat_keep : (f : A → List B) (p : A → Bool) (xs : List A) → flatten f (keep p xs) ≡ flatten (λ x. when (p x) (f x)) xs
  unfolding when keep flatten put
  flat_keep f p [] = refl
  flat_keep f p (x ∷ xs) = rw (flat_put f (p x), flat_keep f p xs)

  pub All-mapped : {P : B → Type 0} (f : A → B) {xs : List A} → All (λ x. P (f x)) xs → All P (map f xs)
  All-mapped f anil = anil
  All-mapped f (acons h hs) = acons h (All-mapped f hs)

  pub All-flat : {P : B → Type 0} {Q : A → Type 0} (f : A → List B) {xs : List A} → ((x : A) → Q x → All P (f x)) → All Q xs → All P (flatten f xs)
  unfolding flatten
  All-flat f h anil = anil
  All-flat f h (acons {x = x} k ks) = All-append (h x k) (All-flat f h ks)
