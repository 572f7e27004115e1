-- Boolean tests and lists: the few functions that the definitions are written with.
-- They are shut (`unfoldable`), so that the laws about them (proofs/Lists.antt) can be cited by name.
use Rattle.std.specs.Prelude.{Bool, true, false, ◌||◌, List, [], ◌∷◌, ◌++◌}

infixr 35 ◌&◌
unfoldable pub ◌&◌ : Bool → Bool → Bool
true & b = b
false & b = false

-- if, then, else
unfoldable pub choose : {A : Type 0} → Bool → A → A → A
choose true x y = x
choose false x y = y

module _ {A : Type 0} where
  -- one element or none in front of a list
  unfoldable pub put : Bool → A → List A → List A
  put true x xs = x ∷ xs
  put false x xs = xs

  -- a list or none
  unfoldable pub when : Bool → List A → List A
  when true xs = xs
  when false xs = []

  -- the elements that pass a test
  unfoldable pub keep : (A → Bool) → List A → List A
  keep f [] = []
  keep f (x ∷ xs) = put (f x) x (keep f xs)

  -- all pass it
  unfoldable pub all : (A → Bool) → List A → Bool
  all f [] = true
  all f (x ∷ xs) = f x & all f xs

  -- some element passes it
  unfoldable pub any : (A → Bool) → List A → Bool
  any f [] = false
  any f (x ∷ xs) = f x || any f xs

-- the lists of all elements, one after another
unfoldable pub flatten : {A B : Type 0} → (A → List B) → List A → List B
flatten f [] = []
flatten f (x ∷ xs) = f x ++ flatten f xs

-- what holds of every element
pub data All {A : Type 0} (P : A → Type 0) : List A → Type 0 where
  anil : All P []
  acons : {x : A} {xs : List A} → P x → All P xs → All P (x ∷ xs)
