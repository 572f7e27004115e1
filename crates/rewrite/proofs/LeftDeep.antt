-- A predicate that is joined left-deep is its conjuncts joined again; no other is.
use mathlib.Core.Path.{◌≡◌, refl, ap, ◌∙◌}
use mathlib.Core.List.{List, [], ◌∷◌, ◌++◌}
use mathlib.Core.Option.{some}
use Prim.Native.Nat.{◌≤◌}
use native.Mathlib.Omega.{arith}
use lib.ListN.{length, length-append}
use Rattle.plan.specs.Syntax.{Expr, col, num, bool, nul, bin, and, or, cmp, neg, test, between, inlist, fn}
use Rattle.plan.specs.Lists.{All, anil, acons}
use Rattle.plan.proofs.Lists.{All-append}
use Rattle.rewrite.specs.Utils.{split_conjunction, conjoin, conjunction}

-- ---- conjuncts

-- it does not split
abbrev pub Single : Expr → Type 0
Single e = length (split_conjunction e) ≡ 1

pub singles : (e : Expr) → All Single (split_conjunction e)
unfolding split_conjunction
singles (bin and a b) = All-append (singles a) (singles b)
singles (bin or a b) = acons refl anil
singles (bin (cmp o) a b) = acons refl anil
singles (col x) = acons refl anil
singles (num z) = acons refl anil
singles (bool b) = acons refl anil
singles (nul t) = acons refl anil
singles (neg a) = acons refl anil
singles (test t a) = acons refl anil
singles (between n a l u) = acons refl anil
singles (inlist n a xs) = acons refl anil
singles (fn p q r xs) = acons refl anil

-- a predicate has a first conjunct
pub record First (es : List Expr) : Type 0 where
  pub first : Expr
  pub others : List Expr
  pub is : es ≡ first ∷ others

first_of : (es fs : List Expr) → First es → First (es ++ fs)
first_of es fs h = record { first = h.first; others = h.others ++ fs; is = ap (◌++ fs) h.is }

pub split_first : (e : Expr) → First (split_conjunction e)
unfolding split_conjunction
split_first (bin and a b) = first_of (split_conjunction a) (split_conjunction b) (split_first a)
split_first (bin or a b) = record { first = _; others = _; is = refl }
split_first (bin (cmp o) a b) = record { first = _; others = _; is = refl }
split_first (col x) = record { first = _; others = _; is = refl }
split_first (num z) = record { first = _; others = _; is = refl }
split_first (bool b) = record { first = _; others = _; is = refl }
split_first (nul t) = record { first = _; others = _; is = refl }
split_first (neg a) = record { first = _; others = _; is = refl }
split_first (test t a) = record { first = _; others = _; is = refl }
split_first (between n a l u) = record { first = _; others = _; is = refl }
split_first (inlist n a xs) = record { first = _; others = _; is = refl }
split_first (fn p q r xs) = record { first = _; others = _; is = refl }

split_more : (e : Expr) → 1 ≤ length (split_conjunction e)
split_more e = omega (arith, ap length (split_first e).is)

-- ---- joined again

conjoin_last : (e : Expr) (es : List Expr) (b : Expr) → conjoin e (es ++ (b ∷ [])) ≡ bin and (conjoin e es) b
unfolding conjoin
conjoin_last e [] b = refl
conjoin_last e (x ∷ xs) b = conjoin_last (bin and e x) xs b

-- a last conjunct, behind others
conjunction_last : (es : List Expr) (b : Expr) (h : First es) → conjunction (es ++ (b ∷ [])) ≡ some (bin and (conjoin h.first h.others) b)
unfolding conjunction
conjunction_last es b h = rw h.is (ap some (conjoin_last h.first h.others b))

conjunction_first : (es : List Expr) (h : First es) → conjunction es ≡ some (conjoin h.first h.others)
unfolding conjunction
conjunction_first es h = rw h.is

module _ (a b : Expr) (one : split_conjunction b ≡ b ∷ []) where
  split_last : split_conjunction (bin and a b) ≡ split_conjunction a ++ (b ∷ [])
  unfolding split_conjunction
  split_last = ap (split_conjunction a ++◌) one

  last_is : conjunction (split_conjunction (bin and a b)) ≡ some (bin and (conjoin (split_first a).first (split_first a).others) b)
  last_is = ap conjunction split_last ∙ conjunction_last (split_conjunction a) b (split_first a)

  -- an And of what is left-deep and one conjunct is
  pub deeper : conjunction (split_conjunction a) ≡ some a → conjunction (split_conjunction (bin and a b)) ≡ some (bin and a b)
  deeper h =
      let k = conjunction_first (split_conjunction a) (split_first a) in
      let i : conjoin (split_first a).first (split_first a).others ≡ a = cc in
      last_is ∙ rw i

  -- and only then
  pub shallower : conjunction (split_conjunction (bin and a b)) ≡ some (bin and a b) → conjunction (split_conjunction a) ≡ some a
  shallower h =
      let k = last_is in
      let i : conjoin (split_first a).first (split_first a).others ≡ a = cc in
      conjunction_first (split_conjunction a) (split_first a) ∙ rw i

-- the right operand of what was joined does not split
right_single : (e : Expr) {es : List Expr} → All Single es → 1 ≤ length es → (a b : Expr) → conjoin e es ≡ bin and a b → Single b
unfolding conjoin
right_single e anil more a b i = absurd (omega arith)
right_single e (acons {x = x} h anil) more a b i = let k : x ≡ b = cc in rw k at h
right_single e (acons {x = x} h (acons k ks)) more a b i = right_single (bin and e x) (acons k ks) (omega arith) a b i

others_single : {es : List Expr} (h : First es) → All Single es → All Single h.others
others_single h k = go (rw h.is at k)
  where
    go : {x : Expr} {xs : List Expr} → All Single (x ∷ xs) → All Single xs
    go (acons u us) = us

-- an And whose right operand is one is not left-deep
pub right_and : (a b c d : Expr) → b ≡ bin and c d → conjunction (split_conjunction (bin and a b)) ≡ some (bin and a b) → ⊥
unfolding split_conjunction
right_and a b c d i h =
    let f = split_first (bin and a b) in
    let k = conjunction_first (split_conjunction (bin and a b)) f in
    let j : conjoin f.first f.others ≡ bin and a b = cc in
    let n : length (split_conjunction b) ≡ length (split_conjunction c ++ split_conjunction d) = ap (λ e. length (split_conjunction e)) i in
    let two = length-append (split_conjunction c) (split_conjunction d) in
    let all = length-append (split_conjunction a) (split_conjunction b) in
    omega (
      arith,
      right_single f.first (others_single f (singles (bin and a b)))
          (omega (arith, ap length f.is, split_more a, split_more c)) a b j,
      split_more c,
      split_more d,
    )
