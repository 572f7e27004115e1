-- The record of an expression is read as the literal that the expression is.
use Prim.Native.Nat.{ℕ}
use mathlib.Core.Path.{◌≡◌, refl}
use mathlib.Core.Bool.{Bool, true, false}
use lib.IntN.{ℤ}
use Rattle.plan.specs.Kinds.{what_of, among}
use Rattle.plan.specs.Syntax.{Value, null, int, truth, Expr, col, num, bool, nul, bin, neg, test, between, inlist, fn}
use Rattle.plan.specs.Integers.{FitsE}
use Rattle.plan.specs.Trees.{label_e}
use Rattle.plan.specs.Values.{ValueRecord, literal_by, literal_is, literal_of, literal_in}
use Rattle.plan.proofs.Written.{signed_back}

pub literal_read : (e : Expr) → FitsE e → literal_of (label_e e) ≡ literal_in e
unfolding literal_of literal_in label_e what_of among
literal_read (num z) h = rw (signed_back z h)
literal_read (bool true) h = refl
literal_read (bool false) h = refl
literal_read (nul t) h = refl
literal_read (col x) h = refl
literal_read (bin o a b) h = refl
literal_read (neg a) h = refl
literal_read (test t a) h = refl
literal_read (between n a l u) h = refl
literal_read (inlist n a xs) h = refl
literal_read (fn p q r xs) h = refl

-- what holds of each sort of literal and its value holds of every value record
pub literal_cases : (P : Expr → Value → Type 0) → ((z : ℤ) → P (num z) (int z)) → ((b : Bool) → P (bool b) (truth b))
    → ((t : ℕ) → P (nul t) null) → (v : ValueRecord) → P (literal_is v) v.case
literal_cases P z b t v = by_case v.ty v.case
  where
    by_case : (ty : ℕ) (c : Value) → P (literal_by ty c) c
    by_case ty null = t ty
    by_case ty (int x) = z x
    by_case ty (truth x) = b x
