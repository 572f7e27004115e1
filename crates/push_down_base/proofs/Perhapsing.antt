-- Laws of predicates of which something or nothing is left.
use Prim.Native.Nat.{ℕ}
use native.Mathlib.Omega.{arith}
use mathlib.Core.Path.{◌≡◌, refl, sym, ◌∙◌}
use mathlib.Core.Bool.{Bool, true, false, ◌&&◌}
use mathlib.Core.List.{List}
use mathlib.Core.Option.{Option, none, some}
use lib.Dec.{eqb}
use Rattle.std.specs.Prelude.{Option as Maybe, Some, None}
use Rattle.std.specs.Option.{is_none}
use borrow.Author.Tests.{eqb-true}
use Rattle.plan.specs.Syntax.{Name, Expr}
use Rattle.writing.specs.Pushed as W
use Rattle.image.specs.Subtrees.{Subtree}
use Rattle.push_down_base.specs.Predicates.{Predicate, Perhaps, gone, left, Writable}

abbrev pub is_gone : Predicate → Bool
is_gone p = is_none p.written && eqb p.list.len 0

-- there is none, or one
pub none_is : (o : Maybe ℕ) → is_none o ≡ true → o ≡ None
none_is None h = refl
none_is (Some n) h = cc

pub both : (a b : Bool) → (a && b) ≡ true → (a ≡ true) × (b ≡ true)
both true b h = (refl, h)
both false b h = cc_out h
  where
    cc_out : {A : Type 0} → false ≡ true → A
    cc_out e = let z : ◌≡◌ {A = ℕ} 0 1 = cc in absurd (omega arith)

-- something is left
pub record Left (s : List ℕ) (σ : Name → Expr) (p : Predicate) (o : Option Expr) : Type 0 where
  pub expr : Expr
  pub is : o ≡ some expr
  pub predicate : W.Predicate s σ p.written p.list expr

module _ {s : List ℕ} {σ : Name → Expr} {p : Predicate} where
  -- nothing is left
  pub none_left : {o : Option Expr} → Perhaps s σ p o → is_gone p ≡ true → o ≡ none
  none_left (gone w l) h = refl
  none_left (left x f) h =
      let k = both (is_none p.written) (eqb p.list.len 0) h in
      let w = none_is p.written k.0 in
      let l = eqb-true p.list.len 0 k.1 in
      absurd (omega (arith, f w))

  pub some_left : {o : Option Expr} → Perhaps s σ p o → is_gone p ≡ false → Left s σ p o
  some_left (gone w l) h = let z : ◌≡◌ {A = Bool} true false = sym (rw (w, l)) ∙ h in absurd (no z)
    where
      no : true ≡ false → ⊥
      no e = let z : ◌≡◌ {A = ℕ} 0 1 = cc in absurd (omega arith)
  some_left (left {e = e} x f) h = record { expr = e; is = refl; predicate = x }

pub predicated : {s : List ℕ} {map : Subtree} {p : Predicate} → Writable s map p → is_gone p ≡ false → W.Predicated s p.written p.list
predicated h n = let l = some_left h.perhaps n in record { mapping = h.mapping; expr = l.expr; predicate = l.predicate; most = h.most }
