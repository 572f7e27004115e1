-- Equal trees, and equal expressions.
--     same_is, is_same      `same` says that two trees are equal
--     same_exprs            the trees of two expressions are the same if they are equal
--     label_eq              `==` of labels is `same_label`
--     none_left             no tree is left to compare
--     label_is, label_same  `same_label` says that two labels are equal
--     false_is              an expression is FALSE if its record says so
-- Assumes nothing.
use mathlib.Core.Path.{◌≡◌, refl, sym, ap, subst, ◌∙◌}
use mathlib.Core.Bool.{Bool, true, false, not, ◌&&◌, decide_iff}
use lib.Dec.{eqb}
use Prim.Native.Nat.{ℕ}
use native.Mathlib.Omega.{arith}
use borrow.Author.Tests.{eqb-true, eq-eqb}
use Rattle.std.specs.Iterator.{YieldsFirstBy}
use Rattle.std.specs.Option.{is_some}
use Rattle.std.specs.Prelude.{Option, Some, None}
use Rattle.image.specs.Tree.{Label, Forest, none, node, Tree}
use Rattle.image.specs.Subtrees.{forest, place, places}
use Rattle.image.specs.declared.trees.Stretch.{Stretch}
use Rattle.image.specs.declared.trees.Stretches.{Stretches}
use Rattle.image.proofs.Subtrees.{goes, gone}
use Rattle.plan.proofs.Bools.{same_truth}
use Rattle.plan.specs.Kinds.{what}
use Rattle.plan.specs.Syntax.{Expr, col, num, bool, nul, bin, neg, test, between, inlist, fn}
use Rattle.plan.specs.Read.{expr_by, exprs_of}
use Rattle.plan.specs.Trees.{label_e, expr_tree}
use Rattle.plan.specs.Integers.{FitsE}
use Rattle.plan.proofs.Written.{expr_back}
use Rattle.rewrite.specs.Utils.{Expr-eq, same_e}
use Rattle.rewrite.proofs.Exprs.{same_e_eq}
use Rattle.conjuncts.specs.Items.{FALSE}
use Rattle.conjuncts.specs.Equality.{same_label, same_any, same}
use Rattle.conjuncts.specs.Labels.{is_false}

pub and_both : (a b : Bool) → (a && b) ≡ true → (a ≡ true) × (b ≡ true)
and_both true b e = (refl, e)
and_both false b e = let z : ◌≡◌ {A = ℕ} 0 1 = cc in absurd (omega arith)

pub label_is : (l k : Label) → same_label l k ≡ true → l ≡ k
label_is l k e =
    let a = and_both _ _ e in
    let b = and_both _ _ a.0 in
    let c = and_both _ _ b.0 in
    let d = and_both _ _ c.0 in
    let f = and_both _ _ d.0 in
    let hi : l.hi ≡ k.hi = eqb-true _ _ a.1 in
    let lo : l.lo ≡ k.lo = eqb-true _ _ b.1 in
    let r : l.r ≡ k.r = eqb-true _ _ c.1 in
    let q : l.q ≡ k.q = eqb-true _ _ d.1 in
    let p : l.p ≡ k.p = eqb-true _ _ f.1 in
    let kind : l.kind ≡ k.kind = eqb-true _ _ f.0 in
    ap (λ (x : ℕ × ℕ × ℕ × ℕ × ℕ × ℕ). record { kind = x.0; p = x.1; q = x.2; r = x.3; lo = x.4; hi = x.5 }) (cc)

any_is : (f g : Forest) → same_any f g ≡ true → f ≡ g
any_is none none e = refl
any_is none (node l cs ns) e = let z : ◌≡◌ {A = ℕ} 0 1 = cc in absurd (omega arith)
any_is (node l cs ns) none e = let z : ◌≡◌ {A = ℕ} 0 1 = cc in absurd (omega arith)
any_is (node l cs ns) (node l' cs' ns') e =
    let a = and_both _ _ e in
    let b = and_both _ _ a.0 in
    rw (label_is l l' b.0, any_is cs cs' b.1, any_is ns ns' a.1)

pub same_is : (t u : Tree) → same t u ≡ true → t ≡ u
same_is t u e =
    let a = and_both _ _ e in
    let l = label_is t.label u.label a.0 in
    let b = any_is t.below u.below a.1 in
    ap (λ (x : Label × Forest). record { label = x.0; below = x.1 }) (cc)

pub label_same : (l : Label) → same_label l l ≡ true
label_same l = rw (
  eq-eqb l.kind _ refl,
  eq-eqb l.p _ refl,
  eq-eqb l.q _ refl,
  eq-eqb l.r _ refl,
  eq-eqb l.lo _ refl,
  eq-eqb
      l.hi _ refl,
)

any_same : (f : Forest) → same_any f f ≡ true
any_same none = refl
any_same (node l cs ns) = rw (label_same l, any_same cs, any_same ns)

pub is_same : (t u : Tree) → t ≡ u → same t u ≡ true
is_same t u e = rw (e, label_same u.label, any_same u.below)

-- ---- expressions

pub same_self : (e : Expr) → same_e e e ≡ true
unfolding same_e
same_self e = (decide_iff (Expr-eq e e)).1 refl

pub eq_same : {a b : Expr} → a ≡ b → same_e a b ≡ true
eq_same {a} {b} e = rw e (same_self b)

pub same_turned : (a b : Expr) → same_e a b ≡ same_e b a
same_turned a b = same_truth (same_e a b) (same_e b a) (λ h. eq_same (sym (same_e_eq a b h))) (λ h. eq_same (sym (same_e_eq b a h)))

-- an expression can be read back from its tree
abbrev tree_back : (t : Tree) → Expr
tree_back t = expr_by (what t.label) t.label (exprs_of t.below)

back : {a b : Expr} → FitsE a → FitsE b → expr_tree a ≡ expr_tree b → a ≡ b
back {a} {b} f g e = sym (expr_back a f) ∙ (ap tree_back e ∙ expr_back b g)

pub same_exprs : (a b : Expr) → FitsE a → FitsE b → same (expr_tree a) (expr_tree b) ≡ same_e a b
same_exprs a b f g =
    same_truth (same (expr_tree a) (expr_tree b)) (same_e a b)
    (λ h. eq_same (back f g (same_is _ _ h)))
    (λ h. is_same _ _ (ap expr_tree (same_e_eq a b h)))

-- an expression is FALSE if its record says so
says_false : (e : Expr) → is_false (label_e e) ≡ true → FALSE ≡ e
unfolding label_e
says_false (col x) h = cc
says_false (num z) h = cc
says_false (bool true) h = cc
says_false (bool false) h = refl
says_false (nul t) h = cc
says_false (bin o a b) h = cc
says_false (neg a) h = cc
says_false (test t a) h = cc
says_false (between n a l u) h = cc
says_false (inlist n a xs) h = cc
says_false (fn p q r xs) h = cc

false_says : is_false (label_e FALSE) ≡ true
unfolding label_e
false_says = refl

pub false_is : (e : Expr) → is_false (label_e e) ≡ same_e FALSE e
false_is e =
    same_truth (is_false (label_e e)) (same_e FALSE e)
    (λ h. eq_same (says_false e h))
    (λ h. subst (λ (f : Expr). is_false (label_e f) ≡ true) (same_e_eq FALSE e h) false_says)

-- `==` of labels, field by field
pub label_eq : (l k : Label)
    → (eqb l.kind k.kind && (eqb l.p k.p && (eqb l.q k.q && (eqb l.r k.r && (eqb l.lo k.lo && eqb l.hi k.hi))))) ≡ same_label l k
label_eq l k = six (eqb l.kind k.kind) (eqb l.p k.p) (eqb l.q k.q) (eqb l.r k.r) (eqb l.lo k.lo) (eqb l.hi k.hi)
  where
    six : (a b c d e f : Bool) → (a && (b && (c && (d && (e && f))))) ≡ (((((a && b) && c) && d) && e) && f)
    six true true true true e f = refl
    six true true true false e f = refl
    six true true false d e f = refl
    six true false c d e f = refl
    six false b c d e f = refl

-- the first of some trees is asked for, to see whether there is none
pub none_left : {N : ℕ} (x y : Stretches N) (o : Option (Stretch N)) {b : Bool} → YieldsFirstBy place places x o y → is_some o ≡ not b
    → same_any none (forest x) ≡ b
none_left x y None {b = true} s e = ap (same_any none) (gone x s.0)
none_left x y None {b = false} s e = cc
none_left x y (Some t) {b = true} s e = cc
none_left x y (Some t) {b = false} s e = ap (same_any none) (goes x y t s).is
