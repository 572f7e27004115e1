-- Laws of the clauses that are extracted from an expression.
--     operated        an AND, an OR, or any other expression, by its label
--     sides_and, ..   the operands of an AND or an OR
--     other_yields, and_yields, ..    whether they yield
--     only_last, ..   which operands are part of the clause
--     or_top, ..      the conjuncts that are an OR at their top
-- Assumes nothing.
use mathlib.Core.Path.{◌≡◌, refl, sym, ap, subst, ◌∙◌}
use mathlib.Core.Bool.{Bool, true, false, ◌||◌, cond, ◌&&◌}
use mathlib.Core.List.{List}
use mathlib.Core.Option.{Option, none, some}
use Prim.Native.Nat.{ℕ}
use native.Mathlib.Omega.{arith}
use Rattle.std.specs.Prelude as P
use Rattle.image.specs.Room.{Wrote}
use Rattle.image.specs.Subtrees.{tree_of}
use Rattle.image.specs.declared.trees.Stretch.{Stretch}
use Rattle.image.specs.Tree as T
use Rattle.image.specs.Tree.{Label, Tree, node}
use Rattle.plan.specs.Columns.{on_cols}
use Rattle.plan.specs.Schema.{has}
use Rattle.plan.specs.Syntax.{Name, Op, and, or, cmp, eq, ne, lt, le, gt, ge, Expr, col, num, bool, nul, bin, neg, test, between, inlist, fn}
use Rattle.plan.specs.Trees.{label_e, kids_e, expr_tree}
use Rattle.plan.proofs.Lists.{and_l, and_r}
use Rattle.rewrite.specs.PushDownFilter.{both_or, either_and_option, guarded, extract_or_clause, is_or}
use Rattle.push_down_base.specs.Inputs.{Few, Two}
use Rattle.push_down_base.proofs.FirstTwo.{two_are}
use Rattle.push_down_join.specs.Clauses.{Apart, operator_of, yields, kept, or_clause}
use Rattle.push_down_join.specs.declared.extract_or_clause.Connective.{Connective}
use Rattle.push_down_join.specs.declared.extract_or_clause.Connective.TheVariants.{And, Or}

-- ---- an AND, an OR, or any other expression

pub data Operated (e : Expr) (op : P.Option Connective) : Type 0 where
  conj : (a b : Expr) → op ≡ P.Some And → e ≡ bin and a b → Operated e op
  disj : (a b : Expr) → op ≡ P.Some Or → e ≡ bin or a b → Operated e op
  other : op ≡ P.None → ((c : Name → Bool) → extract_or_clause c e ≡ guarded (on_cols c e) e) → Operated e op

pub operated : (e : Expr) → Operated e (operator_of (label_e e))
unfolding label_e operator_of extract_or_clause
operated (bin and a b) = conj a b refl refl
operated (bin or a b) = disj a b refl refl
operated (bin (cmp eq) a b) = other refl (λ c. refl)
operated (bin (cmp ne) a b) = other refl (λ c. refl)
operated (bin (cmp lt) a b) = other refl (λ c. refl)
operated (bin (cmp le) a b) = other refl (λ c. refl)
operated (bin (cmp gt) a b) = other refl (λ c. refl)
operated (bin (cmp ge) a b) = other refl (λ c. refl)
operated (col x) = other refl (λ c. refl)
operated (num z) = other refl (λ c. refl)
operated (bool b) = other refl (λ c. refl)
operated (nul t) = other refl (λ c. refl)
operated (neg a) = other refl (λ c. refl)
operated (test t a) = other refl (λ c. refl)
operated (between n a l u) = other refl (λ c. refl)
operated (inlist n a xs) = other refl (λ c. refl)
operated (fn p q r xs) = other refl (λ c. refl)

-- ---- the operands

-- the expression is o of two others, which stand there
pub record Sides {N : ℕ} (o : Op) (e : Expr) (a b : Stretch N) : Type 0 where
  pub lhs : Expr
  pub rhs : Expr
  pub is : e ≡ bin o lhs rhs
  pub left : tree_of a ≡ expr_tree lhs
  pub right : tree_of b ≡ expr_tree rhs

sides : {N : ℕ} {t a b : Stretch N} (o : Op) (e x y : Expr) → Two t a b → e ≡ bin o x y → tree_of t ≡ expr_tree e → Sides o e a b
unfolding label_e kids_e
sides {N} {t} {a} {b} o e x y w is h =
    let below : (tree_of t).below ≡ kids_e (bin o x y) = ap (λ (u : Tree). u.below) h ∙ ap kids_e is in
    let k : (tree_of a ≡ expr_tree x) × (tree_of b ≡ expr_tree y) = two_are w below in
    record { lhs = x; rhs = y; is = is; left = k.0; right = k.1 }

module _ {N : ℕ} {t a b : Stretch N} {op : Connective} (w : Apart t op a b) (e : Expr) (h : tree_of t ≡ expr_tree e) where
  top : P.Some op ≡ operator_of (label_e e)
  top = w.is ∙ ap (λ (u : Tree). operator_of u.label) h

  pub sides_and : op ≡ And → Sides and e a b
  sides_and one = go top (operated e)
    where
      go : P.Some op ≡ operator_of (label_e e) → Operated e (operator_of (label_e e)) → Sides and e a b
      go q (conj x y k is) = sides and e x y w.two is h
      go q (disj x y k is) = absurd (cc)
      go q (other k is) = absurd (cc)

  pub sides_or : op ≡ Or → Sides or e a b
  sides_or two = go top (operated e)
    where
      go : P.Some op ≡ operator_of (label_e e) → Operated e (operator_of (label_e e)) → Sides or e a b
      go q (conj x y k is) = absurd (cc)
      go q (disj x y k is) = sides or e x y w.two is h
      go q (other k is) = absurd (cc)

module _ {N : ℕ} {o : Op} {e : Expr} {a b : Stretch N} (u : Sides o e a b) where
  -- the columns of the operands
  pub held_left : (c : Name → Bool) → on_cols c e ≡ true → on_cols c u.lhs ≡ true
  unfolding on_cols
  held_left c h = and_l (on_cols c u.lhs) (on_cols c u.rhs) (rw u.is at h)

  pub held_right : (c : Name → Bool) → on_cols c e ≡ true → on_cols c u.rhs ≡ true
  unfolding on_cols
  held_right c h = and_r (on_cols c u.lhs) (on_cols c u.rhs) (rw u.is at h)

-- an expression over fewer trees has no operator
pub few_whole : {N : ℕ} (t : Stretch N) → Few (tree_of t).below → (e : Expr) → tree_of t ≡ expr_tree e → operator_of (label_e e) ≡ P.None
unfolding kids_e
few_whole t few e h = go (operated e)
  where
    over : (x y : Expr) (o : Op) → e ≡ bin o x y → ⊥
    over x y o is =
        let below : (tree_of t).below ≡ kids_e (bin o x y) = ap (λ (u : Tree). u.below) h ∙ ap kids_e is in
        subst Few below few

    go : Operated e (operator_of (label_e e)) → operator_of (label_e e) ≡ P.None
    go (conj x y k is) = absurd (over x y and is)
    go (disj x y k is) = absurd (over x y or is)
    go (other k is) = k

-- ---- what the operands' clauses make

module _ (c : Name → Bool) (e : Expr) where
  -- an expression without an operator
  other_clause : operator_of (label_e e) ≡ P.None → extract_or_clause c e ≡ guarded (on_cols c e) e
  other_clause z = go (operated e)
    where
      go : Operated e (operator_of (label_e e)) → extract_or_clause c e ≡ guarded (on_cols c e) e
      go (conj a b k is) = absurd (cc)
      go (disj a b k is) = absurd (cc)
      go (other k is) = is c

  -- any other yields if it reads the side alone
  pub other_yields : {op : P.Option Connective} → op ≡ operator_of (label_e e) → op ≡ P.None → on_cols c e ≡ yields (extract_or_clause c e)
  unfolding guarded
  other_yields is z = sym (ap yields (other_clause (sym is ∙ z)) ∙ go (on_cols c e))
    where
      go : (b : Bool) → yields (guarded b e) ≡ b
      go true = refl
      go false = refl

  pub other_whole : {op : P.Option Connective} {d : Expr} → op ≡ operator_of (label_e e) → op ≡ P.None → extract_or_clause c e ≡ some d → e ≡ d
  unfolding guarded
  other_whole {op} {d} is z h = go (on_cols c e) (sym (other_clause (sym is ∙ z)) ∙ h)
    where
      go : (b : Bool) → guarded b e ≡ some d → e ≡ d
      go true k = cc
      go false k = cc

module _ {N : ℕ} (c : Name → Bool) {e : Expr} {a b : Stretch N} where
  of_or : (u : Sides or e a b) → extract_or_clause c e ≡ both_or (extract_or_clause c u.lhs) (extract_or_clause c u.rhs)
  unfolding extract_or_clause
  of_or u = ap (extract_or_clause c) u.is

  of_and : (u : Sides and e a b) → extract_or_clause c e ≡ either_and_option (extract_or_clause c u.lhs) (extract_or_clause c u.rhs)
  unfolding extract_or_clause
  of_and u = ap (extract_or_clause c) u.is

  -- an OR yields if both its operands do
  pub or_yields : (u : Sides or e a b) → (yields (extract_or_clause c u.lhs) && yields (extract_or_clause c u.rhs)) ≡ yields (extract_or_clause c e)
  unfolding both_or
  or_yields u = sym (ap yields (of_or u) ∙ go (extract_or_clause c u.lhs) (extract_or_clause c u.rhs))
    where
      go : (a b : Option Expr) → yields (both_or a b) ≡ (yields a && yields b)
      go none b = refl
      go (some a) none = refl
      go (some a) (some b) = refl

  -- an AND keeps each operand that yields
  pub and_yields : (u : Sides and e a b) → (yields (extract_or_clause c u.lhs) || yields (extract_or_clause c u.rhs)) ≡ yields (extract_or_clause c e)
  unfolding either_and_option
  and_yields u = sym (ap yields (of_and u) ∙ go (extract_or_clause c u.lhs) (extract_or_clause c u.rhs))
    where
      go : (a b : Option Expr) → yields (either_and_option a b) ≡ (yields a || yields b)
      go none b = refl
      go (some a) none = refl
      go (some a) (some b) = refl

-- ---- which operands are part of the clause

kept_or : {op : Connective} (x : Option Expr) → op ≡ Or → true ≡ kept op x
kept_or x e = rw e refl

kept_some : (op : Connective) (a : Expr) → kept op (some a) ≡ true
kept_some And a = refl
kept_some Or a = refl

differ : {A : Type 0} {b : Bool} → true ≡ b → false ≡ b → A
differ h k = let z : ◌≡◌ {A = ℕ} 0 1 = cc in absurd (omega arith)

never : {A : Type 0} {a : Expr} → none ≡ some a → A
never h = let z : ◌≡◌ {A = ℕ} 0 1 = cc in absurd (omega arith)

-- an operand with its clause
pub record Half {N : ℕ} (a : Stretch N) (ns : List Name) (c : Name → Bool) (clause : Expr) : Type 0 where
  pub expr : Expr
  pub is : tree_of a ≡ expr_tree expr
  pub held : on_cols (has ns) expr ≡ true
  pub yields : extract_or_clause c expr ≡ some clause

-- both operands, of which a clause is made
pub record Both {N : ℕ} (a b : Stretch N) (ns : List Name) (c : Name → Bool) (e clause : Expr) : Type 0 where
  pub op : Op
  pub lhs : Expr
  pub rhs : Expr
  pub first : Half a ns c lhs
  pub last : Half b ns c rhs
  pub is : clause ≡ bin op lhs rhs
  pub label : label_e e ≡ label_e (bin op lhs rhs)

module _ {N : ℕ} {t a b : Stretch N} {op : Connective} (w : Apart t op a b) (ns : List Name) (c : Name → Bool) (e d : Expr)
    (h : tree_of t ≡ expr_tree e) (held : on_cols (has ns) e ≡ true) (gives : extract_or_clause c e ≡ some d) where
  first_of : {o : Op} {x : Expr} (u : Sides o e a b) → extract_or_clause c u.lhs ≡ some x → Half a ns c x
  first_of u k = record { expr = u.lhs; is = u.left; held = held_left u (has ns) held; yields = k }

  last_of : {o : Op} {x : Expr} (u : Sides o e a b) → extract_or_clause c u.rhs ≡ some x → Half b ns c x
  last_of u k = record { expr = u.rhs; is = u.right; held = held_right u (has ns) held; yields = k }

  -- by the operator
  by_op : {A : Type 0} → (op ≡ And → Sides and e a b → A) → (op ≡ Or → Sides or e a b → A) → A
  by_op {A} f g = go (w.is ∙ ap (λ (u : Tree). operator_of u.label) h) (operated e)
    where
      go : P.Some op ≡ operator_of (label_e e) → Operated e (operator_of (label_e e)) → A
      go n (conj x y k z) = f (cc) (sides and e x y w.two z h)
      go n (disj x y k z) = g (cc) (sides or e x y w.two z h)
      go n (other k z) = absurd (cc)

  -- the first is not: it is an AND, and the clause is that of the second
  pub only_last : ((x : Expr) → tree_of a ≡ expr_tree x → on_cols (has ns) x ≡ true → false ≡ kept op (extract_or_clause c x)) → Half b ns c d
  unfolding either_and_option
  only_last f =
      by_op (λ one u. last_of u (go (extract_or_clause c u.lhs) (extract_or_clause c u.rhs)
      (f u.lhs u.left (held_left u (has ns) held)) (sym (of_and c u) ∙ gives)))
      (λ two u. differ (kept_or (extract_or_clause c u.lhs) two) (f u.lhs u.left (held_left u (has ns) held)))
    where
      go : (x y : Option Expr) → false ≡ kept op x → either_and_option x y ≡ some d → y ≡ some d
      go none y k m = m
      go (some x) y k m = differ (sym (kept_some op x)) k

  -- the second is not: it is an AND, and the clause is that of the first
  pub only_first : ((x : Expr) → tree_of b ≡ expr_tree x → on_cols (has ns) x ≡ true → false ≡ kept op (extract_or_clause c x)) → Half a ns c d
  unfolding either_and_option
  only_first f =
      by_op (λ one u. first_of u (go (extract_or_clause c u.lhs) (extract_or_clause c u.rhs)
      (f u.rhs u.right (held_right u (has ns) held)) (sym (of_and c u) ∙ gives)))
      (λ two u. differ (kept_or (extract_or_clause c u.rhs) two) (f u.rhs u.right (held_right u (has ns) held)))
    where
      go : (x y : Option Expr) → false ≡ kept op y → either_and_option x y ≡ some d → x ≡ some d
      go x (some y) k m = differ (sym (kept_some op y)) k
      go none none k m = m
      go (some x) none k m = m

  -- both are
  pub both_of : ((x : Expr) → tree_of a ≡ expr_tree x → on_cols (has ns) x ≡ true → true ≡ kept op (extract_or_clause c x))
      → ((x : Expr) → tree_of b ≡ expr_tree x → on_cols (has ns) x ≡ true → true ≡ kept op (extract_or_clause c x)) → Both a b ns c e d
  unfolding either_and_option both_or label_e
  both_of f g =
      by_op (λ one u. anded one u (extract_or_clause c u.lhs) (extract_or_clause c u.rhs) refl refl
      (f u.lhs u.left (held_left u (has ns) held)) (g u.rhs u.right (held_right u (has ns) held))
      (sym (of_and c u) ∙ gives))
      (λ two u. ored u (extract_or_clause c u.lhs) (extract_or_clause c u.rhs) refl refl (sym (of_or c u) ∙ gives))
    where
      none_kept : op ≡ And → kept op none ≡ false
      none_kept one = rw one refl

      anded : op ≡ And → (u : Sides and e a b) (x y : Option Expr) → extract_or_clause c u.lhs ≡ x → extract_or_clause c u.rhs ≡ y
          → true ≡ kept op x → true ≡ kept op y → either_and_option x y ≡ some d → Both a b ns c e d
      anded one u none y i j k l m = differ k (sym (none_kept one))
      anded one u (some x) none i j k l m = differ l (sym (none_kept one))
      anded one u (some x) (some y) i j k l m =
          record { op = and; lhs = x; rhs = y; first = first_of u i; last = last_of u j; is = cc; label = rw u.is }

      ored : (u : Sides or e a b) (x y : Option Expr) → extract_or_clause c u.lhs ≡ x → extract_or_clause c u.rhs ≡ y
          → both_or x y ≡ some d → Both a b ns c e d
      ored u none y i j m = never m
      ored u (some x) none i j m = never m
      ored u (some x) (some y) i j m =
          record { op = or; lhs = x; rhs = y; first = first_of u i; last = last_of u j; is = cc; label = rw u.is }

-- a label and two operands, written one after another, are the expression
pub wrote_clause : {out₀ out₁ : List ℕ} {at level n : ℕ} {l : Label} (o : Op) (a b k : Expr)
    → Wrote out₀ out₁ at level n (record { label = l; below = node (label_e a) (kids_e a) (node (label_e b) (kids_e b) T.none) })
    → l ≡ label_e (bin o a b) → k ≡ bin o a b → Wrote out₀ out₁ at level n (expr_tree k)
unfolding kids_e
wrote_clause o a b k w e is = rw (is, ← e) w

-- ---- the conjuncts that are an OR at their top

-- it is Or
abbrev is_disj : P.Option Connective → Bool
is_disj P.None = false
is_disj (P.Some And) = false
is_disj (P.Some Or) = true

or_operator : (e : Expr) → is_or e ≡ is_disj (operator_of (label_e e))
unfolding label_e operator_of is_or
or_operator (bin and a b) = refl
or_operator (bin or a b) = refl
or_operator (bin (cmp eq) a b) = refl
or_operator (bin (cmp ne) a b) = refl
or_operator (bin (cmp lt) a b) = refl
or_operator (bin (cmp le) a b) = refl
or_operator (bin (cmp gt) a b) = refl
or_operator (bin (cmp ge) a b) = refl
or_operator (col x) = refl
or_operator (num z) = refl
or_operator (bool b) = refl
or_operator (nul t) = refl
or_operator (neg a) = refl
or_operator (test t a) = refl
or_operator (between n a l u) = refl
or_operator (inlist n a xs) = refl
or_operator (fn p q r xs) = refl

module _ (c : Name → Bool) (e : Expr) {op : P.Option Connective} (is : op ≡ operator_of (label_e e)) where
  pub or_top : op ≡ P.Some Or → extract_or_clause c e ≡ or_clause c e
  or_top z = rw (or_operator e, ← is, z)

  pub no_or_top : (op ≡ P.Some Or → ⊥) → false ≡ yields (or_clause c e)
  no_or_top nz = rw (or_operator e, ← is, none_of op nz)
    where
      none_of : (op : P.Option Connective) → (op ≡ P.Some Or → ⊥) → is_disj op ≡ false
      none_of P.None nz = refl
      none_of (P.Some And) nz = refl
      none_of (P.Some Or) nz = absurd (nz refl)

pub or_false : (c : Name → Bool) (e : Expr) → e ≡ bool false → false ≡ yields (or_clause c e)
unfolding is_or
or_false c e is = rw is

-- such a clause is that of the expression
pub or_whole : (c : Name → Bool) (e : Expr) {k : Expr} → or_clause c e ≡ some k → extract_or_clause c e ≡ some k
or_whole c e {k} h = go (is_or e) h
  where
    go : (b : Bool) → cond b (extract_or_clause c e) none ≡ some k → extract_or_clause c e ≡ some k
    go true h = h
    go false h = never h
