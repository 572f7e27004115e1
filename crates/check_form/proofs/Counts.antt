-- Laws of the lists of a plan and of the form of a record, for the code that counts along trees.
-- Assumes nothing.
use mathlib.Core.Path.{◌≡◌, refl, sym, ap, ◌∙◌}
use mathlib.Core.Bool.{Bool, true, false, cond, not, ◌||◌}
use mathlib.Core.List.{List}
use Prim.Native.Nat.{ℕ, suc, ◌+◌, ◌-◌, ◌*◌, ◌≤◌}
use native.Mathlib.Omega.{arith}
use lib.Dec.{eqb, leb}
use lib.ListN.{length, drop, length-drop}
use borrow.Author.Tests.{eqb-true}
use Rattle.image.specs.Tree.{Label, Forest, none, node, size, Stands, Linked}
use Rattle.image.specs.Subtrees.{forest}
use Rattle.image.specs.declared.trees.Stretches.{Stretches}
use Rattle.image.specs.Limits.{max_list}
use Rattle.plan.specs.Lists.{◌&◌}
use Rattle.plan.specs.Kinds as K
use Rattle.plan.specs.Kinds.{What, what, what_of, expr_w, among, is_expr}
use Rattle.plan.specs.Form.{end, one, children_by, is_and, conjuncts, exprs_in, list_by, form_ok}
use Rattle.plan.proofs.Bools.{no_yes}
use Rattle.plan.proofs.Lists.{and_l}
use Rattle.check_form.specs.declared.sorts.Sort.TheVariants.{Expression}
use Rattle.check_form.specs.Sorts.{sort_of}

-- ---- records are bytes

few : (f : Forest) (s : List ℕ) (b : ℕ) → Stands f s b → 32 * size f ≤ length s
few none s b h = omega arith
few (node l cs ns) s b h =
    let n = 32 * suc (size cs) in
    omega (arith, h.head.room, few ns (drop n s) (b + 1 + size cs) h.after, length-drop n s)

few_linked : (f : Forest) (s : List ℕ) (b at : ℕ) → Linked f s b at → 32 * size f ≤ length s
few_linked none s b at h = omega arith
few_linked (node l cs ns) s b at h =
    omega (arith, few (node l cs ns) (drop (32 * (at - b)) s) at h.1, length-drop (32 * (at - b)) s)

-- the trees have no more records than there are bytes for
few_trees : {N : ℕ} (x : Stretches N) → size (forest x) ≤ length x.image.now
few_trees x = omega (arith, few_linked (forest x) _ _ _ x.chained.linked)

-- ---- what is counted, tree by tree

-- of what h counts in f, n have been met, and those in g are still to come
pub record Counted (h : Forest → ℕ) (n : ℕ) (f g : Forest) : Type 0 where
  pub met : h f ≡ n + h g

pub count_end : {h : Forest → ℕ} {n : ℕ} {f g : Forest} → Counted h n f g → h g ≡ 0 → n ≡ h f
count_end k z = omega (arith, k.met, z)

pub count_on : {h : Forest → ℕ} {n : ℕ} {f g : Forest} → Counted h n f g → (x : ℕ) (ns : Forest) → h g ≡ x + h ns → Counted h (n + x) f ns
count_on k x ns e = record { met = omega (arith, k.met, e) }

-- as many as there are bytes for
pub count_room : {N : ℕ} {h : Forest → ℕ} {n : ℕ} {g : Forest} (x : Stretches N) → Counted h n (forest x) g → h (forest x) ≤ size (forest x)
    → n ≤ length x.image.now
count_room x k l = omega (arith, k.met, l, few_trees x)

-- what the code adds for a tree that is counted by its own record
pub one_is : (l : Label) {x k : ℕ} {y : Bool} → x ≡ cond y 1 0 → y ≡ sort_of Expression k → k ≡ l.kind → x ≡ cond (is_expr l) 1 0
unfolding sort_of
one_is l p q r = p ∙ ap (λ (z : Bool). cond z 1 0) (q ∙ ap (λ (n : ℕ). expr_w (what_of n)) r)

-- ---- expressions

bit : (b : Bool) → cond b 1 0 ≤ 1
bit true = omega arith
bit false = omega arith

-- no more than records
pub exprs_few : (f : Forest) → exprs_in f ≤ size f
unfolding exprs_in
exprs_few none = omega arith
exprs_few (node l cs ns) = omega (arith, bit (is_expr l), exprs_few ns)

pub exprs_none : (f : Forest) → f ≡ none → exprs_in f ≡ 0
unfolding exprs_in
exprs_none f e = rw e

pub exprs_step : {f : Forest} {l : Label} {cs ns : Forest} {x : ℕ} → f ≡ node l cs ns → x ≡ cond (is_expr l) 1 0 → exprs_in f ≡ x + exprs_in ns
unfolding exprs_in
exprs_step w e = rw (w, e)

-- ---- conjuncts

and_expr : (l : Label) (cs : Forest) → is_and l cs ≡ true → is_expr l ≡ true
unfolding is_and what_of among
and_expr l cs h = let e : l.kind ≡ K.number_e K.Binary = eqb-true l.kind (K.number_e K.Binary) (and_l _ _ h) in ap (λ (n : ℕ). K.expr_w (what_of n)) e

-- an And is read as a sum
split : (a e : Bool) (n : ℕ) → (a ≡ true → e ≡ true) → cond e (cond a n 1) 0 ≤ n + 1
split true true n h = omega arith
split true false n h = omega arith
split false true n h = omega arith
split false false n h = omega arith

-- no more than records
pub conj_few : (f : Forest) → conjuncts f ≤ size f
unfolding conjuncts
conj_few none = omega arith
conj_few (node l cs ns) = omega (arith, split (is_and l cs) (is_expr l) (conjuncts cs) (and_expr l cs), conj_few cs, conj_few ns)

pub conj_none : (f : Forest) → f ≡ none → conjuncts f ≡ 0
unfolding conjuncts
conj_none f e = rw e

module _ {f : Forest} {l : Label} {cs ns : Forest} (w : f ≡ node l cs ns) {x : ℕ} where
  -- those of an And
  pub conj_and : is_and l cs ≡ true → x ≡ conjuncts cs → conjuncts f ≡ x + conjuncts ns
  unfolding conjuncts
  conj_and a e = let t : is_expr l ≡ true = and_expr l cs a in rw (w, t, a, e)

  -- another tree
  pub conj_one : is_and l cs ≡ false → x ≡ cond (is_expr l) 1 0 → conjuncts f ≡ x + conjuncts ns
  unfolding conjuncts
  conj_one a e = rw (w, a, e)

-- whether the code's tests of the record tell an And
pub no_and : (l : Label) (cs : Forest) → (not (eqb l.kind (K.number_e K.Binary)) || not (eqb l.p 1)) ≡ true → false ≡ is_and l cs
unfolding is_and ◌&◌
no_and l cs = go (eqb l.kind (K.number_e K.Binary)) (eqb l.p 1)
  where
    go : (a b : Bool) → (not a || not b) ≡ true → false ≡ a & b & one is_expr (one is_expr end) cs
    go true true e = no_yes e
    go true false e = refl
    go false b e = refl

pub and_of : (l : Label) (cs : Forest) → (not (eqb l.kind (K.number_e K.Binary)) || not (eqb l.p 1)) ≡ false
    → one is_expr (one is_expr end) cs ≡ is_and l cs
unfolding is_and ◌&◌
and_of l cs = go (eqb l.kind (K.number_e K.Binary)) (eqb l.p 1)
  where
    go : (a b : Bool) → (not a || not b) ≡ false → one is_expr (one is_expr end) cs ≡ a & b & one is_expr (one is_expr end) cs
    go true true e = refl
    go true false e = no_yes (sym e)
    go false b e = no_yes (sym e)

-- ---- the form of a record

module _ (l : Label) (f : Forest) {w : What} (is : w ≡ what l) where
  pub form_children : children_by w f ≡ false → form_ok l f ≡ false
  unfolding form_ok ◌&◌
  form_children h = rw (← is, h)

  pub form_list : {n : ℕ} → children_by w f ≡ true → n ≡ list_by w f → leb n max_list ≡ form_ok l f
  unfolding form_ok ◌&◌
  form_list {n} h i = rw (← is, h, i)
