-- Laws of the fields of a plan, appended to others.
--     called_again    an alias below an alias, or below none
--     ends-…          what a call has appended as it returns
--     input_first, input_second       the inputs, by the plans from their place on
--     first_input, second_input, ..   .. as the code has them
-- Assumes nothing.
use mathlib.Core.Path.{◌≡◌, refl, sym, ap, ◌∙◌}
use mathlib.Core.Bool.{Bool, true, false}
use Rattle.std.specs.Prelude.{Option, Some, None}
use mathlib.Core.List.{List, [], ◌∷◌, ◌++◌, map, append_assoc, map-map}
use Prim.Native.Nat.{ℕ, ◌+◌, ◌-◌, ◌≤◌, ◌<◌}
use native.Mathlib.Omega.{arith}
use lib.ListN.{length, get_or, drop, length-drop}
use lib.Seq.{get_or-drop}
use Rattle.image.specs.Tree.{Label, Forest, Tree, size}
use Rattle.image.specs.Subtrees.{forest, tree_of}
use Rattle.image.specs.declared.trees.Stretch.{Stretch}
use Rattle.image.specs.declared.trees.Stretches.{Stretches}
use Rattle.plan.specs.Schema.{schema, requalify}
use Rattle.plan.specs.Syntax.{Name, nm, Plan}
use Rattle.plan.specs.Trees.{label_p, kids_p, plan_tree}
use Rattle.plan.specs.Kinds.{what}
use Rattle.plan.specs.FieldSources.{role, creates, renames, extends, gives_both, own}
use Rattle.plan.specs.declared.field_sources.Role.{Role}
use Rattle.plan.specs.Inputs.{plans_in, PlanAt}
use Rattle.plan.specs.Lists.{put}
use Rattle.utils.specs.Fields.{Fields, Names}
use Rattle.utils.specs.Inputs.{below, called, made}
use Rattle.utils.proofs.Making.{called_append}
use Rattle.utils.proofs.Shapes.{no_tree, role_of, Rest, nothing_more, parts, second, Shape, own_parts, no_input, over, shape}

never : {A : Type 0} {b : Bool} → b ≡ true → b ≡ false → A
never h k = let z : ◌≡◌ {A = ℕ} 0 1 = cc in absurd (omega arith)

-- ---- qualifiers

-- an alias below an alias, or below none
pub called_again : (renamed : Bool) (w : ℕ) (o : Option ℕ) (ns : List Name)
    → called (below renamed w o) ns ≡ called o (called (below renamed w None) ns)
called_again true w (Some q) ns = sym (map-map (requalify q) (requalify w) ns ∙ twice ns)
  where
    twice : (ns : List Name) → map (λ x. requalify q (requalify w x)) ns ≡ map (requalify q) ns
    twice [] = refl
    twice (nm r m ∷ ns) = ap (nm q m ∷◌) (twice ns)
called_again false w (Some q) ns = refl
called_again renamed w None ns = refl

-- ---- what has been appended

module _ (p : Plan) (l : Label) (e : l ≡ label_p p) {r : Role} (R : r ≡ role (what l)) where
  -- a plan whose parts make its fields
  pub schema_made : creates r ≡ true → schema p ≡ made (kids_p p)
  schema_made m = go (rw (R, e) at m) (shape p)
    where
      go : creates (role_of p) ≡ true → Shape p → schema p ≡ made (kids_p p)
      go m (own_parts k is) = is
      go m (no_input k le is) = never m k
      go m (over k i le is r) = never m k

  module _ (o : Option ℕ) {f : Fields} (ns : List Name) (i : Plan)
      (first : Names f (ns ++ called (below (renames r) l.p o) (schema i))) where
    again : Names f (ns ++ called o (called (below (renames (role_of p)) (label_p p).p None) (schema i)))
    again = rw (R, e, called_again (renames (role_of p)) (label_p p).p o (schema i)) at first

    -- without an alias
    plain : renames (role_of p) ≡ false → Names f (ns ++ called o (schema i))
    plain k = rw k at again

    -- the fields of an input, and more behind them
    pub ends_more : {g : Fields} (xs : List Name) → renames (role_of p) ≡ false → schema p ≡ schema i ++ xs
        → ((ms : List Name) → Names f ms → Names g (ms ++ called o xs)) → Names g (ns ++ called o (schema p))
    ends_more {g} xs k is step =
        rw (is, called_append o (schema i) xs, ← append_assoc ns (called o (schema i)) (called o xs))
        (step (ns ++ called o (schema i)) (plain k))

    -- the fields that the parts make behind them
    pub ends_parts : {g : Fields} → Rest p i → extends r ≡ true
        → ((ms : List Name) → Names f ms → Names g (ms ++ called o (made (kids_p p)))) → Names g (ns ++ called o (schema p))
    ends_parts {g} t k step = go (rw (R, e) at k) t
      where
        go : extends (role_of p) ≡ true → Rest p i → Names g (ns ++ called o (schema p))
        go k (nothing_more x y is) = never k x
        go k (parts x y z is) = ends_more (made (kids_p p)) z is step
        go k (second x y z j le at is) = never k x

    -- nothing behind them
    pub ends_first : Rest p i → extends r ≡ false → gives_both r l.p ≡ false
        → Names f (ns ++ called o (schema p))
    ends_first t k both = go (rw (R, e) at k) (rw (R, e) at both) t
      where
        go : extends (role_of p) ≡ false → gives_both (role_of p) (label_p p).p ≡ false → Rest p i
            → Names f (ns ++ called o (schema p))
        go k both (nothing_more x y is) = rw is again
        go k both (parts x y z is) = never x k
        go k both (second x y z j le at is) = never y both

-- ---- the inputs

-- the plans from a place on, as the code has them
plan_at : {N : ℕ} {x : Stretches N} {f : Forest} → forest x ≡ f → (place : ℕ) {t : Stretch N} (w : PlanAt x place t)
    → drop place (plans_in f) ≡ tree_of t ∷ plans_in (forest w.after)
unfolding plans_in put
plan_at {N} {x} {f} b place {t} w =
    ap (λ (g : Forest). drop place (plans_in g)) (sym b) ∙ w.plans ∙ (ap plans_in w.first.is ∙ rw w.is)

-- the first of them, by its number
plan_here : (f : Forest) (place : ℕ) {t : Tree} {ts : List Tree} → drop place (plans_in f) ≡ t ∷ ts
    → (place < length (plans_in f)) × (get_or (plans_in f) place no_tree ≡ t)
plan_here f place {t} {ts} e =
    let k : place + 0 ≡ place = omega arith in
    let n : length (plans_in f) - place ≡ length (t ∷ ts) = rw (← length-drop place (plans_in f), e) in
    (omega (arith, n), rw k at (sym (get_or-drop place (plans_in f) 0 no_tree) ∙ ap (λ (ys : List Tree). get_or ys 0 no_tree) e))

none_at : (xs : List Tree) (place : ℕ) → drop place xs ≡ [] → length xs ≤ place
none_at xs place e = omega (arith, length-drop place xs, ap length e)

-- an input, and what comes behind its fields
pub record Of (u : Tree) (Q : Plan → Type 0) : Type 0 where
  pub input : Plan
  pub is : u ≡ plan_tree input
  pub rest : Q input

module _ (p : Plan) {t : Tree} (is : t ≡ plan_tree p) (l : Label) (e : l ≡ t.label) {r : Role} (R : r ≡ role (what l)) where
  pub label_is : l ≡ label_p p
  label_is = e ∙ ap (λ (u : Tree). u.label) is

  below_is : t.below ≡ kids_p p
  below_is = ap (λ (u : Tree). u.below) is

  pub all_made : creates r ≡ true → schema p ≡ made t.below
  all_made m = schema_made p l label_is R m ∙ ap made (sym below_is)

  -- the input whose fields come first
  pub input_first : creates r ≡ false → {place : ℕ} → place ≡ own r l.p → {u : Tree} {us : List Tree} → drop place (plans_in t.below) ≡ u ∷ us
      → Of u (Rest p)
  input_first m at {u} w = go (rw (R, label_is) at m) (shape p)
    where
      here : (own (role_of p) (label_p p).p < length (plans_in (kids_p p)))
          × (get_or (plans_in (kids_p p)) (own (role_of p) (label_p p).p) no_tree ≡ u)
      here = rw (at, R, label_is, below_is) at (plan_here _ _ w)

      go : creates (role_of p) ≡ false → Shape p → Of u (Rest p)
      go m (own_parts k is) = never k m
      go m (no_input k le is) = absurd (omega (arith, here.0))
      go m (over k i le is r) = record { input = i; is = sym here.1 ∙ is; rest = r }

  -- .. as the code has it
  pub first_input : {N : ℕ} → creates r ≡ false → {place : ℕ} → place ≡ own r l.p → {x : Stretches N} → forest x ≡ t.below → {u : Stretch N}
      → PlanAt x place u → Of (tree_of u) (Rest p)
  first_input {N} m {place} at b w = input_first m at (plan_at b place w)

  -- there is none
  pub no_first : creates r ≡ false → {place : ℕ} → place ≡ own r l.p → drop place (plans_in t.below) ≡ [] → schema p ≡ []
  no_first m at w = go (rw (R, label_is) at m) (shape p)
    where
      here : length (plans_in (kids_p p)) ≤ own (role_of p) (label_p p).p
      here = rw (at, R, label_is, below_is) at (none_at (plans_in t.below) _ w)

      go : creates (role_of p) ≡ false → Shape p → schema p ≡ []
      go m (own_parts k is) = never k m
      go m (no_input k le is) = is
      go m (over k i le is r) = absurd (omega (arith, here))

  module _ (i : Plan) (rest : Rest p i) (both : gives_both r l.p ≡ true) where
    -- the second input of a join that gives the fields of both
    pub input_second : {u : Tree} {us : List Tree} → drop 1 (plans_in t.below) ≡ u ∷ us
        → Of u (λ j. (renames (role_of p) ≡ false) × (schema p ≡ schema i ++ schema j))
    input_second {u} w = go (rw (R, label_is) at both) rest
      where
        here : get_or (plans_in (kids_p p)) 1 no_tree ≡ u
        here = rw below_is at (plan_here _ 1 w).1

        go : gives_both (role_of p) (label_p p).p ≡ true → Rest p i → Of u (λ j. (renames (role_of p) ≡ false) × (schema p ≡ schema i ++ schema j))
        go both (nothing_more x y is) = never both y
        go both (parts x y z is) = never both y
        go both (second x y z j le at is) = record { input = j; is = sym here ∙ at; rest = (z, is) }

    -- .. as the code has it
    pub second_input : {N : ℕ} {x : Stretches N} → forest x ≡ t.below → {u : Stretch N} → PlanAt x 1 u
        → Of (tree_of u) (λ j. (renames (role_of p) ≡ false) × (schema p ≡ schema i ++ schema j))
    second_input {N} b w = input_second (plan_at b 1 w)

    -- there is one
    pub some_second : {A : Type 0} → drop 1 (plans_in t.below) ≡ [] → A
    some_second {A} w = go (rw (R, label_is) at both) rest
      where
        here : length (plans_in (kids_p p)) ≤ 1
        here = rw below_is at (none_at (plans_in t.below) 1 w)

        go : gives_both (role_of p) (label_p p).p ≡ true → Rest p i → A
        go both (nothing_more x y is) = never both y
        go both (parts x y z is) = never both y
        go both (second x y z j le at is) = absurd (omega (arith, here))

-- an input has fewer records
pub fewer : {N : ℕ} {x : Stretches N} {f : Forest} → forest x ≡ f → {place : ℕ} {t : Stretch N} → PlanAt x place t → size (tree_of t).below < size f
fewer b w = omega (arith, w.fewer, ap size w.first.is, ap size b)
