-- What the groups hold of a column is what the list holds of it, in order.
--     collect_enter    one more comparison, in the groups
--     group_is         the predicates of a column in the list are those in the groups
-- Assumes nothing.
use mathlib.Core.Path.{◌≡◌, refl, sym, ap, subst, ◌∙◌}
use mathlib.Core.Bool.{Bool, true, false, ◌&&◌}
use mathlib.Core.List.{List, [], ◌∷◌, ◌++◌, map}
use mathlib.Core.Option.{Option, none, some}
use Prim.Native.Nat.{ℕ}
use lib.Dec.{eqb}
use Rattle.plan.specs.Syntax.{Expr, Name, nm}
use Rattle.plan.specs.Schema.{same}
use Rattle.plan.specs.Lists.{choose, put, keep}
use Rattle.plan.proofs.Names.{same_eq}
use Rattle.rewrite.specs.SimplifyPredicates.{Rel, same_as, above, below, Side, Item, Group, name_under, put_in, fresh, enter, view, add, sort_out}
use Rattle.conjuncts.proofs.Listed.{put_then}
use Rattle.simplify_expressions.specs.Seen.{side_of?, side_in}
use Rattle.simplify_expressions.specs.Classes.{is_of, is_other, is_name, in_class, of_class, group_of}
use Rattle.simplify_expressions.specs.declared.simplify_predicates.Class.{Class}
use Rattle.simplify_expressions.specs.declared.simplify_predicates.Class.TheVariants.{Equality, Lower, Upper}
use Rattle.simplify_expressions.proofs.Sides.{and_is}

-- what the part f of the groups holds of the column x
abbrev pub collect : (Group → List Side) → Name → List Group → List Side
collect f x [] = []
collect f x (g ∷ gs) = choose (same g.key x) (f g) [] ++ collect f x gs

-- the group of the column x
abbrev pub whole : Name → List Group → Group
whole x gs = record { key = x; eqs = collect (λ g. g.eqs) x gs; ups = collect (λ g. g.ups) x gs; downs = collect (λ g. g.downs) x gs }

side : Item → Side
side i = side_of? (some i)

is : Class → Item → Bool
is k i = is_of k i.rel

pub key_put : (i : Item) (g : Group) → (put_in i g).key ≡ g.key
key_put i g = go i.rel
  where
    go : (r : Rel) → (put_in (record { key = i.key; rel = r; lit = i.lit; flipped = i.flipped }) g).key ≡ g.key
    go same_as = refl
    go (above s) = refl
    go (below s) = refl

pub fresh_key : (i : Item) → (fresh i).key ≡ i.key
fresh_key i = key_put i (record { key = i.key; eqs = []; ups = []; downs = [] })

put_more : (t : Bool) (s : Side) (l r : List Side) → put t s l ++ r ≡ put t s (l ++ r)
unfolding put
put_more true s l r = refl
put_more false s l r = refl

map_put : (v : Bool) (e : Expr) (es : List Expr) → map side_in (put v e es) ≡ put v (side_in e) (map side_in es)
unfolding put
map_put true e es = refl
map_put false e es = refl

put_both : (u v : Bool) (s : Side) (l : List Side) → put (u && v) s l ≡ choose v (put u s l) l
unfolding put choose
put_both true true s l = refl
put_both true false s l = refl
put_both false true s l = refl
put_both false false s l = refl

name_is : (x : Name) (q n : ℕ) → is_name x q n ≡ same x (nm q n)
name_is (nm p m) q n = sym (and_is (eqb p q) (eqb m n))

-- a part f of a group, which a comparison of class k goes to
module _ (k : Class) (f : Group → List Side)
    (f-put : (i : Item) (g : Group) → f (put_in i g) ≡ put (is k i) (side i) (f g))
    (f-none : (x : Name) → f (record { key = x; eqs = []; ups = []; downs = [] }) ≡ []) where
  fresh_is : (x : Name) (i : Item) (l : List Side)
      → choose (same (fresh i).key x) (f (fresh i)) [] ++ l ≡ choose (same i.key x) (put (is k i) (side i) l) l
  unfolding choose
  fresh_is x i l =
      ap (λ (y : Name). choose (same y x) (f (fresh i)) [] ++ l) (fresh_key i)
      ∙ (ap (λ (m : List Side). choose (same i.key x) m [] ++ l) (f-put i _ ∙ ap (put (is k i) (side i)) (f-none i.key)) ∙ go (same i.key x))
    where
      go : (v : Bool) → choose v (put (is k i) (side i) []) [] ++ l ≡ choose v (put (is k i) (side i) l) l
      go true = put_then (is k i) (side i) l
      go false = refl

  collect_enter : (x : Name) (i : Item) (gs : List Group)
      → collect f x (enter i gs) ≡ choose (same i.key x) (put (is k i) (side i) (collect f x gs)) (collect f x gs)
  unfolding enter choose
  collect_enter x i [] = fresh_is x i []
  collect_enter x i (g ∷ gs) = go (same g.key i.key) refl (name_under i.key g.key) (collect_enter x i gs)
    where
      here : (v : Bool) → choose v (put (is k i) (side i) (f g)) [] ++ collect f x gs
          ≡ choose v (put (is k i) (side i) (choose v (f g) [] ++ collect f x gs)) (choose v (f g) [] ++ collect f x gs)
      here true = put_more (is k i) (side i) (f g) (collect f x gs)
      here false = refl

      later : (v : Bool) → same i.key x ≡ v → same g.key i.key ≡ false
          → choose (same g.key x) (f g) [] ++ choose v (put (is k i) (side i) (collect f x gs)) (collect f x gs)
          ≡ choose v (put (is k i) (side i) (collect f x (g ∷ gs))) (collect f x (g ∷ gs))
      later false e n = refl
      later true e n = let m : same g.key x ≡ false = subst (λ (y : Name). same g.key y ≡ false) (same_eq i.key x e) n in rw m

      go : (b : Bool) → same g.key i.key ≡ b → (c : Bool)
          → collect f x (enter i gs) ≡ choose (same i.key x) (put (is k i) (side i) (collect f x gs)) (collect f x gs)
          → collect f x (choose b (put_in i g ∷ gs) (choose c (fresh i ∷ g ∷ gs) (g ∷ enter i gs)))
          ≡ choose (same i.key x) (put (is k i) (side i) (collect f x (g ∷ gs))) (collect f x (g ∷ gs))
      go true e c h =
          ap (λ (y : Name). choose (same y x) (f (put_in i g)) [] ++ collect f x gs) (key_put i g)
          ∙ (ap (λ (m : List Side). choose (same g.key x) m [] ++ collect f x gs) (f-put i g)
          ∙ (here (same g.key x) ∙ ap (λ (y : Name). choose (same y x) (put (is k i) (side i) (collect f x (g ∷ gs)))
          (collect f x (g ∷ gs))) (same_eq g.key i.key e)))
      go false e true h = fresh_is x i (collect f x (g ∷ gs))
      go false e false h = ap (λ (m : List Side). choose (same g.key x) (f g) [] ++ m) h ∙ later (same i.key x) refl e

  -- of the column q, n
  collected : (other : is_other k ≡ false) (q n : ℕ) (es : List Expr) → map side_in (keep (of_class k q n) es) ≡ collect f (nm q n) (sort_out es).groups
  unfolding keep sort_out in_class put is side
  collected other q n [] = refl
  collected other q n (e ∷ es) =
      map_put (of_class k q n e) e (keep (of_class k q n) es) ∙ (ap (put (of_class k q n e) (side_in e)) (collected other q n es) ∙ go (view e))
    where
      go : (o : Option Item) → put (in_class k q n o) (side_of? o) (collect f (nm q n) (sort_out es).groups) ≡ collect f (nm q n)
          (add e o (sort_out es)).groups
      go none = rw other
      go (some i) =
          put_both (is k i) (is_name i.key q n) (side i) (collect f (nm q n) (sort_out es).groups)
          ∙ (ap (λ (v : Bool). choose v (put (is k i) (side i) (collect f (nm q n) (sort_out es).groups))
          (collect f (nm q n) (sort_out es).groups)) (name_is i.key q n)
          ∙ sym (collect_enter (nm q n) i (sort_out es).groups))

eqs_put : (i : Item) (g : Group) → (put_in i g).eqs ≡ put (is Equality i) (side i) g.eqs
unfolding put side_of? is side
eqs_put i g = go i.rel
  where
    go : (r : Rel) → let j : Item = record { key = i.key; rel = r; lit = i.lit; flipped = i.flipped } in
        (put_in j g).eqs ≡ put (is Equality j) (side j) g.eqs
    go same_as = refl
    go (above s) = refl
    go (below s) = refl

ups_put : (i : Item) (g : Group) → (put_in i g).ups ≡ put (is Lower i) (side i) g.ups
unfolding put side_of? is side
ups_put i g = go i.rel
  where
    go : (r : Rel) → let j : Item = record { key = i.key; rel = r; lit = i.lit; flipped = i.flipped } in
        (put_in j g).ups ≡ put (is Lower j) (side j) g.ups
    go same_as = refl
    go (above s) = refl
    go (below s) = refl

downs_put : (i : Item) (g : Group) → (put_in i g).downs ≡ put (is Upper i) (side i) g.downs
unfolding put side_of? is side
downs_put i g = go i.rel
  where
    go : (r : Rel) → let j : Item = record { key = i.key; rel = r; lit = i.lit; flipped = i.flipped } in
        (put_in j g).downs ≡ put (is Upper j) (side j) g.downs
    go same_as = refl
    go (above s) = refl
    go (below s) = refl

pub group_is : (q n : ℕ) (es : List Expr) → group_of q n es ≡ whole (nm q n) (sort_out es).groups
group_is q n es =
    rw (
      collected Equality (λ g. g.eqs) eqs_put (λ x. refl) refl q n es,
      collected Lower (λ g. g.ups) ups_put (λ x. refl) refl q n es,
      collected Upper (λ g. g.downs) downs_put (λ x. refl) refl q n es,
    )
