-- The groups stand in the order of their columns.
--     sorted_ascends      they do
--     least_head          the first that comes after a column is what `least` finds
--     rest_next           what comes after a column: the first group, and what comes after that one's column
--     groups_few          there are no more groups than predicates
-- Assumes nothing.
use mathlib.Core.Path.{◌≡◌, refl, sym, ap, subst, ◌∙◌}
use mathlib.Core.Bool.{Bool, true, false}
use mathlib.Core.List.{List, [], ◌∷◌, append-nil}
use mathlib.Core.Option.{Option, none, some}
use Prim.Native.Nat.{ℕ, suc, ◌≤◌}
use native.Mathlib.Omega.{arith}
use lib.ListN.{length}
use Rattle.plan.specs.Syntax.{Expr, Name}
use Rattle.plan.specs.Schema.{same}
use Rattle.plan.specs.Lists.{choose, put, keep, All, anil, acons}
use Rattle.plan.proofs.Lists.{All-map, All-keep, All-both, keep_cong}
use Rattle.plan.proofs.Names.{same_eq, same_refl}
use Rattle.rewrite.specs.SimplifyPredicates.{Side, Item, Group, name_under, put_in, fresh, enter, view, add, sort_out}
use Rattle.simplify_expressions.specs.Classes.{after, precedes, lesser, least}
use Rattle.simplify_expressions.proofs.Names.{under_trans, under_self, under_asym, under_else, under_apart}
use Rattle.simplify_expressions.proofs.Grouped.{collect, whole, key_put, fresh_key}

-- each group's column comes before those of the later ones
abbrev pub Ascends : List Group → Type 0
Ascends [] = Unit {0}
Ascends (g ∷ gs) = All (λ h. name_under g.key h.key ≡ true) gs × Ascends gs

-- what comes before all columns comes before all with one more
enter_after : (x : Name) (i : Item) {gs : List Group} → name_under x i.key ≡ true → All (λ h. name_under x h.key ≡ true) gs
    → All (λ h. name_under x h.key ≡ true) (enter i gs)
unfolding enter choose
enter_after x i u anil = let f : name_under x (fresh i).key ≡ true = rw (fresh_key i) u in acons f anil
enter_after x i u (acons {x = g} {xs = gs} h hs) = go (same g.key i.key) (name_under i.key g.key) (enter_after x i u hs)
  where
    go : (b c : Bool) → All (λ h. name_under x h.key ≡ true) (enter i gs)
        → All (λ h. name_under x h.key ≡ true) (choose b (put_in i g ∷ gs) (choose c (fresh i ∷ g ∷ gs) (g ∷ enter i gs)))
    go true c m = let f : name_under x (put_in i g).key ≡ true = rw (key_put i g) h in acons f hs
    go false true m = let f : name_under x (fresh i).key ≡ true = rw (fresh_key i) u in acons f (acons h hs)
    go false false m = acons h m

enter_ascends : (i : Item) (gs : List Group) → Ascends gs → Ascends (enter i gs)
unfolding enter choose
enter_ascends i [] h = (anil, tt)
enter_ascends i (g ∷ gs) h = go (same g.key i.key) refl (name_under i.key g.key) refl (enter_ascends i gs h.1)
  where
    go : (b : Bool) → same g.key i.key ≡ b → (c : Bool) → name_under i.key g.key ≡ c → Ascends (enter i gs)
        → Ascends (choose b (put_in i g ∷ gs) (choose c (fresh i ∷ g ∷ gs) (g ∷ enter i gs)))
    go true e c f m = (rw (key_put i g) h.0, h.1)
    go false e true f m = (
      rw (fresh_key i) (acons f (All-map (λ (k : Group) u. under_trans i.key g.key k.key f u) h.0)),
      h,
    )
    go false e false f m = (enter_after g.key i (under_else g.key i.key e f) h.0, m)

pub sorted_ascends : (es : List Expr) → Ascends (sort_out es).groups
unfolding sort_out
sorted_ascends [] = tt
sorted_ascends (e ∷ es) = go (view e) (sorted_ascends es)
  where
    go : (o : Option Item) → Ascends (sort_out es).groups → Ascends (add e o (sort_out es)).groups
    go none h = h
    go (some i) h = enter_ascends i (sort_out es).groups h

-- ---- the groups after a column

abbrev pub rest : Option Name → List Group → List Group
rest last gs = keep (λ g. after last g.key) gs

abbrev pub head_key : List Group → Option Name
head_key [] = none
head_key (g ∷ gs) = some g.key

-- what comes before all comes before the first
not_before : (x : Name) {gs : List Group} → All (λ h. name_under x h.key ≡ true) gs → precedes (head_key gs) x ≡ false
not_before x anil = refl
not_before x (acons {x = g} h hs) = under_asym x g.key h

head_all : (P : Name → Type 0) {gs : List Group} {x : Name} → All (λ h. P h.key) gs → head_key gs ≡ some x → P x
head_all P anil e = let z : ◌≡◌ {A = ℕ} 0 1 = cc in absurd (omega arith)
head_all P {x = x} (acons {x = g} h hs) e = let k : g.key ≡ x = cc in subst P k h

enter_head : (last : Option Name) (i : Item) (gs : List Group) → Ascends gs
    → head_key (rest last (enter i gs)) ≡ lesser last (some i) (head_key (rest last gs))
unfolding enter choose keep put lesser
enter_head last i [] h = ap (λ (x : Name). head_key (put (after last x) (fresh i) [])) (fresh_key i) ∙ go (after last i.key)
  where
    go : (b : Bool) → head_key (put b (fresh i) []) ≡ choose b (some i.key) none
    go true = ap some (fresh_key i)
    go false = refl
enter_head last i (g ∷ gs) h = go (same g.key i.key) refl (name_under i.key g.key) refl (enter_head last i gs h.1)
  where
    equal : g.key ≡ i.key → (b : Bool) → after last g.key ≡ b
        → head_key (put b (put_in i g) (rest last gs)) ≡ lesser last (some i) (head_key (put b g (rest last gs)))
    equal e true f =
        let a : after last i.key ≡ true = subst (λ (x : Name). after last x ≡ true) e f in
        let n : name_under g.key i.key ≡ false = subst (λ (x : Name). name_under x i.key ≡ false) (sym e) (under_self i.key) in
        rw (a, n, key_put i g) (ap some e)
    equal e false f = let a : after last i.key ≡ false = subst (λ (x : Name). after last x ≡ false) e f in rw a

    first : All (λ k. name_under i.key k.key ≡ true) (g ∷ gs) → (b : Bool) → after last i.key ≡ b
        → head_key (put b (fresh i) (rest last (g ∷ gs)))
        ≡ choose b (choose (precedes (head_key (rest last (g ∷ gs))) i.key) (head_key (rest last (g ∷ gs))) (some i.key)) (head_key (rest last (g ∷ gs)))
    first l true f = rw (not_before i.key (All-keep (λ k. after last k.key) l)) (ap some (fresh_key i))
    first l false f = refl

    later : name_under g.key i.key ≡ true → (b : Bool) → head_key (rest last (enter i gs)) ≡ lesser last (some i) (head_key (rest last gs))
        → head_key (put b g (rest last (enter i gs))) ≡ lesser last (some i) (head_key (put b g (rest last gs)))
    later u true m = rw u (same_either (after last i.key))
      where
        same_either : (b : Bool) → some g.key ≡ choose b (some g.key) (some g.key)
        same_either true = refl
        same_either false = refl
    later u false m = m

    go : (b : Bool) → same g.key i.key ≡ b → (c : Bool) → name_under i.key g.key ≡ c
        → head_key (rest last (enter i gs)) ≡ lesser last (some i) (head_key (rest last gs))
        → head_key (rest last (choose b (put_in i g ∷ gs) (choose c (fresh i ∷ g ∷ gs) (g ∷ enter i gs))))
        ≡ lesser last (some i) (head_key (rest last (g ∷ gs)))
    go true e c f m =
        ap (λ (x : Name). head_key (put (after last x) (put_in i g) (rest last gs))) (key_put i g)
        ∙ equal (same_eq g.key i.key e) (after last g.key) refl
    go false e true f m =
        ap (λ (x : Name). head_key (put (after last x) (fresh i) (rest last (g ∷ gs)))) (fresh_key i)
        ∙ first (acons f (All-map (λ (k : Group) u. under_trans i.key g.key k.key f u) h.0)) (after last i.key) refl
    go false e false f m = later (under_else g.key i.key e f) (after last g.key) m

pub least_head : (last : Option Name) (es : List Expr) → head_key (rest last (sort_out es).groups) ≡ least last es
unfolding sort_out least keep lesser
least_head last [] = refl
least_head last (e ∷ es) = go (view e) (least_head last es)
  where
    go : (o : Option Item) → head_key (rest last (sort_out es).groups) ≡ least last es
        → head_key (rest last (add e o (sort_out es)).groups) ≡ lesser last o (least last es)
    go none h = h
    go (some i) h = enter_head last i (sort_out es).groups (sorted_ascends es) ∙ ap (lesser last (some i)) h

-- ---- the first group after a column, and the others

after_trans : (last : Option Name) (x y : Name) → after last x ≡ true → name_under x y ≡ true → after last y ≡ true
after_trans none x y h k = refl
after_trans (some l) x y h k = under_trans l x y h k

-- a column that comes before all has nothing in the groups
none_there : (f : Group → List Side) (x : Name) {gs : List Group} → All (λ h. name_under x h.key ≡ true) gs → collect f x gs ≡ []
unfolding choose
none_there f x anil = refl
none_there f x (acons {x = g} h hs) =
    let n : same g.key x ≡ false = apart (same g.key x) refl in
    rw n (none_there f x hs)
  where
    apart : (b : Bool) → same g.key x ≡ b → b ≡ false
    apart true e =
        let z : name_under x x ≡ true = subst (λ (y : Name). name_under x y ≡ true) (same_eq g.key x e) h in
        sym z ∙ under_self x
    apart false e = refl

here_all : (f : Group → List Side) {x : Name} (g : Group) {gs : List Group} → g.key ≡ x → All (λ h. name_under x h.key ≡ true) gs
    → f g ≡ collect f x (g ∷ gs)
unfolding choose
here_all f {x} g e h =
    let s : same g.key x ≡ true = subst (λ (y : Name). same g.key y ≡ true) e (same_refl g.key) in
    rw (s, none_there f x h) (sym (append-nil (f g)))

pub rest_next : (last : Option Name) (x : Name) (gs : List Group) → Ascends gs → head_key (rest last gs) ≡ some x
    → rest last gs ≡ whole x gs ∷ rest (some x) gs
unfolding keep put choose
rest_next last x [] h e = let z : ◌≡◌ {A = ℕ} 0 1 = cc in absurd (omega arith)
rest_next last x (g ∷ gs) h e = go (after last g.key) refl e (λ k. rest_next last x gs h.1 k)
  where
    go : (b : Bool) → after last g.key ≡ b → head_key (put b g (rest last gs)) ≡ some x
        → (head_key (rest last gs) ≡ some x → rest last gs ≡ whole x gs ∷ rest (some x) gs)
        → put b g (rest last gs) ≡ whole x (g ∷ gs) ∷ rest (some x) (g ∷ gs)
    go true f k m =
        let q : g.key ≡ x = cc in
        let l : All (λ u. name_under x u.key ≡ true) gs = subst (λ (y : Name). All (λ u. name_under y u.key ≡ true) gs) q h.0 in
        let n : name_under x g.key ≡ false = subst (λ (y : Name). name_under x y ≡ false) (sym q) (under_self x) in
        let t : rest last gs ≡ rest (some x) gs =
        keep_cong _ _ (All-both (λ (u : Group) a b. after_trans last g.key u.key f a ∙ sym b) h.0 l) in
        let e₁ = here_all (λ (y : Group). y.eqs) g q l in
        let e₂ = here_all (λ (y : Group). y.ups) g q l in
        let e₃ = here_all (λ (y : Group). y.downs) g q l in
        rw n
        (ap (λ (y : Name × List Side × List Side × List Side × List Group). record { key = y.0; eqs = y.1; ups = y.2; downs = y.3 } ∷ y.4)
        (cc))
    go false f k m =
        let u : name_under g.key x ≡ true = head_all (λ y. name_under g.key y ≡ true) (All-keep (λ y. after last y.key) h.0) k in
        rw (under_asym g.key x u, under_apart g.key x u) (m k)

pub rest_end : (last : Option Name) (gs : List Group) → head_key (rest last gs) ≡ none → rest last gs ≡ []
rest_end last gs e = go (rest last gs) e
  where
    go : (l : List Group) → head_key l ≡ none → l ≡ []
    go [] h = refl
    go (g ∷ l) h = cc

-- ---- how many

enter_few : (i : Item) (gs : List Group) → length (enter i gs) ≤ suc (length gs)
unfolding enter choose
enter_few i [] = omega arith
enter_few i (g ∷ gs) = go (same g.key i.key) (name_under i.key g.key) (enter_few i gs)
  where
    go : (b c : Bool) → length (enter i gs) ≤ suc (length gs)
        → length (choose b (put_in i g ∷ gs) (choose c (fresh i ∷ g ∷ gs) (g ∷ enter i gs))) ≤ suc (length (g ∷ gs))
    go true c h = omega arith
    go false true h = omega arith
    go false false h = omega arith

pub groups_few : (es : List Expr) → length (sort_out es).groups ≤ length es
unfolding sort_out
groups_few [] = omega arith
groups_few (e ∷ es) = go (view e) (groups_few es)
  where
    go : (o : Option Item) → length (sort_out es).groups ≤ length es → length (add e o (sort_out es)).groups ≤ suc (length es)
    go none h = omega arith
    go (some i) h = omega (arith, enter_few i (sort_out es).groups)
