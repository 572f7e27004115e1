-- The last child of a plan with one input is that input.
use Prim.Native.Nat.{ℕ, suc, ◌+◌}
use native.Mathlib.Omega.{arith}
use mathlib.Core.Option.{Option}
use mathlib.Core.Path.{◌≡◌, refl, sym, ap, subst, ◌∙◌}
use mathlib.Core.List.{List, [], ◌∷◌, map}
use lib.ListN.{length}
use Rattle.std.specs.List.{last_or}
use Rattle.std.specs.Prelude.{None, Some, unwrap_or}
use Rattle.std.specs.Prelude as P
use Rattle.image.specs.Tree.{Label, Forest, none, node, size, link}
use Rattle.image.specs.Subtrees.{Siblings, Subtree, Below, Place, forest, place, places, places_from, tree_of}
use Rattle.plan.specs.Syntax.{Entry, Key, AggEntry, WinEntry, Plan, project, distinct, sort, repartition, aggregate, window}
use Rattle.plan.specs.Measure.{sizes}
use Rattle.plan.specs.Trees.{label_p, kids_p, each, entry_label, entry_kids, key_label, key_kids, agg_label, agg_kids, win_label, win_kids}
use Rattle.image.proofs.Subtrees.{last_none, places_end}
use Rattle.push_down_base.specs.Inputs.{Last, LastOf, last_of}

-- the number of a forest is that of the link to it
last_link : (d m : ℕ) (f : Forest) → last_of d (link m f) f ≡ last_of d m f
last_link d m none = refl
last_link d m (node l cs ns) = refl

-- behind a run of parts
last_run : {A : Type 0} (l : A → Label) (k : A → Forest) (xs : List A) (d b : ℕ) (top : Label) (cs : Forest)
    → last_of d b (each l k xs (node top cs none)) ≡ b + sizes k xs
unfolding each sizes
last_run l k [] d b top cs = omega arith
last_run l k (x ∷ xs) d b top cs =
    last_run l k xs b (b + 1 + size (k x)) top cs ∙ (let e : b + 1 + size (k x) + sizes k xs ≡ b + (suc (size (k x)) + sizes k xs) = omega arith in e)

pub project_last : (es : List Entry) (q : Plan) (x : ℕ) → last_of 0 (x + 1) (kids_p (project es q)) ≡ x + suc (sizes entry_kids es)
unfolding kids_p
project_last es q x = last_run entry_label entry_kids es 0 (x + 1) (label_p q) (kids_p q) ∙ omega arith

pub sort_last : (f : Option ℕ) (ks : List Key) (q : Plan) (x : ℕ) → last_of 0 (x + 1) (kids_p (sort f ks q)) ≡ x + suc (sizes key_kids ks)
unfolding kids_p
sort_last f ks q x = last_run key_label key_kids ks 0 (x + 1) (label_p q) (kids_p q) ∙ omega arith

pub window_last : (ws : List WinEntry) (q : Plan) (x : ℕ) → last_of 0 (x + 1) (kids_p (window ws q)) ≡ x + suc (sizes win_kids ws)
unfolding kids_p
window_last ws q x = last_run win_label win_kids ws 0 (x + 1) (label_p q) (kids_p q) ∙ omega arith

pub distinct_last : (q : Plan) (x : ℕ) → last_of 0 (x + 1) (kids_p (distinct q)) ≡ x + 1
unfolding kids_p
distinct_last q x = refl

pub repartition_last : (q : Plan) (x : ℕ) → last_of 0 (x + 1) (kids_p (repartition q)) ≡ x + 1
unfolding kids_p
repartition_last q x = refl

-- behind two runs
last_past : {A : Type 0} (l : A → Label) (k : A → Forest) (xs : List A) (d b : ℕ) (top : Label) (cs ns : Forest) (m : ℕ)
    → ((d' : ℕ) → last_of d' (b + sizes k xs) (node top cs ns) ≡ m) → last_of d b (each l k xs (node top cs ns)) ≡ m
unfolding each sizes
last_past l k [] d b top cs ns m h = let e : b ≡ b + 0 = omega arith in ap (λ i. last_of d i (node top cs ns)) e ∙ h d
last_past l k (x ∷ xs) d b top cs ns m h =
    let e : b + 1 + size (k x) + sizes k xs ≡ b + (suc (size (k x)) + sizes k xs) = omega arith in
    last_past l k xs b (b + 1 + size (k x)) top cs ns m (λ d'. ap (λ i. last_of d' i (node top cs ns)) e ∙ h d')

pub aggregate_last : (gs : List Entry) (ags : List AggEntry) (q : Plan) (x : ℕ)
    → last_of 0 (x + 1) (kids_p (aggregate gs ags q)) ≡ x + suc (sizes entry_kids gs + sizes agg_kids ags)
unfolding kids_p each sizes
aggregate_last gs [] q x = last_run entry_label entry_kids gs 0 (x + 1) (label_p q) (kids_p q) ∙ omega arith
aggregate_last gs (a ∷ ags) q x =
    last_past entry_label entry_kids gs 0 (x + 1) (agg_label a) (agg_kids a) (each agg_label agg_kids ags (node (label_p q) (kids_p q) none)) _
    (λ d. last_run agg_label agg_kids (a ∷ ags) d (x + 1 + sizes entry_kids gs) (label_p q) (kids_p q) ∙ omega arith)

-- ---- the last tree of some siblings

-- the last place of a list, or d where there is none
abbrev pub last_place : Place → List Place → Place
last_place d [] = d
last_place d (p ∷ ps) = last_place p ps

-- it is that of the last child of t, or t's own
pub record LastPlace (t : Subtree) (p : Place) : Type 0 where
  pub image : p.image ≡ t.image.now
  pub number : p.number ≡ last_of t.number (t.number + 1) (tree_of t).below

last_from : (s : List ℕ) (a : ℕ) (f : Forest) (d : Place) (b : ℕ) → d.image ≡ s
    → ((last_place d (places_from s a b f)).image ≡ s) × ((last_place d (places_from s a b f)).number ≡ last_of d.number b f)
unfolding places_from
last_from s a none d b e = (e, refl)
last_from s a (node l cs ns) d b e = last_from s a ns (record { image = s; base = a; number = b; tree = record { label = l; below = cs } }) (b + 1 + size cs) refl

pub children_last : {t : Subtree} {x : Siblings} → Below t x → LastPlace t (last_place (place t) (places x))
children_last {t} {x} h =
    let k = last_from x.image.now 0 (forest x) (place t) x.first (sym h.image) in
    record {
      image = k.0 ∙ h.image;
      number =
          k.1 ∙ ap (λ f. last_of t.number x.first f) h.is ∙ ap (λ b. last_of t.number b (tree_of t).below) h.first
          ∙ last_link t.number (t.number + 1) (tree_of t).below;
    }

-- the place of the last item of some
last_item : (x : Subtree) (xs : List Subtree) {u : Subtree} → last_or (Some x) xs ≡ Some u → place u ≡ last_place (place x) (map place xs)
last_item x [] {u} e = let same : x ≡ u = cc in ap place (sym same)
last_item x (y ∷ ys) e = last_item y ys e

-- the last that comes of the children of t is its last child
pub last_of_children : {t : Subtree} {x : Siblings} {o : P.Option Subtree} → Below t x → (xs : List Subtree) → map place xs ≡ places x
    → last_or None xs ≡ o → LastOf t o
last_of_children {x = x} {o = None} h xs e z = sym h.is ∙ last_none x xs e z
last_of_children {o = Some u} h [] e z = cc
last_of_children {t} {x} {o = Some u} h (y ∷ ys) e z =
    let same = last_item y ys z ∙ ap (last_place (place t)) e in
    let k = children_last h in (
      λ none. absurd (omega (arith, ap length (e ∙ places_end x (h.is ∙ none)))),
      record { image = ap (λ (p : Place). p.image) same ∙ k.image; number = ap (λ (p : Place). p.number) same ∙ k.number },
    )

-- it, or t itself where t has none
pub last_here : {t u : Subtree} (o : P.Option Subtree) → LastOf t o → u ≡ unwrap_or o t → Last t u
last_here {t} o h e = subst (Last t) (sym e) (go o h)
  where
    go : (o : P.Option Subtree) → LastOf t o → Last t (unwrap_or o t)
    go None h = record { image = refl; number = ap (last_of t.number (t.number + 1)) (sym h) }
    go (Some u) h = h.1
