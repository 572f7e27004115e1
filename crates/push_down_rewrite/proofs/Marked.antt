-- Whether a plan stands at a record is read off the image: by the record's kind.
use Prim.Native.Nat.{ℕ, zero, suc, ◌+◌, ◌-◌, ◌*◌, ◌≤◌, ◌<◌}
use native.Mathlib.Omega.{arith}
use mathlib.Core.Path.{◌≡◌, refl, sym, ap, ◌∙◌}
use mathlib.Core.Bool.{Bool, true, false}
use mathlib.Core.List.{List, [], ◌∷◌, ◌++◌}
use mathlib.Core.Option.{Option, some}
use mathlib.Core.Option as O
use lib.ListN.{length, get_or, drop, length-append}
use lib.Seq.{drop-drop}
use Rattle.image.specs.Tree.{Forest, none, node, size, Stands, label_at}
use Rattle.plan.specs.Syntax.{Plan}
use Rattle.plan.specs.Kinds.{is_plan}
use Rattle.plan.specs.Trees.{kids_p}
use Rattle.plan.specs.Measure.{size_p}
use Rattle.rewrite.specs.RewriteAt.{Focus, focus}
use Rattle.rewrite.proofs.Marks.{marks, plan_marks, focus_marks, is_some}
use Rattle.conjuncts.specs.Standing.{StandingP}

-- a place in a list of two
in_either : (xs ys : List Bool) (n : ℕ) (v : Bool) → (n < length xs → get_or xs n false ≡ v) → (length xs ≤ n → get_or ys (n - length xs) false ≡ v)
    → get_or (xs ++ ys) n false ≡ v
in_either [] ys n v h k = let e : n - 0 ≡ n = omega arith in ap (λ i. get_or ys i false) (sym e) ∙ k (omega arith)
in_either (x ∷ xs) ys zero v h k = h (omega arith)
in_either (x ∷ xs) ys (suc n) v h k =
    in_either xs ys n v (λ l. h (omega arith)) (λ l. ap (λ i. get_or ys i false) (omega arith) ∙ k (omega arith))

marks_length : (f : Forest) → length (marks f) ≡ size f
unfolding marks
marks_length none = refl
marks_length (node l cs ns) = omega (arith, length-append (marks cs) (marks ns), marks_length cs, marks_length ns)

-- the mark of a record is its kind's
marks_at : (f : Forest) (s : List ℕ) (b n : ℕ) → Stands f s b → n < size f → get_or (marks f) n false ≡ is_plan (label_at (drop (32 * n) s))
unfolding marks
marks_at none s b n h k = absurd (omega arith)
marks_at (node l cs ns) s b zero h k = ap is_plan (sym h.head.label)
marks_at (node l cs ns) s b (suc n) h k =
    in_either (marks cs) (marks ns) n (is_plan (label_at (drop (32 * suc n) s)))
    (λ i.
    let j : n < size cs = omega (arith, marks_length cs) in
    let e : 32 + 32 * n ≡ 32 * suc n = omega arith in
    marks_at cs (drop 32 s) (b + 1) n h.below j ∙ ap (λ t. is_plan (label_at t)) (drop-drop (32 * n) 32 s ∙ ap (λ m. drop m s) e))
    (λ i.
    let m = n - length (marks cs) in
    let j : m < size ns = omega (arith, marks_length cs) in
    let e : 32 * suc (size cs) + 32 * m ≡ 32 * suc n = omega (arith, marks_length cs) in
    marks_at ns (drop (32 * suc (size cs)) s) (b + 1 + size cs) m h.after j
    ∙ ap (λ t. is_plan (label_at t)) (drop-drop (32 * m) (32 * suc (size cs)) s ∙ ap (λ m. drop m s) e))

-- the plan p stands at record 0
module _ {s : List ℕ} {p : Plan} (h : StandingP s 0 p) (n : ℕ) (small : n < size_p p) where
  pub plan_there : is_some (focus n p) ≡ is_plan (label_at (drop (32 * n) s))
  unfolding plan_marks size_p
  plan_there = focus_marks p n ∙ go n small
    where
      go : (n : ℕ) → n < size_p p → get_or (plan_marks p) n false ≡ is_plan (label_at (drop (32 * n) s))
      go zero k = ap is_plan (sym h.here.head.label)
      go (suc n) k =
          let e : 32 + 32 * n ≡ 32 * suc n = omega arith in
          marks_at (kids_p p) (drop 32 s) 1 n h.here.below (omega arith)
          ∙ ap (λ t. is_plan (label_at t)) (drop-drop (32 * n) 32 s ∙ ap (λ m. drop m s) e)

-- what is found there
pub found_there : (o : Option Focus) → is_some o ≡ true → (c : Focus) × (o ≡ some c)
found_there O.none h = let z : ◌≡◌ {A = ℕ} 0 1 = cc in absurd (omega arith)
found_there (some c) h = (c, refl)

pub not_found : (o : Option Focus) → is_some o ≡ false → o ≡ O.none
not_found O.none h = refl
not_found (some c) h = cc
