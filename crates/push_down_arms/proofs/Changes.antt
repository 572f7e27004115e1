-- Predicates whose columns are replaced when they are written.
use Prim.Native.Nat.{ℕ, suc, ◌+◌, ◌≤◌}
use native.Mathlib.Omega.{arith}
use native.Mathlib.Nat.{le_trans, le_of_eq}
use mathlib.Core.Path.{◌≡◌, refl, ap, ◌∙◌}
use mathlib.Core.List.{List, [], ◌∷◌, ◌++◌, map}
use mathlib.Core.Option.{some}
use lib.ListN.{drop, length}
use Rattle.image.specs.Limits.{max_records, max_list}
use Rattle.plan.specs.Syntax.{Name, Expr, bin, and}
use Rattle.rewrite.specs.Utils.{replace_cols, split_conjunction, conjoin, conjunction}
use Rattle.conjuncts.specs.Items.{Conjuncts, most}
use Rattle.std.specs.Prelude.{Some, None}
use Rattle.writing.specs.Pushed.{Pushed, Pushes, Each, nil, cons}
use Rattle.writing.proofs.Pushing.{pushes_length, pushed_changed}
use Rattle.push_down_base.specs.Predicates.{Predicate, Perhaps, left}
use Rattle.push_down_base.specs.Arms.{Shaped}
use Rattle.push_down_base.proofs.Plain.{split_some}
use Rattle.push_down_arms.proofs.Shaping.{joins_back, standing_item}
use Rattle.push_down_base.proofs.Answering.{few}

-- so much is listed, and the rest completes it
pub record Made (s : List ℕ) (σ : Name → Expr) (r : Conjuncts) (es : List Expr) (i : ℕ) : Type 0 where
  pub done : List Expr
  pub pushes : Pushes s σ r done
  pub is : done ++ map (replace_cols σ) (drop i es) ≡ map (replace_cols σ) es

-- the columns of a conjunction are those of its conjuncts
pub changed_conjoin : (σ : Name → Expr) (e : Expr) (es : List Expr) → replace_cols σ (conjoin e es) ≡ conjoin (replace_cols σ e) (map (replace_cols σ) es)
unfolding conjoin replace_cols
changed_conjoin σ e [] = refl
changed_conjoin σ e (x ∷ xs) = changed_conjoin σ (bin and e x) xs

each_count : {R : ℕ → Expr → Type 0} {ns : List ℕ} {es : List Expr} → Each R ns es → length es ≡ length ns
each_count nil = refl
each_count (cons h hs) = ap suc (each_count hs)

-- a list that stands for no more than `max_list` is whole
pub pushes_small : {s : List ℕ} {σ : Name → Expr} {c : Conjuncts} {es : List Expr} → Pushes s σ c es → length es ≤ max_list → c.len ≤ max_list
unfolding most
pushes_small h k = omega (arith, h.holds.count, each_count h.items)

pub map_count : {A B : Type 0} (f : A → B) (xs : List A) → length (map f xs) ≡ length xs
map_count f [] = refl
map_count f (x ∷ xs) = ap suc (map_count f xs)

-- a predicate joined anew, its columns replaced
pub changed_list : {s : List ℕ} {p : Predicate} {c : Conjuncts} (σ : Name → Expr) (e : Expr) → Shaped s p e → p.written ≡ None
    → Pushes s σ c (map (replace_cols σ) (split_conjunction e)) → Perhaps s σ (record { written = None; list = c }) (some (replace_cols σ e))
changed_list {s} {p} {c} σ e h z k = go (split_conjunction e) (h.joined z) k (split_some e) (few h)
  where
    go : (es : List Expr) → conjunction es ≡ some e → Pushes s σ c (map (replace_cols σ) es) → 1 ≤ length es → length es ≤ max_list
        → Perhaps s σ (record { written = None; list = c }) (some (replace_cols σ e))
    go [] j k m f = absurd (omega arith)
    go (x ∷ xs) j k m f =
        let i = ap (replace_cols σ) (joins_back x xs j) ∙ changed_conjoin σ x xs in
        let l = pushes_small k (le_trans (le_of_eq (map_count (replace_cols σ) (x ∷ xs))) f) in
        left (record { item = λ n i. cc; list = λ z. record { first = replace_cols σ x; others = map (replace_cols σ) xs; pushes = k; is = i } })
        (λ z. omega (arith, pushes_length k l))

-- a predicate as it is written, its columns replaced
pub changed_written : {s : List ℕ} {p : Predicate} (σ : Name → Expr) (e : Expr) (n : ℕ) → Shaped s p e → p.written ≡ Some n
    → Perhaps s σ (record { written = Some (n + max_records); list = p.list }) (some (replace_cols σ e))
changed_written {s} σ e n h i =
    let k = h.stands n i in
    let item : Pushed s σ (n + max_records) (replace_cols σ e) = pushed_changed (standing_item k.1 (λ z. omega (arith, k.0))) in
    left {e = replace_cols σ e} (record { item = λ m j. let r : n + max_records ≡ m = cc in rw (← r) item; list = λ z. cc })
    (λ z. cc)
