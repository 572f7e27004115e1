-- Laws of lists whose items are written.
--     pushed_plain, pushed_changed        an item as it stands, and with its columns replaced
--     pushes_none, pushes_add, pushes_of  an empty list, an item appended, a list as it stands
--     pushes_length, -room, -at           of a whole list: how many, that each can be read, what is written for the number read at i
--     conjoin_one, conjoin_more           the first items of a list, joined left-deep
-- Assumes nothing.
use mathlib.Core.Path.{◌≡◌, refl, sym, ap, subst, ◌∙◌}
use mathlib.Core.List.{List, [], ◌∷◌, ◌++◌}
use Prim.Native.Nat.{ℕ, zero, suc, ◌+◌, ◌-◌, ◌≤◌, ◌<◌}
use native.Mathlib.Omega.{arith}
use lib.ListN.{length, get_or, take}
use lib.Seq.{take-suc}
use Rattle.image.specs.Limits.{max_list}
use Rattle.plan.specs.Syntax.{Name, Expr, bin, and, Plan}
use Rattle.rewrite.specs.Utils.{replace_cols, conjoin, with_filters}
use Rattle.conjuncts.specs.Items.{Conjuncts, FALSE, most, listed, Holds, Item, Items, inil, icons, Lists, replaced_by}
use Rattle.conjuncts.proofs.Listed.{count_is, whole}
use Rattle.writing.specs.Pushed.{Pushed, Each, nil, cons, Pushes, One, Some}

-- FALSE has no columns
pub false_stays : (σ : Name → Expr) → replace_cols σ FALSE ≡ FALSE
unfolding replace_cols
false_stays σ = refl

-- ---- items

module _ {s : List ℕ} {σ : Name → Expr} where
  -- an item as it stands
  pub pushed_plain : {n : ℕ} {e : Expr} → Item s n e → Pushed s σ n e
  pushed_plain h = record { plain = λ lt. h; changed = λ le. absurd (omega (arith, h.small)); small = omega (arith, h.small) }

  -- an item with its columns replaced
  pub pushed_changed : {n : ℕ} {e : Expr} → Item s n e → Pushed s σ (n + replaced_by) (replace_cols σ e)
  pushed_changed {n} {e} h =
      let z : n + replaced_by - replaced_by ≡ n = omega arith in
      record {
        plain = λ lt. absurd (omega arith);
        changed = λ le. record { from = e; item = rw z h; is = refl };
        small = omega (arith, h.small);
      }

-- ---- lists

module _ {R : ℕ → Expr → Type 0} where
  pub each_length : {ns : List ℕ} {es : List Expr} → Each R ns es → length es ≡ length ns
  each_length nil = refl
  each_length (cons h hs) = ap suc (each_length hs)

  pub each_at : {ns : List ℕ} {es : List Expr} (i : ℕ) → Each R ns es → i < length ns → R (get_or ns i 0) (get_or es i FALSE)
  each_at i nil lt = absurd (omega arith)
  each_at zero (cons h hs) lt = h
  each_at (suc i) (cons h hs) lt = each_at i hs (omega arith)

  each_add : {ns : List ℕ} {es : List Expr} {n : ℕ} {e : Expr} → Each R ns es → R n e → Each R (ns ++ (n ∷ [])) (es ++ (e ∷ []))
  each_add nil k = cons k nil
  each_add (cons h hs) k = cons h (each_add hs k)

each_of : {s : List ℕ} (σ : Name → Expr) {ns : List ℕ} {es : List Expr} → Items s ns es → Each (Pushed s σ) ns es
each_of σ inil = nil
each_of σ (icons h hs) = cons (pushed_plain h) (each_of σ hs)

module _ {s : List ℕ} {σ : Name → Expr} where
  -- an empty list
  pub pushes_none : {c : Conjuncts} → (listed c ≡ []) × (c.len ≡ 0) → Pushes s σ c []
  unfolding most
  pushes_none h = record { numbers = []; holds = record { lists = h.0; count = h.1 }; items = nil }

  -- an item is appended
  pub pushes_add : {c r : Conjuncts} {es : List Expr} {e : Expr} (n : ℕ) → Pushes s σ c es → Pushed s σ n e
      → ((xs : List ℕ) → Holds c xs → Holds r (xs ++ (n ∷ []))) → Pushes s σ r (es ++ (e ∷ []))
  pushes_add n h k f = record { numbers = h.numbers ++ (n ∷ []); holds = f h.numbers h.holds; items = each_add h.items k }

  -- a list as it stands
  pub pushes_of : {c : Conjuncts} {es : List Expr} → Lists s c es → Pushes s σ c es
  pushes_of h = record { numbers = h.numbers; holds = h.holds; items = each_of σ h.items }

  -- of a list that is whole
  module _ {c : Conjuncts} {es : List Expr} (h : Pushes s σ c es) (small : c.len ≤ max_list) where
    pub pushes_length : length es ≡ c.len
    pushes_length = each_length h.items ∙ count_is h.holds small

    pub pushes_room : length (listed c) ≡ c.len
    pushes_room = ap length (whole h.holds small) ∙ count_is h.holds small

    pub pushes_at : (i n : ℕ) → i < c.len → n ≡ get_or (listed c) i 0 → Pushed s σ n (get_or es i FALSE)
    pushes_at i n lt e = rw (e, whole h.holds small) (each_at i h.items (omega (arith, count_is h.holds small)))

-- an item of a list that is written
pub one_of : {s : List ℕ} {c : Conjuncts} (h : Some s c) (i n : ℕ) → i < c.len → n ≡ get_or (listed c) i 0 → One s n
one_of h i n lt e = record { mapping = h.mapping; expr = get_or h.exprs i FALSE; pushed = pushes_at h.pushes h.most i n lt e }

-- ---- under a Filter

-- nothing where the list is empty
pub filters_none : (es : List Expr) (p : Plan) → length es ≡ 0 → with_filters es p ≡ p
unfolding with_filters
filters_none [] p h = refl
filters_none (e ∷ es) p h = absurd (omega arith)

-- ---- joined left-deep

-- one more behind a list
conjoin_snoc : (e : Expr) (xs : List Expr) (x : Expr) → conjoin e (xs ++ (x ∷ [])) ≡ bin and (conjoin e xs) x
unfolding conjoin
conjoin_snoc e [] x = refl
conjoin_snoc e (y ∷ xs) x = conjoin_snoc (bin and e y) xs x

-- the first of a list
pub conjoin_one : (e : Expr) (es : List Expr) (k : ℕ) → k ≡ 0 → conjoin e (take k es) ≡ get_or (e ∷ es) k FALSE
unfolding conjoin
conjoin_one e es k z = rw z

-- the first k, and the next
pub conjoin_more : (e : Expr) (es : List Expr) (k : ℕ) → (k ≡ 0 → ⊥) → k < length (e ∷ es)
    → conjoin e (take k es) ≡ bin and (conjoin e (take (k - 1) es)) (get_or (e ∷ es) k FALSE)
conjoin_more e es k nz lt =
    let z : k ≡ suc (k - 1) = omega arith in
    subst (λ (i : ℕ). conjoin e (take i es) ≡ bin and (conjoin e (take (k - 1) es)) (get_or (e ∷ es) i FALSE)) (sym z)
    (rw (take-suc es (k - 1) FALSE (omega arith)) (conjoin_snoc e (take (k - 1) es) (get_or es (k - 1) FALSE)))
