-- Theorem (e): a Filter moves below a Union, and below a SubqueryAlias, with its columns renamed by place.
--
--     Filter e                   SubqueryAlias q           Filter e             Union
--       SubqueryAlias q  becomes   Filter (e renamed)        Union      becomes   Filter (e renamed for each)
--         p                          p                         p, ..                p, ..
use Prim.Native.Nat.{ℕ}
use native.Mathlib.Omega.{arith}
use mathlib.Core.Path.{◌≡◌, refl, sym, ap, ap₂, ◌∙◌}
use mathlib.Core.Bool.{Bool, true, false, not, ◌||◌, cond}
use mathlib.Core.List.{List, [], ◌∷◌, ◌++◌, map}
use lib.ListN.{length, length-map}
use borrow.Author.Tests.{eqb-true}
use Rattle.plan.proofs.Lists.{and_l, and_r, all_of, keep_cong, keep_append}
use Rattle.plan.specs.Lists.{any, keep}
use Rattle.plan.specs.Syntax.{null, Name, Expr, col, Plan, filter, alias, union, Plans, pnil, pcons}
use Rattle.meaning.specs.Meaning.{World, Row, is_t, look, eval, sat, rows, rows_all}
use Rattle.plan.specs.Schema.{same, look_d, schema, schema_first, requalify, has, nodup}
use Rattle.plan.proofs.Names.{same_refl, same_eq, not_true}
use Rattle.plan.specs.Columns.{on_cols}
use Rattle.rewrite.specs.PushDownFilter.{ren, renamed, filter_each}
use Rattle.rewrite.proofs.Exprs.{eval_cong, eval_sub}
use Rattle.acceptance.proofs.NamesRule.{ok_nodup}
use Rattle.acceptance.specs.NamesRule.{ok, ok_all, rule}

-- the new name of a name of the first schema is one of the second
pub ren_has : (s t : List Name) (x : Name) → length s ≡ length t → has s x ≡ true → has t (ren s t x) ≡ true
unfolding ren any
ren_has [] t x w h = cc
ren_has (y ∷ s) [] x w h = absurd (omega arith)
ren_has (y ∷ s) (z ∷ t) x w h = go (same y x) h (ren_has s t x (omega arith))
  where
    or_right : (a : Bool) {b : Bool} → b ≡ true → a || b ≡ true
    or_right true h = refl
    or_right false h = h

    go : (b : Bool) → b || has s x ≡ true → (has s x ≡ true → has t (ren s t x) ≡ true)
        → has (z ∷ t) (cond b z (ren s t x)) ≡ true
    go true h k = rw (same_refl z)
    go false h k = or_right (same z (ren s t x)) (k h)

-- a name of the rest is not the first
first_apart : (z : Name) (t : List Name) (x : Name) → not (has t z) ≡ true → has t x ≡ true → same z x ≡ false
first_apart z t x h k = go (same z x) refl
  where
    go : (b : Bool) → same z x ≡ b → b ≡ false
    go true e = let q : has t z ≡ true = rw (same_eq z x e) k in cc (not_true (has t z) h)
    go false e = refl

-- and it stands in the second where the name stands in the first
pub look_ren : {A : Type 0} (d : A) (s t : List Name) (r : List A) (x : Name)
    → length s ≡ length t → nodup t ≡ true → has s x ≡ true → look_d d s r x ≡ look_d d t r (ren s t x)
unfolding ren any
look_ren d [] t r x w n h = cc
look_ren d (y ∷ s) [] r x w n h = absurd (omega arith)
look_ren d (y ∷ s) (z ∷ t) [] x w n h = refl
look_ren d (y ∷ s) (z ∷ t) (v ∷ r) x w n h =
    go (same y x) h (look_ren d s t r x (omega arith) (and_r _ _ n)) (ren_has s t x (omega arith))
  where
    go : (b : Bool) → b || has s x ≡ true
        → (has s x ≡ true → look_d d s r x ≡ look_d d t r (ren s t x))
        → (has s x ≡ true → has t (ren s t x) ≡ true)
        → cond b v (look_d d s r x) ≡ look_d d (z ∷ t) (v ∷ r) (cond b z (ren s t x))
    go true h k m = rw (same_refl z)
    go false h k m = rw (first_apart z t (ren s t x) (and_l _ _ n) (m h)) (k h)

module _ (W : World) (s : List Name) (e : Expr) (known : on_cols (has s) e ≡ true) where
  renamed_sat : (t : List Name) → length s ≡ length t → nodup t ≡ true → (r : Row) → sat W s e r ≡ sat W t (renamed s t e) r
  unfolding renamed eval
  renamed_sat t w n r =
      ap is_t
      (eval_cong W (has s) _ _ (λ x h. look_ren null s t r x w n h) e known ∙ sym (eval_sub W (λ x. col (ren s t x)) (look t r) e))

  pub renamed_rows : (p : Plan) → length s ≡ length (schema p) → nodup (schema p) ≡ true
      → keep (sat W s e) (rows W p) ≡ rows W (filter (renamed s (schema p) e) p)
  unfolding rows
  renamed_rows p w n = keep_cong _ _ (all_of (renamed_sat (schema p) w n) (rows W p))

  each_rows : (n : ℕ) → length s ≡ n → (ps : Plans) → ok_all n ps ≡ true
      → keep (sat W s e) (rows_all W ps) ≡ rows_all W (filter_each s e ps)
  unfolding rows rule filter_each keep
  each_rows n w pnil h = refl
  each_rows n w (pcons p ps) h =
      keep_append _ (rows W p) (rows_all W ps)
      ∙ ap₂ ◌++◌
      (renamed_rows p (w ∙ sym (eqb-true (length (schema p)) n (and_l _ _ h))) (ok_nodup p (and_l _ _ (and_r _ _ h))))
      (each_rows n w ps (and_r _ _ (and_r _ _ h)))

pub union_schema : (s : List Name) (e : Expr) (ps : Plans) → schema (union (filter_each s e ps)) ≡ schema (union ps)
unfolding schema filter_each
union_schema s e pnil = refl
union_schema s e (pcons p ps) = refl

module _ (W : World) where
  pub union_rows : (e : Expr) (ps : Plans) → ok (filter e (union ps)) ≡ true
      → rows W (filter e (union ps)) ≡ rows W (union (filter_each (schema_first ps) e ps))
  unfolding rows schema rule
  union_rows e ps h = each_rows W (schema_first ps) e (and_l _ _ h) _ refl ps (and_r _ _ h)

  pub alias_rows : (e : Expr) (q : ℕ) (p : Plan) → ok (filter e (alias q p)) ≡ true
      → rows W (filter e (alias q p)) ≡ rows W (alias q (filter (renamed (map (requalify q) (schema p)) (schema p) e) p))
  unfolding rows schema rule
  alias_rows e q p h =
      renamed_rows W (map (requalify q) (schema p)) e (and_l _ _ h) p
      (length-map (schema p) (requalify q)) (ok_nodup p (and_r _ _ (and_r _ _ h)))
