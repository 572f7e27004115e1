-- A Filter moves below Distinct, conjuncts on partition columns below a Window, conjuncts on group columns below an Aggregate that has
-- group entries.
use mathlib.Core.Path.{◌≡◌, refl, sym, ap, ap₂, ◌∙◌}
use mathlib.Core.Bool.{Bool, true, false, not, ◌||◌}
use mathlib.Core.List.{List, [], ◌∷◌, ◌++◌, map}
use lib.ListN.{length-map}
use Rattle.plan.specs.Lists.{◌&◌, any, put, keep, All, anil, acons}
use Rattle.plan.proofs.Lists.{and_l, and_r, and_comm, All-map, All-mapped, All-keep, all_of, keep_cong, keep_keep}
use Rattle.plan.proofs.Lists.{keep_map, all_cong}
use Rattle.plan.specs.Syntax.{Value, null, int, truth, Name, Expr, Entry, AggEntry, WinEntry, Plan, filter, distinct}
use Rattle.meaning.specs.Meaning.{World, Env, Row, is_t, same_v, same_row, first_occurrences, look, eval, sat, sats, entries, agg_entries}
use Rattle.meaning.specs.Meaning.{win_entry, windowed, aggregated, rows}
use Rattle.plan.specs.Schema.{same, schema, has, nodup}
use Rattle.plan.proofs.Names.{same_eq}
use Rattle.rewrite.specs.Utils.{replace_cols}
use Rattle.rewrite.specs.PushDownFilter.{pick, names}
use Rattle.rewrite.proofs.Exprs.{eval_cong}
use Rattle.rewrite.proofs.Extras.{eq_z}
use Rattle.rewrite.proofs.Join.{Over, Wide, left_sats}
use Rattle.rewrite.proofs.Project.{sub_all, look_entries}

-- ---- rows that are the same are one row

pub same_v_eq : (a b : Value) → same_v a b ≡ true → a ≡ b
unfolding ◌&◌
same_v_eq null null h = refl
same_v_eq null (int w) h = cc
same_v_eq null (truth b) h = cc
same_v_eq (int z) null h = cc
same_v_eq (int z) (int w) h = ap int (eq_z z w h)
same_v_eq (int z) (truth b) h = cc
same_v_eq (truth a) null h = cc
same_v_eq (truth a) (int w) h = cc
same_v_eq (truth true) (truth true) h = refl
same_v_eq (truth true) (truth false) h = cc
same_v_eq (truth false) (truth true) h = cc
same_v_eq (truth false) (truth false) h = refl

pub same_row_eq : (r s : Row) → same_row r s ≡ true → r ≡ s
same_row_eq [] [] h = refl
same_row_eq [] (w ∷ s) h = cc
same_row_eq (v ∷ r) [] h = cc
same_row_eq (v ∷ r) (w ∷ s) h = ap₂ ◌∷◌ (same_v_eq v w (and_l _ _ h)) (same_row_eq r s (and_r _ _ h))

-- ---- lists

-- a test that another implies
implied : (a b : Bool) → (b ≡ true → a ≡ true) → a & b ≡ b
unfolding ◌&◌
implied true b h = refl
implied false true h = h refl
implied false false h = refl

module _ {A : Type 0} where
  passes_put : {P : A → Type 0} (b : Bool) (x : A) {xs : List A} → (b ≡ true → P x) → All P xs → All P (put b x xs)
  unfolding put
  passes_put true x h hs = acons (h refl) hs
  passes_put false x h hs = hs

  -- what is kept passes the test
  pub passes : (p : A → Bool) (xs : List A) → All (λ x. p x ≡ true) (keep p xs)
  unfolding keep
  passes p [] = anil
  passes p (x ∷ xs) = passes_put (p x) x (λ h. h) (passes p xs)

map_cong : {A B : Type 0} (f g : A → B) {xs : List A} → All (λ x. f x ≡ g x) xs → map f xs ≡ map g xs
map_cong f g anil = refl
map_cong f g (acons h hs) = ap₂ ◌∷◌ h (map_cong f g hs)

-- ---- Distinct
--
--     Filter e            Distinct
--       Distinct  becomes   Filter e
--         p                   p

module _ (p : Row → Bool) where
  keep_first_occurrences : (xs : List Row) → keep p (first_occurrences xs) ≡ first_occurrences (keep p xs)
  unfolding keep put
  keep_first_occurrences [] = refl
  keep_first_occurrences (x ∷ xs) = go (p x) refl (keep_first_occurrences xs)
    where
      other : (y : Row) → p x ≡ false → (b : Bool) → same_row x y ≡ b → p y ≡ true → not b ≡ true
      other y e true s k = sym e ∙ ap p (same_row_eq x y s) ∙ k
      other y e false s k = refl

      others : List Row
      others = first_occurrences xs

      go : (b : Bool) → p x ≡ b → keep p others ≡ first_occurrences (keep p xs)
          → put b x (keep p (keep (λ s. not (same_row x s)) others)) ≡ first_occurrences (put b x (keep p xs))
      go true e k =
          ap (x ∷◌)
          (keep_keep p _ others ∙ keep_cong _ _ (all_of (λ y. and_comm _ _) others) ∙ sym (keep_keep _ p others)
          ∙ ap (keep (λ s. not (same_row x s))) k)
      go false e k = keep_keep p _ others ∙ keep_cong _ _ (all_of (λ y. implied _ _ (other y e _ refl)) others) ∙ k

module _ (W : World) where
  pub distinct_rows : (e : Expr) (p : Plan) → rows W (filter e (distinct p)) ≡ rows W (distinct (filter e p))
  unfolding rows schema
  distinct_rows e p = keep_first_occurrences (sat W (schema p) e) (rows W p)

-- ---- Window: conjuncts M that read partition columns only are TRUE on all rows of a partition or on none
--
--     Filter M            Window ws
--       Window ws  becomes   Filter M
--         p                    p

map_has : (f g : Env) (xs : List Name) → map f xs ≡ map g xs → (x : Name) → has xs x ≡ true → f x ≡ g x
unfolding any
map_has f g [] h x k = cc
map_has f g (y ∷ xs) h x k = go (same y x) refl k (map_has f g xs (cc) x)
  where
    go : (b : Bool) → same y x ≡ b → b || has xs x ≡ true → (has xs x ≡ true → f x ≡ g x) → f x ≡ g x
    go true e k m = let q : y ≡ x = same_eq y x e in cc
    go false e k m = m k

module _ (W : World) where
  abbrev part : List Name → WinEntry → Row → Row → Bool
  part s w r t = same_row (map (look s r) w.parts) (map (look s t) w.parts)

  abbrev win : List Name → List WinEntry → List Row → Row → Row
  win s ws rs r = map (win_entry W s rs r) ws

  module _ (s : List Name) (M : List Expr) where
    -- rows of one partition agree on what reads partition columns only
    one_part : (w : WinEntry) → Over w.parts M → (r t : Row) → part s w r t ≡ true → sats W s M t ≡ sats W s M r
    one_part w h r t k = all_cong _ _ (All-map (λ e o. ap is_t (eval_cong W (has w.parts) _ _ agree e o)) h)
      where
        agree : (x : Name) → has w.parts x ≡ true → look s t x ≡ look s r x
        agree x i = sym (map_has (look s r) (look s t) w.parts (same_row_eq _ _ k) x i)

    -- so the partition of a row that M keeps is whole
    partition_kept : (w : WinEntry) → Over w.parts M → (rs : List Row) (r : Row) → sats W s M r ≡ true
        → keep (part s w r) rs ≡ keep (part s w r) (keep (sats W s M) rs)
    partition_kept w o rs r k = sym (keep_keep _ _ rs ∙ keep_cong _ _ (all_of (λ t. implied _ _ (λ i. one_part w o r t i ∙ k)) rs))

    win_kept : (ws : List WinEntry) → All (λ (w : WinEntry). Over w.parts M) ws → (rs : List Row) (r : Row) → sats W s M r ≡ true
        → win s ws rs r ≡ win s ws (keep (sats W s M) rs) r
    win_kept ws h rs r k =
        map_cong _ _ (All-map (λ w o.
        ap (λ ts. aggregated w.fun (map (λ t. eval W (look s t) w.expr) ts)) (partition_kept w o rs r k)) h)

    pub windowed_kept : (ws : List WinEntry) (wn : List Name) → nodup (s ++ wn) ≡ true
        → All (λ (w : WinEntry). Over w.parts M) ws → Over s M → {rs : List Row} → All (Wide s) rs
        → keep (sats W (s ++ wn) M) (windowed W s ws rs) ≡ windowed W s ws (keep (sats W s M) rs)
    windowed_kept ws wn n h o {rs} wr =
        keep_map _ _ rs
        ∙ ap (map _) (keep_cong _ _ (All-map (λ r wd. sym (left_sats W s wn n r _ wd o)) wr))
        ∙ map_cong _ _ (All-map (λ r k. ap (r ++◌) (win_kept ws h rs r k)) (passes _ rs))

-- ---- Aggregate: conjuncts M that read group columns only are TRUE on all rows of a group, with the columns replaced, or on none
--
--     Filter M                        Aggregate gs, ags
--       Aggregate gs, ags    becomes    Filter (M replaced)
--         p                               p

pub All-first_occurrences : {P : Row → Type 0} {xs : List Row} → All P xs → All P (first_occurrences xs)
All-first_occurrences anil = anil
All-first_occurrences (acons h hs) = acons h (All-keep _ (All-first_occurrences hs))

module _ (W : World) (s : List Name) (gs : List Entry) (ags : List AggEntry) (M : List Expr) (over : Over (names gs) M) where
  abbrev pub group : Row → List Row → List Row
  group k rs = keep (λ r. same_row k (entries W s gs r)) rs

  -- the rows that the moved conjuncts keep
  abbrev below : List Row → List Row
  below rs = keep (sats W s (map (replace_cols (pick gs)) M)) rs

  -- the moved conjuncts say of a row what those above say of its group's key
  moved_sats : (r : Row) → sats W s (map (replace_cols (pick gs)) M) r ≡ sats W (names gs) M (entries W s gs r)
  moved_sats r = sub_all W (has (names gs)) (look s r) (look (names gs) (entries W s gs r)) (pick gs) (look_entries W s r gs) over

  group_kept : (rs : List Row) (k : Row) → sats W (names gs) M k ≡ true → group k rs ≡ group k (below rs)
  group_kept rs k h = sym (keep_keep _ _ rs ∙ keep_cong _ _ (all_of point rs))
    where
      point : (r : Row) → sats W s (map (replace_cols (pick gs)) M) r & same_row k (entries W s gs r) ≡ same_row k (entries W s gs r)
      point r = implied _ _ (λ i. moved_sats r ∙ ap (sats W (names gs) M) (sym (same_row_eq k _ i)) ∙ h)

  keys_kept : (rs : List Row)
      → keep (sats W (names gs) M) (first_occurrences (map (entries W s gs) rs)) ≡ first_occurrences (map (entries W s gs) (below rs))
  keys_kept rs =
      keep_first_occurrences _ _
      ∙ ap first_occurrences (keep_map _ _ rs ∙ ap (map _) (keep_cong _ _ (all_of (λ r. sym (moved_sats r)) rs)))

  keys_wide : (rs : List Row) → All (Wide (names gs)) (first_occurrences (map (entries W s gs) rs))
  keys_wide rs = All-first_occurrences (All-mapped _ (all_of (λ r. length-map gs _ ∙ sym (length-map gs _)) rs))

  pub with_aggs_kept : (an : List Name) → nodup (names gs ++ an) ≡ true → (rs : List Row) →
      keep (sats W (names gs ++ an) M) (map (λ k. k ++ agg_entries W s ags (group k rs)) (first_occurrences (map (entries W s gs) rs)))
      ≡ map (λ k. k ++ agg_entries W s ags (group k (below rs))) (first_occurrences (map (entries W s gs) (below rs)))
  with_aggs_kept an n rs =
      keep_map _ _ _
      ∙ ap (map _) (keep_cong _ _ (All-map (λ k w. sym (left_sats W (names gs) an n k _ w over)) (keys_wide rs)))
      ∙ map_cong _ _ (All-map (λ k h. ap (λ ts. k ++ agg_entries W s ags ts) (group_kept rs k h)) (passes _ _))
      ∙ ap (map _) (keys_kept rs)
