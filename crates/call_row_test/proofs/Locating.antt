-- Where the plans of an image stand: `focus` finds a plan at a record exactly if the record is a plan's, and it stands there.
-- Assumes nothing.
use mathlib.Core.Path.{◌≡◌, refl}
use mathlib.Core.Bool.{Bool, true, false}
use mathlib.Core.List.{List, [], ◌∷◌}
use mathlib.Core.Option.{Option, none, some}
use Prim.Native.Nat.{ℕ, suc, ◌+◌, ◌-◌, ◌*◌, ◌≤◌, ◌<◌}
use native.Mathlib.Omega.{arith}
use lib.Dec.{eqb, leb}
use lib.ListN.{drop}
use lib.Seq.{drop-drop}
use borrow.Author.Tests.{eqb-true, eqb-false, leb-true, leb-false}
use Rattle.image.specs.Limits.{max_below}
use Rattle.image.specs.Tree as T
use Rattle.image.specs.Tree.{Label, Forest, node, size, Stands, At, Deep}
use Rattle.plan.specs.Lists.{choose}
use Rattle.plan.proofs.Lists.{and_l, and_r}
use Rattle.plan.specs.Integers.{FitsPs}
use Rattle.plan.specs.Measure.{size_e, size_p, sizes}
use Rattle.plan.specs.Syntax.{Expr, Entry, Pair, Key, AggEntry, WinEntry, Kind, Plan, scan, filter, project, join, alias, union, distinct, sort}
use Rattle.plan.specs.Syntax.{repartition, limit, aggregate, window}
use Rattle.plan.specs.Syntax.{Plans, pnil, pcons}
use Rattle.plan.specs.Trees.{each, entry_label, entry_kids, pair_label, pair_kids, key_label, key_kids, agg_label, agg_kids, win_label, win_kids}
use Rattle.plan.specs.Trees.{filter_kids, label_p, kids_p, forest_p, plan_tree, label_e, kids_e}
use Rattle.plan.proofs.Measure.{size_filter, size_project, size_join, size_alias, size_union, size_distinct, size_sort, size_repartition}
use Rattle.plan.proofs.Measure.{size_limit, size_aggregate, size_window, size_pcons, size_each}
use Rattle.acceptance.specs.NamesRule.{rule, rule_all}
use Rattle.rewrite.specs.RewriteAt.{Focus, FocusAll, here, focus_in, inside_all, first_of, later_of, focus, focus_all}
use Rattle.call_row_test.specs.Standing.{Sound}
use Rattle.call_row_test.proofs.Quiet.{Other, NoPlan, OtherAt, region, region_each, past_each, far, later_at, other_e, no_plan_e, no_plan_scan}
use Rattle.call_row_test.proofs.Quiet.{no_plan_join, other_entry, other_key, other_agg, other_win, below_entry, below_key, below_agg, below_win}

-- ---- depth

-- a forest is no deeper than one more
deeper : (f : Forest) (d : ℕ) → Deep f (d - 1) → Deep f d
deeper T.none d h = tt
deeper (node l cs ns) d h = (omega (arith, h.0), deeper cs (d - 1) h.1, deeper ns d h.2)

-- what comes after a run of parts
deep_past : {A : Type 0} (l : A → Label) (k : A → Forest) (xs : List A) (ns : Forest) (d : ℕ) → Deep (each l k xs ns) d → Deep ns d
unfolding each
deep_past l k [] ns d h = h
deep_past l k (x ∷ xs) ns d h = deep_past l k xs ns d h.2

deep_plan : (p : Plan) (ns : Forest) → Deep (node (label_p p) (kids_p p) ns) max_below → Deep (kids_p p) max_below
deep_plan p ns h = deeper (kids_p p) max_below h.1

-- ---- the places

-- what `focus` found at the record n of a plan of so many records, which stands at the start of s as record b
pub data Place (s : List ℕ) (b n total : ℕ) : Option Focus → Type 0 where
  there : {c : Focus} → Sound c.plan → At (plan_tree c.plan) (drop (32 * n) s) (b + n) → Place s b n total (some c)
  nowhere : (n < total → OtherAt s n) → Place s b n total none

data PlaceAll (s : List ℕ) (b n total : ℕ) : Option FocusAll → Type 0 where
  there_all : {c : FocusAll} → Sound c.plan → At (plan_tree c.plan) (drop (32 * n) s) (b + n) → PlaceAll s b n total (some c)
  nowhere_all : (n < total → OtherAt s n) → PlaceAll s b n total none

-- a plan at the front
in_front_lem : (p : Plan) (ns : Forest) (s : List ℕ) (b : ℕ) → Stands (node (label_p p) (kids_p p) ns) s b → At (plan_tree p) s b
in_front_lem p ns s b w = record { head = w.head; below = w.below }

itself : (p : Plan) (s : List ℕ) (b n total : ℕ) → Sound p → At (plan_tree p) s b → n ≡ 0 → Place s b n total (here p)
itself p s b n total o h e =
    let f : b + n ≡ b = omega arith in
    let k : At (plan_tree p) (drop (32 * n) s) (b + n) = rw (f, e) h in
    there o k

either : {s : List ℕ} {b n total : ℕ} (t : Bool) {x y : Option Focus} → (t ≡ true → Place s b n total x) → (t ≡ false → Place s b n total y)
    → Place s b n total (choose t x y)
unfolding choose
either true f g = f refl
either false f g = g refl

either_all : {s : List ℕ} {b n total : ℕ} (t : Bool) {x y : Option FocusAll} → (t ≡ true → PlaceAll s b n total x)
    → (t ≡ false → PlaceAll s b n total y) → PlaceAll s b n total (choose t x y)
unfolding choose
either_all true f g = f refl
either_all false f g = g refl

-- the record counted from a later one, `m`
module _ (s : List ℕ) (b m n : ℕ) (l : m ≤ n) where
  moved : (p : Plan) → At (plan_tree p) (drop (32 * (n - m)) (drop (32 * m) s)) (b + m + (n - m)) → At (plan_tree p) (drop (32 * n) s) (b + n)
  moved p h = let e : b + m + (n - m) ≡ b + n = omega arith in rw (far s n m l, e) at h

  -- in an input that stands behind m records; what comes after it is no plan
  module _ {k total : ℕ} (rest : k ≤ n - m → n < total → OtherAt s n) where
    other : (n - m < k → OtherAt (drop (32 * m) s) (n - m)) → n < total → OtherAt s n
    other h t = go (leb k (n - m)) refl
      where
        go : (x : Bool) → leb k (n - m) ≡ x → OtherAt s n
        go true e = rest (leb-true k (n - m) e) t
        go false e = later_at s m n l (h (leb-false k (n - m) e))

    behind : (f : Plan → Plan) {o : Option Focus} → Place (drop (32 * m) s) (b + m) (n - m) k o → Place s b n total (focus_in f o)
    behind f (there {c} o h) = there o (moved c.plan h)
    behind f (nowhere h) = nowhere (other h)

    behind_all : (f : Plans → Plan) {o : Option FocusAll} → PlaceAll (drop (32 * m) s) (b + m) (n - m) k o → Place s b n total (inside_all f o)
    behind_all f (there_all {c} o h) = there o (moved c.plan h)
    behind_all f (nowhere_all h) = nowhere (other h)

    behind_later : (p : Plan) {o : Option FocusAll} → PlaceAll (drop (32 * m) s) (b + m) (n - m) k o → PlaceAll s b n total (later_of p o)
    behind_later p (there_all {c} o h) = there_all o (moved c.plan h)
    behind_later p (nowhere_all h) = nowhere_all (other h)

in_first : (ps : Plans) {s : List ℕ} {b n k total : ℕ} {o : Option Focus} → n < k → Place s b n k o → PlaceAll s b n total (first_of ps o)
in_first ps l (there o h) = there_all o h
in_first ps l (nowhere h) = nowhere_all (λ t. h l)

-- ---- one input behind a run of parts

-- the input p stands m records behind the start, and the records between are no plan's
record Behind (s : List ℕ) (b m : ℕ) (p : Plan) : Type 0 where
  input : At (plan_tree p) (drop (32 * m) s) (b + m)
  quiet : (i : ℕ) → 0 < i → i < m → OtherAt s i

-- what stands at the start of the children, after a run of so many records
children : (f : Forest) (s : List ℕ) (b k : ℕ) → Stands f (drop (32 * k) (drop 32 s)) (b + 1 + k) → Stands f (drop (32 * suc k) s) (b + suc k)
children f s b k w =
    let e : 32 + 32 * k ≡ 32 * suc k = omega arith in
    let g : b + 1 + k ≡ b + suc k = omega arith in
    rw (drop-drop, e, g) at w

module _ {A : Type 0} (l : A → Label) (k : A → Forest) (is : (x : A) → Other (l x)) (no : (x : A) → NoPlan (k x)) where
  one_run : (xs : List A) (p : Plan) (s : List ℕ) (b : ℕ) → Stands (each l k xs (node (label_p p) (kids_p p) T.none)) (drop 32 s) (b + 1)
      → Behind s b (suc (sizes k xs)) p
  one_run xs p s b w =
      let rest = node (label_p p) (kids_p p) T.none in
      record {
        input = in_front_lem p T.none _ _ (children rest s b (sizes k xs) (past_each l k xs rest (drop 32 s) (b + 1) w));
        quiet = λ i h m. later_at s 1 i h (region_each l k is no xs rest (drop 32 s) (b + 1) w (i - 1) (omega arith));
      }

-- found in the input, or in front of it
module _ (q p : Plan) (s : List ℕ) (b n m total : ℕ) (o : Sound q) (h : At (plan_tree q) s b) (v : Behind s b m p) (z : 0 < m) (t : total ≡ m + size_p p)
    (f : Plan → Plan) {r : Option Focus} (in-input : Place (drop (32 * m) s) (b + m) (n - m) (size_p p) r) where
  past_run : Place s b n total (choose (eqb n 0) (here q) (choose (leb m n) (focus_in f r) none))
  past_run =
      either (eqb n 0) (λ e. itself q s b n total o h (eqb-true n 0 e))
      (λ e. either (leb m n)
      (λ u. let l : m ≤ n = leb-true m n u in behind s b m n l (λ j k. absurd (omega arith)) f in-input)
      (λ u. nowhere (λ k. v.quiet n (positive n (eqb-false n 0 e)) (leb-false m n u))))
    where
      positive : (i : ℕ) → (i ≡ 0 → ⊥) → 0 < i
      positive i j = omega arith

straight : (q p : Plan) (s : List ℕ) (b n total : ℕ) → Sound q → At (plan_tree q) s b → total ≡ 1 + size_p p → (f : Plan → Plan) {r : Option Focus}
    → Place (drop 32 s) (b + 1) (n - 1) (size_p p) r → Place s b n total (choose (eqb n 0) (here q) (focus_in f r))
straight q p s b n total o h t f w =
    either (eqb n 0) (λ e. itself q s b n total o h (eqb-true n 0 e))
    (λ e. let l : 1 ≤ n = omega (arith, eqb-false n 0 e) in behind s b 1 n l (λ j k. absurd (omega arith)) f w)

-- ---- the inputs of a sound plan are sound

module _ (e : Expr) (p : Plan) (h : Sound (filter e p)) where
  sound_filter : Sound p
  unfolding kids_p rule
  sound_filter = record { deep = deep_plan p T.none h.deep.2; fits = h.fits.1; names = and_r _ _ h.names }

module _ (es : List Entry) (p : Plan) (h : Sound (project es p)) where
  sound_project : Sound p
  unfolding kids_p rule
  sound_project = record {
    deep = deep_plan p T.none (deep_past entry_label entry_kids es (node (label_p p) (kids_p p) T.none) max_below h.deep);
    fits = h.fits.1;
    names = and_r _ _ (and_r _ _ h.names);
  }

module _ (k : Kind) (l r : Plan) (on : List Pair) (f : Option Expr) (h : Sound (join k l r on f)) where
  sound_left : Sound l
  unfolding kids_p rule
  sound_left = record {
    deep = deeper (kids_p l) max_below h.deep.1;
    fits = h.fits.0;
    names = and_l _ _ (and_r _ _ (and_r _ _ (and_r _ _ h.names)));
  }

  sound_right : Sound r
  unfolding kids_p rule
  sound_right = record {
    deep = deeper (kids_p r) max_below h.deep.2.1;
    fits = h.fits.1;
    names = and_r _ _ (and_r _ _ (and_r _ _ (and_r _ _ h.names)));
  }

module _ (p : Plan) where
  sound_alias : (q : ℕ) → Sound (alias q p) → Sound p
  unfolding kids_p rule
  sound_alias q h = record { deep = deep_plan p T.none h.deep; fits = h.fits; names = and_r _ _ h.names }

  sound_distinct : Sound (distinct p) → Sound p
  unfolding kids_p rule
  sound_distinct h = record { deep = deep_plan p T.none h.deep; fits = h.fits; names = h.names }

  sound_repartition : Sound (repartition p) → Sound p
  unfolding kids_p rule
  sound_repartition h = record { deep = deep_plan p T.none h.deep; fits = h.fits; names = h.names }

  sound_limit : (n k : ℕ) → Sound (limit n k p) → Sound p
  unfolding kids_p rule
  sound_limit n k h = record { deep = deep_plan p T.none h.deep; fits = h.fits; names = h.names }

  sound_sort : (f : Option ℕ) (ks : List Key) → Sound (sort f ks p) → Sound p
  unfolding kids_p rule
  sound_sort f ks h = record {
    deep = deep_plan p T.none (deep_past key_label key_kids ks (node (label_p p) (kids_p p) T.none) max_below h.deep);
    fits = h.fits.1;
    names = and_r _ _ h.names;
  }

  sound_aggregate : (gs : List Entry) (ags : List AggEntry) → Sound (aggregate gs ags p) → Sound p
  unfolding kids_p rule
  sound_aggregate gs ags h =
      let rest = node (label_p p) (kids_p p) T.none in
      record {
        deep = deep_plan p T.none (deep_past agg_label agg_kids ags rest max_below
            (deep_past entry_label entry_kids gs (each agg_label agg_kids ags rest) max_below h.deep));
        fits = h.fits.2;
        names = and_r _ _ (and_r _ _ (and_r _ _ h.names));
      }

  sound_window : (ws : List WinEntry) → Sound (window ws p) → Sound p
  unfolding kids_p rule
  sound_window ws h = record {
    deep = deep_plan p T.none (deep_past win_label win_kids ws (node (label_p p) (kids_p p) T.none) max_below h.deep);
    fits = h.fits.1;
    names = and_r _ _ (and_r _ _ h.names);
  }

-- of the inputs of a Union
record SoundAll (ps : Plans) : Type 0 where
  deep : Deep (forest_p ps) max_below
  fits : FitsPs ps
  width : ℕ
  names : rule_all (λ a b. true) width ps ≡ true

sound_union : (ps : Plans) → Sound (union ps) → SoundAll ps
unfolding kids_p rule
sound_union ps h = record { deep = h.deep; fits = h.fits; width = _; names = h.names }

module _ (p : Plan) (ps : Plans) (h : SoundAll (pcons p ps)) where
  sound_first : Sound p
  unfolding kids_p rule
  sound_first = record { deep = deeper (kids_p p) max_below h.deep.1; fits = h.fits.0; names = and_l _ _ (and_r _ _ h.names) }

  sound_later : SoundAll ps
  unfolding kids_p rule
  sound_later = record { deep = h.deep.2; fits = h.fits.1; width = h.width; names = and_r _ _ (and_r _ _ h.names) }

-- ---- the runs

module _ (p : Plan) (s : List ℕ) (b : ℕ) where
  behind_predicate : (e : Expr) → At (plan_tree (filter e p)) s b → Behind s b (suc (size_e e)) p
  unfolding kids_p each sizes size_e
  behind_predicate e h =
      let n : suc (size (kids_e e)) + 0 ≡ suc (size (kids_e e)) = omega arith in
      rw n at (one_run label_e kids_e other_e no_plan_e (e ∷ []) p s b h.below)

  behind_entries : (es : List Entry) → At (plan_tree (project es p)) s b → Behind s b (suc (sizes entry_kids es)) p
  unfolding kids_p
  behind_entries es h = one_run entry_label entry_kids other_entry below_entry es p s b h.below

  behind_keys : (f : Option ℕ) (ks : List Key) → At (plan_tree (sort f ks p)) s b → Behind s b (suc (sizes key_kids ks)) p
  unfolding kids_p
  behind_keys f ks h = one_run key_label key_kids other_key below_key ks p s b h.below

  behind_wins : (ws : List WinEntry) → At (plan_tree (window ws p)) s b → Behind s b (suc (sizes win_kids ws)) p
  unfolding kids_p
  behind_wins ws h = one_run win_label win_kids other_win below_win ws p s b h.below

  -- two runs: the group entries, then the entries
  behind_aggs : (gs : List Entry) (ags : List AggEntry) → At (plan_tree (aggregate gs ags p)) s b
      → Behind s b (suc (sizes entry_kids gs + sizes agg_kids ags)) p
  unfolding kids_p
  behind_aggs gs ags h =
      let rest = node (label_p p) (kids_p p) T.none in
      let m = sizes entry_kids gs in
      let w = past_each entry_label entry_kids gs (each agg_label agg_kids ags rest) (drop 32 s) (b + 1) h.below in
      let u = past_each agg_label agg_kids ags rest (drop (32 * m) (drop 32 s)) (b + 1 + m) w in
      let e : 32 * m + 32 * sizes agg_kids ags ≡ 32 * (m + sizes agg_kids ags) = omega arith in
      let g : b + 1 + m + sizes agg_kids ags ≡ b + 1 + (m + sizes agg_kids ags) = omega arith in
      record {
        input = in_front_lem p T.none _ _ (children rest s b (m + sizes agg_kids ags) (rw (drop-drop, e, g) at u));
        quiet = λ i x y. later_at s 1 i x (in_either (drop 32 s) m (sizes agg_kids ags) (i - 1)
            (λ j. region_each entry_label entry_kids other_entry below_entry gs (each agg_label agg_kids ags rest) (drop 32 s) (b + 1) h.below (i - 1) j)
            (λ j. region_each agg_label agg_kids other_agg below_agg ags rest (drop (32 * m) (drop 32 s)) (b + 1 + m) w (i - 1 - m) j) (omega arith));
      }
    where
      in_either : (s : List ℕ) (m k i : ℕ) → (i < m → OtherAt s i) → (i - m < k → OtherAt (drop (32 * m) s) (i - m)) → i < m + k → OtherAt s i
      in_either s m k i x y l = go (leb m i) refl
        where
          go : (t : Bool) → leb m i ≡ t → OtherAt s i
          go true e = let f = leb-true m i e in later_at s m i f (y (omega arith))
          go false e = x (leb-false m i e)

after_plan : (p : Plan) (ns : Forest) (s : List ℕ) (b : ℕ) → Stands (node (label_p p) (kids_p p) ns) s b
    → Stands ns (drop (32 * size_p p) s) (b + size_p p)
unfolding size_p
after_plan p ns s b w = let e : b + 1 + size (kids_p p) ≡ b + suc (size (kids_p p)) = omega arith in rw e at w.after

in_parts : (l r a c : ℕ) {total parts n : ℕ} → total ≡ suc (l + (r + (a + c))) → parts ≡ a + c → suc l ≤ n → r ≤ n - suc l → n < total
    → n - suc l - r < parts
in_parts l r a c x y z u v = omega arith

below_size : (p : Plan) (n : ℕ) → 1 ≤ n → n < size_p p → n - 1 < size (kids_p p)
unfolding size_p
below_size p n l h = omega arith

-- ---- the theorem

mutual
  unfolding focus label_p kids_p

  pub located : (p : Plan) (s : List ℕ) (b n : ℕ) → Sound p → At (plan_tree p) s b → Place s b n (size_p p) (focus n p)
  located (scan t fs es) s b n o h =
      either (eqb n 0) (λ e. itself (scan t fs es) s b n _ o h (eqb-true n 0 e))
      (λ e. let l : 1 ≤ n = omega (arith, eqb-false n 0 e) in
      nowhere (λ k. later_at s 1 n l (region (kids_p (scan t fs es)) (drop 32 s) (b + 1) (no_plan_scan fs es) h.below (n - 1)
      (below_size (scan t fs es) n l k))))
  located (filter e p) s b n o h =
      let v = behind_predicate p s b e h in
      past_run (filter e p) p s b n (suc (size_e e)) (size_p (filter e p)) o h v (omega arith) (omega (arith, size_filter e p)) (filter e)
      (located p _ _ (n - suc (size_e e)) (sound_filter e p o) v.input)
  located (project es p) s b n o h =
      let v = behind_entries p s b es h in
      past_run (project es p) p s b n (suc (sizes entry_kids es)) (size_p (project es p)) o h v (omega arith) (omega (arith, size_project es p)) (project es)
      (located p _ _ (n - suc (sizes entry_kids es)) (sound_project es p o) v.input)
  located (join k l r on g) s b n o h =
      let m = suc (size_p l) in
      let parts = each pair_label pair_kids on (filter_kids g) in
      let right = children (node (label_p r) (kids_p r) parts) s b (size_p l)
      (after_plan l (node (label_p r) (kids_p r) parts) (drop 32 s) (b + 1) h.below) in
      let rest = after_plan r parts (drop (32 * m) s) (b + m) right in
      either (eqb n 0) (λ e. itself (join k l r on g) s b n _ o h (eqb-true n 0 e))
      (λ e. either (leb m n)
      (λ u. let d : m ≤ n = leb-true m n u in
      behind s b m n d {k = size_p r}
      (λ j t. later_at s m n d (later_at (drop (32 * m) s) (size_p r) (n - m) j
      (region parts _ _ (no_plan_join on g) rest (n - m - size_p r)
      (in_parts (size_p l) (size_p r) (sizes pair_kids on) (size (filter_kids g)) (size_join k l r on g)
      (size_each pair_label pair_kids on (filter_kids g)) d j t))))
      (λ q. join k l q on g) (located r _ _ (n - m) (sound_right k l r on g o) (in_front_lem r parts _ _ right)))
      (λ u. let d : 1 ≤ n = omega (arith, eqb-false n 0 e) in
      behind s b 1 n d {k = size_p l} (λ j t. absurd (omega (arith, leb-false m n u)))
      (λ q. join k q r on g) (located l (drop 32 s) (b + 1) (n - 1) (sound_left k l r on g o) (in_front_lem l (node (label_p r)
      (kids_p r) parts) _ _ h.below))))
  located (alias q p) s b n o h =
      straight (alias q p) p s b n (size_p (alias q p)) o h (omega (arith, size_alias q p)) (alias q)
      (located p _ _ (n - 1) (sound_alias p q o) (in_front_lem p T.none _ _ h.below))
  located (union ps) s b n o h =
      either (eqb n 0) (λ e. itself (union ps) s b n _ o h (eqb-true n 0 e))
      (λ e. let d : 1 ≤ n = omega (arith, eqb-false n 0 e) in
      behind_all s b 1 n d {k = size (forest_p ps)} (λ j t. absurd (omega (arith, size_union ps))) union
      (located_all ps (drop 32 s) (b + 1) (n - 1) (sound_union ps o) h.below))
  located (distinct p) s b n o h =
      straight (distinct p) p s b n (size_p (distinct p)) o h (omega (arith, size_distinct p)) distinct
      (located p _ _ (n - 1) (sound_distinct p o) (in_front_lem p T.none _ _ h.below))
  located (sort f ks p) s b n o h =
      let v = behind_keys p s b f ks h in
      past_run (sort f ks p) p s b n (suc (sizes key_kids ks)) (size_p (sort f ks p)) o h v (omega arith) (omega (arith, size_sort f ks p)) (sort f ks)
      (located p _ _ (n - suc (sizes key_kids ks)) (sound_sort p f ks o) v.input)
  located (repartition p) s b n o h =
      straight (repartition p) p s b n (size_p (repartition p)) o h (omega (arith, size_repartition p)) repartition
      (located p _ _ (n - 1) (sound_repartition p o) (in_front_lem p T.none _ _ h.below))
  located (limit i j p) s b n o h =
      straight (limit i j p) p s b n (size_p (limit i j p)) o h (omega (arith, size_limit i j p)) (limit i j)
      (located p _ _ (n - 1) (sound_limit p i j o) (in_front_lem p T.none _ _ h.below))
  located (aggregate gs ags p) s b n o h =
      let v = behind_aggs p s b gs ags h in
      let m = suc (sizes entry_kids gs + sizes agg_kids ags) in
      past_run (aggregate gs ags p) p s b n m (size_p (aggregate gs ags p)) o h v (omega arith) (omega (arith, size_aggregate gs ags p)) (aggregate gs ags)
      (located p _ _ (n - m) (sound_aggregate p gs ags o) v.input)
  located (window ws p) s b n o h =
      let v = behind_wins p s b ws h in
      past_run (window ws p) p s b n (suc (sizes win_kids ws)) (size_p (window ws p)) o h v (omega arith) (omega (arith, size_window ws p)) (window ws)
      (located p _ _ (n - suc (sizes win_kids ws)) (sound_window p ws o) v.input)

  located_all : (ps : Plans) (s : List ℕ) (b n : ℕ) → SoundAll ps → Stands (forest_p ps) s b → PlaceAll s b n (size (forest_p ps)) (focus_all n ps)
  located_all pnil s b n o w = nowhere_all (λ l. absurd (omega arith))
  located_all (pcons p ps) s b n o w =
      either_all (leb (size_p p) n)
      (λ u. let d : size_p p ≤ n = leb-true (size_p p) n u in
      behind_later s b (size_p p) n d {k = size (forest_p ps)} (λ j t. absurd (omega (arith, size_pcons p ps))) p
      (located_all ps _ _ (n - size_p p) (sound_later p ps o) (after_plan p (forest_p ps) s b w)))
      (λ u. in_first ps (leb-false (size_p p) n u) (located p s b n (sound_first p ps o) (in_front_lem p (forest_p ps) s b w)))
