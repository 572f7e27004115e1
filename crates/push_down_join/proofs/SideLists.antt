-- The lists of a join's sides, as the code makes them, are the definition's.
--     keyed_inner, keyed_other           those of which others are inferred
--     cols_replaced, replace_same        columns replaced, tested and by two maps that agree
--     inferred_left, inferred_right      what is inferred and moves to a side is what moves there, inferred
--     left_push_is, right_push_is        the whole list of a side
-- Assumes nothing.
use mathlib.Core.Path.{◌≡◌, refl, ap, ap₂, ◌∙◌}
use mathlib.Core.Bool.{Bool, true, false, not, ◌||◌, cond}
use mathlib.Core.List.{List, [], ◌∷◌, ◌++◌, map, append-nil}
use mathlib.Core.Option as O
use mathlib.Core.Option.{Option, some}
use Prim.Native.Nat.{ℕ}
use Rattle.plan.specs.Columns.{on_cols, on_cols_all}
use Rattle.plan.specs.Lists.{◌&◌, keep, any, All, anil, acons}
use Rattle.plan.specs.Schema.{has, same}
use Rattle.plan.proofs.Names.{same_eq}
use Rattle.plan.specs.Syntax.{Name, Expr, col, num, bool, nul, bin, neg, test, between, inlist, fn, Exprs, enil, econs, Pair, Kind}
use Rattle.plan.proofs.Lists.{and_l, and_r, all_of, keep_cong, keep_map, keep_append}
use Rattle.rewrite.specs.Utils.{replace_cols, replace_cols_all}
use Rattle.rewrite.specs.PushDownFilter.{left_preserved, right_preserved, on_left_preserved, on_right_preserved, is_inner, partner, to_partner}
use Rattle.rewrite.specs.PushDownFilter.{swap_keys, no_partner, infer_join_predicates, push_to, push_not, rest, if_list, left_push, right_push}
use Rattle.rewrite.specs.PushDownFilter.{extract_or_clauses_for_join, ren}
use Rattle.push_down_join.specs.Partners.{or_self}
use Rattle.push_down_join.specs.Parts.{Part, Parted, Wholes}
use Rattle.push_down_join.specs.Scopes.{Swapper, swap, keyed, keyed_left, keyed_right}
use Rattle.push_down_base.proofs.Scoping.{known_reads}

-- ---- those of which others are inferred

module _ (b : Bool) (on : List Pair) (es : List Expr) where
  pub keyed_inner : b ≡ true → keyed b on es ≡ keep (λ e. not (on_cols (λ x. no_partner (partner on x)) e)) es
  keyed_inner e = rw e

  pub keyed_other : b ≡ false → keyed b on es ≡ []
  keyed_other e = rw e

-- ---- columns replaced

module _ (c d : Name → Bool) (σ : Name → Expr) (h : (x : Name) → on_cols c (σ x) ≡ d x) where
  mutual
    unfolding on_cols replace_cols

    pub cols_replaced : (e : Expr) → on_cols c (replace_cols σ e) ≡ on_cols d e
    cols_replaced (col x) = h x
    cols_replaced (num z) = refl
    cols_replaced (bool b) = refl
    cols_replaced (nul t) = refl
    cols_replaced (bin o a b) = ap₂ ◌&◌ (cols_replaced a) (cols_replaced b)
    cols_replaced (neg a) = cols_replaced a
    cols_replaced (test t a) = cols_replaced a
    cols_replaced (between n a l u) = ap₂ ◌&◌ (cols_replaced a) (ap₂ ◌&◌ (cols_replaced l) (cols_replaced u))
    cols_replaced (inlist n a xs) = ap₂ ◌&◌ (cols_replaced a) (cols_replaced_all xs)
    cols_replaced (fn p q r xs) = cols_replaced_all xs

    cols_replaced_all : (xs : Exprs) → on_cols_all c (replace_cols_all σ xs) ≡ on_cols_all d xs
    cols_replaced_all enil = refl
    cols_replaced_all (econs x xs) = ap₂ ◌&◌ (cols_replaced x) (cols_replaced_all xs)

module _ (c : Name → Bool) (σ τ : Name → Expr) (h : (x : Name) → c x ≡ true → σ x ≡ τ x) where
  mutual
    unfolding on_cols replace_cols

    pub replace_same : (e : Expr) → on_cols c e ≡ true → replace_cols σ e ≡ replace_cols τ e
    replace_same (col x) k = h x k
    replace_same (num z) k = refl
    replace_same (bool b) k = refl
    replace_same (nul t) k = refl
    replace_same (bin o a b) k = ap₂ (bin o) (replace_same a (and_l _ _ k)) (replace_same b (and_r _ _ k))
    replace_same (neg a) k = ap neg (replace_same a k)
    replace_same (test t a) k = ap (test t) (replace_same a k)
    replace_same (between n a l u) k =
        let x = replace_same a (and_l _ _ k) in
        let y = replace_same l (and_l _ _ (and_r _ _ k)) in
        let z = replace_same u (and_r _ _ (and_r _ _ k)) in
        cc
    replace_same (inlist n a xs) k = ap₂ (inlist n) (replace_same a (and_l _ _ k)) (replace_same_all xs (and_r _ _ k))
    replace_same (fn p q r xs) k = ap (fn p q r) (replace_same_all xs k)

    replace_same_all : (xs : Exprs) → on_cols_all c xs ≡ true → replace_cols_all σ xs ≡ replace_cols_all τ xs
    replace_same_all enil k = refl
    replace_same_all (econs x xs) k = ap₂ econs (replace_same x (and_l _ _ k)) (replace_same_all xs (and_r _ _ k))

  maps_same : {es : List Expr} → All (λ e. on_cols c e ≡ true) es → map (replace_cols σ) es ≡ map (replace_cols τ) es
  maps_same anil = refl
  maps_same (acons {x = x} k ks) = ap₂ ◌∷◌ (replace_same x k) (maps_same ks)

-- ---- what is inferred

module _ (on : List Pair) where
  -- the inferred one
  abbrev inferred : Expr → Expr
  inferred = replace_cols (swap_keys on)

  cols_inferred : (c : Name → Bool) (e : Expr) → on_cols c (inferred e) ≡ on_cols (λ x. c (swap on x)) e
  unfolding swap_keys to_partner on_cols
  cols_inferred c e = cols_replaced c (λ x. c (swap on x)) (swap_keys on) (λ x. go x (partner on x)) e
    where
      go : (x : Name) (o : Option Name) → on_cols c (to_partner x o) ≡ c (or_self x o)
      go x O.none = refl
      go x (some y) = refl

  keep_inferred : (f g : Expr → Bool) → ((e : Expr) → f (inferred e) ≡ g e) → (es : List Expr)
      → keep f (map inferred es) ≡ map inferred (keep g es)
  keep_inferred f g h es = keep_map f inferred es ∙ ap (map inferred) (keep_cong _ _ (all_of h es))

  pub inferred_left : (b : Bool) (l : List Name) (P G : List Expr)
      → push_to true l (if_list b (infer_join_predicates on (P ++ G))) ≡ map inferred (keyed_left b l on P ++ keyed_left b l on G)
  unfolding push_to infer_join_predicates keep
  inferred_left false l P G = refl
  inferred_left true l P G =
      let f : Expr → Bool = λ e. not (on_cols (λ x. no_partner (partner on x)) e) in
      let g : Expr → Bool = λ e. on_cols (λ x. has l (swap on x)) e in
      keep_inferred (λ e. on_cols (has l) e) g (cols_inferred (has l)) (keep f (P ++ G))
      ∙ ap (map inferred) (ap (keep g) (keep_append f P G) ∙ keep_append g (keep f P) (keep f G))

  pub inferred_right : (b : Bool) (l r : List Name) (P G : List Expr)
      → push_to true r (push_not true l (if_list b (infer_join_predicates on (P ++ G))))
      ≡ map inferred (keyed_right b l r on P ++ keyed_right b l r on G)
  unfolding push_to push_not infer_join_predicates keep
  inferred_right false l r P G = refl
  inferred_right true l r P G =
      let f : Expr → Bool = λ e. not (on_cols (λ x. no_partner (partner on x)) e) in
      let n : Expr → Bool = λ e. not (on_cols (λ x. has l (swap on x)) e) in
      let g : Expr → Bool = λ e. on_cols (λ x. has r (swap on x)) e in
      ap (keep (λ e. on_cols (has r) e)) (keep_inferred (λ e. not (on_cols (has l) e)) n (λ e. ap not (cols_inferred (has l) e)) (keep f (P ++ G)))
      ∙ keep_inferred (λ e. on_cols (has r) e) g (cols_inferred (has r)) (keep n (keep f (P ++ G)))
      ∙ ap (map inferred) (ap (λ es. keep g (keep n es)) (keep_append f P G)
      ∙ ap (keep g) (keep_append n (keep f P) (keep f G)) ∙ keep_append g (keep n (keep f P)) (keep n (keep f G)))

-- ---- the whole list of a side

-- what moves to no side stays above an Inner join, or goes into another
kept_or_joined : (b : Bool) (es : List Expr) → if_list (not b) es ++ if_list b es ≡ es
kept_or_joined true es = refl
kept_or_joined false es = append-nil es

module _ (k : Kind) (l r : List Name) (on : List Pair) (P G : List Expr) (σ : Name → Expr) (w : Swapper σ (l ++ r) on) {a b c d i : Bool}
    (ea : a ≡ left_preserved k) (eb : b ≡ right_preserved k) (ec : c ≡ on_left_preserved k) (ed : d ≡ on_right_preserved k) (ei : i ≡ is_inner k) where
  pub left_push_is : All (λ e. on_cols (has (l ++ r)) e ≡ true) (keyed_left i l on P ++ keyed_left i l on G)
      → push_to a l P ++ (map (replace_cols σ) (keyed_left i l on P ++ keyed_left i l on G)
      ++ (push_to c l G ++ extract_or_clauses_for_join (has l) (if_list a (rest a b l r P) ++ if_list c (rest c d l r G))))
      ≡ left_push k l r on P G
  left_push_is o =
      rw (
        maps_same (has (l ++ r)) σ (swap_keys on) w o,
        ea,
        eb,
        ec,
        ed,
        ei,
        ← inferred_left on (is_inner k) l P G,
        kept_or_joined (is_inner k) (rest (left_preserved k) (right_preserved k) l r P),
      )

  pub right_push_is : All (λ e. on_cols (has (l ++ r)) e ≡ true) (keyed_right i l r on P ++ keyed_right i l r on G)
      → push_to b r (push_not a l P) ++ (map (replace_cols σ) (keyed_right i l r on P ++ keyed_right i l r on G)
      ++ (push_to d r (push_not c l G) ++ extract_or_clauses_for_join (has r) (if_list b (rest a b l r P) ++ if_list d (rest c d l r G))))
      ≡ right_push k l r on P G
  right_push_is o =
      rw (
        maps_same (has (l ++ r)) σ (swap_keys on) w o,
        ea,
        eb,
        ec,
        ed,
        ei,
        ← inferred_right on (is_inner k) l r P G,
        kept_or_joined (is_inner k) (rest (left_preserved k) (right_preserved k) l r P),
      )

pub wholes : {s : List ℕ} {ns : List Name} {z : Part} {a i u : List Expr} → Parted s ns z a i u → Wholes s z
wholes h = record { moved = known_reads h.moved; keyed = known_reads h.keyed; rest = known_reads h.rest }

-- ---- the renames that `swap_keys` and `write_renames` make

ren_mapped : (f : Name → Name) (ns : List Name) (x : Name) → has ns x ≡ true → ren ns (map f ns) x ≡ f x
unfolding ren any
ren_mapped f [] x h = cc
ren_mapped f (y ∷ ns) x h = go (same y x) refl h (ren_mapped f ns x)
  where
    go : (b : Bool) → same y x ≡ b → (b || has ns x) ≡ true → (has ns x ≡ true → ren ns (map f ns) x ≡ f x)
        → cond b (f y) (ren ns (map f ns) x) ≡ f x
    go true e h k = ap f (same_eq y x e)
    go false e h k = k h

pub renames_swap : (ns : List Name) (on : List Pair) → Swapper (λ x. col (ren ns (map (swap on) ns) x)) ns on
unfolding swap_keys to_partner
renames_swap ns on x h = ap col (ren_mapped (swap on) ns x h) ∙ go (partner on x)
  where
    go : (o : Option Name) → col (or_self x o) ≡ to_partner x o
    go O.none = refl
    go (some y) = refl
