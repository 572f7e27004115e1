-- Theorem (f): what moves from above a join, and from its filter, to the sides.
-- What has to hold of the lists of conjuncts is said by environments alone: no row and no schema stands in a condition.
use mathlib.Core.Path.{◌≡◌, refl, sym, ap, ap₂, ◌∙◌}
use mathlib.Core.Bool.{Bool, true}
use mathlib.Core.List.{List, [], ◌∷◌, ◌++◌}
use lib.ListN.{length, length-replicate}
use Rattle.plan.specs.Lists.{◌&◌, all, All}
use Rattle.plan.proofs.Lists.{and_left_comm, AndSort, All-map, all_cong}
use Rattle.plan.specs.Syntax.{null, eq, Name, Expr, Pair, Kind, inner, left, right, left_semi, right_semi, left_anti, right_anti, Plan, join}
use Rattle.meaning.specs.Meaning.{World, Env, Row, is_t, compared, look, eval, sats, sat?, keys_match, matching, nulls, rows}
use Rattle.plan.specs.Schema.{schema, has, nodup}
use Rattle.plan.proofs.Names.{apart}
use Rattle.meaning.proofs.Names.{look_left, look_right}
use Rattle.plan.specs.Columns.{on_cols}
use Rattle.rewrite.specs.Utils.{with_filters, conjunction}
use Rattle.rewrite.proofs.Exprs.{eval_cong, conj_all, filtered_rows, filtered_schema}
use Rattle.rewrite.proofs.JoinLists.{inner_law, outer_law, semi_law, anti_law}

-- Before and after, for a join of kind k with the keys `on`:
--
--     Filter P                  Filter K
--       Join k, filter G          Join k, filter F
--         l              becomes    Filter L
--         r                           l
--                                   Filter R
--                                     r

-- all columns of each are columns of the schema
abbrev pub Over : List Name → List Expr → Type 0
Over s es = All (λ e. on_cols (has s) e ≡ true) es

-- a row has a value for each name
abbrev pub Wide : List Name → Row → Type 0
Wide s r = length r ≡ length s

arrange : (k l r f q : Bool) → k & ((l & r) & (f & q)) ≡ (l & (r & (k & f))) & q
arrange k l r f q = simp AndSort

module _ (W : World) where
  -- all of a list are TRUE in an environment; the keys match in it
  abbrev pub holds_all : Env → List Expr → Bool
  holds_all ρ es = all (λ e. is_t (eval W ρ e)) es

  abbrev pub keys_in : Env → List Pair → Bool
  keys_in ρ on = all (λ (k : Pair). is_t (compared eq (eval W ρ k.lhs) (eval W ρ k.rhs))) on

  pub sat?_conj : (s : List Name) (es : List Expr) (r : Row) → sat? W s (conjunction es) r ≡ sats W s es r
  unfolding conjunction all
  sat?_conj s [] r = refl
  sat?_conj s (e ∷ es) r = conj_all W (look s r) e es

  module _ (s t : List Name) (apart-names : nodup (s ++ t) ≡ true) (a b : Row) (w : Wide s a) where
    left_eval : (e : Expr) → on_cols (has s) e ≡ true → eval W (look s a) e ≡ eval W (look (s ++ t) (a ++ b)) e
    left_eval e h = sym (eval_cong W (has s) _ _ (look_left s t a b w) e h)

    right_eval : (e : Expr) → on_cols (has t) e ≡ true → eval W (look t b) e ≡ eval W (look (s ++ t) (a ++ b)) e
    right_eval e h = sym (eval_cong W (has t) _ _ (λ x k. look_right s t a b w x (apart s t apart-names x k)) e h)

    pub left_sats : {es : List Expr} → Over s es → sats W s es a ≡ sats W (s ++ t) es (a ++ b)
    left_sats h = all_cong _ _ (All-map (λ e k. ap is_t (left_eval e k)) h)

    pub right_sats : {es : List Expr} → Over t es → sats W t es b ≡ sats W (s ++ t) es (a ++ b)
    right_sats h = all_cong _ _ (All-map (λ e k. ap is_t (right_eval e k)) h)

    pub keys_match_in : {on : List Pair}
        → All (λ (k : Pair). (on_cols (has s) k.lhs ≡ true) × (on_cols (has t) k.rhs ≡ true)) on
        → keys_match W s t on a b ≡ keys_in (look (s ++ t) (a ++ b)) on
    keys_match_in h =
        all_cong _ _ (All-map (λ (k : Pair) hk. ap is_t (ap₂ (compared eq) (left_eval k.lhs hk.0) (right_eval k.rhs hk.1))) h)

  -- a pair of rows as an environment; what stands above the join says of the pair; that the pair matches under a filter
  module _ (l r : Plan) where
    abbrev pair_env : Row → Row → Env
    pair_env a b = look (schema l ++ schema r) (a ++ b)

    abbrev above_pair : List Expr → Row → Row → Bool
    above_pair es a b = sats W (schema l ++ schema r) es (a ++ b)

    abbrev matches : List Pair → List Expr → Row → Row → Bool
    matches on es a b = matching W (schema l) (schema r) on (conjunction es) a b

  module _ (l r : Plan) (on : List Pair) where
    -- the rows before are the rows after
    abbrev pub Moves : (P G L R F K : List Expr) → Kind → Type 0
    Moves P G L R F K k =
        rows W (with_filters P (join k l r on (conjunction G)))
        ≡ rows W (with_filters K (join k (with_filters L l) (with_filters R r) on (conjunction F)))

  -- two inputs, the keys, and the lists: P above, G in the filter; L, R to the sides, F in the filter, K above
  module _ (l r : Plan) (on : List Pair)
      (ok : nodup (schema l ++ schema r) ≡ true)
      (on-ok : All (λ (k : Pair). (on_cols (has (schema l)) k.lhs ≡ true) × (on_cols (has (schema r)) k.rhs ≡ true)) on)
      (wl : All (Wide (schema l)) (rows W l))
      (wr : All (Wide (schema r)) (rows W r))
      (P G L R F K : List Expr)
      (overL : Over (schema l) L) (overR : Over (schema r) R) where
    -- what each test says of a pair of rows, in the pair's environment
    module _ (a b : Row) (wa : Wide (schema l) a) where
      match_at : (es : List Expr) → matches l r on es a b ≡ keys_in (pair_env l r a b) on & holds_all (pair_env l r a b) es
      match_at es = ap₂ ◌&◌ (keys_match_in (schema l) (schema r) ok a b wa on-ok) (sat?_conj (schema l ++ schema r) es (a ++ b))

      l_at : {es : List Expr} → Over (schema l) es → sats W (schema l) es a ≡ holds_all (pair_env l r a b) es
      l_at h = left_sats (schema l) (schema r) ok a b wa h

      r_at : {es : List Expr} → Over (schema r) es → sats W (schema r) es b ≡ holds_all (pair_env l r a b) es
      r_at h = right_sats (schema l) (schema r) ok a b wa h

    -- Inner: both sides are open, from above and from the filter
    module _ (whole : (ρ : Env)
        → (keys_in ρ on & holds_all ρ G) & holds_all ρ P
        ≡ keys_in ρ on & ((holds_all ρ L & holds_all ρ R) & (holds_all ρ F & holds_all ρ K))) where
      inner_at : (a b : Row) → Wide (schema l) a
          → matches l r on G a b & above_pair l r P a b
          ≡ (sats W (schema l) L a & (sats W (schema r) R b & matches l r on F a b)) & above_pair l r K a b
      inner_at a b wa =
          rw (l_at a b wa overL, r_at a b wa overR, match_at a b wa G, match_at a b wa F)
          (whole (pair_env l r a b) ∙ arrange _ _ _ _ _)

      pub inner_rows : Moves l r on P G L R F K inner
      unfolding rows schema
      inner_rows =
          simp (filtered_rows W, filtered_schema)
          (inner_law _ _ _ _ ◌++◌ _ _ (All-map (λ a wa. All-map (λ b wb. inner_at a b wa) wr) wl))

    -- Left, LeftAnti: what stands above moves to the left side, what stands in the filter to the right side
    module _ (above : (ρ : Env) → holds_all ρ P ≡ holds_all ρ L & holds_all ρ K)
        (within : (ρ : Env) → holds_all ρ G ≡ holds_all ρ R & holds_all ρ F) where
      within_at : (a b : Row) → Wide (schema l) a → matches l r on G a b ≡ sats W (schema r) R b & matches l r on F a b
      within_at a b wa =
          rw (r_at a b wa overR, match_at a b wa G, match_at a b wa F, within (pair_env l r a b)) (and_left_comm _ _ _)

      above_at : (a b : Row) → Wide (schema l) a → above_pair l r P a b ≡ sats W (schema l) L a & above_pair l r K a b
      above_at a b wa = rw (l_at a b wa overL) (above (pair_env l r a b))

      pub left_rows : Moves l r on P G L R F K left
      unfolding rows schema
      left_rows =
          simp (filtered_rows W, filtered_schema)
          (outer_law _ _ _ _ ◌++◌ _ _ _ (All-map (λ a wa. (above_at a _ wa, All-map (λ b wb. (within_at a b wa, above_at a b wa)) wr)) wl))

      pub left_anti_rows : Moves l r on P G L R F K left_anti
      unfolding rows schema
      left_anti_rows =
          simp (filtered_rows W, filtered_schema)
          (anti_law _ _ _ _ _ _ (All-map (λ a wa. (above (look (schema l) a), All-map (λ b wb. within_at a b wa) wr)) wl))

    -- Right, RightAnti: the same with the sides changed
    module _ (above : (ρ : Env) → holds_all ρ P ≡ holds_all ρ R & holds_all ρ K)
        (within : (ρ : Env) → holds_all ρ G ≡ holds_all ρ L & holds_all ρ F) where
      within_at' : (a b : Row) → Wide (schema l) a → matches l r on G a b ≡ sats W (schema l) L a & matches l r on F a b
      within_at' a b wa =
          rw (l_at a b wa overL, match_at a b wa G, match_at a b wa F, within (pair_env l r a b)) (and_left_comm _ _ _)

      above_at' : (a b : Row) → Wide (schema l) a → above_pair l r P a b ≡ sats W (schema r) R b & above_pair l r K a b
      above_at' a b wa = rw (r_at a b wa overR) (above (pair_env l r a b))

      -- a right row without a match: NULL for the left side
      above_null : (b : Row) → above_pair l r P (nulls (length (schema l))) b
          ≡ sats W (schema r) R b & above_pair l r K (nulls (length (schema l))) b
      above_null b = above_at' (nulls (length (schema l))) b (length-replicate (length (schema l)) null)

      pub right_rows : Moves l r on P G L R F K right
      unfolding rows schema
      right_rows =
          simp (filtered_rows W, filtered_schema)
          (outer_law _ _ _ _ (λ b a. a ++ b) _ _ _
          (All-map (λ b wb. (above_null b, All-map (λ a wa. (within_at' a b wa, above_at' a b wa)) wl)) wr))

      pub right_anti_rows : Moves l r on P G L R F K right_anti
      unfolding rows schema
      right_anti_rows =
          simp (filtered_rows W, filtered_schema)
          (anti_law _ _ _ _ _ _ (All-map (λ b wb. (above (look (schema r) b), All-map (λ a wa. within_at' a b wa) wl)) wr))

    -- LeftSemi: the filter's conjuncts move to both sides; what stands above reads the side that is handed up
    module _ (overP : Over (schema l) P) (overK : Over (schema l) K)
        (whole : (ρ : Env)
        → holds_all ρ P & (keys_in ρ on & holds_all ρ G)
        ≡ (holds_all ρ L & holds_all ρ K) & (holds_all ρ R & (keys_in ρ on & holds_all ρ F))) where
      semi_at : (a b : Row) → Wide (schema l) a
          → sats W (schema l) P a & matches l r on G a b
          ≡ (sats W (schema l) L a & sats W (schema l) K a) & (sats W (schema r) R b & matches l r on F a b)
      semi_at a b wa =
          rw (l_at a b wa overP, l_at a b wa overK, l_at a b wa overL, r_at a b wa overR, match_at a b wa G, match_at a b wa F)
          (whole (pair_env l r a b))

      pub left_semi_rows : Moves l r on P G L R F K left_semi
      unfolding rows schema
      left_semi_rows =
          simp (filtered_rows W, filtered_schema)
          (semi_law _ _ _ _ _ _ (All-map (λ a wa. All-map (λ b wb. semi_at a b wa) wr) wl))

    -- RightSemi: the same with the sides changed
    module _ (overP : Over (schema r) P) (overK : Over (schema r) K)
        (whole : (ρ : Env)
        → holds_all ρ P & (keys_in ρ on & holds_all ρ G)
        ≡ (holds_all ρ R & holds_all ρ K) & (holds_all ρ L & (keys_in ρ on & holds_all ρ F))) where
      semi_at' : (a b : Row) → Wide (schema l) a
          → sats W (schema r) P b & matches l r on G a b
          ≡ (sats W (schema r) R b & sats W (schema r) K b) & (sats W (schema l) L a & matches l r on F a b)
      semi_at' a b wa =
          rw (r_at a b wa overP, r_at a b wa overK, l_at a b wa overL, r_at a b wa overR, match_at a b wa G, match_at a b wa F)
          (whole (pair_env l r a b))

      pub right_semi_rows : Moves l r on P G L R F K right_semi
      unfolding rows schema
      right_semi_rows =
          simp (filtered_rows W, filtered_schema)
          (semi_law _ _ _ _ _ _ (All-map (λ b wb. All-map (λ a wa. semi_at' a b wa) wl) wr))
