-- Theorem (b): two Filters are one, with the child's conjuncts and then the parent's, later equal ones dropped.
--
--     Filter a            Filter (b's conjuncts, then a's, each once)
--       Filter b  becomes   p
--         p
use mathlib.Core.Path.{◌≡◌, refl, sym, ap, ap₂, ◌∙◌}
use mathlib.Core.Bool.{Bool, true, false, not}
use mathlib.Core.List.{List, [], ◌∷◌, ◌++◌}
use Rattle.plan.specs.Lists.{◌&◌, put, keep, all}
use Rattle.plan.proofs.Lists.{and_left_comm, all_append, all_of, keep_cong, keep_keep}
use Rattle.plan.specs.Syntax.{Expr, Plan, filter}
use Rattle.meaning.specs.Meaning.{World, Row, rows, look, sat, sats}
use Rattle.plan.specs.Schema.{schema}
use Rattle.rewrite.specs.Utils.{split_conjunction, same_e, unique, with_filters}
use Rattle.rewrite.specs.PushDownFilter.{merged}
use Rattle.rewrite.proofs.Exprs.{same_e_eq, filtered_rows, all_split}

-- for a test of expressions, a list says the same as the list without its later equal ones
module _ (t : Expr → Bool) where
  again : (a b c : Bool) → a ≡ b → a & c ≡ a & (b & c)
  unfolding ◌&◌
  again true b c h = rw (← h)
  again false b c h = refl

  -- `x` stays or goes by a test `b`, and goes only where it equals `e`
  drop_put : (e x : Expr) (xs : List Expr) (b : Bool) → same_e e x ≡ b → t e & all t (put (not b) x xs) ≡ t e & (t x & all t xs)
  unfolding ◌&◌ all put
  drop_put e x xs true h = again (t e) (t x) (all t xs) (ap t (same_e_eq e x h))
  drop_put e x xs false h = refl

  drop_all : (e : Expr) (xs : List Expr) → t e & all t (keep (λ x. not (same_e e x)) xs) ≡ t e & all t xs
  unfolding keep all ◌&◌
  drop_all e [] = refl
  drop_all e (x ∷ xs) =
      drop_put e x _ (same_e e x) refl ∙ and_left_comm (t e) (t x) _ ∙ ap (t x &◌) (drop_all e xs) ∙ and_left_comm (t x) (t e) _

  pub dedup_all : (es : List Expr) → all t (unique es) ≡ all t es
  unfolding unique all ◌&◌
  dedup_all [] = refl
  dedup_all (e ∷ es) = drop_all e (unique es) ∙ ap (t e &◌) (dedup_all es)

module _ (W : World) where
  pub merge_rows : (a b : Expr) (p : Plan) → rows W (with_filters (merged a b) p) ≡ rows W (filter a (filter b p))
  unfolding rows schema merged
  merge_rows a b p =
      filtered_rows W (merged a b) p
      ∙ keep_cong _ _ (all_of point (rows W p))
      ∙ sym (keep_keep (sat W (schema p) a) (sat W (schema p) b) (rows W p))
    where
      point : (r : Row)
          → sats W (schema p) (unique (split_conjunction b ++ split_conjunction a)) r ≡ sat W (schema p) b r & sat W (schema p) a r
      point r =
          dedup_all _ (split_conjunction b ++ split_conjunction a) ∙ all_append _ (split_conjunction b) (split_conjunction a)
          ∙ ap₂ ◌&◌ (all_split W (look (schema p) r) b) (all_split W (look (schema p) r) a)
