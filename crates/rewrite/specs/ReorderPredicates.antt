-- src/simplify_expressions/reorder_predicates.rs. Definitions only.
use Rattle.std.specs.Prelude.{Bool, true, false, not, ◌||◌, List, [], ◌∷◌, ◌++◌}
use Rattle.plan.specs.Lists.{◌&◌, choose, any, keep}
use Rattle.plan.specs.Syntax.{Expr}
use Rattle.rewrite.specs.Utils.{any_fn, is_volatile_expr}

-- only functions are expensive
abbrev pub is_cheap_predicate : Expr → Bool
is_cheap_predicate e = not (any_fn (λ q. true) e)

-- an expensive one stands right before a cheap one
unfoldable pub needs_reorder : List Expr → Bool
needs_reorder [] = false
needs_reorder (e ∷ []) = false
needs_reorder (e ∷ f ∷ es) = (not (is_cheap_predicate e) & is_cheap_predicate f) || needs_reorder (f ∷ es)

-- a list, and whether its order changed
pub record Reordered : Type 0 where
  pub predicates : List Expr
  pub changed : Bool

-- the list as it stands
abbrev pub unchanged : List Expr → Reordered
unchanged es = record { predicates = es; changed = false }

-- cheap ones first, each sort in its order
abbrev pub cheap_first : List Expr → Reordered
cheap_first es = record { predicates = keep is_cheap_predicate es ++ keep (λ e. not (is_cheap_predicate e)) es; changed = true }

-- no reordering around a volatile predicate
unfoldable pub reorder_predicates : List Expr → Reordered
reorder_predicates es = choose (any is_volatile_expr es) (unchanged es) (choose (needs_reorder es) (cheap_first es) (unchanged es))
