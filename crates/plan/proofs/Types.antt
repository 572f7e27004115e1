-- The types of a plan: as many as its schema has fields.
use Prim.Native.Nat.{ℕ, ◌+◌}
use mathlib.Core.Path.{◌≡◌, refl, ap, ap₂}
use mathlib.Core.List.{List}
use lib.ListN.{length, length-map, length-append}
use Rattle.plan.specs.Syntax.{Name, Kind, inner, left, right, full, left_semi, right_semi, left_anti, right_anti, Plan, scan, filter}
use Rattle.plan.specs.Syntax.{project, join, alias, union, distinct, sort, repartition, limit, aggregate, window, Plans, pnil, pcons}
use Rattle.plan.specs.Schema.{schema, schema_first, sides}
use Rattle.plan.specs.Types.{side_types, types, types_first}

side_length : (k : Kind) (s t : List Name) (u v : List ℕ) → length u ≡ length s → length v ≡ length t
    → length (side_types k u v) ≡ length (sides k s t)
side_length inner s t u v h i = simp length-append (ap₂ ◌+◌ h i)
side_length left s t u v h i = simp length-append (ap₂ ◌+◌ h i)
side_length right s t u v h i = simp length-append (ap₂ ◌+◌ h i)
side_length full s t u v h i = simp length-append (ap₂ ◌+◌ h i)
side_length left_semi s t u v h i = h
side_length right_semi s t u v h i = i
side_length left_anti s t u v h i = h
side_length right_anti s t u v h i = i

mutual
  unfolding types schema

  pub types_length : (p : Plan) → length (types p) ≡ length (schema p)
  types_length (scan t fs es) = simp length-map
  types_length (filter e p) = types_length p
  types_length (project es p) = simp length-map
  types_length (join k l r on f) = side_length k _ _ _ _ (types_length l) (types_length r)
  types_length (alias q p) = simp length-map (types_length p)
  types_length (union ps) = types_first_length ps
  types_length (distinct p) = types_length p
  types_length (sort f ks p) = types_length p
  types_length (repartition p) = types_length p
  types_length (limit n k p) = types_length p
  types_length (aggregate gs ags p) = simp (length-append, length-map)
  types_length (window ws p) = simp (length-append, length-map) (ap (◌+ length ws) (types_length p))

  pub types_first_length : (ps : Plans) → length (types_first ps) ≡ length (schema_first ps)
  types_first_length pnil = refl
  types_first_length (pcons p ps) = types_length p
