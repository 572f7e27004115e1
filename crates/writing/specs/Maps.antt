-- A tree of entries as a map from names to expressions.
use Rattle.std.specs.Prelude.{◌≡◌, ℕ, ◌+◌, ◌-◌, ◌<◌}
use Rattle.image.specs.Limits.{Shallow}
use Rattle.image.specs.Subtrees.{tree_of}
use Rattle.image.specs.Tree.{Deep}
use Rattle.image.specs.declared.trees.Stretch.{Stretch}
use Rattle.plan.specs.Syntax.{Name, Expr, col}
use Rattle.plan.specs.Syntax.{Plan, scan, filter, project, join, alias, union, distinct, sort, repartition, limit, aggregate, window}
use Rattle.plan.specs.Trees.{expr_tree}
use Rattle.rewrite.specs.Utils.{replace_cols}
use Rattle.rewrite.specs.PushDownFilter.{pick}
use Rattle.writing.specs.Replaced.{replaced}

-- the map's entries replace columns as σ does
pub record MapsTo {M : ℕ} (map : Stretch M) (σ : Name → Expr) : Type 0 where
  pub is : (e : Expr) → replaced (tree_of map) (expr_tree e) ≡ expr_tree (replace_cols σ e)

-- a writer of height k may begin at depth `level` and go down further by the map, which is no deeper than `room`
pub record Over {M : ℕ} (k level : ℕ) (map : Stretch M) : Type 0 where
  pub room : ℕ
  pub some : 0 < room
  pub deep : Deep (tree_of map).below (room - 1)
  pub shallow : Shallow k (level + room)

-- what the entries of a plan replace columns by: those of a Projection, the group entries of an Aggregate, and no others
abbrev pub map_of : Plan → Name → Expr
map_of (project es p) = pick es
map_of (aggregate gs ags p) = pick gs
map_of (scan t fs es) = col
map_of (filter e p) = col
map_of (join k l r on f) = col
map_of (alias q p) = col
map_of (union ps) = col
map_of (distinct p) = col
map_of (sort f ks p) = col
map_of (repartition p) = col
map_of (limit n k p) = col
map_of (window ws p) = col
