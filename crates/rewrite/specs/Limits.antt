-- The limits that test 11 holds a result to: records, depth, lists.
use Rattle.std.specs.Prelude.{ℕ, max as larger, Bool, length, leb}
use Rattle.image.specs.Limits.{max_records, max_depth, max_list}
use Rattle.plan.specs.Lists.{◌&◌}
use Rattle.plan.specs.Measure.{size_p, depth_p}
use Rattle.plan.specs.Syntax.{Plan, scan, filter, project, join, alias, union, distinct, sort, repartition, limit, aggregate, window, Plans}
use Rattle.plan.specs.Syntax.{pnil, pcons}
use Rattle.rewrite.specs.Utils.{split_conjunction, split_conjunction?}

-- the longest list: the conjuncts of a Filter, those of a join's filter, the filters of a scan
unfoldable mutual
  pub list_p : Plan → ℕ
  list_p (scan t fs es) = length es
  list_p (filter e p) = larger (length (split_conjunction e)) (list_p p)
  list_p (project es p) = list_p p
  list_p (join k l r on f) = larger (length (split_conjunction? f)) (larger (list_p l) (list_p r))
  list_p (alias q p) = list_p p
  list_p (union ps) = list_ps ps
  list_p (distinct p) = list_p p
  list_p (sort f ks p) = list_p p
  list_p (repartition p) = list_p p
  list_p (limit n k p) = list_p p
  list_p (aggregate gs ags p) = list_p p
  list_p (window ws p) = list_p p

  pub list_ps : Plans → ℕ
  list_ps pnil = 0
  list_ps (pcons p ps) = larger (list_p p) (list_ps ps)

-- test 11 is met by what is over 2,048 records, depth 256 or 128 in a list
unfoldable pub within_limits : Plan → Bool
within_limits p =
    leb (size_p p) max_records
    & leb (depth_p p) max_depth
    & leb (list_p p) max_list
