-- The lists of a plan, seen from a plan within it.
use Prim.Native.Nat.{ℕ, ◌≤◌, max as larger}
use native.Mathlib.Nat.{le_refl, le_trans, le-max_left, le-max_right}
use mathlib.Core.Path.{◌≡◌}
use mathlib.Core.Option.{some}
use lib.ListN.{length}
use Rattle.plan.specs.Syntax.{Plan}
use Rattle.rewrite.specs.Utils.{split_conjunction, split_conjunction?}
use Rattle.rewrite.specs.Limits.{list_p, list_ps}
use Rattle.rewrite.specs.RewriteAt.{Focus, focus}
use Rattle.push_down_base.specs.Paths.{Ways}
use Rattle.push_down_base.proofs.Finding.{path_to}

-- the lists of a plan are among those of the whole
ways : Ways (λ n p t C. list_p t ≤ list_p p) (λ n ps t C. list_p t ≤ list_ps ps)
unfolding list_p list_ps
ways = record {
  root = λ p. le_refl (list_p p);
  in_filter = λ n p t C e h. le_trans h (le-max_right (length (split_conjunction e)) (list_p p));
  in_project = λ n p t C es h. h;
  in_left = λ n l t C k r on f h.
      le_trans h (le_trans (le-max_left (list_p l) (list_p r)) (le-max_right (length (split_conjunction? f)) (larger (list_p l) (list_p r))));
  in_right = λ n r t C k l on f h.
      le_trans h (le_trans (le-max_right (list_p l) (list_p r)) (le-max_right (length (split_conjunction? f)) (larger (list_p l) (list_p r))));
  in_alias = λ n p t C i h. h;
  in_union = λ n ps t C h. h;
  in_distinct = λ n p t C h. h;
  in_sort = λ n p t C f ks h. h;
  in_repartition = λ n p t C h. h;
  in_limit = λ n p t C i j h. h;
  in_aggregate = λ n p t C gs ags h. h;
  in_window = λ n p t C ws h. h;
  in_first = λ n p t C ps h. le_trans h (le-max_left (list_p p) (list_ps ps));
  in_later = λ n ps t C p h. le_trans h (le-max_right (list_p p) (list_ps ps));
}

pub lists_there : (n : ℕ) (p : Plan) (c : Focus) → focus n p ≡ some c → list_p c.plan ≤ list_p p
lists_there n p c e = path_to ways n p c e
