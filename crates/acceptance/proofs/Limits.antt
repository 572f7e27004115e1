-- The edges of the limits, as trees: an image of 257 records by its bytes takes too many steps.
use mathlib.Core.Path.{◌≡◌, refl, ◌∙◌}
use mathlib.Core.Bool.{true}
use lib.Dec.{lit≤}
use Prim.Native.Nat.{ℕ, zero, suc, ◌-◌}
use Rattle.image.specs.Limits.{max_depth, max_list, too_many}
use Rattle.image.specs.Tree.{Label, Forest, none, node}
use Rattle.plan.specs.Lists.{◌&◌}
use Rattle.plan.specs.Kinds as K
use Rattle.plan.specs.Kinds.{expr, plan, among, what_of}
use Rattle.plan.specs.Words.{words_ok, in_range, row_fits, Worded}
use Rattle.acceptance.proofs.Opened.{checked}
use Rattle.acceptance.specs.Check.{check_tree, verdict, check}
use Rattle.image.specs.Flat.{enc}
use Rattle.plan.specs.Trees.{label, join_number, op_number, bit_of}
use Rattle.plan.specs.Syntax.{and, inner}
use Rattle.acceptance.proofs.Converse.{check_image}

abbrev bare : Label
bare = label (plan K.TableScan) 1 0 0 0 0

-- n Repartitions over a scan
abbrev tower : ℕ → Forest
tower zero = node bare none none
tower (suc n) = node (label (plan K.Repartition) 0 0 0 0 0) (tower n) none

abbrev truth : Forest → Forest
truth ns = node (label (expr K.Boolean) (bit_of true) 0 0 0 0) none ns

-- TRUE and n more, joined left-deep
abbrev ands : ℕ → Forest → Forest
ands zero ns = truth ns
ands (suc n) ns = node (label (expr K.Binary) (op_number and) 0 0 0 0) (ands n (truth none)) ns

-- n filters
abbrev filters : ℕ → Forest
filters zero = none
filters (suc n) = truth (filters n)

depth_256 : check_tree (record { label = label (plan K.Repartition) 0 0 0 0 0; below = tower (max_depth - 2) }) ≡ verdict 0 0
unfolding checked
depth_256 = refl

depth_257 : check_tree (record { label = label (plan K.Repartition) 0 0 0 0 0; below = tower (max_depth - 1) }) ≡ verdict 4 max_depth
unfolding checked
depth_257 = refl

conjuncts_128 : check_tree (record { label = label (plan K.Filter) 0 0 0 0 0; below = ands (max_list - 1) (node bare none none) }) ≡ verdict 0 0
unfolding checked
conjuncts_128 = refl

join_conjuncts_128 : check_tree (record {
  label = label (plan K.Join) (join_number inner) 0 0 0 0;
  below =
      node bare none (node bare none (ands (max_list - 1) none));
}) ≡
    verdict 0 0
unfolding checked
join_conjuncts_128 = refl

conjuncts_129 : check_tree (record { label = label (plan K.Filter) 0 0 0 0 0; below = ands max_list (node bare none none) }) ≡ verdict 5 0
unfolding checked
conjuncts_129 = refl

join_conjuncts_129 : check_tree (record {
  label = label (plan K.Join) (join_number inner) 0 0 0 0;
  below =
      node bare none (node bare none (ands max_list none));
}) ≡
    verdict 5 0
unfolding checked
join_conjuncts_129 = refl

filters_128 : check_tree (record { label = bare; below = filters max_list }) ≡ verdict 0 0
unfolding checked
filters_128 = refl

filters_129 : check_tree (record { label = bare; below = filters too_many }) ≡ verdict 5 0
unfolding checked
filters_129 = refl

filters_129_below : check_tree (record { label = label (plan K.Filter) 0 0 0 0 0; below = truth (node bare (filters too_many) none) }) ≡ verdict 5 2
unfolding checked
filters_129_below = refl

-- an And of three operands is not split, however many conjuncts they have: its own record is refused, not the Filter's list
and_of_three : check_tree (record {
  label = label (plan K.Filter) 0 0 0 0 0;
  below = node (label (expr K.Binary) (op_number and) 0 0 0 0) (ands (max_list - 2) (truth (truth none)))
      (node bare none none);
}) ≡ verdict 5 1
unfolding checked
and_of_three = refl

-- a scan's list is its filters, which are not split: one filter of 129 conjuncts
scan_conjuncts_129 : check_tree (record { label = bare; below = ands max_list none }) ≡ verdict 0 0
unfolding checked
scan_conjuncts_129 = refl

tower_words : (n : ℕ) → Worded (tower n)
unfolding words_ok in_range row_fits among what_of ◌&◌
tower_words zero = (refl, tt, tt)
tower_words (suc n) = (refl, tower_words n, tt)

-- the image of 257 records, one below another
image_257 : check (enc 0 (record { label = label (plan K.Repartition) 0 0 0 0 0; below = tower (max_depth - 1) })) ≡ verdict 4 max_depth
image_257 = check_image _ (tower_words max_depth) (lit≤ tt) ∙ depth_257
