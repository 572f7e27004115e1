-- Plans with no volatile function.
use Rattle.std.specs.Prelude.{◌≡◌, Bool, true, not}
use Rattle.image.specs.Tree.{Label, Forest, none, node}
use Rattle.image.specs.Lowest.{alone}
use Rattle.plan.specs.Lists.{◌&◌}
use Rattle.plan.specs.Kinds.{expr, Function, is_kind}
use Rattle.plan.specs.Syntax.{Plan, is_volatile}
use Rattle.plan.specs.Trees.{plan_tree}

-- the record is a volatile function: q has its marks
unfoldable pub volatile : Label → Bool
volatile l = is_kind (expr Function) l & is_volatile l.q

-- no record of the forest is a volatile function
unfoldable pub none_volatile : Forest → Bool
none_volatile none = true
none_volatile (node l cs ns) = not (volatile l) & (none_volatile cs & none_volatile ns)

abbrev pub NoVolatile : Plan → Type 0
NoVolatile p = none_volatile (alone (plan_tree p)) ≡ true
