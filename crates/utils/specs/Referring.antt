-- The columns of a tree of records.
use Rattle.std.specs.Prelude.{Bool, true, cond, eqb}
use Rattle.image.specs.Tree.{Forest, none, node, Tree}
use Rattle.plan.specs.Lists.{◌&◌}
use Rattle.plan.specs.Syntax.{Name, nm}
use Rattle.plan.specs.Kinds.{Column, number_e}

-- every column of a forest passes the test
unfoldable pub on_any : (Name → Bool) → Forest → Bool
on_any c none = true
on_any c (node l cs ns) = cond (eqb l.kind (number_e Column)) (c (nm l.p l.q)) (on_any c cs) & on_any c ns

-- every column of a tree passes it
unfoldable pub on_tree : (Name → Bool) → Tree → Bool
on_tree c t = cond (eqb t.label.kind (number_e Column)) (c (nm t.label.p t.label.q)) (on_any c t.below)
