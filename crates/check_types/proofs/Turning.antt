-- A turn of the walk that looks for the lowest record whose types are wrong: what is handed down, and the root.
-- Assumes nothing.
use mathlib.Core.Path.{◌≡◌, sym, ap, ◌∙◌}
use mathlib.Core.Bool.{Bool}
use Rattle.image.specs.Tree.{Label, Forest}
use Rattle.plan.specs.Kinds.{what}
use Rattle.check_fields.specs.Rules.{Scope, hand, types_of, type_ok, type_ok_by}

-- ---- the rule of types

-- the rule, where what is handed down is known
pub rule_of : (root : Forest) (c : Scope) (l : Label) (cs : Forest) (x y : Scope) → hand c l cs ≡ (x, y) → {t : Bool}
    → t ≡ type_ok_by (what l) root l cs (types_of x y cs) → t ≡ type_ok root c l cs
unfolding type_ok
rule_of root c l cs x y h e = e ∙ ap (λ (p : Scope × Scope). type_ok_by (what l) root l cs (types_of p.0 p.1 cs)) (sym h)
