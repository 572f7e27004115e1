use mathlib.Core.Path.{ap, ◌∙◌}
use Prim.Native.Nat.{◌-◌}
use Rattle.image.specs.Tree.{Label}
use Rattle.plan.specs.Read.{joins, nth}
use Rattle.plan.specs.Syntax.{inner}
use Rattle.push_down_join.proofs.JoinWritten.{kind_numbered, kind_of}
use Rattle.push_down_join.proofs.push_down_all_join.join_kind.Goals as goal

pub returns : goal.returns
returns c =
    λ k l r on f h. c.of.ensures ∙ ap (λ n. nth inner joins (n - 1)) (ap (λ (a : Label). a.p) c.label.ensures.label ∙ kind_of c.args.plan h.standing)
    ∙ kind_numbered k
