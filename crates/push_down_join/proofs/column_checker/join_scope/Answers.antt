use mathlib.Core.Path.{sym, ap, ◌∙◌}
use mathlib.Core.List.{[], ◌++◌}
use native.Mathlib.Omega.{arith}
use lib.ListN.{length-append, length-map}
use Rattle.image.specs.Subtrees.{tree_of}
use Rattle.image.specs.Tree.{Tree}
use Rattle.plan.specs.Schema.{schema}
use Rattle.utils.proofs.Named.{names_fit, names_count}
use Rattle.push_down_join.specs.Partners.{partner_in, or_self}
use Rattle.push_down_join.proofs.JoinScope.{inputs_are, join_short, join_single, keys_read, swap_has}
use Rattle.push_down_join.proofs.ScopeSets.{partner_records}
use Rattle.push_down_join.proofs.column_checker.join_scope.Goals as goal

pub schema_columns-left-requires : goal.schema_columns-left-requires
schema_columns-left-requires g c =
    let p = c.requires in
    let h = p.is in
    let i = inputs_are (c.inputs.ensures p.kind p.lhs p.rhs p.keys p.condition h) p.kind p.lhs p.rhs p.keys p.condition h in
    (omega arith, record { plan = p.lhs; is = i.0 })

pub schema_columns-fields-requires : goal.schema_columns-fields-requires
schema_columns-fields-requires g c =
    let p = c.requires in
    let h = p.is in
    let i = inputs_are (c.inputs.ensures p.kind p.lhs p.rhs p.keys p.condition h) p.kind p.lhs p.rhs p.keys p.condition h in
    (omega arith, record { plan = p.rhs; is = i.1 })

pub swap_keys-swapped-requires : goal.swap_keys-swapped-requires
swap_keys-swapped-requires g c =
    let p = c.requires in
    let h = p.is in
    let i = inputs_are (c.inputs.ensures p.kind p.lhs p.rhs p.keys p.condition h) p.kind p.lhs p.rhs p.keys p.condition h in
    let first = c.schema_columns-left.ensures p.lhs [] i.0 c.no_fields.ensures in
    (omega arith, names_fit (c.schema_columns-fields.ensures p.rhs (schema p.lhs) i.1 first) (join_short p.kind p.lhs p.rhs p.keys p.condition p.rules))

pub scope_of-requires : goal.scope_of-requires
scope_of-requires g c =
    let p = c.requires in
    let h = p.is in
    let i = inputs_are (c.inputs.ensures p.kind p.lhs p.rhs p.keys p.condition h) p.kind p.lhs p.rhs p.keys p.condition h in
    let short = join_short p.kind p.lhs p.rhs p.keys p.condition p.rules in
    let first = c.schema_columns-left.ensures p.lhs [] i.0 c.no_fields.ensures in
    let both = c.schema_columns-fields.ensures p.rhs (schema p.lhs) i.1 first in
    let w = c.swap_keys-swapped.ensures _ both in
    let n = length-append (schema p.lhs) (schema p.rhs) in
    let m = length-map (schema p.lhs ++ schema p.rhs) (λ x. or_self x (partner_in x (tree_of c.args.plan).below)) in
    (names_fit both short, names_fit first (omega (arith, short, n)), names_fit w.to (omega (arith, short, m)))

pub returns : goal.returns
returns g c =
    λ k l r on f h o.
    let i = inputs_are (c.inputs.ensures k l r on f h) k l r on f h in
    let short = join_short k l r on f o in
    let first = c.schema_columns-left.ensures l [] i.0 c.no_fields.ensures in
    let both = c.schema_columns-fields.ensures r (schema l) i.1 first in
    let w = c.swap_keys-swapped.ensures _ both in
    let n = length-append (schema l) (schema r) in
    c.scope_of.ensures (schema l) (schema r) on (tree_of c.args.plan).below both (sym (names_count first (names_fit first (omega (arith, short, n)))))
    (join_single k l r on f o) w (λ x. ap (λ (u : Tree). partner_in x u.below) h ∙ partner_records x k l r on f)
    (λ x held. swap_has (schema l) (schema r) x held on (keys_read k l r on f o))
