-- `schema_columns::add_part` meets its contract.
use mathlib.Core.Path.{sym, ◌∙◌}
use mathlib.Core.List.{append-nil}
use Rattle.utils.proofs.Making.{part_made, part_none}
use Rattle.utils.proofs.Named.{names_more}
use Rattle.utils.proofs.schema_columns.add_part.Goals as goal

pub returns-then-makes_field : goal.returns-then-makes_field
returns-then-makes_field g c =
    λ ns h. rw (
      ← c.label-l.ensures.label,
      part_made c.args.alias c.label-l.result (sym c.makes_field.ensures ∙ c.if-makes_field.true),
      ← c.unwrap_or.ensures,
    ) (names_more _ _ ns h c.push.ensures)

pub returns-else-makes_field : goal.returns-else-makes_field
returns-else-makes_field g c =
    λ ns h. rw (
      ← c.label-l.ensures.label,
      part_none c.args.alias c.label-l.result (sym c.makes_field.ensures ∙ c.if-makes_field.false),
      append-nil,
    ) h
