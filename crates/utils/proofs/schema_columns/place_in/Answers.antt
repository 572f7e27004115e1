-- `schema_columns::place_in` meets its contract.
use mathlib.Core.Path.{sym, ◌∙◌}
use mathlib.Core.List.{map}
use lib.ListN.{length-map}
use Rattle.utils.specs.Fields.{coded}
use Rattle.utils.proofs.Named.{found_or_len, is_name, names_count, names_listed, place_is}
use Rattle.utils.proofs.schema_columns.place_in.Goals as goal

pub returns : goal.returns
returns c =
    λ ns h. let e = c.items.ensures ∙ names_listed h c.requires in
    let len = sym (names_count h c.requires) ∙ sym (length-map ns coded) in
    c.unwrap_or.ensures
    ∙ (rw (c.place_of.ensures, e, len) (found_or_len (is_name c.args.q c.args.n) (map coded ns)) ∙ place_is ns c.args.q c.args.n)
