-- `has_all_column_refs::column` meets its contract: a name that the schema has is at its place.
use mathlib.Core.Path.{◌≡◌, ap, ◌∙◌}
use native.Mathlib.Omega.{arith}
use lib.ListN.{length, length-map}
use Rattle.std.specs.Option.{unwrap_or}
use Rattle.plan.specs.Syntax.{nm}
use Rattle.utils.specs.Fields.{coded, place_in}
use Rattle.utils.proofs.Named.{place_found, place_has}
use Rattle.utils.proofs.has_all_column_refs.column.Goals as goal

pub returns-in-Some : goal.returns-in-Some
returns-in-Some c =
    λ ns e held j. let p : c.in-Some.place ≡ place_in ns (nm c.args.q c.args.n) =
    ap (λ o. unwrap_or o (length c.args.fields.now)) c.in-Some.ensures ∙ place_found ns c.args.q c.args.n e in
    rw (← p) (c.with.ensures j)

pub returns-in-None : goal.returns-in-None
returns-in-None c =
    λ ns e held j. let p : length c.args.fields.now ≡ place_in ns (nm c.args.q c.args.n) =
    ap (λ o. unwrap_or o (length c.args.fields.now)) c.in-None.ensures ∙ place_found ns c.args.q c.args.n e in
    absurd (omega (arith, (place_has ns (nm c.args.q c.args.n) held).0, ap length e, length-map ns coded))
