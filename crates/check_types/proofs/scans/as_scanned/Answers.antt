use mathlib.Core.Path.{refl, sym, ap, ◌∙◌}
use mathlib.Core.List.{[]}
use native.Mathlib.Omega.{arith}
use Rattle.acceptance.specs.Types.{same_types}
use Rattle.image.specs.Subtrees.{forest, tree_of}
use Rattle.check_fields.specs.Fields.{made}
use Rattle.check_fields.specs.Rules.{types_in}
use Rattle.check_types.proofs.Scanning.{root_at, none_scans, lowest_scan, types_there, no_fields}
use Rattle.check_types.proofs.scans.as_scanned.Goals as goal

pub at-scan-requires : goal.at-scan-requires
at-scan-requires g c =
    let x = c.args.root in
    let y = lowest_scan c.args.table x.image.now (tree_of x) (root_at x c.requires.first) c.loop-number.number (omega (arith, c.requires.bytes))
    (rw (c.word_at.ensures.0, c.word_at-in-loop-number.ensures.0, c.record_at-record.ensures) at c.if-word_at-table.true) c.loop-number.invariant in
    record { tree = y.tree; at = y.at }

pub returns-then-word_at-table : goal.returns-then-word_at-table
returns-then-word_at-table g c =
    let x = c.args.root in
    let y = lowest_scan c.args.table x.image.now (tree_of x) (root_at x c.requires.first) c.loop-number.number (omega (arith, c.requires.bytes))
    (rw (c.word_at.ensures.0, c.word_at-in-loop-number.ensures.0, c.record_at-record.ensures) at c.if-word_at-table.true) c.loop-number.invariant in
    let e = types_there c.children.ensures c.at-scan.ensures.same_image c.at-scan.ensures.same_number y in
    rw (c.scanned-fields.ensures, c.scanned.ensures, ← e) at c.same_fields.ensures

pub returns : goal.returns
returns g c =
    no_fields _ (rw c.scanned-fields.ensures at c.held_in.ensures)
    ∙ ap (same_types (types_in (made [] (forest c.args.parts))))
    (sym (none_scans c.args.table c.args.root.image.now (tree_of c.args.root) (root_at c.args.root c.requires.first)
    (λ i l. c.loop-number.invariant i (omega (arith, c.requires.bytes)))))
