-- `stays::is_simple` meets its contract.
use mathlib.Core.Path.{sym, ◌∙◌}
use Rattle.rewrite.specs.Utils.{split_conjunction}
use Rattle.push_down_merge.proofs.Merges.{shaped_known}
use Rattle.push_down_merge.proofs.OneMerge.{leaves_none, leaves_some}
use Rattle.push_down_stays.proofs.Stayings.{simple_gone, simple_written, simple_joined, simple_other}
use Rattle.push_down_stays.proofs.stays.is_simple.Goals as goal

pub returns-then-is_gone : goal.returns-then-is_gone
returns-then-is_gone c =
    λ e h. simple_gone (leaves_none (c.simplify_filter-simple.ensures.remains e h) (sym c.is_gone.ensures ∙ c.if-is_gone.true))

pub returns-then-is_some : goal.returns-then-is_some
returns-then-is_some c =
    λ e h. let g = leaves_some (c.simplify_filter-simple.ensures.remains e h) (sym
    c.is_gone.ensures ∙ c.if-is_gone.false) in
    let t = sym c.is_some.ensures ∙ c.if-is_some.true in
    simple_written h g.is g.shaped t (c.simplify_filter-simple.ensures.value t)

pub same_items-requires-clause-known : goal.same_items-requires-clause-known
same_items-requires-clause-known c =
    let f = c.requires.0 in
    let g = leaves_some (c.simplify_filter-simple.ensures.remains f.expr f.shaped) (sym
    c.is_gone.ensures ∙ c.if-is_gone.false) in
    shaped_known g.shaped

pub returns-then-same_items : goal.returns-then-same_items
returns-then-same_items c =
    λ e h. let g = leaves_some (c.simplify_filter-simple.ensures.remains e h)
    (sym c.is_gone.ensures ∙ c.if-is_gone.false) in
    let s = c.same_items.ensures (split_conjunction g.expr) (split_conjunction e) g.shaped.listed h.listed in
    simple_joined h g.is g.shaped (sym c.is_some.ensures ∙ c.if-is_some.false) (s.yes c.if-same_items.true)
    (c.joined_left_deep.ensures e h)

pub returns : goal.returns
returns c =
    λ e h. let g = leaves_some (c.simplify_filter-simple.ensures.remains e h) (sym
    c.is_gone.ensures ∙ c.if-is_gone.false) in
    let s = c.same_items.ensures (split_conjunction g.expr) (split_conjunction e) g.shaped.listed h.listed in
    simple_other h g.is g.shaped (s.no c.if-same_items.false)
