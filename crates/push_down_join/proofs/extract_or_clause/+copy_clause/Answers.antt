use mathlib.Core.Path.{refl, sym, ap, ◌∙◌}
use Rattle.image.specs.Tree.{Tree}
use Rattle.image.proofs.Room.{cap_le, wrote_past, wrote_two}
use Rattle.plan.specs.Trees.{expr_tree}
use Rattle.push_down_join.proofs.Extracting.{only_last, only_first, both_of}
use Rattle.push_down_join.proofs.Extracting.{other_whole, wrote_clause}
use Rattle.push_down_join.proofs.extract_or_clause.+copy_clause.Goals as goal

pub returns-then-out-ge-MAX_RECORDS-clause-wrote : goal.returns-then-out-ge-MAX_RECORDS-clause-wrote
returns-then-out-ge-MAX_RECORDS-clause-wrote g t c =
    λ e k ns d h g held m gives. wrote_past _ _ _ (expr_tree k) c.args.out.now.long c.if-out-ge-MAX_RECORDS.true

pub returns-in_default-clause-wrote : goal.returns-in_default-clause-wrote
returns-in_default-clause-wrote g t c =
    λ e k ns d h g held m gives. rw (← other_whole d e (sym (c.in_default.ensures e h)) refl gives, ← h) c.copy_tree.ensures.wrote

pub returns-then-not-is_kept-clause-wrote : goal.returns-then-not-is_kept-clause-wrote
returns-then-not-is_kept-clause-wrote g t c =
    λ e k ns d h g held m gives.
    let x =
    only_last c.in-Some.ensures ns d e k h held gives
    (λ a is on. sym c.if-not-is_kept.true ∙ c.is_kept.ensures a ns d is g on m) in
    c.copy_clause.ensures.wrote x.expr k ns d x.is g x.held m x.yields

pub returns-then-not-is_kept-2-clause-wrote : goal.returns-then-not-is_kept-2-clause-wrote
returns-then-not-is_kept-2-clause-wrote g t c =
    λ e k ns d h g held m gives.
    let x =
    only_first c.in-Some.ensures ns d e k h held gives
    (λ a is on. sym c.if-not-is_kept-2.true ∙ c.is_kept-2.ensures a ns d is g on m) in
    c.copy_clause-then-not-is_kept-2.ensures.wrote x.expr k ns d x.is g x.held m x.yields

pub returns-clause-wrote : goal.returns-clause-wrote
returns-clause-wrote g t c =
    λ e k ns d h g held m gives.
    let x =
    both_of c.in-Some.ensures ns d e k h held gives
    (λ a is on. sym c.if-not-is_kept.false ∙ c.is_kept.ensures a ns d is g on m)
    (λ a is on. sym c.if-not-is_kept-2.false ∙ c.is_kept-2.ensures a ns d is g on m) in
    let a = c.copy_clause-2.ensures.wrote x.first.expr x.lhs ns d x.first.is g x.first.held m x.first.yields in
    let b = c.copy_clause-3.ensures.wrote x.last.expr x.rhs ns d x.last.is g x.last.held m x.last.yields in
    wrote_clause x.op x.lhs x.rhs k (wrote_two c.args.out.now.long c.put.ensures.put a b)
    (c.label.ensures.label ∙ (ap (λ (u : Tree). u.label) h ∙ x.label)) x.is

pub returns-in_default-clause-counted : goal.returns-in_default-clause-counted
returns-in_default-clause-counted g t c = rw c.copy_tree.ensures.wrote.next (cap_le _)
