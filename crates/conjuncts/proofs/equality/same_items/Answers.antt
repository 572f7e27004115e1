use borrow.Author.Rules.{rules}
use mathlib.Core.Path.{sym, ap, ◌∙◌}
use native.Mathlib.Omega.{arith}
use lib.ListN.{length, get_or, length-append}
use Rattle.std.proofs.lemmas.Slice.Zip.{zip_end, zip_turn}
use Rattle.rewrite.proofs.Exprs.{same_e_eq}
use Rattle.conjuncts.specs.Items.{FALSE, listed}
use Rattle.conjuncts.proofs.Equals.{eq_same}
use Rattle.plan.proofs.Bools.{no_yes}
use Rattle.conjuncts.proofs.Listed.{lists_at, lists_length, lists_room, same_next, at_end}
use Rattle.conjuncts.proofs.equality.same_items.Goals as goal

pub returns-then-a-b : goal.returns-then-a-b
returns-then-a-b c =
    λ xs ys h k. record {
      yes = λ y. no_yes y;
      no = λ n e. c.if-a-b.true (sym (lists_length h c.requires.known.most) ∙ ap length e ∙ lists_length k c.requires.known_2.most);
    }

pub same_item-requires : goal.same_item-requires
same_item-requires c =
    let a = c.requires.known in
    let b = c.requires.known_2 in
    let t = zip_turn (listed c.args.a) (listed c.args.b) c.loop-x.yielded _ _ c.next.new.self _
    (search rules) (search rules) c.loop-x.yielded_by
    (c.in-Some.x, c.in-Some.y) c.in-Some.is c.next.ensures.steps in
    record {
      present = record {
        expr = _;
        item = lists_at a.lists a.most _ _ (omega (arith, t.0, lists_room a.lists a.most)) (c.from.ensures ∙ t.2 0);
      };
      present_2 = record {
        expr = _;
        item = lists_at b.lists b.most _ _ (omega (arith, t.1, lists_room b.lists b.most)) (c.from-in-loop-x.ensures ∙ t.3 0);
      };
    }

pub returns-then-not-same_item : goal.returns-then-not-same_item
returns-then-not-same_item c =
    λ xs ys h k. let p = c.requires.known.most in
    let q = c.requires.known_2.most in
    let i = length c.loop-x.yielded in
    let t = zip_turn (listed c.args.a) (listed c.args.b) c.loop-x.yielded _ _ c.next.new.self _
    (search rules) (search rules) c.loop-x.yielded_by
    (c.in-Some.x, c.in-Some.y) c.in-Some.is c.next.ensures.steps in
    let s = c.same_item.ensures _ _ (lists_at h p i _ (omega (arith, t.0, lists_room h p)) (c.from.ensures ∙ t.2 0))
    (lists_at k q i _ (omega (arith, t.1, lists_room k q)) (c.from-in-loop-x.ensures ∙ t.3 0)) in
    record { yes = λ y. no_yes y; no = λ n e. no_yes (sym c.if-not-same_item.true ∙ (s ∙ eq_same (ap (λ l. get_or l i FALSE) e))) }

pub loop-x-preserved : goal.loop-x-preserved
loop-x-preserved c =
    λ xs ys h k e. let p = c.requires.known.most in
    let q = c.requires.known_2.most in
    let i = length c.loop-x.yielded in
    let t = zip_turn (listed c.args.a) (listed c.args.b) c.loop-x.yielded _ _ c.next.new.self _
    (search rules) (search rules) c.loop-x.yielded_by
    (c.in-Some.x, c.in-Some.y) c.in-Some.is c.next.ensures.steps in
    let s = c.same_item.ensures _ _ (lists_at h p i _ (omega (arith, t.0, lists_room h p)) (c.from.ensures ∙ t.2 0))
    (lists_at k q i _ (omega (arith, t.1, lists_room k q)) (c.from-in-loop-x.ensures ∙ t.3 0)) in
    c.loop-x.invariant xs ys h k
    (same_next xs ys i (omega (arith, t.0, lists_room h p, lists_length h p)) (omega (arith, t.1, lists_room k q, lists_length k q))
    (same_e_eq _ _ (sym s ∙ c.if-not-same_item.false)) (rw length-append at e))

pub returns : goal.returns
returns c =
    λ xs ys h k. let p = c.requires.known.most in
    let q = c.requires.known_2.most in
    let i = length c.loop-x.yielded in
    let e = zip_end (listed c.args.a) (listed c.args.b) c.loop-x.yielded _ _ c.next.new.self _
    (search rules) (search rules) c.loop-x.yielded_by
    c.in-None.is c.next.ensures.steps in
    record {
      yes = λ y. c.loop-x.invariant xs ys h k
          (at_end xs i (omega (arith, e, lists_room h p, lists_room k q, lists_length h p, c.if-a-b.false))
          ∙ sym (at_end ys i (omega (arith, e, lists_room h p, lists_room k q, lists_length k q, c.if-a-b.false))));
      no = λ n. no_yes (sym n);
    }
