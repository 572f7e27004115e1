use mathlib.Core.Path.{refl}
use Rattle.rewrite.specs.PushDownFilter.{pair_of}
use Rattle.push_down_join.proofs.Partnering.{pair_is}
use Rattle.push_down_join.proofs.infer_join_predicates.pair_of.Goals as goal

pub returns-in_err-a : goal.returns-in_err-a
unfolding pair_of
returns-in_err-a c = rw (c.from_residual.ensures, c.in_err-a.was) refl

pub returns-in_err-b : goal.returns-in_err-b
unfolding pair_of
returns-in_err-b c = rw (c.from_residual-in_err-b.ensures, c.in_ok-a.was, c.in_err-b.was) refl

pub returns-then-eq : goal.returns-then-eq
returns-then-eq c =
    rw (c.in_ok-a.was, c.in_ok-b.was, pair_is c.args.x c.in_ok-a.a c.in_ok-b.b, ← c.if-eq.ensures) refl

pub returns-then-eq-2 : goal.returns-then-eq-2
returns-then-eq-2 c =
    rw (c.in_ok-a.was, c.in_ok-b.was, pair_is c.args.x c.in_ok-a.a c.in_ok-b.b, ← c.if-eq.ensures, ← c.if-eq-2.ensures) refl

pub returns : goal.returns
returns c =
    rw (c.in_ok-a.was, c.in_ok-b.was, pair_is c.args.x c.in_ok-a.a c.in_ok-b.b, ← c.if-eq.ensures, ← c.if-eq-2.ensures) refl
