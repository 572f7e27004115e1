-- `operands::Seen::with` meets its contract.
use Rattle.evaluate.proofs.Seeing.{seen_first, seen_second, seen_third, seen_more}
use Rattle.evaluate.proofs.operands.Seen.with.Goals as goal

pub returns-then-self-eq0-clause-is : goal.returns-then-self-eq0-clause-is
returns-then-self-eq0-clause-is c = λ vs h. seen_first c.args.v vs h c.if-self-eq0.true

pub returns-then-self-eq1-clause-is : goal.returns-then-self-eq1-clause-is
returns-then-self-eq1-clause-is c = λ vs h. seen_second c.args.v c.equals.ensures c.is_null.ensures vs h c.if-self-eq1.true

pub returns-then-self-eq2-clause-is : goal.returns-then-self-eq2-clause-is
returns-then-self-eq2-clause-is c = λ vs h. seen_third c.args.v c.equals.ensures c.is_null.ensures vs h c.if-self-eq2.true

pub returns-clause-is : goal.returns-clause-is
returns-clause-is c =
    λ vs h. seen_more c.args.v c.equals.ensures c.is_null.ensures vs h c.if-self-eq0.false c.if-self-eq1.false c.if-self-eq2.false
