-- `words::bad_words` meets its contract. The loop's invariant: the records before i have the words of their kinds.
use Rattle.check_form.proofs.Rows.{Passed}
use Rattle.check_form.proofs.words.bad_words.Given as goal

abbrev pub invariant-loop-i : goal.invariant-loop-i
invariant-loop-i l = Passed l.n l.s l.i
