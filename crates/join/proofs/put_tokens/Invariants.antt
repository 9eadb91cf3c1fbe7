use Rattle.join.proofs.Putting.{Putting}
use Rattle.frame.specs.Doc.{doc_of}
use Rattle.join.proofs.put_tokens.Given as goal

abbrev pub invariant-loop-i : goal.invariant-loop-i
invariant-loop-i l = Putting l.h l.before (doc_of l.s) l.at l.i l.initial.out l.out
