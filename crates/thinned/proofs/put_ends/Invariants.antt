use Rattle.frame.specs.Doc.{doc_of}
use Rattle.thinned.proofs.Putting.{Ends}
use Rattle.thinned.proofs.put_ends.Given as goal

abbrev pub invariant-loop-k : goal.invariant-loop-k
invariant-loop-k l = Ends (doc_of l.s).names l.h l.k l.end l.initial.out l.out
