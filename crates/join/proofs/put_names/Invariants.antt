use Rattle.join.proofs.Putting.{NamingOf}
use Rattle.frame.specs.Doc.{doc_of}
use Rattle.join.proofs.put_names.Given as goal

abbrev pub invariant-loop-k : goal.invariant-loop-k
invariant-loop-k l = NamingOf l.h l.before.names l.before.text (doc_of l.s).names l.end l.k l.initial.out l.out
