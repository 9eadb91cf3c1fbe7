use Rattle.frame.specs.Doc.{doc_of}
use Rattle.thinned.proofs.Pieces.{Tokens}
use Rattle.thinned.proofs.put_tokens.Given as goal

abbrev pub invariant-loop-i : goal.invariant-loop-i
invariant-loop-i l = Tokens l.h (doc_of l.s) l.i l.initial.out l.out
