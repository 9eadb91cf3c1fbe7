use Prim.Native.Nat.{◌*◌}
use Rattle.frame.specs.Doc.{doc_of}
use Rattle.thinned.proofs.Putting.{Texts}
use Rattle.thinned.proofs.put_text.Given as goal

abbrev pub invariant-loop-k : goal.invariant-loop-k
invariant-loop-k l = Texts (doc_of l.s).names l.h (2 * l.f.names) l.k l.at l.initial.out l.out
