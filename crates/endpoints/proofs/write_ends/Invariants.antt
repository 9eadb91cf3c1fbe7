use Prim.Native.Nat.{◌-◌}
use Rattle.frame.specs.Doc.{doc_of}
use Rattle.grammar.specs.Tree.{tree_of}
use Rattle.of_kind.proofs.Writing.{Looped}
use Rattle.endpoints.specs.Inner.{pair_of}
use Rattle.endpoints.proofs.write_ends.Given as goal

abbrev pub invariant-loop-j : goal.invariant-loop-j
invariant-loop-j l = Looped (tree_of (doc_of l.s)) 113 (pair_of (doc_of l.s) l.start) l.from l.to l.at l.initial.out l.j l.n l.out
