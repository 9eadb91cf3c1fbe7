use Prim.Native.Nat.{◌-◌}
use Rattle.frame.specs.Doc.{doc_of}
use Rattle.grammar.specs.Tree.{tree_of}
use Rattle.of_kind.proofs.Writing.{Looped}
use Rattle.endpoints.specs.Inner.{pairs_over}
use Rattle.endpoints.proofs.write_pairs.Given as goal

abbrev pub invariant-loop-j : goal.invariant-loop-j
invariant-loop-j l = Looped (tree_of (doc_of l.s)) 112 (pairs_over (doc_of l.s) l.from l.to) l.from l.to 0 l.initial.out l.j l.n l.out
