use Rattle.frame.specs.Doc.{doc_of}
use Rattle.grammar.specs.Tree.{tree_of}
use Rattle.provider.specs.Inner.{map_keys}
use Rattle.judge.proofs.Tupled.{Going}
use Rattle.judge.proofs.keys.names_backing.Given as goal

abbrev pub invariant-loop-k : goal.invariant-loop-k
invariant-loop-k l = Going l.d l.s l.i l.kind l.many (map_keys (tree_of (doc_of l.s)) l.map) l.initial.done l.k l.done l.total
