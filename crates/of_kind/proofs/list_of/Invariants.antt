use Rattle.frame.specs.Doc.{doc_of}
use Rattle.grammar.specs.Tree.{tree_of}
use Rattle.of_kind.specs.Written.{itself}
use Rattle.of_kind.proofs.Writing.{Looped}
use Rattle.of_kind.proofs.list_of.Given as goal

abbrev pub invariant-loop-token : goal.invariant-loop-token
invariant-loop-token l = Looped (tree_of (doc_of l.s)) l.kind itself 0 l.f.tokens 0 l.initial.list l.token l.n l.list
