use Rattle.frame.specs.Doc.{doc_of}
use Rattle.grammar.specs.Tree.{tree_of}
use Rattle.feeding.proofs.Feeds.{FedTo}
use Rattle.feeding.proofs.feed_decls.Given as goal

abbrev pub invariant-loop-decl : goal.invariant-loop-decl
invariant-loop-decl l = FedTo (tree_of (doc_of l.s)) l.kind l.decls l.hash l.decl-index l.h
