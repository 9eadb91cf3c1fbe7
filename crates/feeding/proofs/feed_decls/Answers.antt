use Rattle.frame.specs.Doc.{doc_of}
use Rattle.grammar.specs.Tree.{tree_of}
use Rattle.feeding.proofs.Feeds.{fed-start, fed-turn, fed-end, next-fed}
use Rattle.feeding.proofs.feed_decls.Goals as goal

pub loop-decl-init : goal.loop-decl-init
loop-decl-init c =
    fed-start (tree_of (doc_of c.args.s.now)) c.args.kind c.args.decls.now c.args.hash

pub feed_decl-h-requires-clause-declared : goal.feed_decl-h-requires-clause-declared
feed_decl-h-requires-clause-declared c =
    c.requires.declared

pub feed_decl-h-requires-clause-stored : goal.feed_decl-h-requires-clause-stored
feed_decl-h-requires-clause-stored c =
    c.requires.stored

pub feed_decl-h-requires-clause-i_lt_tokens : goal.feed_decl-h-requires-clause-i_lt_tokens
feed_decl-h-requires-clause-i_lt_tokens c =
    (next-fed _ _ _ c.requires.declared c.requires.stored _ c.requires.decls_value _ c.loop-decl-test.true).0

pub feed_decl-h-requires-clause-i_value : goal.feed_decl-h-requires-clause-i_value
feed_decl-h-requires-clause-i_value c =
    (next-fed _ _ _ c.requires.declared c.requires.stored _ c.requires.decls_value _ c.loop-decl-test.true).1

pub loop-decl-preserved : goal.loop-decl-preserved
loop-decl-preserved c =
    fed-turn (tree_of (doc_of c.args.s.now)) c.args.kind c.args.decls.now c.args.hash _ _ c.loop-decl.invariant
    c.loop-decl-test.true c.feed_decl-h.ensures

pub returns : goal.returns
returns c =
    fed-end (tree_of (doc_of c.args.s.now)) c.args.kind c.args.decls.now c.args.hash _ _ c.loop-decl.invariant
    c.loop-decl-test.false
