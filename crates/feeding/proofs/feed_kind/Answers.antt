use native.Mathlib.Omega.{arith}
use mathlib.Core.Path.{sym}
use lib.Seq.{length-take-le}
use Rattle.frame.specs.Doc.{doc_of}
use Rattle.grammar.specs.Tree.{tree_of}
use Rattle.of_kind.proofs.Writing.{wrote_kept}
use Rattle.by_name.proofs.Taken.{ordered-many, lent-are}
use Rattle.feeding.proofs.Feeds.{kind-fed}
use Rattle.feeding.proofs.feed_kind.Goals as goal

pub list_in_order-many-requires-clause-declared : goal.list_in_order-many-requires-clause-declared
list_in_order-many-requires-clause-declared c =
    c.requires.declared

pub list_in_order-many-requires-clause-stored : goal.list_in_order-many-requires-clause-stored
list_in_order-many-requires-clause-stored c =
    c.requires.stored

pub list_in_order-many-requires-clause-max_tokens_in_bounds : goal.list_in_order-many-requires-clause-max_tokens_in_bounds
list_in_order-many-requires-clause-max_tokens_in_bounds c =
    c.requires.max_tokens_in_bounds

pub slice_bounds-feed_decls-end : goal.slice_bounds-feed_decls-end
slice_bounds-feed_decls-end c =
    omega (arith, ordered-many _ _ _ c.requires.declared c.requires.stored c.list_in_order-many.ensures, wrote_kept c.list_in_order-many.ensures, c.requires.max_tokens_in_bounds)

pub slice_bounds-feed_decls-end-2 : goal.slice_bounds-feed_decls-end-2
slice_bounds-feed_decls-end-2 c =
    sym (length-take-le _ _ (omega (arith, ordered-many _ _ _ c.requires.declared c.requires.stored c.list_in_order-many.ensures, wrote_kept c.list_in_order-many.ensures, c.requires.max_tokens_in_bounds)))

pub feed_decls-requires-clause-declared : goal.feed_decls-requires-clause-declared
feed_decls-requires-clause-declared c =
    c.requires.declared

pub feed_decls-requires-clause-stored : goal.feed_decls-requires-clause-stored
feed_decls-requires-clause-stored c =
    c.requires.stored

pub feed_decls-requires-clause-decls_value : goal.feed_decls-requires-clause-decls_value
feed_decls-requires-clause-decls_value c =
    lent-are _ _ _ c.requires.declared c.requires.stored c.list_in_order-many.ensures c.requires.max_tokens_in_bounds
    c.list_in_order-many.result (omega arith)

pub returns : goal.returns
returns c =
    kind-fed (tree_of (doc_of c.args.s.now)) c.args.kind _ (lent-are _ _ _ c.requires.declared c.requires.stored
    c.list_in_order-many.ensures c.requires.max_tokens_in_bounds
    c.list_in_order-many.result (omega arith)) c.feed_decls.ensures
