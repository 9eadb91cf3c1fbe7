use native.Mathlib.Nat.{le_refl}
use native.Mathlib.Omega.{arith}
use Rattle.frame.specs.Doc.{doc_of}
use Rattle.grammar.specs.Tree.{tree_of}
use Rattle.feeding.specs.Inner.{item_feed}
use Rattle.feeding.proofs.Feeds.{items-none, items-turn, items-end}
use Rattle.feeding.proofs.feed_items.Goals as goal

pub loop-j-init : goal.loop-j-init
loop-j-init c = (
  items-none (tree_of (doc_of c.args.s.now)) c.args.kind _ _ c.args.from c.args.from (le_refl _),
  le_refl _,
  c.requires.from_le_to.0,
)

pub feed_item-h-requires-clause-declared : goal.feed_item-h-requires-clause-declared
feed_item-h-requires-clause-declared c =
    c.requires.declared

pub feed_item-h-requires-clause-j_lt_tokens : goal.feed_item-h-requires-clause-j_lt_tokens
feed_item-h-requires-clause-j_lt_tokens c =
    omega (arith, c.requires.from_le_to.1, c.loop-j-test.true)

pub feed_item-h-requires-clause-named : goal.feed_item-h-requires-clause-named
feed_item-h-requires-clause-named c =
    c.requires.named

pub loop-j-preserved : goal.loop-j-preserved
loop-j-preserved c = (
  items-turn (tree_of (doc_of c.args.s.now)) c.args.kind
      (item_feed (tree_of (doc_of c.args.s.now)) c.args.tag.now c.args.flagged) _ _ c.args.to _ _
      c.loop-j.invariant.0 c.loop-j.invariant.1 c.feed_item-h.ensures,
  omega (arith, c.loop-j.invariant.1),
  omega (arith, c.loop-j-test.true),
)

pub returns : goal.returns
returns c =
    items-end (tree_of (doc_of c.args.s.now)) c.args.kind (item_feed (tree_of (doc_of c.args.s.now)) c.args.tag.now
    c.args.flagged) _ _ _ _ _ c.loop-j.invariant.0 c.loop-j-test.false c.loop-j.invariant.2
