use mathlib.Core.Path.{sym, ◌∙◌}
use Rattle.frame.specs.Doc.{doc_of}
use Rattle.schema.proofs.Named.{named-below}
use Rattle.feeding.proofs.Feeds.{item-skipped, item-fed}
use Rattle.feeding.proofs.feed_item.Goals as goal

pub kind-requires-clause-sound : goal.kind-requires-clause-sound
kind-requires-clause-sound c =
    c.requires.declared.sheet

pub kind-requires-clause-i_lt_tokens : goal.kind-requires-clause-i_lt_tokens
kind-requires-clause-i_lt_tokens c =
    c.requires.j_lt_tokens

pub returns-then-kind : goal.returns-then-kind
returns-then-kind c =
    item-skipped (doc_of c.args.s.now) _ _ _ _
    c.args.tag.now c.args.flagged
    c.kind.ensures c.if-kind.true

pub feed_named-named-requires-clause-sound : goal.feed_named-named-requires-clause-sound
feed_named-named-requires-clause-sound c =
    c.requires.declared.sheet

pub feed_named-named-requires-clause-name_at : goal.feed_named-named-requires-clause-name_at
feed_named-named-requires-clause-name_at c =
    named-below _ _ _ _ c.requires.declared c.requires.j_lt_tokens
    (sym c.kind.ensures ∙ c.if-kind.false) c.requires.named

pub value-requires-clause-sound : goal.value-requires-clause-sound
value-requires-clause-sound c =
    c.requires.declared.sheet

pub value-requires-clause-i_lt_tokens : goal.value-requires-clause-i_lt_tokens
value-requires-clause-i_lt_tokens c =
    c.requires.j_lt_tokens

pub returns : goal.returns
returns c =
    item-fed (doc_of c.args.s.now) _ _ _ _
    c.args.tag.now
    c.args.flagged
    c.kind.ensures
    c.requires.named c.if-kind.false
    c.value.ensures c.feed_named-named.ensures c.feed_flag.ensures
