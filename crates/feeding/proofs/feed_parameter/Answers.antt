use native.Mathlib.Omega.{arith}
use Rattle.schema.proofs.Named.{named-below, parameter-named}
use Rattle.feeding.proofs.Feeds.{default-named, no_default, with-default}
use Rattle.feeding.proofs.feed_parameter.Goals as goal

pub feed_named-named-requires-clause-sound : goal.feed_named-named-requires-clause-sound
feed_named-named-requires-clause-sound c =
    c.requires.declared.sheet

pub feed_named-named-requires-clause-name_at : goal.feed_named-named-requires-clause-name_at
feed_named-named-requires-clause-name_at c =
    named-below _ _ _ 103 c.requires.declared
    c.requires.i_lt_tokens c.requires.i_value parameter-named

pub value-requires-clause-sound : goal.value-requires-clause-sound
value-requires-clause-sound c =
    c.requires.declared.sheet

pub value-requires-clause-i_lt_tokens : goal.value-requires-clause-i_lt_tokens
value-requires-clause-i_lt_tokens c =
    c.requires.i_lt_tokens

pub returns-then-value-ne1 : goal.returns-then-value-ne1
returns-then-value-ne1 c =
    no_default _ _ _ _ c.requires.i_value c.value.ensures
    c.feed_named-named.ensures c.if-value-ne1.true

pub overflow_add-i : goal.overflow_add-i
overflow_add-i c =
    omega (
      arith,
      (default-named _ _ _ _ c.requires.declared
          c.requires.i_lt_tokens
          c.requires.i_value
          c.value.ensures c.if-value-ne1.false).inside,
      c.requires.declared.sheet.tokens,
      c.requires.declared.sheet.few_tokens,
    )

pub text_of-requires-clause-sound : goal.text_of-requires-clause-sound
text_of-requires-clause-sound c =
    c.requires.declared.sheet

pub text_of-requires-clause-name_at : goal.text_of-requires-clause-name_at
text_of-requires-clause-name_at c =
    default-named _ _ _
    _ c.requires.declared
    c.requires.i_lt_tokens
    c.requires.i_value c.value.ensures
    c.if-value-ne1.false

pub returns : goal.returns
returns c =
    with-default _ _ _ _ c.requires.i_value
    c.value.ensures
    c.feed_named-named.ensures
    c.if-value-ne1.false c.text_of.ensures
    c.feed.ensures c.feed-2.ensures
