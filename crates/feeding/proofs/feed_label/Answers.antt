use native.Mathlib.Omega.{arith}
use Rattle.schema.proofs.Named.{named-below, label-named, property-named}
use Rattle.provider.proofs.Items.{label-owns, items-between}
use Rattle.provider.proofs.Lookups.{item-range}
use Rattle.feeding.proofs.Feeds.{label-fed}
use Rattle.feeding.proofs.feed_label.Goals as goal

pub decl_end-end-requires-clause-sound : goal.decl_end-end-requires-clause-sound
decl_end-end-requires-clause-sound c =
    c.requires.declared.sheet

pub decl_end-end-requires-clause-i_lt_tokens : goal.decl_end-end-requires-clause-i_lt_tokens
decl_end-end-requires-clause-i_lt_tokens c =
    c.requires.i_lt_tokens

pub feed_named-named-requires-clause-sound : goal.feed_named-named-requires-clause-sound
feed_named-named-requires-clause-sound c =
    c.requires.declared.sheet

pub feed_named-named-requires-clause-name_at : goal.feed_named-named-requires-clause-name_at
feed_named-named-requires-clause-name_at c =
    named-below _ _ _ 101
    c.requires.declared c.requires.i_lt_tokens c.requires.i_value
    label-named

pub overflow_add-i : goal.overflow_add-i
overflow_add-i c =
    omega (
      arith,
      c.requires.i_lt_tokens,
      c.requires.declared.sheet.few_tokens,
    )

pub feed_items-requires-clause-declared : goal.feed_items-requires-clause-declared
feed_items-requires-clause-declared c =
    c.requires.declared

pub feed_items-requires-clause-from_le_to : goal.feed_items-requires-clause-from_le_to
feed_items-requires-clause-from_le_to c =
    item-range _ _ c.requires.declared _ _
    c.requires.i_lt_tokens c.decl_end-end.ensures

pub feed_items-requires-clause-named : goal.feed_items-requires-clause-named
feed_items-requires-clause-named c =
    property-named

pub returns : goal.returns
returns c =
    label-fed _ _ _ _ (λ k y. items-between c.requires.declared _ _ 101 k c.requires.i_lt_tokens c.requires.i_value label-owns y
    c.decl_end-end.ensures)
    c.feed_named-named.ensures c.feed_items.ensures
