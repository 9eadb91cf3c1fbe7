use native.Mathlib.Omega.{arith}
use Rattle.schema.proofs.Named.{named-below, rel-type-named, property-named}
use Rattle.provider.proofs.Items.{rel-type-owns, items-between}
use Rattle.of_kind.proofs.Ranges.{start-named, end-named}
use Rattle.provider.proofs.Lookups.{item-range}
use Rattle.feeding.proofs.Feeds.{rel-type-fed}
use Rattle.feeding.proofs.feed_rel_type.Goals as goal

pub decl_end-end-requires-clause-sound : goal.decl_end-end-requires-clause-sound
decl_end-end-requires-clause-sound c =
    c.requires.declared.sheet

pub decl_end-end-requires-clause-i_lt_tokens : goal.decl_end-end-requires-clause-i_lt_tokens
decl_end-end-requires-clause-i_lt_tokens c =
    c.requires.i_lt_tokens

pub feed_named-named-requires-clause-sound : goal.feed_named-named-requires-clause-sound
feed_named-named-requires-clause-sound c =
    c.requires.declared.sheet

pub feed_named-named-requires-clause-name_at : goal.feed_named-named-requires-clause-name_at
feed_named-named-requires-clause-name_at c =
    named-below _ _ _ 102
    c.requires.declared c.requires.i_lt_tokens c.requires.i_value
    rel-type-named

pub overflow_add-i : goal.overflow_add-i
overflow_add-i c =
    omega (
      arith,
      c.requires.i_lt_tokens,
      c.requires.declared.sheet.few_tokens,
    )

pub feed_items-started-requires-clause-declared : goal.feed_items-started-requires-clause-declared
feed_items-started-requires-clause-declared c =
    c.requires.declared

pub feed_items-started-requires-clause-from_le_to : goal.feed_items-started-requires-clause-from_le_to
feed_items-started-requires-clause-from_le_to c =
    item-range _ _ c.requires.declared _ _
    c.requires.i_lt_tokens c.decl_end-end.ensures

pub feed_items-started-requires-clause-named : goal.feed_items-started-requires-clause-named
feed_items-started-requires-clause-named c =
    start-named

pub overflow_add-i-2 : goal.overflow_add-i-2
overflow_add-i-2 c =
    omega (
      arith,
      c.requires.i_lt_tokens,
      c.requires.declared.sheet.few_tokens,
    )

pub feed_items-ended-requires-clause-declared : goal.feed_items-ended-requires-clause-declared
feed_items-ended-requires-clause-declared c =
    c.requires.declared

pub feed_items-ended-requires-clause-from_le_to : goal.feed_items-ended-requires-clause-from_le_to
feed_items-ended-requires-clause-from_le_to c =
    item-range _ _ c.requires.declared _ _
    c.requires.i_lt_tokens
    c.decl_end-end.ensures

pub feed_items-ended-requires-clause-named : goal.feed_items-ended-requires-clause-named
feed_items-ended-requires-clause-named c =
    end-named

pub overflow_add-i-3 : goal.overflow_add-i-3
overflow_add-i-3 c =
    omega (
      arith,
      c.requires.i_lt_tokens,
      c.requires.declared.sheet.few_tokens,
    )

pub feed_items-requires-clause-declared : goal.feed_items-requires-clause-declared
feed_items-requires-clause-declared c =
    c.requires.declared

pub feed_items-requires-clause-from_le_to : goal.feed_items-requires-clause-from_le_to
feed_items-requires-clause-from_le_to c =
    item-range _ _ c.requires.declared _ _
    c.requires.i_lt_tokens
    c.decl_end-end.ensures

pub feed_items-requires-clause-named : goal.feed_items-requires-clause-named
feed_items-requires-clause-named c =
    property-named

pub returns : goal.returns
returns c =
    rel-type-fed _ _ _ _ (λ k y. items-between c.requires.declared _ _ 102 k c.requires.i_lt_tokens c.requires.i_value rel-type-owns y
    c.decl_end-end.ensures)
    c.feed_named-named.ensures
    c.feed_items-started.ensures c.feed_items-ended.ensures
    c.feed_items.ensures
