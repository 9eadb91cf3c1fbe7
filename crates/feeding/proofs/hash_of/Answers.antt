use native.Mathlib.Omega.{arith}
use Rattle.by_name.proofs.Declared.{label_kept, rel-type-kept, parameter-kept}
use Rattle.feeding.proofs.Feeds.{all-fed}
use Rattle.feeding.proofs.hash_of.Goals as goal

pub feed_kind-labels-requires-clause-declared : goal.feed_kind-labels-requires-clause-declared
feed_kind-labels-requires-clause-declared c =
    c.requires.schema

pub feed_kind-labels-requires-clause-stored : goal.feed_kind-labels-requires-clause-stored
feed_kind-labels-requires-clause-stored c =
    label_kept

pub feed_kind-labels-requires-clause-max_tokens_in_bounds : goal.feed_kind-labels-requires-clause-max_tokens_in_bounds
feed_kind-labels-requires-clause-max_tokens_in_bounds c =
    omega arith

pub feed_kind-rel_types-requires-clause-declared : goal.feed_kind-rel_types-requires-clause-declared
feed_kind-rel_types-requires-clause-declared c =
    c.requires.schema

pub feed_kind-rel_types-requires-clause-stored : goal.feed_kind-rel_types-requires-clause-stored
feed_kind-rel_types-requires-clause-stored c =
    rel-type-kept

pub feed_kind-requires-clause-declared : goal.feed_kind-requires-clause-declared
feed_kind-requires-clause-declared c =
    c.requires.schema

pub feed_kind-requires-clause-stored : goal.feed_kind-requires-clause-stored
feed_kind-requires-clause-stored c =
    parameter-kept

pub returns : goal.returns
returns c =
    all-fed _ c.start.ensures
    c.feed_kind-labels.ensures
    c.feed_kind-rel_types.ensures c.feed_kind.ensures
