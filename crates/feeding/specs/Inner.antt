-- What the functions that feed ask and ensure.
use Rattle.std.specs.Prelude.{ℕ, Bool, List, [], ◌++◌, eqb}
use Rattle.lists.specs.Lists.{pick}
use Rattle.rules.specs.Kinds as Kind
use Rattle.grammar.specs.Tree.{Tree}
use Rattle.schema.specs.Declarations.{name_below}
use Rattle.provider.specs.Schema.{owner_at, parameter_at}
use Rattle.feeding.specs.Feed.{label_feed, rel_type_feed, parameter_feed}
use Rattle.text.specs.Text.{bytes}

-- what an item feeds: its tag and its name, and where it is flagged whether it is required
abbrev pub item_feed : Tree → List ℕ → Bool → ℕ → List ℕ
item_feed t tag flagged i = (tag ++ name_below t i) ++ pick flagged (pick (eqb (t.value i) 1) (bytes "!") (bytes "?")) []

-- what the declaration i of kind k feeds
unfoldable pub decl_feed : Tree → ℕ → ℕ → List ℕ
decl_feed t k i =
    pick (eqb k Kind.Label) (label_feed (owner_at t i))
    (pick (eqb k Kind.RelType) (rel_type_feed (owner_at t i)) (parameter_feed (parameter_at t i)))
