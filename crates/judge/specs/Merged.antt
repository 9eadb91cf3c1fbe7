-- Where an element's Map stands; and what the tuples of several names say together of its keys.
use Rattle.std.specs.Prelude.{◌≡◌, Bool, true, false, List, ℕ, ◌*◌, ◌<◌, ◌≤◌, length, get_or}
use Rattle.lists.specs.Lists.{pick}
use Rattle.frame.specs.Doc.{Doc, kind_of, value_of}
use Rattle.rules.specs.Kinds as Kind
use Rattle.grammar.specs.Tree.{Tree, tree_of, child}
use Rattle.provider.specs.declared.Backing.{Backing}
use Rattle.provider.specs.declared.Backing.TheVariants.{NoTuple, Unbacked, Backed}
use Rattle.breach.specs.Breach.{props_of}
use Rattle.breach.specs.Listing.{is_keyed}
use Rattle.std.specs.Prelude.{Option, Some, None}

-- the Map of an element that has a name, where its properties are a Map
abbrev pub map_of : Tree → ℕ → Option ℕ
map_of t i = pick (is_keyed t i) (Some (props_of t i)) None

-- token m is the Map that is the properties of the element i
pub record MapOf (d : Doc) (i m : ℕ) : Type 0 where
  pub inside : m < length d.tokens
  pub kind : kind_of d m ≡ Kind.Map
  pub is : m ≡ props_of (tree_of d) i

-- those of one name, and then those of others
abbrev pub joined_with : Backing → Backing → Backing
joined_with NoTuple b = b
joined_with Backed b = Backed
joined_with Unbacked NoTuple = Unbacked
joined_with Unbacked Unbacked = Unbacked
joined_with Unbacked Backed = Backed

-- there are tuples, and none of them lies among the keys
abbrev pub unbacked_by : Backing → Bool
unbacked_by NoTuple = false
unbacked_by Unbacked = true
unbacked_by Backed = false

-- n is the number of the Map's pairs, and the numbers of its keys' names are the first n of these
pub record Collected (d : Doc) (m n : ℕ) (ks : List ℕ) : Type 0 where
  pub all : n ≡ value_of d m
  pub room : n ≤ length ks
  pub each : (k : ℕ) → k < n → get_or ks k 0 ≡ value_of d (child (tree_of d) m (2 * k))
