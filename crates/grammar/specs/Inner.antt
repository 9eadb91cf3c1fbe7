-- What the readers say: the machine's run from a token on, and what holds where a reader starts.
use Rattle.std.specs.Prelude.{ℕ, ◌+◌, ◌-◌, ◌/◌, ◌%◌, ◌≤◌, ◌<◌, ◌≡◌, true, ◌⊎◌, List, [], length, ltb, Option, Some, Result, Ok, Err}
use Rattle.lists.specs.Lists.{pick, is_one}
use Rattle.frame.specs.Limits.{max_depth}
use Rattle.frame.specs.Doc.{Doc, doc_of, kind_of, value_of}
use Rattle.frame.specs.Inner.{Sound}
use Rattle.frame.specs.declared.Sheet.{Sheet}
use Rattle.frame.specs.declared.Fault.{Fault}
use Rattle.rules.specs.declared.Place.{Place}
use Rattle.rules.specs.declared.Place.TheVariants.{LabelItem, RelTypeItem}
use Rattle.rules.specs.Rules.{takes, most_of, opens}
use Rattle.grammar.specs.Machine.{Want, want, opened, judged, run}
use Rattle.rules.specs.Kinds as Kind
use Rattle.frame.specs.Sheet.{fault}

-- the run from token `at` on
unfoldable pub from : Doc → ℕ → List Want → Result ℕ Fault
from d at ws = run d (length d.tokens - at) ws at

-- what comes after a read, unless it refused
abbrev pub and_then : Doc → Result ℕ Fault → List Want → Result ℕ Fault
and_then d (Ok at) ws = from d at ws
and_then d (Err k) ws = Err k

-- a read as the code has it, in one number: below `refusals` the token after what was read, else so many times a
-- refusal's number, and its place
abbrev pub refusals : ℕ
refusals = 8192

unfoldable pub read_of : ℕ → Result ℕ Fault
read_of r = pick (ltb r refusals) (Ok r) (Err (fault (r / refusals) (r % refusals)))

-- token `at` is judged where it is there, and 8 where it is not
unfoldable pub judged_at : Doc → Place → ℕ → ℕ → Option Fault
judged_at d p depth at = pick (ltb at (length d.tokens)) (judged d (want p depth) at) (Some (fault 8 at))

-- nothing stands below a token that the place takes
abbrev pub Leaf : Place → Type 0
Leaf p = (k v : ℕ) → is_one (takes p) k ≡ true → opens k v ≡ []

-- the place of an item of a Label or of a RelType
abbrev pub Item : Place → Type 0
Item p = (p ≡ LabelItem) ⊎ (p ≡ RelTypeItem)

-- a place between these two, or a refusal
abbrev pub Inside : ℕ → ℕ → Result ℕ Fault → Type 0
Inside low high (Ok at) = (low ≤ at) × (at ≤ high)
Inside low high (Err k) = Unit {0}

-- the sheet is sound, and a reader starts at one of its tokens or at their end
pub record Ready (s : List ℕ) (f : Sheet) (at : ℕ) : Type 0 where
  pub sheet : Sound s f
  pub inside : at ≤ f.tokens

-- the sheet is sound, and a reader goes on after such a place, or after a refusal
pub record Resumes (s : List ℕ) (f : Sheet) (r : Result ℕ Fault) : Type 0 where
  pub sheet : Sound s f
  pub inside : Inside 0 f.tokens r

-- the run over what stands below token `at`, which stands at a depth
unfoldable pub children_from : Doc → ℕ → ℕ → Result ℕ Fault
children_from d at depth = from d (at + 1) (opened (depth + 1) (opens (kind_of d at) (value_of d at)) [])

-- the sheet is sound, and token `at` is there, has a value that its kind may have, and is not too deep
pub record Below (s : List ℕ) (f : Sheet) (at depth : ℕ) : Type 0 where
  pub sheet : Sound s f
  pub inside : at < f.tokens
  pub valued : value_of (doc_of s) at ≤ most_of (kind_of (doc_of s) at)
  pub shallow : depth ≤ max_depth

-- token `at` is there, has a kind from one to another, and is not too deep
pub record Stands (d : Doc) (at depth low high : ℕ) : Type 0 where
  pub inside : at < length d.tokens
  pub least : low ≤ kind_of d at
  pub greatest : kind_of d at ≤ high
  pub shallow : depth ≤ max_depth

-- token i is a Name of the document
pub record NameAt (d : Doc) (i : ℕ) : Type 0 where
  pub inside : i < length d.tokens
  pub kind : kind_of d i ≡ Kind.Name
  pub below : value_of d i < length d.names

-- a token opens fewer trees than this
abbrev pub most_trees : ℕ
most_trees = 30064771072
