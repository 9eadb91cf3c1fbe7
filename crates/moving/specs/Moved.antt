-- An item whose owner stands elsewhere.
use Rattle.std.specs.Prelude.{ℕ, ◌+◌}
use Rattle.breach.specs.Breach.{Item, item}

-- an item with another owner, in another clause; all else is as it was
abbrev pub placed : (owner clause : ℕ) → Item → Item
placed i c x = item x.code x.start x.end i x.stage x.ordinal c

-- an item whose owner is moved on by so many tokens, and its clause by so many clauses
abbrev pub moved_on : (tokens clauses : ℕ) → Item → Item
moved_on n m x = placed (n + x.owner) (m + x.clause) x
