-- The list of a joined paper.
use Rattle.std.specs.Prelude.{ℕ, ◌-◌, List, ◌++◌, map}
use Rattle.frame.specs.Sheet.{sheet_of}
use Rattle.frame.specs.Doc.{doc_of, value_of}
use Rattle.breach.specs.Breach.{Item}
use Rattle.moving.specs.Moved.{moved_on}

-- how many clauses a statement sheet has: the value of its token 0
abbrev pub clauses_in : List ℕ → ℕ
clauses_in x = value_of (doc_of x) 0

-- the first's list followed by the second's, with owners and clause numbers moved on by the first sheet's tokens less
-- one and by its clauses
abbrev pub followed_by : (first : List ℕ) → List Item → List Item → List Item
followed_by x as' bs = as' ++ map (moved_on ((sheet_of x).tokens - 1) (clauses_in x)) bs
