-- A list of items seen through a window: item number n goes to place n - from of the lent list, where a whole item
-- fits there.
use Rattle.std.specs.Prelude.{◌≡◌, List, [], ◌∷◌, ◌++◌, map, ℕ, suc, ◌+◌, ◌-◌, ◌*◌, ◌/◌, length, take, drop, ltb, leb}
use Rattle.lists.specs.Lists.{pick}
use Rattle.breach.specs.Breach.{Item, item, numbers, width}
use Rattle.judge.specs.declared.Tally.{Tally}

-- an item written over a list from a place on
abbrev pub stored : Item → ℕ → List ℕ → List ℕ
stored x at l = take at l ++ (numbers x ++ drop (at + width) l)

unfoldable pub put : ℕ → ℕ → Item → List ℕ → List ℕ
put from n x l = pick (leb from n) (pick (ltb (n - from) (length l / width)) (stored x (width * (n - from)) l) l) l

-- items in turn, the first of them number n
unfoldable pub window : ℕ → ℕ → List Item → List ℕ → List ℕ
window from n [] l = l
window from n (x ∷ xs) l = window from (suc n) xs (put from n x l)

-- no count goes further than this; and from below half of it the items of one token can still be counted
abbrev pub most_count : ℕ
most_count = 65535

abbrev pub half_count : ℕ
half_count = 32768

-- an item as one of clause n
abbrev pub in_clause : ℕ → Item → Item
in_clause n x = item x.code x.start x.end x.owner x.stage x.ordinal n

-- after the items xs, as items of the clause that is told, the tally w has become r, and the list l, seen through a
-- window, l'
pub record WroteItems (xs : List Item) (w : Tally) (l : List ℕ) (r : Tally) (l' : List ℕ) : Type 0 where
  pub same : r.from ≡ w.from
  pub clause : r.clause ≡ w.clause
  pub count : r.count ≡ w.count + length xs
  pub list : l' ≡ window w.from w.count (map (in_clause w.clause) xs) l

-- all items of all clauses are counted, r in number, and the list l, which shows items from one on, has become l'
pub record ToldItems (xs : List Item) (from : ℕ) (l : List ℕ) (r : ℕ) (l' : List ℕ) : Type 0 where
  pub count : r ≡ length xs
  pub list : l' ≡ window from 0 xs l
