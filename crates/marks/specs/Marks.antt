-- Names marked by their numbers: a list has 1 at the number of each text that is marked.
use Rattle.std.specs.Prelude.{ℕ, ◌+◌, ◌≤◌, ◌<◌, ◌≡◌, Bool, List, [], ◌∷◌, eqb, length, get_or, set}
use Rattle.text.specs.Text.{is_text}
use Rattle.frame.specs.Doc.{Doc}
use Rattle.grammar.specs.Inner.{NameAt}
use Rattle.numbers.specs.Least.{text_at, place_of}

-- a number is marked in a list
abbrev pub is_marked : List ℕ → ℕ → Bool
is_marked l n = eqb (get_or l n 0) 1

-- the n tokens from `at` on are Names
abbrev pub NamesAt : Doc → ℕ → ℕ → Type 0
NamesAt d at n = (i : ℕ) → i < n → NameAt d (at + i)

-- the texts xs are marked, one after the other
unfoldable pub marked : List (List ℕ) → List (List ℕ) → List ℕ → List ℕ
marked ts [] l = l
marked ts (x ∷ xs) l = marked ts xs (set l (place_of ts x) 1)

-- of the texts ts, those that are among xs have 1 at their number, and no others
pub record MarksOf (ts xs : List (List ℕ)) (l : List ℕ) : Type 0 where
  pub room : length ts ≤ length l
  pub each : (i : ℕ) → i < length ts → is_marked l (place_of ts (text_at ts i)) ≡ is_text xs (text_at ts i)
