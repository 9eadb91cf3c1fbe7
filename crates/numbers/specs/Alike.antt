-- Texts that differ in the case of letters alone: where one may have another beside it, its number has a mark.
use Rattle.std.specs.Prelude.{ℕ, ◌<◌, ◌≡◌, Bool, false, List, get_or}
use Rattle.text.specs.Folded.{folded}
use Rattle.numbers.specs.Least.{text_at, least_same}

-- no other of the first n texts is the same as text i but for the case of letters
abbrev pub Lone : List (List ℕ) → ℕ → ℕ → Type 0
Lone ts n i = (j : ℕ) → j < n → folded (text_at ts j) ≡ folded (text_at ts i) → text_at ts j ≡ text_at ts i

-- marks by number: a text whose number has no mark is lone
pub record Marked (ts : List (List ℕ)) (n : ℕ) (marks : List Bool) : Type 0 where
  pub lone : (i : ℕ) → i < n → get_or marks (least_same ts i) false ≡ false → Lone ts n i
