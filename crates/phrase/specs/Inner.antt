-- What inner functions ask and state.
use Rattle.std.specs.Prelude.{ℕ, ◌+◌, ◌/◌, ◌<◌, ◌≡◌, true, List, length}
use Rattle.frame.specs.Doc.{Doc, kind_of, value_of}
use Rattle.marks.specs.Marks.{NamesAt}
use Rattle.breach.specs.Breach.{is_element}
use Rattle.std.proofs.lemmas.List.Edits.{sets}

-- token i is an element, with its names behind its two Numbers
pub record ElementAt (d : Doc) (i : ℕ) : Type 0 where
  pub inside : i < length d.tokens
  pub element : is_element (kind_of d i) ≡ true
  pub names : NamesAt d (i + 3) (value_of d i / 2)

-- the text xs was put into the buffer l from `at` on, byte by byte as far as the buffer goes: it ends at r, and the
-- buffer is then l'
pub record Put (xs : List ℕ) (at : ℕ) (l : List ℕ) (r : ℕ) (l' : List ℕ) : Type 0 where
  pub ends : r ≡ at + length xs
  pub buffer : l' ≡ sets l at xs
