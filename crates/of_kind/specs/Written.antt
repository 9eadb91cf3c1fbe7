-- What a function that writes numbers ensures.
use Rattle.std.specs.Prelude.{ℕ, ◌+◌, ◌≡◌, List, [], ◌∷◌, length}
use Rattle.std.proofs.lemmas.List.Edits.{sets}

-- the numbers xs are written from place n on, and the others are kept; r is the place after them
pub record WroteNumbers (n : ℕ) (xs l : List ℕ) (r : ℕ) (l' : List ℕ) : Type 0 where
  pub next : r ≡ n + length xs
  pub list : l' ≡ sets l n xs

-- a token, where it is written itself
abbrev pub itself : ℕ → List ℕ
itself j = j ∷ []
