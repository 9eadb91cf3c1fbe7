-- The statement of document 01's example, token by token, whatever its two cells are.
use mathlib.Core.Path.{◌≡◌, refl}
use mathlib.Core.List.{[], ◌∷◌}
use Rattle.text.specs.Text.{bytes}
use Rattle.frame.proofs.Tokens.{◌of◌}
use Rattle.rfc4180.specs.Cells.{Cell, unquoted, in_quotes, row_of}
use Rattle.row_paper.specs.Paper.{literal_kind, column_tokens, paper_of}

-- MERGE (:Phase {stage: a, green: b}), of a row from 6 to 37: 13 tokens, 3 names. One header stood in quotes
pub merge-phase : (a b : Cell)
    → paper_of (bytes "Phase") (unquoted (bytes "stage") ∷ in_quotes (bytes "green") ∷ []) (row_of 6 37 (a ∷ b ∷ []))
    ≡ record {
      tokens = 90 of 1 ∷ 72 of 0 ∷ 60 of 1 ∷ 61 of 1 ∷ 62 of 3 ∷ 51 of 6 ∷ 51 of 37 ∷ 50 of 0 ∷ 14 of 2 ∷ 50 of 1
          ∷ literal_kind a of 0 ∷ 50 of 2 ∷ literal_kind b of 0 ∷ [];
      names = bytes "Phase" ∷ bytes "stage" ∷ bytes "green" ∷ [];
    }
unfolding paper_of column_tokens
merge-phase a b = refl
