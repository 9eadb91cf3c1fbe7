-- Sheets that say the same, whichever kind they are of.
use Rattle.std.specs.Prelude.{◌≡◌, List, ℕ}
use Rattle.frame.specs.Sheet.{frame_fault}
use Rattle.frame.specs.Doc.{doc_of}
use Rattle.frame.specs.Sheet.{fault}

-- the frames of two sheets have the same fault, or none, and every token and name reads the same
pub record Alike (s t : List ℕ) : Type 0 where
  pub fault : frame_fault s ≡ frame_fault t
  pub doc : doc_of s ≡ doc_of t
