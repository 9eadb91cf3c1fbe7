-- What functions inside ask and ensure: a sheet of these sizes is there, and the answer of reading a frame.
use Rattle.std.specs.Prelude.{ℕ, ◌≤◌, ◌<◌, ◌≡◌, List, map, length, get_or, true, Option, Some, None, Result, Ok, Err}
use Rattle.frame.specs.Limits.{max_tokens, max_names}
use Rattle.frame.specs.Sheet.{sheet_of, frame_fault, in_range, end_width, bytes_by}
use Rattle.frame.specs.declared.Sheet.{Sheet}
use Rattle.frame.specs.Doc.{Doc, doc_of, name_of}
use Rattle.frame.specs.declared.Fault.{Fault}

-- the longest sheet: 12 + 5T + 4M + B bytes, each size at its limit
abbrev pub max_bytes : ℕ
max_bytes = 57356

-- the longest thin sheet: 12 + 5T + 2M + B bytes
abbrev pub max_thin : ℕ
max_thin = 55308

-- the bytes are a sheet of these sizes, with no fault of its frame. The first two fields say it all; the others
-- follow from them (`sound` of the proofs), and stand here for `omega` and `search` to read
pub record Sound (s : List ℕ) (f : Sheet) : Type 0 where
  pub framed : frame_fault s ≡ None
  pub sizes : sheet_of s ≡ f
  pub tokens : length (doc_of s).tokens ≡ f.tokens
  pub names : length (doc_of s).names ≡ f.names
  pub some_tokens : 1 ≤ f.tokens
  pub few_tokens : f.tokens ≤ max_tokens
  pub few_names : f.names ≤ max_names

-- the texts of names by their numbers, and that numbers are those of names
abbrev pub texts_of : Doc → List ℕ → List (List ℕ)
texts_of d ns = map (name_of d) ns

abbrev pub Numbers : Doc → List ℕ → Type 0
Numbers d ns = (i : ℕ) → i < length ns → get_or ns i 0 < length d.names

-- each size is in its range, and the length is what sizes and kind make
pub record Sized (s : List ℕ) (f : Sheet) : Type 0 where
  pub ranges : in_range f ≡ true
  pub size : length s ≡ bytes_by (end_width s) f

-- the answer of reading a frame: the sizes, or the refusal's number and place
abbrev pub answered : Option Fault → Sheet → Result Sheet Fault
answered None f = Ok f
answered (Some k) f = Err k

unfoldable pub frame_of : List ℕ → Result Sheet Fault
frame_of s = answered (frame_fault s) (sheet_of s)
