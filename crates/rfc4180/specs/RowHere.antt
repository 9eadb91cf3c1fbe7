-- The row that begins at a place of a text, and the place where a text breaks the grammar, in the grammar's words.
-- `line-whole`, `line-broken` and `line-end` of the proofs say that `line_at` computes them.
use Rattle.std.specs.Prelude.{ℕ, ◌+◌, ◌-◌, ◌≤◌, ◌<◌, ◌≡◌, List, ◌++◌, length, take, drop}
use Rattle.rfc4180.specs.Cells.{Cell}
use Rattle.rfc4180.specs.Grammar.{CRLF, Record, ABNF}
use Rattle.rfc4180.specs.declared.Span.{Span}

-- how a row that begins at a ends: a CRLF stands at its stop, and the next row begins after that; or the text ends
-- there, and the row has at least one byte
pub data RowEnds (s : List ℕ) (a : ℕ) (sp : Span) : Type 0 where
  with_crlf : take (length CRLF) (drop sp.stop s) ≡ CRLF → sp.next ≡ sp.stop + length CRLF → RowEnds s a sp
  with_text : a < length s → sp.stop ≡ length s → sp.next ≡ length s → RowEnds s a sp

-- a row begins at a: the bytes from there up to its stop are a record with so many cells, and the row ends there
pub record RowHere (s : List ℕ) (a : ℕ) (sp : Span) : Type 0 where
  pub forward : a ≤ sp.stop
  pub within : sp.stop ≤ length s
  pub fields : List Cell
  pub holds : Record (take (sp.stop - a) (drop a s)) fields
  pub count : length fields ≡ sp.cells
  pub ends : RowEnds s a sp

-- no row begins at a, where the text goes on, and it breaks the grammar at p: what stands from a up to p can be
-- continued to a text of the grammar; with the byte at p it cannot, and where the text ends at p it is none itself
pub record Breaks (s : List ℕ) (a p : ℕ) : Type 0 where
  pub begins : a < length s
  pub forward : a ≤ p
  pub within : p ≤ length s
  pub rest : List ℕ
  pub goes : ABNF (take (p - a) (drop a s) ++ rest)
  pub stops : p < length s → (q : List ℕ) → ABNF (take (p + 1 - a) (drop a s) ++ q) → ⊥
  pub cut : p ≡ length s → ABNF (take (p - a) (drop a s)) → ⊥
  pub no_row : (sp : Span) → RowHere s a sp → ⊥
