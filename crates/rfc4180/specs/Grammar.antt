-- RFC 4180's grammar, rule by rule of the ABNF in its section 2. `agree` of the proofs says that `rows_of` computes it.
-- Three things are added to the RFC: bytes from 80 to FF count as text, an empty text has no row, and the last CRLF
-- opens no further row.
use Rattle.std.specs.Prelude.{ℕ, ◌+◌, List, [], ◌∷◌, ◌++◌, length}
use Rattle.utf8.specs.Grammar.{In}
use Rattle.rfc4180.specs.Cells.{Cell, unquoted, in_quotes, Row, row_of}

-- COMMA = %x2C
abbrev pub COMMA : ℕ
COMMA = 0x2c

-- CR = %x0D
abbrev pub CR : ℕ
CR = 0x0d

-- DQUOTE = %x22
abbrev pub DQUOTE : ℕ
DQUOTE = 0x22

-- LF = %x0A
abbrev pub LF : ℕ
LF = 0x0a

-- CRLF = CR LF
abbrev pub CRLF : List ℕ
CRLF = CR ∷ LF ∷ []

-- TEXTDATA = %x20-21 / %x23-2B / %x2D-7E, and here also %x80-FF
pub data TEXTDATA (a : ℕ) : Type 0 where
  x20_21 : In 0x20 0x21 a → TEXTDATA a
  x23_2b : In 0x23 0x2b a → TEXTDATA a
  x2d_7e : In 0x2d 0x7e a → TEXTDATA a
  x80_ff : In 0x80 0xff a → TEXTDATA a

-- non-escaped = *TEXTDATA
pub data NonEscaped : List ℕ → Type 0 where
  no_textdata : NonEscaped []
  textdata : {a : ℕ} {s : List ℕ} → TEXTDATA a → NonEscaped s → NonEscaped (a ∷ s)

-- *(TEXTDATA / COMMA / CR / LF / 2DQUOTE), and the content that it stands for
pub data Inside : List ℕ → List ℕ → Type 0 where
  nothing : Inside [] []
  a_textdata : {a : ℕ} {s c : List ℕ} → TEXTDATA a → Inside s c → Inside (a ∷ s) (a ∷ c)
  a_comma : {s c : List ℕ} → Inside s c → Inside (COMMA ∷ s) (COMMA ∷ c)
  a_cr : {s c : List ℕ} → Inside s c → Inside (CR ∷ s) (CR ∷ c)
  a_lf : {s c : List ℕ} → Inside s c → Inside (LF ∷ s) (LF ∷ c)
  a_2dquote : {s c : List ℕ} → Inside s c → Inside (DQUOTE ∷ DQUOTE ∷ s) (DQUOTE ∷ c)

-- field = (escaped / non-escaped), with escaped = DQUOTE *(TEXTDATA / COMMA / CR / LF / 2DQUOTE) DQUOTE
pub data Field : List ℕ → Cell → Type 0 where
  escaped : {s c : List ℕ} → Inside s c → Field (DQUOTE ∷ s ++ DQUOTE ∷ []) (in_quotes c)
  non_escaped : {s : List ℕ} → NonEscaped s → Field s (unquoted s)

-- record = field *(COMMA field); header and name are written as record and field are
pub data Record : List ℕ → List Cell → Type 0 where
  one_field : {s : List ℕ} {c : Cell} → Field s c → Record s (c ∷ [])
  field_comma : {s t : List ℕ} {c : Cell} {cs : List Cell} → Field s c → Record t cs → Record (s ++ COMMA ∷ t) (c ∷ cs)

-- record *(CRLF record)
pub data Lines : List ℕ → Type 0 where
  one_line : {s : List ℕ} {cs : List Cell} → Record s cs → Lines s
  line_crlf : {s t : List ℕ} {cs : List Cell} → Record s cs → Lines t → Lines (s ++ CRLF ++ t)

-- file = [header CRLF] record *(CRLF record) [CRLF], of texts alone: a header's line is a record's
pub data ABNF : List ℕ → Type 0 where
  no_crlf : {s : List ℕ} → Lines s → ABNF s
  last_crlf : {s : List ℕ} → Lines s → ABNF (s ++ CRLF)

-- The same with the rows, of a text that begins at an offset: the last line may lack its CRLF, an empty text has no
-- row, and so no row opens after the last CRLF. `literal` of the proofs says that these are the texts of `ABNF`
pub data File : ℕ → List ℕ → List Row → Type 0 where
  no_row : {a : ℕ} → File a [] []
  last_row : {a b : ℕ} {s : List ℕ} {cs : List Cell} → Record (b ∷ s) cs
      → File a (b ∷ s) (row_of a (a + length (b ∷ s)) cs ∷ [])
  row_crlf : {a : ℕ} {s t : List ℕ} {cs : List Cell} {rs : List Row} → Record s cs
      → File (a + length (s ++ CRLF)) t rs
      → File a (s ++ CRLF ++ t) (row_of a (a + length s) cs ∷ rs)
