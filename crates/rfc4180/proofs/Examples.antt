-- Texts at the edges of the grammar, computed by the definitions.
use Prim.Native.String.{String}
use mathlib.Core.Path.{◌≡◌, refl}
use mathlib.Core.List.{[], ◌∷◌}
use Prim.Native.Nat.{ℕ}
use native.Mathlib.Omega.{arith}
use Rattle.text.specs.Text.{bytes}
use Rattle.rfc4180.specs.Cells.{Cell, unquoted, in_quotes, row_of}
use Rattle.rfc4180.specs.Csv.{class_of, turn_of, apply, step_of, runs, finish, rows_at, rows_from, rows_of}
use Rattle.rfc4180.specs.Line.{span_of, last_line, line_by, line_from, line_at}
use Rattle.rfc4180.specs.RowHere.{RowHere, Breaks}
use Rattle.rfc4180.specs.declared.Span.{Span}
use Rattle.rfc4180.specs.declared.Line.TheVariants.{Whole, End, Broken}
use Rattle.rfc4180.proofs.RowByRow.{line-whole, one-row, line-broken}
use Rattle.std.specs.Prelude.{Some, None}

abbrev plainly : String → Cell
plainly s = unquoted (bytes s)

abbrev quotedly : String → Cell
quotedly s = in_quotes (bytes s)

-- no row; a header and no row; a header and a row of one empty cell; a header of one empty name
empty-text : rows_of (bytes "") ≡ Some ([])
unfolding rows_from runs step_of turn_of apply class_of rows_at finish bytes
empty-text = refl

header-only : rows_of (bytes "a\r\n") ≡ Some (row_of 0 1 (plainly "a" ∷ []) ∷ [])
unfolding rows_from runs step_of turn_of apply class_of rows_at finish bytes
header-only = refl

header-without-crlf : rows_of (bytes "a") ≡ Some (row_of 0 1 (plainly "a" ∷ []) ∷ [])
unfolding rows_from runs step_of turn_of apply class_of rows_at finish bytes
header-without-crlf = refl

empty-row : rows_of (bytes "a\r\n\r\n") ≡ Some (row_of 0 1 (plainly "a" ∷ []) ∷ row_of 3 3 (plainly "" ∷ []) ∷ [])
unfolding rows_from runs step_of turn_of apply class_of rows_at finish bytes
empty-row = refl

empty-header : rows_of (bytes "\r\n") ≡ Some (row_of 0 0 (plainly "" ∷ []) ∷ [])
unfolding rows_from runs step_of turn_of apply class_of rows_at finish bytes
empty-header = refl

-- two lines, the last with and without its CRLF
two-lines : rows_of (bytes "a,b\r\n1,2") ≡ Some
    (row_of 0 3 (plainly "a" ∷ plainly "b" ∷ []) ∷ row_of 5 8 (plainly "1" ∷ plainly "2" ∷ []) ∷ [])
unfolding rows_from runs step_of turn_of apply class_of rows_at finish bytes
two-lines = refl

two-lines-crlf : rows_of (bytes "a,b\r\n1,2\r\n") ≡ Some
    (row_of 0 3 (plainly "a" ∷ plainly "b" ∷ []) ∷ row_of 5 8 (plainly "1" ∷ plainly "2" ∷ []) ∷ [])
unfolding rows_from runs step_of turn_of apply class_of rows_at finish bytes
two-lines-crlf = refl

-- empty cells; rows that differ in their number of cells
lone-comma : rows_of (bytes ",") ≡ Some (row_of 0 1 (plainly "" ∷ plainly "" ∷ []) ∷ [])
unfolding rows_from runs step_of turn_of apply class_of rows_at finish bytes
lone-comma = refl

ragged : rows_of (bytes "a,\r\n1\r\n,,2") ≡ Some
    (row_of 0 2 (plainly "a" ∷ plainly "" ∷ []) ∷ row_of 4 5 (plainly "1" ∷ []) ∷ row_of 7 10
    (plainly "" ∷ plainly "" ∷ plainly "2" ∷ []) ∷ [])
unfolding rows_from runs step_of turn_of apply class_of rows_at finish bytes
ragged = refl

-- in quotes: a comma, a line end, a bare CR and a bare LF, doubled quotes, nothing
quoted-comma : rows_of (bytes "\"a,b\",c") ≡ Some (row_of 0 7 (quotedly "a,b" ∷ plainly "c" ∷ []) ∷ [])
unfolding rows_from runs step_of turn_of apply class_of rows_at finish bytes
quoted-comma = refl

quoted-crlf : rows_of (bytes "\"a\r\nb\"\r\nc") ≡ Some
    (row_of 0 6 (quotedly "a\r\nb" ∷ []) ∷ row_of 8 9 (plainly "c" ∷ []) ∷ [])
unfolding rows_from runs step_of turn_of apply class_of rows_at finish bytes
quoted-crlf = refl

quoted-cr-lf : rows_of (bytes "\"\r\",\"\n\"") ≡ Some (row_of 0 7 (quotedly "\r" ∷ quotedly "\n" ∷ []) ∷ [])
unfolding rows_from runs step_of turn_of apply class_of rows_at finish bytes
quoted-cr-lf = refl

doubled-quotes : rows_of (bytes "\"a\"\"b\",\"\"\"\"") ≡ Some (row_of 0 11 (quotedly "a\"b" ∷ quotedly "\"" ∷ []) ∷ [])
unfolding rows_from runs step_of turn_of apply class_of rows_at finish bytes
doubled-quotes = refl

quoted-nothing : rows_of (bytes "\"\",\"\"\r\n") ≡ Some (row_of 0 5 (quotedly "" ∷ quotedly "" ∷ []) ∷ [])
unfolding rows_from runs step_of turn_of apply class_of rows_at finish bytes
quoted-nothing = refl

quoted-twice-nothing : rows_of (bytes "\"\"") ≡ Some (row_of 0 2 (quotedly "" ∷ []) ∷ [])
unfolding rows_from runs step_of turn_of apply class_of rows_at finish bytes
quoted-twice-nothing = refl

-- 17: a bare CR or LF, a CR at the end, a quote in a cell without quotes
bare-cr : rows_of (bytes "a\rb") ≡ None
unfolding rows_from runs step_of turn_of apply class_of rows_at finish bytes
bare-cr = refl

bare-lf : rows_of (bytes "a\nb") ≡ None
unfolding rows_from runs step_of turn_of apply class_of rows_at finish bytes
bare-lf = refl

first-lf : rows_of (bytes "\n") ≡ None
unfolding rows_from runs step_of turn_of apply class_of rows_at finish bytes
first-lf = refl

last-cr : rows_of (bytes "a\r") ≡ None
unfolding rows_from runs step_of turn_of apply class_of rows_at finish bytes
last-cr = refl

cr-cr-lf : rows_of (bytes "a\r\r\n") ≡ None
unfolding rows_from runs step_of turn_of apply class_of rows_at finish bytes
cr-cr-lf = refl

quote-inside : rows_of (bytes "a\"b") ≡ None
unfolding rows_from runs step_of turn_of apply class_of rows_at finish bytes
quote-inside = refl

-- 17: an unclosed quote, something after a closing quote
lone-quote : rows_of (bytes "\"") ≡ None
unfolding rows_from runs step_of turn_of apply class_of rows_at finish bytes
lone-quote = refl

unclosed : rows_of (bytes "\"a\r\n") ≡ None
unfolding rows_from runs step_of turn_of apply class_of rows_at finish bytes
unclosed = refl

three-quotes : rows_of (bytes "\"\"\"") ≡ None
unfolding rows_from runs step_of turn_of apply class_of rows_at finish bytes
three-quotes = refl

after-the-quote : rows_of (bytes "\"a\"b") ≡ None
unfolding rows_from runs step_of turn_of apply class_of rows_at finish bytes
after-the-quote = refl

space-after-quote : rows_of (bytes "\"a\" ,b") ≡ None
unfolding rows_from runs step_of turn_of apply class_of rows_at finish bytes
space-after-quote = refl

lf-after-quote : rows_of (bytes "\"a\"\n") ≡ None
unfolding rows_from runs step_of turn_of apply class_of rows_at finish bytes
lf-after-quote = refl

-- 17: a tab, in quotes too; %x7F; an error in a later row
tab : rows_of (bytes "a\tb") ≡ None
unfolding rows_from runs step_of turn_of apply class_of rows_at finish bytes
tab = refl

quoted-tab : rows_of (bytes "\"\t\"") ≡ None
unfolding rows_from runs step_of turn_of apply class_of rows_at finish bytes
quoted-tab = refl

delete : rows_of (bytes "\u{7f}") ≡ None
unfolding rows_from runs step_of turn_of apply class_of rows_at finish bytes
delete = refl

quoted-delete : rows_of (bytes "\"\u{7f}\"") ≡ None
unfolding rows_from runs step_of turn_of apply class_of rows_at finish bytes
quoted-delete = refl

later-row : rows_of (bytes "a\r\n1\r\n\"") ≡ None
unfolding rows_from runs step_of turn_of apply class_of rows_at finish bytes
later-row = refl

-- the ends of the ranges of TEXTDATA; bytes from 128 up; no byte
ends-of-textdata : rows_of (bytes " !#+-~") ≡ Some (row_of 0 6 (plainly " !#+-~" ∷ []) ∷ [])
unfolding rows_from runs step_of turn_of apply class_of rows_at finish bytes
ends-of-textdata = refl

high-bytes : rows_of (0x80 ∷ 0xff ∷ []) ≡ Some (row_of 0 2 (unquoted (0x80 ∷ 0xff ∷ []) ∷ []) ∷ [])
unfolding rows_from runs step_of turn_of apply class_of rows_at finish bytes
high-bytes = refl

no_byte : rows_of (0x100 ∷ []) ≡ None
unfolding rows_from runs step_of turn_of apply class_of rows_at finish bytes
no_byte = refl

-- ---- the row that begins at a place
-- at 0, in the middle, at the last line without CRLF, at an empty line; at the end and past it
first-row : line_at (bytes "a,b\r\n1,2") 0 ≡ Whole (span_of 3 5 2)
unfolding line_at line_from line_by last_line turn_of class_of bytes
first-row = refl

second-row : line_at (bytes "a,b\r\n1,2,\r\n") 5 ≡ Whole (span_of 9 11 3)
unfolding line_at line_from line_by last_line turn_of class_of bytes
second-row = refl

last_row : line_at (bytes "a,b\r\n1,2") 5 ≡ Whole (span_of 8 8 2)
unfolding line_at line_from line_by last_line turn_of class_of bytes
last_row = refl

empty-line : line_at (bytes "a\r\n\r\nb") 3 ≡ Whole (span_of 3 5 1)
unfolding line_at line_from line_by last_line turn_of class_of bytes
empty-line = refl

in-the-middle : line_at (bytes "a,b\r\n") 1 ≡ Whole (span_of 3 5 2)
unfolding line_at line_from line_by last_line turn_of class_of bytes
in-the-middle = refl

quoted-line-end : line_at (bytes "\"a\r\n,\"\"\",b\r\nc") 0 ≡ Whole (span_of 10 12 2)
unfolding line_at line_from line_by last_line turn_of class_of bytes
quoted-line-end = refl

at-the-end : line_at (bytes "a\r\n") 3 ≡ End
unfolding line_at line_from line_by last_line turn_of class_of bytes
at-the-end = refl

past_the_end : line_at (bytes "a\r\n") 4 ≡ End
unfolding line_at line_from line_by last_line turn_of class_of bytes
past_the_end = refl

no_text : line_at (bytes "") 0 ≡ End
unfolding line_at line_from line_by last_line turn_of class_of bytes
no_text = refl

-- broken: in quotes that are not closed, after a CR at the end, after a bare CR, at a bare LF, at a quote after text,
-- after a closing quote, at a control byte in quotes; and whole before a row that is broken
not-closed : line_at (bytes "a,\"b\r\n") 0 ≡ Broken 6
unfolding line_at line_from line_by last_line turn_of class_of bytes
not-closed = refl

cr-at-the-end : line_at (bytes "a\r") 0 ≡ Broken 2
unfolding line_at line_from line_by last_line turn_of class_of bytes
cr-at-the-end = refl

after-a-bare-cr : line_at (bytes "a\rb") 0 ≡ Broken 2
unfolding line_at line_from line_by last_line turn_of class_of bytes
after-a-bare-cr = refl

at-a-bare-lf : line_at (bytes "ab\nc") 0 ≡ Broken 2
unfolding line_at line_from line_by last_line turn_of class_of bytes
at-a-bare-lf = refl

quote-after-text : line_at (bytes "ab\"c") 0 ≡ Broken 2
unfolding line_at line_from line_by last_line turn_of class_of bytes
quote-after-text = refl

text-after-quote : line_at (bytes "\"a\"b") 0 ≡ Broken 3
unfolding line_at line_from line_by last_line turn_of class_of bytes
text-after-quote = refl

tab-in-quotes : line_at (bytes "\"a\t\"") 0 ≡ Broken 2
unfolding line_at line_from line_by last_line turn_of class_of bytes
tab-in-quotes = refl

before-the-broken : line_at (bytes "a\r\n\"") 0 ≡ Whole (span_of 1 3 1)
unfolding line_at line_from line_by last_line turn_of class_of bytes
before-the-broken = refl

-- a text without rows, whose first row is whole: only that row begins at 0, and nothing breaks there
header-before-broken : line_at (bytes "a,b\r\n\"") 0 ≡ Whole (span_of 3 5 2)
unfolding line_at line_from line_by last_line turn_of class_of bytes
header-before-broken = refl

only-the-header : (sp : Span) → RowHere (bytes "a,b\r\n\"") 0 sp → sp ≡ span_of 3 5 2
only-the-header sp h = one-row (bytes "a,b\r\n\"") 0 h
    ((line-whole (bytes "a,b\r\n\"") 0 (span_of 3 5 2)).0 header-before-broken)

no-break-there : (p : ℕ) → Breaks (bytes "a,b\r\n\"") 0 p → ⊥
no-break-there p h =
    let e = (line-broken (bytes "a,b\r\n\"") 0 p).1 h in
    let f = header-before-broken in
    let z : ◌≡◌ {A = ℕ} 0 1 = cc in
    omega arith
