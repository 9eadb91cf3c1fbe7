-- row_statement of small texts, computed by the definitions.
use Prim.Native.Nat.{ℕ}
use mathlib.Core.Path.{◌≡◌, refl}
use mathlib.Core.List.{List, [], ◌∷◌, ◌++◌}
use lib.ListN.{replicate}
use Rattle.lists.specs.Lists.{nth, each, all_of, any_of}
use Rattle.text.specs.Text.{bytes, same_text}
use Rattle.utf8.specs.Utf8 as Utf8
use Rattle.schema.specs.Effect.{refusal, writes, fitted}
use Rattle.written.specs.Written.{written, ends_from, u32s}
use Rattle.rfc4180.specs.Csv.{class_of, turn_of, apply, step_of, runs, finish, rows_at, rows_from}
use Rattle.cells.specs.KindOf.{kind_of_cell, number_kind, before_point, after_point}
use Rattle.row_paper.specs.Paper.{column_tokens, paper_of}
use Rattle.row_writer.specs.Writing.{name_fault_of, paper_effect}
use Rattle.rows.specs.Rows.{row_effect, rows_effect, row_statement}

-- 18: no header; no row behind the header; no row 1; fewer cells than the header, and more
empty-text : row_statement (bytes "") (bytes "L") 0 [] ≡ refusal 18 0 0
unfolding row_statement rows_effect rows_from runs rows_at finish bytes
empty-text = refl

header-alone : row_statement (bytes "a\r\n") (bytes "L") 0 [] ≡ refusal 18 0 0
unfolding row_statement rows_effect row_effect nth rows_from runs step_of turn_of apply class_of rows_at finish bytes
header-alone = refl

no-row-1 : row_statement (bytes "a\r\n1") (bytes "L") 1 [] ≡ refusal 18 0 0
unfolding row_statement rows_effect row_effect nth rows_from runs step_of turn_of apply class_of rows_at finish bytes
no-row-1 = refl

too_few : row_statement (bytes "a,b\r\n1") (bytes "L") 0 [] ≡ refusal 18 0 0
unfolding row_statement rows_effect row_effect nth rows_from runs step_of turn_of apply class_of rows_at finish bytes
too_few = refl

too_many : row_statement (bytes "a\r\n1,2") (bytes "L") 0 [] ≡ refusal 18 0 0
unfolding row_statement rows_effect row_effect nth rows_from runs step_of turn_of apply class_of rows_at finish bytes
too_many = refl

-- 17 before 18, in a row behind the one asked for too
quote-in-cell : row_statement (bytes "a\"") (bytes "L") 0 [] ≡ refusal 17 0 0
unfolding row_statement rows_from runs step_of turn_of apply class_of rows_at finish bytes
quote-in-cell = refl

broken-later : row_statement (bytes "a\r\n1\r\n\"") (bytes "L") 0 [] ≡ refusal 17 0 0
unfolding row_statement rows_from runs step_of turn_of apply class_of rows_at finish bytes
broken-later = refl

-- 18 before 5
ragged-not-utf8 : row_statement (bytes "a,b\r\n1") (0xff ∷ []) 0 [] ≡ refusal 18 0 0
unfolding row_statement rows_effect row_effect nth rows_from runs step_of turn_of apply class_of rows_at finish bytes
ragged-not-utf8 = refl

-- 5 for a header that is no UTF-8, before 16; the label is name 0
abbrev not-utf8 : List ℕ
not-utf8 = 0xff ∷ bytes "\r\n1"

header-not-utf8 : row_statement not-utf8 (bytes "L") 0 [] ≡ refusal 5 1 1
unfolding row_statement rows_effect row_effect nth paper_effect name_fault_of paper_of Utf8.utf8 Utf8.goes_on Utf8.step_of
    Utf8.lead_of rows_from runs step_of turn_of apply class_of rows_at finish bytes
header-not-utf8 = refl

label-not-utf8 : row_statement not-utf8 (0xff ∷ []) 0 [] ≡ refusal 5 1 0
unfolding row_statement rows_effect row_effect nth paper_effect name_fault_of paper_of Utf8.utf8 Utf8.goes_on Utf8.step_of
    Utf8.lead_of rows_from runs step_of turn_of apply class_of rows_at finish bytes
label-not-utf8 = refl

-- MERGE (:L {a: 1, b: "x"}), of a row from 5 to 8: the sizes, 13 kinds, 13 values, 3 name ends, and the text, 92 bytes
abbrev sheet : List ℕ
sheet =
    u32s (13 ∷ 3 ∷ 3 ∷ []) ++ (90 ∷ 72 ∷ 60 ∷ 61 ∷ 62 ∷ 51 ∷ 51 ∷ 50 ∷ 14 ∷ 50 ∷ 3 ∷ 50 ∷ 5 ∷ [])
    ++ u32s (1 ∷ 0 ∷ 1 ∷ 1 ∷ 3 ∷ 5 ∷ 8 ∷ 0 ∷ 2 ∷ 1 ∷ 0 ∷ 2 ∷ 0 ∷ []) ++ u32s (1 ∷ 2 ∷ 3 ∷ []) ++ bytes "Lab"

accepted-row : row_statement (bytes "a,b\r\n1,x") (bytes "L") 0 (replicate 92 0) ≡ writes 92 sheet
unfolding row_statement rows_effect row_effect nth paper_effect name_fault_of paper_of column_tokens fitted written ends_from
    each kind_of_cell number_kind before_point after_point all_of any_of same_text Utf8.utf8 Utf8.goes_on Utf8.step_of
    Utf8.lead_of rows_from runs step_of turn_of apply class_of rows_at finish bytes
accepted-row = refl

-- 16: one place too few
no_room : row_statement (bytes "a,b\r\n1,x") (bytes "L") 0 (replicate 91 0) ≡ refusal 16 0 0
unfolding row_statement rows_effect row_effect nth paper_effect name_fault_of paper_of column_tokens fitted written ends_from
    each kind_of_cell number_kind before_point after_point all_of any_of same_text Utf8.utf8 Utf8.goes_on Utf8.step_of
    Utf8.lead_of rows_from runs step_of turn_of apply class_of rows_at finish bytes
no_room = refl
