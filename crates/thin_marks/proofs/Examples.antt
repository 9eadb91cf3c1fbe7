-- Sheets made thin, computed by the definitions.
use mathlib.Core.Path.{◌≡◌, refl}
use mathlib.Core.List.{List, [], ◌∷◌}
use Prim.Native.Nat.{ℕ}
use lib.ListN.{replicate}
use Rattle.lists.specs.Lists.{table, first, any_of, each}
use Rattle.utf8.specs.Utf8.{lead_of, step_of, goes_on, utf8}
use Rattle.frame.specs.Sheet.{sheet_of, in_range, end_of, start_of, part_of, end_fault, name_fault, sized_fault, frame_fault}
use Rattle.frame.specs.Doc.{Doc, doc_as, doc_of}
use Rattle.frame.proofs.Tokens.{◌of◌}
use Rattle.rules.specs.Rules.{takes, many, pairs, rules, most_of, opens}
use Rattle.grammar.specs.Machine.{opened, bounded, allowed, judged, run, grammar_fault}
use Rattle.schema.specs.Declarations.{statement_fault, schema_fault}
use Rattle.schema.specs.Effect.{refusal, writes, fitted, after_statement, after_schema}
use Rattle.written.specs.Written.{ends_from, written}
use Rattle.thinned.specs.Thinned.{thinned, thin_of}
use Rattle.thin.specs.Thin.{thin_effect, thin_statement, thin_schema}

-- CALL p() at 3 to 7, as a sheet with u32 ends: 42 bytes
abbrev call : Doc
call = record { tokens = 90 of 1 ∷ 85 of 0 ∷ 51 of 3 ∷ 51 of 7 ∷ 50 of 0 ∷ []; names = (112 ∷ []) ∷ [] }

-- and thin: 40 bytes
abbrev thin : List ℕ
thin =
    5 ∷ 0 ∷ 0 ∷ 128 ∷ 1 ∷ 0 ∷ 0 ∷ 0 ∷ 1 ∷ 0 ∷ 0 ∷ 0 ∷ 90 ∷ 85 ∷ 51 ∷ 51 ∷ 50 ∷ 1 ∷ 0 ∷ 0 ∷ 0 ∷ 0 ∷ 0 ∷ 0 ∷ 0 ∷ 3 ∷ 0
    ∷ 0 ∷ 0 ∷ 7 ∷ 0 ∷ 0 ∷ 0 ∷ 0 ∷ 0 ∷ 0 ∷ 0 ∷ 1 ∷ 0 ∷ 112 ∷ []

-- 40 places suffice, 39 do not; a thin sheet is copied
call-thin : thin_statement (written call) (replicate 40 0) ≡ writes 40 thin
unfolding thin_statement thin_effect fitted after_statement thin_of thinned written ends_from each first any_of table lead_of
    step_of goes_on utf8 sheet_of in_range end_of start_of part_of end_fault name_fault sized_fault frame_fault doc_as doc_of takes
    many pairs rules most_of opens opened bounded allowed judged run grammar_fault statement_fault
call-thin = refl

call-no-room : thin_statement (written call) (replicate 39 0) ≡ refusal 16 0 0
unfolding thin_statement thin_effect fitted after_statement thin_of thinned written ends_from each first any_of table lead_of
    step_of goes_on utf8 sheet_of in_range end_of start_of part_of end_fault name_fault sized_fault frame_fault doc_as doc_of takes
    many pairs rules most_of opens opened bounded allowed judged run grammar_fault statement_fault
call-no-room = refl

call-copied : thin_statement thin (replicate 40 0) ≡ writes 40 thin
unfolding thin_statement thin_effect fitted after_statement thin_of first any_of table lead_of step_of goes_on utf8 sheet_of in_range
    end_of start_of part_of end_fault name_fault sized_fault frame_fault doc_as doc_of takes many pairs rules most_of opens opened
    bounded allowed judged run grammar_fault statement_fault
call-copied = refl

-- a statement is no schema, sheet 2; and the refusal comes before 16
call-no-schema : thin_schema (written call) [] ≡ refusal 6 2 0
unfolding thin_schema after_schema written ends_from each first any_of table lead_of step_of goes_on utf8 sheet_of in_range end_of
    start_of part_of end_fault name_fault sized_fault frame_fault doc_as doc_of takes many pairs rules most_of opens opened bounded
    allowed judged run grammar_fault schema_fault
call-no-schema = refl
