-- Two statements joined, computed by the definitions.
use mathlib.Core.Path.{◌≡◌, refl}
use mathlib.Core.List.{List, [], ◌∷◌}
use Prim.Native.Nat.{ℕ}
use Rattle.lists.specs.Lists.{table, first, any_of, each}
use Rattle.utf8.specs.Utf8.{lead_of, step_of, goes_on, utf8}
use Rattle.frame.specs.Sheet.{sheet_of, in_range, end_of, start_of, part_of, end_fault, name_fault, sized_fault, frame_fault}
use Rattle.frame.specs.Doc.{Doc, doc_as, doc_of}
use Rattle.frame.proofs.Tokens.{◌of◌}
use Rattle.rules.specs.Rules.{takes, many, pairs, rules, most_of, opens, arity}
use Rattle.grammar.specs.Machine.{opened, bounded, allowed, judged, run, grammar_fault}
use Rattle.grammar.specs.Tree.{tree_of, pass, past}
use Rattle.breach.specs.Breach.{item, clause_among}
use Rattle.breach.specs.Listing.{early, late, clause_items, listed}
use Rattle.schema.specs.Declarations.{statement_fault}
use Rattle.schema.specs.Effect.{refusal, writes, fitted}
use Rattle.written.specs.Written.{ends_from, written}
use Rattle.join.specs.Join.{joined, join_effect, join_statements}

-- CALL p() at 3 to 7
abbrev call : Doc
call = record { tokens = 90 of 1 ∷ 85 of 0 ∷ 51 of 3 ∷ 51 of 7 ∷ 50 of 0 ∷ []; names = (112 ∷ []) ∷ [] }

-- RETURN f()
abbrev return : Doc
return = record { tokens = 90 of 1 ∷ 75 of 1 ∷ 16 of 0 ∷ 50 of 0 ∷ []; names = (102 ∷ []) ∷ [] }

-- no clauses
abbrev nothing : Doc
nothing = record { tokens = 90 of 0 ∷ []; names = [] }

-- no clauses, and a name that no token uses
abbrev unused : Doc
unused = record { tokens = 90 of 0 ∷ []; names = (117 ∷ []) ∷ [] }

-- the second's Name, number 0, is number 1 after the first's, and Numbers stand
call-then-return : joined call return ≡ record {
  tokens = 90 of 2 ∷ 85 of 0 ∷ 51 of 3 ∷ 51 of 7 ∷ 50 of 0 ∷ 75 of 1 ∷ 16 of 0 ∷ 50 of 1 ∷ [];
  names = (112 ∷ []) ∷ (102 ∷ []) ∷ [];
}
unfolding joined
call-then-return = refl

-- with a schema of no declarations, p at token 1 of clause 0, and f, which was token 2 of clause 0, at token 6 of clause 1
pub unknown-both : listed (tree_of (joined call return)) (record {
  labels = [];
  rel_types = [];
  parameters = [];
  functions = [];
  procedures = [];
  aparts = [];
}) ≡ item 3008 3 7 1 0 0 0 ∷ item 3006 0 0 6 0 0 1 ∷ []
unfolding joined each clause_among tree_of pass past rules opens arity many pairs first any_of table early late clause_items listed
unknown-both = refl

-- the other way round
return-then-call : joined return call ≡ record {
  tokens = 90 of 2 ∷ 75 of 1 ∷ 16 of 0 ∷ 50 of 0 ∷ 85 of 0 ∷ 51 of 3 ∷ 51 of 7 ∷ 50 of 1 ∷ [];
  names = (102 ∷ []) ∷ (112 ∷ []) ∷ [];
}
unfolding joined
return-then-call = refl

-- no clauses in the first
empty-first : joined nothing call ≡ call
unfolding joined
empty-first = refl

-- no clauses in the second
empty-second : joined call nothing ≡ call
unfolding joined
empty-second = refl

-- no clauses in either
none_at_all : joined nothing nothing ≡ nothing
unfolding joined
none_at_all = refl

-- names stay, used or not
unused-first : joined unused call ≡ record {
  tokens = 90 of 1 ∷ 85 of 0 ∷ 51 of 3 ∷ 51 of 7 ∷ 50 of 1 ∷ [];
  names = (117 ∷ []) ∷ (112 ∷ []) ∷ [];
}
unfolding joined
unused-first = refl

-- ---- from bytes
-- a lent buffer of n bytes
abbrev lent : ℕ → List ℕ
lent n = table (λ k. 7) 0 n

-- 62 bytes are written, where there is room for them
sheets-joined : join_statements (written call) (written return) (lent 62) ≡ writes 62 (written (joined call return))
unfolding join_statements join_effect joined fitted written ends_from each first any_of table lead_of step_of goes_on utf8
    sheet_of in_range end_of start_of part_of end_fault name_fault sized_fault frame_fault doc_as doc_of takes many pairs rules
    most_of opens opened bounded allowed judged run grammar_fault statement_fault
sheets-joined = refl

-- 16 where there is not
no_room : join_statements (written call) (written return) (lent 61) ≡ refusal 16 0 0
unfolding join_statements join_effect joined fitted written ends_from each first any_of table lead_of step_of goes_on utf8
    sheet_of in_range end_of start_of part_of end_fault name_fault sized_fault frame_fault doc_as doc_of takes many pairs rules
    most_of opens opened bounded allowed judged run grammar_fault statement_fault
no_room = refl

-- 1 of the first sheet, which is sheet 1
no-first : join_statements [] [] [] ≡ refusal 1 1 0
unfolding join_statements statement_fault frame_fault
no-first = refl

-- 1 of the second sheet, which is sheet 2
no_second : join_statements (written call) [] [] ≡ refusal 1 2 0
unfolding join_statements written ends_from each first any_of table lead_of step_of goes_on utf8 sheet_of in_range end_of
    start_of part_of end_fault name_fault sized_fault frame_fault doc_as doc_of takes many pairs rules most_of opens opened
    bounded allowed judged run grammar_fault statement_fault
no_second = refl
