-- The starred cases of document 01 as one table, proved as a whole by computation against the definitions, from the
-- sheets' bytes to what the check does.
use Prim.Native.Nat.{ℕ}
use mathlib.Core.Path.{◌≡◌, refl}
use mathlib.Core.List.{List, [], ◌∷◌, map}
use lib.ListN.{length, replicate}
use Rattle.lists.specs.Lists.{each, first, any_of, all_of, table}
use Rattle.text.specs.Text.{same_text, bytes}
use Rattle.utf8.specs.Utf8.{lead_of, step_of, goes_on, utf8}
use Rattle.frame.specs.Sheet.{sheet_of, in_range, end_of, start_of, part_of, end_fault, name_fault, sized_fault, frame_fault}
use Rattle.frame.specs.Doc.{doc_as, doc_of}
use Rattle.frame.proofs.Tokens.{◌of◌}
use Rattle.rules.specs.Rules.{takes, many, pairs, rules, most_of, opens, arity}
use Rattle.grammar.specs.Machine.{opened, bounded, allowed, judged, run, grammar_fault}
use Rattle.grammar.specs.Tree.{tree_of, pass, past, enclosing}
use Rattle.types.specs.Types.{literal_in, scalars, compatible, compatible_at}
use Rattle.schema.specs.Declarations.{decls_of, again, equal_apart, declared_fault, statement_fault, schema_fault}
use Rattle.schema.specs.Effect.{Effect, refusal, writes, after_statement, after_schema}
use Rattle.provider.specs.Schema.{items_of, schema_of, property_of, apart_among}
use Rattle.breach.specs.Breach.{clause_among, holder}
use Rattle.breach.specs.Listing.{name_item, node_item, set_item, key_item, element_items, early, keyless, late, clause_items, listed}
use Rattle.breach.proofs.Sheets.{ends, sheet, empty, apart, two_labels, label_a, merge_a, site_is, site_of, keyed_apart, nested, repeated}
use Rattle.schema_aware.specs.Check.{items_effect, check_effect}

-- what the check does with two sheets and a list that has room for two items
abbrev pub result_of : List ℕ → List ℕ → Effect
result_of st sc = check_effect st sc (replicate 14 0)

-- two sheets, and what is to come of them
pub record Entry : Type 0 where
  pub statement : List ℕ
  pub schema : List ℕ
  pub result : Effect

abbrev pub case : List ℕ → List ℕ → Effect → Entry
case st sc r = record { statement = st; schema = sc; result = r }

-- no item; one item, for a value of a wrong type
abbrev pub nothing : Effect
nothing = writes 0 []

abbrev pub wrong_type : Effect
wrong_type = writes 1 (3004 ∷ 6 ∷ 37 ∷ 4 ∷ 2 ∷ 0 ∷ 0 ∷ [])

-- ---- the table
pub starred : List Entry
starred =
    -- Statement with no clause, 17 bytes: empty list
    case (sheet (90 of 0 ∷ []) []) empty nothing
    -- 11 bytes: 1
    ∷ case (replicate 11 0) empty (refusal 1 1 0)
    -- T = 0: 2
    ∷ case (sheet [] []) empty (refusal 2 1 0)
    -- Match (:A:B), Apart: nothing
    ∷ case (two_labels 70) apart nothing
    -- Create: E4023
    ∷ case (two_labels 71) apart (writes 1 (4023 ∷ 3 ∷ 9 ∷ 4 ∷ 1 ∷ 0 ∷ 0 ∷ []))
    -- Set n:Zzz: nothing
    ∷ case (sheet (90 of 1 ∷ 77 of 1 ∷ 82 of 1 ∷ 50 of 0 ∷ []) ("Zzz" ∷ [])) apart nothing
    -- Tuple () backs {}
    ∷ case (merge_a (14 of 0 ∷ [])) (label_a 1 (111 of 0 ∷ [])) nothing
    -- Tuple (site), {}: E3009
    ∷ case (merge_a (14 of 0 ∷ [])) (label_a 1 (111 of 1 ∷ 50 of 1 ∷ [])) (writes 1 (3009 ∷ 6 ∷ 37 ∷ 4 ∷ 3 ∷ 0 ∷ 0 ∷ []))
    -- No tuple: nothing
    ∷ case (merge_a (14 of 0 ∷ [])) (label_a 0 []) nothing
    -- Int for Float: E3004
    ∷ case (site_of (3 of 0 ∷ [])) (site_is (122 of 0)) wrong_type
    -- [] for List(Int): nothing
    ∷ case (site_of (13 of 0 ∷ [])) (site_is (121 of 1)) nothing
    -- [[1]] for List(Int): E3004
    ∷ case (site_of (13 of 1 ∷ 13 of 1 ∷ 3 of 0 ∷ [])) (site_is (121 of 1)) wrong_type
    -- [v, 1] for Int, v a Var: nothing
    ∷ case (site_of (13 of 2 ∷ 6 of 0 ∷ 3 of 0 ∷ [])) (site_is (121 of 0)) nothing
    ∷ []

-- every case comes to the result that the table says
pub starred-hold : map (λ c. result_of c.statement c.schema) starred ≡ map (λ c. c.result) starred
unfolding starred bytes ends each first any_of all_of table same_text lead_of step_of goes_on utf8 sheet_of in_range end_of start_of part_of end_fault name_fault sized_fault frame_fault doc_as doc_of takes many pairs rules most_of opens arity opened bounded allowed judged run grammar_fault tree_of pass past enclosing literal_in scalars compatible compatible_at decls_of items_of schema_of property_of apart_among again equal_apart declared_fault statement_fault schema_fault clause_among holder name_item node_item set_item key_item element_items early keyless late clause_items listed after_statement after_schema items_effect check_effect
starred-hold = refl

-- the first has 17 bytes, as document 01 says
pub no-clause-bytes : length (sheet (90 of 0 ∷ []) []) ≡ 17
unfolding ends each
no-clause-bytes = refl

-- ---- "Looks fine, marks wrong": a case that tells each such fault (Int for Float is starred)
pub looks_fine : List Entry
looks_fine =
    -- comparing name numbers: Match (:A:Zzz), where Zzz has the number that A has in the schema
    case (sheet (90 of 1 ∷ 70 of 0 ∷ 60 of 1 ∷ 61 of 1 ∷ 62 of 4 ∷ 51 of 3 ∷ 51 of 9 ∷ 50 of 1 ∷ 50 of 0 ∷ [])
    ("Zzz" ∷ "A" ∷ [])) apart
    (writes 1 (3001 ∷ 3 ∷ 9 ∷ 4 ∷ 0 ∷ 1 ∷ 0 ∷ []))
    -- checking merge keys before the pattern ends: Merge (:A {}) and then (:Zzz) in one Part
    ∷ case
    (sheet (90 of 1 ∷ 72 of 0 ∷ 60 of 1 ∷ 61 of 2 ∷ 62 of 3 ∷ 51 of 6 ∷ 51 of 37 ∷ 50 of 0 ∷ 14 of 0 ∷ 62 of 2 ∷ 51 of
    40 ∷ 51 of 46 ∷ 50 of 1 ∷ [])
    ("A" ∷ "Zzz" ∷ []))
    keyed_apart (writes 2 (3001 ∷ 40 ∷ 46 ∷ 9 ∷ 0 ∷ 0 ∷ 0 ∷ 3009 ∷ 6 ∷ 37 ∷ 4 ∷ 3 ∷ 0 ∷ 0 ∷ []))
    -- descending into nested patterns as creating
    ∷ case nested keyed_apart (writes 1 (3001 ∷ 12 ∷ 20 ∷ 13 ∷ 0 ∷ 2 ∷ 0 ∷ []))
    -- merging repeated keys in stage 2: site is Int
    ∷ case repeated (site_is (121 of 0)) (writes 2 (3004 ∷ 6 ∷ 37 ∷ 4 ∷ 2 ∷ 0 ∷ 0 ∷ 3004 ∷ 6 ∷ 37 ∷ 4 ∷ 2 ∷ 2 ∷ 0 ∷ []))
    ∷ []

pub looks-fine-hold : map (λ c. result_of c.statement c.schema) looks_fine ≡ map (λ c. c.result) looks_fine
unfolding looks_fine bytes ends each first any_of all_of table same_text lead_of step_of goes_on utf8 sheet_of in_range end_of start_of part_of end_fault name_fault sized_fault frame_fault doc_as doc_of takes many pairs rules most_of opens arity opened bounded allowed judged run grammar_fault tree_of pass past enclosing literal_in scalars compatible compatible_at decls_of items_of schema_of property_of apart_among again equal_apart declared_fault statement_fault schema_fault clause_among holder name_item node_item set_item key_item element_items early keyless late clause_items listed after_statement after_schema items_effect check_effect
looks-fine-hold = refl
