-- Lists of small sheets, from their bytes, by computation: each tells a definition apart that both the breaches and the
-- list go by.
use Prim.Native.Nat.{ℕ}
use mathlib.Core.Path.{◌≡◌, refl}
use mathlib.Core.List.{List, [], ◌∷◌, map}
use Rattle.lists.specs.Lists.{each, first, any_of, all_of, table}
use Rattle.text.specs.Text.{same_text, bytes}
use Rattle.frame.specs.Sheet.{sheet_of, end_of, start_of, part_of}
use Rattle.frame.specs.Doc.{doc_as, doc_of}
use Rattle.frame.proofs.Tokens.{◌of◌}
use Rattle.rules.specs.Rules.{many, pairs, rules, opens, arity}
use Rattle.grammar.specs.Tree.{tree_of, pass, past, enclosing}
use Rattle.types.specs.Types.{literal_in, scalars, compatible, compatible_at}
use Rattle.schema.specs.Declarations.{decls_of}
use Rattle.provider.specs.Schema.{items_of, schema_of, property_of, apart_among}
use Rattle.breach.specs.Breach.{numbers, clause_among, statement_in, schema_in, holder}
use Rattle.breach.specs.Listing.{name_item, node_item, set_item, key_item, element_items, early, keyless, late, clause_items, listed}
use Rattle.breach.proofs.Sheets.{ends, apart, two_labels, backwards, label_a, merge_a, site_is, keyed_apart, nested, repeated}

-- the items of two sheets, seven numbers each
abbrev items_in : List ℕ → List ℕ → List (List ℕ)
items_in st sc = map numbers (listed (statement_in st) (schema_in sc))

-- in a Create, a Node of two labels that are Apart; a Tuple of no name, and a Map of no key; a pattern in a Merge's
-- expression; a key three times, with values of its own; the first Node in each of two clauses
pub small-lists : items_in (two_labels 71) apart ∷ items_in (merge_a (14 of 0 ∷ [])) (label_a 1 (111 of 0 ∷ []))
    ∷ items_in nested keyed_apart ∷ items_in repeated (site_is (121 of 0)) ∷ items_in backwards apart ∷ []
    ≡ ((4023 ∷ 3 ∷ 9 ∷ 4 ∷ 1 ∷ 0 ∷ 0 ∷ []) ∷ []) ∷ [] ∷ ((3001 ∷ 12 ∷ 20 ∷ 13 ∷ 0 ∷ 2 ∷ 0 ∷ []) ∷ [])
    ∷ ((3004 ∷ 6 ∷ 37 ∷ 4 ∷ 2 ∷ 0 ∷ 0 ∷ []) ∷ (3004 ∷ 6 ∷ 37 ∷ 4 ∷ 2 ∷ 2 ∷ 0 ∷ []) ∷ [])
    ∷ ((4023 ∷ 23 ∷ 29 ∷ 4 ∷ 1 ∷ 0 ∷ 0 ∷ []) ∷ (4023 ∷ 3 ∷ 9 ∷ 12 ∷ 1 ∷ 0 ∷ 1 ∷ []) ∷ []) ∷ []
unfolding clause_among bytes ends each first any_of all_of table same_text sheet_of end_of start_of part_of doc_as doc_of many pairs rules opens arity tree_of pass past enclosing literal_in scalars compatible compatible_at decls_of items_of schema_of property_of apart_among holder name_item node_item set_item key_item element_items early keyless late clause_items listed
small-lists = refl
