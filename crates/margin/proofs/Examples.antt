-- Worked examples, by computation.
use mathlib.Core.Path.{◌≡◌, refl}
use mathlib.Core.List.{[], ◌∷◌}
use lib.ListN.{replicate}
use Rattle.lists.specs.Lists.{each, first, any_of, all_of, table}
use Rattle.text.specs.Text.{same_text, order_of, bytes}
use Rattle.utf8.specs.Utf8.{lead_of, step_of, goes_on, utf8}
use Rattle.frame.specs.Sheet.{sheet_of, in_range, end_of, start_of, part_of, end_fault, name_fault, sized_fault, frame_fault}
use Rattle.frame.specs.Doc.{doc_as, doc_of}
use Rattle.rules.specs.Rules.{takes, many, pairs, rules, most_of, opens, arity}
use Rattle.grammar.specs.Machine.{opened, bounded, allowed, judged, run, grammar_fault}
use Rattle.grammar.specs.Tree.{tree_of, pass, past, enclosing}
use Rattle.types.specs.Types.{literal_in, scalars, compatible, compatible_at}
use Rattle.schema.specs.Declarations.{decls_of, again, equal_apart, declared_fault, statement_fault, schema_fault}
use Rattle.schema.specs.Effect.{refusal, writes, after_statement, after_schema}
use Rattle.provider.specs.Schema.{items_of, schema_of, property_of, apart_among}
use Rattle.in_order.specs.InOrder.{before, insert, sorted}
use Rattle.breach.specs.Breach.{clause_among, item, holder}
use Rattle.breach.specs.Listing.{name_item, node_item, set_item, key_item, element_items, early, keyless, late, clause_items, listed}
use Rattle.breach.proofs.Sheets.{ends, apart, backwards}
use Rattle.schema_aware.specs.Check.{items_effect, check_effect}
use Rattle.margin.specs.Margin.{margin_of, margin_effect}

-- what stands first in the source text comes first; of equal starts the one that the list has first, whatever its code
-- and its end; function calls, whose start is 0, before all
pub from-left-to-right : margin_of (item 3003 8 30 9 2 0 0 ∷ item 3001 8 12 14 0 0 0 ∷ item 3006 0 0 20 0 0 1 ∷ item 3001 3 40 23 0 0 1 ∷ [])
    ≡ item 3006 0 0 20 0 0 1 ∷ item 3001 3 40 23 0 0 1 ∷ item 3003 8 30 9 2 0 0 ∷ item 3001 8 12 14 0 0 0 ∷ []
unfolding sorted insert before order_of
from-left-to-right = refl

-- from the sheets' bytes: a Node in each of two clauses, the later one standing first in the source text. Two items
-- take 14 places, and 13 are too few, for the check too
pub two-in-fourteen : margin_effect backwards apart (replicate 14 0) ∷ margin_effect backwards apart (replicate 13 0)
    ∷ check_effect backwards apart (replicate 14 0) ∷ check_effect backwards apart (replicate 13 0) ∷ []
    ≡ writes 2 (4023 ∷ 3 ∷ 9 ∷ 12 ∷ 1 ∷ 0 ∷ 1 ∷ 4023 ∷ 23 ∷ 29 ∷ 4 ∷ 1 ∷ 0 ∷ 0 ∷ []) ∷ refusal 14 0 0
    ∷ writes 2 (4023 ∷ 23 ∷ 29 ∷ 4 ∷ 1 ∷ 0 ∷ 0 ∷ 4023 ∷ 3 ∷ 9 ∷ 12 ∷ 1 ∷ 0 ∷ 1 ∷ []) ∷ refusal 14 0 0 ∷ []
unfolding bytes ends each first any_of all_of table same_text lead_of step_of goes_on utf8 sheet_of in_range end_of start_of part_of end_fault name_fault sized_fault frame_fault doc_as doc_of takes many pairs rules most_of opens arity opened bounded allowed judged run grammar_fault tree_of pass past enclosing literal_in scalars compatible compatible_at decls_of items_of schema_of property_of apart_among again equal_apart declared_fault statement_fault schema_fault clause_among holder name_item node_item set_item key_item element_items early keyless late clause_items listed after_statement after_schema items_effect check_effect sorted insert before order_of margin_effect
two-in-fourteen = refl
