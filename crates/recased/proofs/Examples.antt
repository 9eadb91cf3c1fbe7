-- Names in either case, from the sheets' bytes, by computation.
use mathlib.Core.Path.{◌≡◌, refl}
use mathlib.Core.List.{List, [], ◌∷◌, map}
use Prim.Native.Nat.{ℕ, zero, suc, ◌<◌}
use native.Mathlib.Omega.{arith}
use Prim.Native.String.{String}
use Rattle.lists.specs.Lists.{each, first, any_of, table}
use Rattle.text.specs.Text.{same_text, bytes}
use Rattle.text.specs.Folded.{lower, folded}
use Rattle.frame.specs.Sheet.{sheet_of, end_of, start_of, part_of}
use Rattle.frame.specs.Doc.{doc_as, doc_of}
use Rattle.frame.proofs.Tokens.{◌of◌}
use Rattle.rules.specs.Kinds as Kind
use Rattle.rules.specs.Rules.{many, pairs, rules, opens, arity}
use Rattle.grammar.specs.Tree.{tree_of, pass, past, enclosing}
use Rattle.types.specs.Types.{literal_in}
use Rattle.schema.specs.Declarations.{decls_of}
use Rattle.provider.specs.Schema.{items_of, schema_of, property_of}
use Rattle.breach.specs.Breach.{numbers, clause_among, statement_in, schema_in, holder}
use Rattle.breach.specs.Listing.{name_item, node_item, key_item, element_items, early, late, clause_items, listed}
use Rattle.breach.proofs.Sheets.{ends, sheet}
use Rattle.recased.specs.Recased.{Recased, RecasedSchema}

-- RETURN f(v) for a name f
abbrev calling : String → List ℕ
calling f =
    sheet (Kind.Statement of 1 ∷ Kind.Return of 1 ∷ Kind.FunctionCall of 1 ∷ Kind.Name of 0 ∷ Kind.Var of 0 ∷ [])
    (f ∷ [])

-- CALL p() at 3 to 7 for a name p
abbrev invoking : String → List ℕ
invoking p =
    sheet (Kind.Statement of 1 ∷ Kind.ProcedureCall of 0 ∷ Kind.Number of 3 ∷ Kind.Number of 7 ∷ Kind.Name of 0 ∷ [])
    (p ∷ [])

-- MATCH (:l) at 3 to 7 for a name l
abbrev matching : String → List ℕ
matching l =
    sheet (Kind.Statement of 1 ∷ Kind.Match of 0 ∷ Kind.Pattern of 1 ∷ Kind.Part of 1 ∷ Kind.Node of 2
    ∷ Kind.Number of 3 ∷ Kind.Number of 7 ∷ Kind.Name of 0 ∷ [])
    (l ∷ [])

-- a schema of one declaration, by its kind, its value and its name
abbrev declaring : ℕ → ℕ → String → List ℕ
declaring k v n = sheet (Kind.Schema of 1 ∷ k of v ∷ Kind.Name of 0 ∷ []) (n ∷ [])

-- a function of one parameter: its value is twice that
abbrev function : String → List ℕ
function n = declaring Kind.Function 2 n

-- MATCH (:A {k: v}) at 3 to 7 for a name k
abbrev keyed : String → List ℕ
keyed k =
    sheet (Kind.Statement of 1 ∷ Kind.Match of 0 ∷ Kind.Pattern of 1 ∷ Kind.Part of 1 ∷ Kind.Node of 3
    ∷ Kind.Number of 3 ∷ Kind.Number of 7 ∷ Kind.Name of 0 ∷ Kind.Map of 1 ∷ Kind.Name of 1 ∷ Kind.Var of 0 ∷ [])
    ("A" ∷ k ∷ [])

-- a schema of the label A with one property, by its name
abbrev property : String → List ℕ
property k =
    sheet (Kind.Schema of 1 ∷ Kind.Label of 1 ∷ Kind.Name of 0 ∷ Kind.Property of 0 ∷ Kind.Name of 1
    ∷ Kind.AnyType of 0 ∷ [])
    ("A" ∷ k ∷ [])

-- the items of a statement and a schema, seven numbers each
abbrev items_in : List ℕ → List ℕ → List (List ℕ)
items_in st sc = map numbers (listed (statement_in st) (schema_in sc))

-- an unknown function at token 2
abbrev unknown : List (List ℕ)
unknown = (3006 ∷ 0 ∷ 0 ∷ 2 ∷ 0 ∷ 0 ∷ 0 ∷ []) ∷ []

-- COUNT, count and cOuNt where count or COUNT is declared draw nothing
pub in-any-case : items_in (calling "COUNT") (function "count") ∷ items_in (calling "count") (function "COUNT")
    ∷ items_in (calling "cOuNt") (function "CoUnT") ∷ [] ≡ [] ∷ [] ∷ [] ∷ []
unfolding clause_among bytes ends each first any_of table same_text lower sheet_of end_of start_of part_of doc_as doc_of many pairs rules opens arity tree_of pass past decls_of items_of schema_of early late clause_items listed
in-any-case = refl

-- RETURN COUNT(), where count of one parameter is declared before COUNT of none: the first counts
pub first-of-two : items_in
    (sheet (Kind.Statement of 1 ∷ Kind.Return of 1 ∷ Kind.FunctionCall of 0 ∷ Kind.Name of 0 ∷ []) ("COUNT" ∷ []))
    (sheet (Kind.Schema of 2 ∷ Kind.Function of 2 ∷ Kind.Name of 0 ∷ Kind.Function of 0 ∷ Kind.Name of 1 ∷ [])
    ("count" ∷ "COUNT" ∷ []))
    ≡ (3007 ∷ 0 ∷ 0 ∷ 2 ∷ 0 ∷ 0 ∷ 0 ∷ []) ∷ []
unfolding clause_among bytes ends each first any_of table same_text lower sheet_of end_of start_of part_of doc_as doc_of many pairs rules opens arity tree_of pass past decls_of items_of schema_of early late clause_items listed
first-of-two = refl

-- Only the 26 letters are alike: @ and [ stand in front of A and behind Z, and 32 above them are no letters. A name
-- that is longer is another
pub letters-alone : items_in (calling "@") (function "`") ∷ items_in (calling "[") (function "{")
    ∷ items_in (calling "COUNTS") (function "count") ∷ [] ≡ unknown ∷ unknown ∷ unknown ∷ []
unfolding clause_among bytes ends each first any_of table same_text lower sheet_of end_of start_of part_of doc_as doc_of many pairs rules opens arity tree_of pass past decls_of items_of schema_of early late clause_items listed
letters-alone = refl

-- Procedures, labels and keys keep exact bytes
pub exact_bytes : items_in (invoking "P") (declaring Kind.Procedure 0 "p")
    ∷ items_in (invoking "p") (declaring Kind.Procedure 0 "p")
    ∷ items_in (matching "Site") (declaring Kind.Label 0 "SITE")
    ∷ items_in (matching "Site") (declaring Kind.Label 0 "Site")
    ∷ items_in (keyed "KEY") (property "key") ∷ items_in (keyed "key") (property "key") ∷ []
    ≡ ((3008 ∷ 3 ∷ 7 ∷ 1 ∷ 0 ∷ 0 ∷ 0 ∷ []) ∷ []) ∷ [] ∷ ((3001 ∷ 3 ∷ 7 ∷ 4 ∷ 0 ∷ 0 ∷ 0 ∷ []) ∷ []) ∷ []
    ∷ ((3003 ∷ 3 ∷ 7 ∷ 4 ∷ 2 ∷ 0 ∷ 0 ∷ []) ∷ []) ∷ [] ∷ []
unfolding clause_among bytes ends each first any_of table same_text lower sheet_of end_of start_of part_of doc_as doc_of many pairs rules opens arity tree_of pass past decls_of items_of schema_of property_of literal_in holder enclosing name_item node_item key_item element_items early late clause_items listed
exact_bytes = refl

-- ---- statements and schemas that are the same but for case
-- RETURN COUNT(v) and RETURN count(v)
pub counts : Recased (statement_in (calling "COUNT")) (statement_in (calling "count"))
unfolding bytes ends each table lower sheet_of end_of start_of part_of doc_as doc_of tree_of
counts = record {
  size = refl;
  kind = λ i b. refl;
  value = λ i b. refl;
  text = others;
  function = called;
}
  where
    others : (i : ℕ) → suc i < 5 → ((statement_in (calling "COUNT")).kind i ≡ Kind.FunctionCall → ⊥)
        → (statement_in (calling "count")).text (suc i) ≡ (statement_in (calling "COUNT")).text (suc i)
    others zero b n = refl
    others (suc zero) b n = refl
    others (suc (suc zero)) b n = absurd (n refl)
    others (suc (suc (suc zero))) b n = refl
    others (suc (suc (suc (suc i)))) b n = absurd (omega arith)

    called : (i : ℕ) → suc i < 5 → (statement_in (calling "COUNT")).kind i ≡ Kind.FunctionCall
        → folded ((statement_in (calling "count")).text (suc i)) ≡ folded ((statement_in (calling "COUNT")).text (suc i))
    called zero b k = refl
    called (suc zero) b k = refl
    called (suc (suc zero)) b k = refl
    called (suc (suc (suc zero))) b k = refl
    called (suc (suc (suc (suc i)))) b k = absurd (omega arith)

-- the function count and the function COUNT
pub declared-counts : RecasedSchema (schema_in (function "count")) (schema_in (function "COUNT"))
unfolding bytes ends each first any_of table lower sheet_of end_of start_of part_of doc_as doc_of many pairs rules opens arity tree_of pass past decls_of items_of schema_of
declared-counts = record {
  labels = refl;
  rel_types = refl;
  parameters = refl;
  functions = refl;
  procedures = refl;
  aparts = refl;
}
