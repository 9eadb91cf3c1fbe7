-- What the definitions give for each form of message, computed. A table: a statement and a schema, and the text of
-- each item in turn.
use Prim.Native.Nat.{ℕ}
use Prim.Native.String.{String}
use mathlib.Core.Path.{◌≡◌, refl}
use mathlib.Core.List.{List, [], ◌∷◌, map}
use Rattle.lists.specs.Lists.{each, first, any_of, all_of, table}
use Rattle.text.specs.Text.{same_text, order_of, bytes}
use Rattle.text.specs.Folded.{lower}
use Rattle.frame.specs.Doc.{Token, Doc}
use Rattle.frame.proofs.Tokens.{◌of◌}
use Rattle.rules.specs.Rules.{many, pairs, rules, opens, arity}
use Rattle.grammar.specs.Tree.{tree_of, pass, past, enclosing}
use Rattle.types.specs.Types.{literal_in, scalars, compatible, compatible_at, type_name, property_type_name}
use Rattle.schema.specs.Declarations.{decls_of}
use Rattle.provider.specs.Schema.{items_of, schema_of, property_of, apart_among}
use Rattle.breach.specs.Breach.{holder}
use Rattle.breach.specs.Listing.{name_item, node_item, set_item, key_item, element_items, early, keyless, late, clause_items, listed}
use Rattle.in_order.specs.InOrder.{before, insert, sorted, distinct, in_order}
use Rattle.phrase.specs.Phrase.{digits, decimal, joined, on_names}
use Rattle.sentence.specs.Sentence.{undeclared_text, wrong_type_text, count_text, arity_text, apart_text, unbacked_text}
use Rattle.message.specs.Message.{message_of}

abbrev doc : List Token → List String → Doc
doc ts ns = record { tokens = ts; names = map bytes ns }

-- the messages of a statement against a schema, in the list's order
abbrev messages_of : Doc → Doc → List (List ℕ)
messages_of st sc =
    map (message_of (tree_of st) (schema_of (tree_of sc))) (listed (tree_of st) (schema_of (tree_of sc)))

abbrev said : List String → List (List ℕ)
said ms = map bytes ms

pub record Case : Type 0 where
  pub statement : Doc
  pub schema : Doc
  pub messages : List String

abbrev case : Doc → Doc → List String → Case
case st sc ms = record { statement = st; schema = sc; messages = ms }

-- A has k Int, l List(Int); T has k Date. f takes 2, v takes 2 or more, p takes 1. A and B are apart
abbrev plan : Doc
plan =
    doc (100 of 7 ∷ 101 of 2 ∷ 50 of 0 ∷ 110 of 0 ∷ 50 of 1 ∷ 121 of 0 ∷ 110 of 0 ∷ 50 of 2 ∷ 121 of 1 ∷ 101 of 0 ∷ 50
    of 3 ∷ 102 of 1 ∷ 50 of 4
    ∷ 110 of 0 ∷ 50 of 1 ∷ 124 of 0 ∷ 104 of 4 ∷ 50 of 5 ∷ 104 of 5 ∷ 50 of 6 ∷ 105 of 1 ∷ 50 of 7 ∷ 106 of 0 ∷ 50 of
    0 ∷ 50 of 3 ∷ [])
    ("A" ∷ "k" ∷ "l" ∷ "B" ∷ "T" ∷ "f" ∷ "v" ∷ "p" ∷ [])

cases : List Case
cases =
    -- document 01's own: MERGE (:Phase {stage: 1, green: "7"}); Phase has stage Int, green Int, Tuple (site, stage)
    case
    (doc (90 of 1 ∷ 72 of 0 ∷ 60 of 1 ∷ 61 of 1 ∷ 62 of 3 ∷ 51 of 6 ∷ 51 of 37 ∷ 50 of 0 ∷ 14 of 2 ∷ 50 of 1 ∷ 3 of 0
    ∷ 50 of 2 ∷ 5 of 0 ∷ [])
    ("Phase" ∷ "stage" ∷ "green" ∷ []))
    (doc (100 of 1 ∷ 101 of 3 ∷ 50 of 0 ∷ 110 of 0 ∷ 50 of 1 ∷ 121 of 0 ∷ 110 of 0 ∷ 50 of 2 ∷ 121 of 0 ∷ 111 of 2
    ∷ 50 of 3 ∷ 50 of 1 ∷ [])
    ("Phase" ∷ "stage" ∷ "green" ∷ "site" ∷ []))
    ("property `green` expects type `Int` but got `String`"
    ∷ "MERGE key {green, stage} on label(s) :Phase is not backed by a declared uniqueness constraint" ∷ [])
    -- MATCH (:Z:A)-[:Y]
    ∷ case
    (doc (90 of 1 ∷ 70 of 0 ∷ 60 of 1 ∷ 61 of 2 ∷ 62 of 4 ∷ 51 of 1 ∷ 51 of 2 ∷ 50 of 0 ∷ 50 of 1 ∷ 63 of 2 ∷ 51 of 3
    ∷ 51 of 4 ∷ 50 of 2 ∷ [])
    ("Z" ∷ "A" ∷ "Y" ∷ []))
    plan
    ("unknown label `:Z`" ∷ "unknown relationship type `:Y`" ∷ [])
    -- MATCH (:A:B {q: 1})-[:T {q: 1}], a key that is declared on none
    ∷ case
    (doc (90 of 1 ∷ 70 of 0 ∷ 60 of 1 ∷ 61 of 2 ∷ 62 of 5 ∷ 51 of 1 ∷ 51 of 2 ∷ 50 of 1 ∷ 50 of 2 ∷ 14 of 1 ∷ 50 of 0
    ∷ 3 of 0 ∷ 63 of 3 ∷ 51 of 3
    ∷ 51 of 4 ∷ 50 of 3 ∷ 14 of 1 ∷ 50 of 0 ∷ 3 of 0 ∷ [])
    ("q" ∷ "A" ∷ "B" ∷ "T" ∷ []))
    plan
    ("property `q` is not declared on label(s) :A, :B" ∷ "property `q` is not declared on relationship type(s) :T" ∷ [])
    -- MATCH (:A {l: [[1]], k: []})-[:T {k: true}]: a list is just List
    ∷ case
    (doc (90 of 1 ∷ 70 of 0 ∷ 60 of 1 ∷ 61 of 2 ∷ 62 of 3 ∷ 51 of 1 ∷ 51 of 2 ∷ 50 of 0 ∷ 14 of 2 ∷ 50 of 1 ∷ 13 of 1
    ∷ 13 of 1 ∷ 3 of 0 ∷ 50 of 2
    ∷ 13 of 0 ∷ 63 of 3 ∷ 51 of 3 ∷ 51 of 4 ∷ 50 of 3 ∷ 14 of 1 ∷ 50 of 2 ∷ 2 of 0 ∷ [])
    ("A" ∷ "l" ∷ "k" ∷ "T" ∷ []))
    plan
    ("property `l` expects type `List` but got `List`" ∷ "property `k` expects type `Int` but got `List`"
    ∷ "property `k` expects type `Date` but got `Bool`" ∷ [])
    -- WHERE f(1, 1, 1) WHERE v(1) WHERE g() CALL g() CALL p()
    ∷ case
    (doc (90 of 5 ∷ 73 of 0 ∷ 16 of 3 ∷ 50 of 0 ∷ 3 of 0 ∷ 3 of 0 ∷ 3 of 0 ∷ 73 of 0 ∷ 16 of 1 ∷ 50 of 1 ∷ 3 of 0 ∷ 73
    of 0 ∷ 16 of 0 ∷ 50 of 2
    ∷ 85 of 0 ∷ 51 of 1 ∷ 51 of 2 ∷ 50 of 2 ∷ 85 of 0 ∷ 51 of 3 ∷ 51 of 4 ∷ 50 of 3 ∷ [])
    ("f" ∷ "v" ∷ "g" ∷ "p" ∷ []))
    plan
    ("function `f` expects exactly 2 argument(s) but got 3" ∷ "function `v` expects at least 2 argument(s) but got 1"
    ∷ "unknown function `g`"
    ∷ "unknown procedure `g`" ∷ "procedure `p` expects exactly 1 argument(s) but got 0" ∷ [])
    -- RETURN F(1), G(): the names as written, where f is declared
    ∷ case
    (doc (90 of 1 ∷ 75 of 2 ∷ 16 of 1 ∷ 50 of 0 ∷ 3 of 0 ∷ 16 of 0 ∷ 50 of 1 ∷ []) ("F" ∷ "G" ∷ []))
    plan
    ("function `F` expects exactly 2 argument(s) but got 1" ∷ "unknown function `G`" ∷ [])
    -- CREATE (:A:B) SET n:B:A:B
    ∷ case
    (doc (90 of 2 ∷ 71 of 0 ∷ 60 of 1 ∷ 61 of 1 ∷ 62 of 4 ∷ 51 of 1 ∷ 51 of 2 ∷ 50 of 0 ∷ 50 of 1 ∷ 77 of 1 ∷ 82 of 3
    ∷ 50 of 1 ∷ 50 of 0 ∷ 50 of 1
    ∷ [])
    ("A" ∷ "B" ∷ []))
    plan
    ("labels :A:B cannot be combined on a single node" ∷ "labels :B:A:B cannot be combined on a single node" ∷ [])
    -- MERGE ()-[:T:T {b: v, ab: v, : v, a: v, b: v}] and -[:T {}]; T has all these, and Tuple (site)
    ∷ case
    (doc (90 of 1 ∷ 72 of 0 ∷ 60 of 1 ∷ 61 of 2 ∷ 63 of 5 ∷ 51 of 1 ∷ 51 of 2 ∷ 50 of 0 ∷ 50 of 0 ∷ 14 of 5 ∷ 50 of 1
    ∷ 6 of 0 ∷ 50 of 2 ∷ 6 of 0
    ∷ 50 of 3 ∷ 6 of 0 ∷ 50 of 4 ∷ 6 of 0 ∷ 50 of 1 ∷ 6 of 0 ∷ 63 of 3 ∷ 51 of 3 ∷ 51 of 4 ∷ 50 of 0 ∷ 14 of 0 ∷ [])
    ("T" ∷ "b" ∷ "ab" ∷ "" ∷ "a" ∷ []))
    (doc (100 of 1 ∷ 102 of 5 ∷ 50 of 0 ∷ 110 of 0 ∷ 50 of 1 ∷ 128 of 0 ∷ 110 of 0 ∷ 50 of 2 ∷ 128 of 0 ∷ 110 of 0
    ∷ 50 of 3 ∷ 128 of 0 ∷ 110 of 0
    ∷ 50 of 4 ∷ 128 of 0 ∷ 111 of 1 ∷ 50 of 5 ∷ [])
    ("T" ∷ "a" ∷ "b" ∷ "ab" ∷ "" ∷ "site" ∷ []))
    ("MERGE key {, a, ab, b} on relationship type(s) :T, :T is not backed by a declared uniqueness constraint"
    ∷ "MERGE key {} on relationship type(s) :T is not backed by a declared uniqueness constraint" ∷ [])
    ∷ []

right : map (λ (c : Case). messages_of c.statement c.schema) cases ≡ map (λ (c : Case). said c.messages) cases
unfolding each first any_of all_of table same_text lower order_of many pairs rules opens arity tree_of pass past enclosing literal_in scalars compatible compatible_at type_name property_type_name decls_of items_of schema_of property_of apart_among holder name_item node_item set_item key_item element_items early keyless late clause_items listed before insert sorted distinct in_order bytes digits joined on_names undeclared_text wrong_type_text count_text arity_text apart_text unbacked_text message_of cases
right = refl

-- numbers in base ten, the least and the greatest of a u32
numbers : map decimal (0 ∷ 7 ∷ 10 ∷ 4096 ∷ 2147483647 ∷ 4294967295 ∷ []) ≡ said
    ("0" ∷ "7" ∷ "10" ∷ "4096" ∷ "2147483647" ∷ "4294967295" ∷ [])
unfolding bytes digits
numbers = refl
