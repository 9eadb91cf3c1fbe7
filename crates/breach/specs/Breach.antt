-- Breaches: what is wrong with one token of a statement, and the item of each.
use Rattle.std.specs.Prelude.{ℕ, zero, suc, ◌+◌, ◌*◌, ◌/◌, ◌%◌, ◌<◌, ◌≤◌, ◌≡◌, Bool, true, false, not, List, [], ◌∷◌, eqb, leb}
use Rattle.lists.specs.Lists.{pick, both, table, any_of, all_of, is_one, is_empty}
use Rattle.text.specs.Text.{is_text}
use Rattle.frame.specs.Doc.{doc_of}
use Rattle.rules.specs.Kinds as Kind
use Rattle.grammar.specs.Tree.{Tree, tree_of, child, parent, texts}
use Rattle.types.specs.declared.Ty.{Ty}
use Rattle.types.specs.Types.{literal, types_compatible}
use Rattle.provider.specs.Schema.{Schema, schema_of, Owner, Property, Signature, is_declared, property_of, tuples_of, function_of, procedure_of, apart_among}
use Rattle.std.specs.Prelude.{Some, None}

-- Each breach has one item, seven u32: code (3001 for E3001), start, end, owner, stage, ordinal, clause
pub record Item : Type 0 where
  pub code : ℕ
  pub start : ℕ
  pub end : ℕ
  pub owner : ℕ
  pub stage : ℕ
  pub ordinal : ℕ
  pub clause : ℕ

-- an item by its seven numbers
abbrev pub item : ℕ → ℕ → ℕ → ℕ → ℕ → ℕ → ℕ → Item
item c s e i g n k = record { code = c; start = s; end = e; owner = i; stage = g; ordinal = n; clause = k }

-- an item as it is written, and how many places it takes
abbrev pub numbers : Item → List ℕ
numbers x = x.code ∷ x.start ∷ x.end ∷ x.owner ∷ x.stage ∷ x.ordinal ∷ x.clause ∷ []

abbrev pub width : ℕ
width = 7

-- the clause number from 0: of the first n clauses, and of all, the last that begins no later than token i
unfoldable pub clause_among : Tree → ℕ → ℕ → ℕ
clause_among t i zero = 0
clause_among t i (suc n) = let r : ℕ = clause_among t i n in pick (leb (child t 0 n) i) n r

abbrev pub clause_of : Tree → ℕ → ℕ
clause_of t i = clause_among t i (t.value 0)

-- Spans are the token's own, and 0, 0 for function calls and Set Labels
abbrev pub item_at : Tree → ℕ → ℕ → ℕ → ℕ → Item
item_at t i code stage ordinal = item code (t.value (i + 1)) (t.value (i + 2)) i stage ordinal (clause_of t i)

abbrev pub spanless : Tree → ℕ → ℕ → ℕ → Item
spanless t i code stage = item code 0 0 i stage 0 (clause_of t i)

-- an element, a Node or a Rel: its names, its properties' place, whether they are a Map, its keys and their values'
-- places
abbrev pub is_element : ℕ → Bool
is_element k = is_one (Kind.Node ∷ Kind.Rel ∷ []) k

abbrev pub names_of : Tree → ℕ → List (List ℕ)
names_of t i = texts t (i + 3) (t.value i / 2)

abbrev pub props_of : Tree → ℕ → ℕ
props_of t i = i + 3 + t.value i / 2

abbrev pub has_map : Tree → ℕ → Bool
has_map t i = both (eqb (t.value i % 2) 1) (eqb (t.kind (props_of t i)) Kind.Map)

abbrev pub key_at : Tree → ℕ → ℕ → List ℕ
key_at t i k = t.text (child t (props_of t i) (2 * k))

abbrev pub value_at : Tree → ℕ → ℕ → ℕ
value_at t i k = child t (props_of t i) (2 * k + 1)

abbrev pub keys_of : Tree → ℕ → List (List ℕ)
keys_of t i = table (key_at t i) 0 (t.value (props_of t i))

-- what is declared for a Node: Labels; for a Rel: RelTypes
abbrev pub owners : Schema → ℕ → List Owner
owners s k = pick (eqb k Kind.Node) s.labels s.rel_types

-- the kind of the token that an element's pattern stands in, which is three above: its Part, its Pattern, and that
unfoldable pub holder : Tree → ℕ → ℕ
holder t i = t.kind (parent t (parent t (parent t i)))

-- arguments differ from parameters (variadic: are fewer)
abbrev pub bad_count : Signature → ℕ → Bool
bad_count f n = pick f.variadic (not (leb f.parameters n)) (not (eqb n f.parameters))

-- a tuple lies wholly among the keys
abbrev pub backed : List (List (List ℕ)) → List (List ℕ) → Bool
backed tuples keys = any_of (λ u. all_of (is_text keys) u) tuples

-- A breach, a fact about one token i
pub data Breach (t : Tree) (s : Schema) (i : ℕ) : Item → Type 0 where
  -- stage 0: each undeclared name of a Node E3001, of a Rel E3002 (ordinal: the name's)
  unknown_label : (k : ℕ) → t.kind i ≡ Kind.Node → k < t.value i / 2
      → is_declared s.labels (t.text (i + 3 + k)) ≡ false → Breach t s i (item_at t i 3001 0 k)
  unknown_rel_type : (k : ℕ) → t.kind i ≡ Kind.Rel → k < t.value i / 2
      → is_declared s.rel_types (t.text (i + 3 + k)) ≡ false → Breach t s i (item_at t i 3002 0 k)
  -- expression Call, function unknown E3006, else E3007 if arguments differ from parameters (variadic: are fewer)
  unknown_function : t.kind i ≡ Kind.FunctionCall → function_of s (t.text (i + 1)) ≡ None
      → Breach t s i (spanless t i 3006 0)
  function_arity : (f : Signature) → t.kind i ≡ Kind.FunctionCall
      → function_of s (t.text (i + 1)) ≡ Some f
      → bad_count f (t.value i) ≡ true → Breach t s i (spanless t i 3007 0)
  -- clause Call, procedure unknown E3008, else E3007 if they differ
  unknown_procedure : t.kind i ≡ Kind.ProcedureCall → procedure_of s (t.text (i + 3)) ≡ None
      → Breach t s i (item_at t i 3008 0 0)
  procedure_arity : (f : Signature) → t.kind i ≡ Kind.ProcedureCall
      → procedure_of s (t.text (i + 3)) ≡ Some f
      → bad_count f (t.value i) ≡ true → Breach t s i (item_at t i 3007 0 0)
  -- stage 1: E4023 on a Node directly in a Create's or Merge's pattern, or a Set's Labels, with two names or more and
  -- an Apart pair among them
  apart_node : t.kind i ≡ Kind.Node → is_one (Kind.Create ∷ Kind.Merge ∷ []) (holder t i) ≡ true → 2 ≤ t.value i / 2
      → apart_among s (names_of t i) ≡ true → Breach t s i (item_at t i 4023 1 0)
  apart_set : t.kind i ≡ Kind.SetLabels → 2 ≤ t.value i → apart_among s (texts t (i + 1) (t.value i)) ≡ true
      → Breach t s i (spanless t i 4023 1)
  -- stage 2: an element with a name and a Map as properties; for each key (ordinal) the declaration is the first one
  -- of that name in the first of the element's names that has one. None: E3003. Found, with a literal type not
  -- compatible: E3004
  undeclared_key : (k : ℕ) → is_element (t.kind i) ≡ true → 1 ≤ t.value i / 2
      → has_map t i ≡ true → k < t.value (props_of t i)
      → property_of (owners s (t.kind i)) (names_of t i) (key_at t i k) ≡ None → Breach t s i (item_at t i 3003 2 k)
  wrong_type : (k : ℕ) (p : Property) (a : Ty) → is_element (t.kind i) ≡ true → 1 ≤ t.value i / 2 → has_map t i ≡ true
      → k < t.value (props_of t i) → property_of (owners s (t.kind i)) (names_of t i) (key_at t i k) ≡ Some p
      → literal t (value_at t i k) ≡ Some a → types_compatible a p.type ≡ false → Breach t s i (item_at t i 3004 2 k)
  -- stage 3: E3009, on elements with a name directly in a Merge's pattern, exactly when the properties are a literal
  -- map, a tuple is declared for one of the names, and no tuple declared for any of them lies wholly among the map's
  -- keys
  unbacked : is_element (t.kind i) ≡ true → holder t i ≡ Kind.Merge → 1 ≤ t.value i / 2 → has_map t i ≡ true
      → is_empty (tuples_of (owners s (t.kind i)) (names_of t i)) ≡ false
      → backed (tuples_of (owners s (t.kind i)) (names_of t i)) (keys_of t i) ≡ false → Breach t s i (item_at t i 3009 3 0)

-- the statement of a sheet, and the schema of one
abbrev pub statement_in : List ℕ → Tree
statement_in s = tree_of (doc_of s)

abbrev pub schema_in : List ℕ → Schema
schema_in d = schema_of (tree_of (doc_of d))
