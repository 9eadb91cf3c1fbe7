-- The breaches as lists: what computes the list that `breach/specs/Breach.antt` and `breach/specs/Order.antt` define.
-- Nothing here need be believed: `all-breaches` of the proofs says that `listed` is the list of all breaches in order,
-- and `only-list` that there is no other.
use Rattle.std.specs.Prelude.{ℕ, ◌+◌, ◌/◌, Bool, true, false, not, List, [], ◌∷◌, ◌++◌, eqb, leb}
use Rattle.lists.specs.Lists.{pick, both, over, is_one, is_empty}
use Rattle.rules.specs.Kinds as Kind
use Rattle.grammar.specs.Tree.{Tree, end, child, texts}
use Rattle.types.specs.Types.{literal, types_compatible}
use Rattle.provider.specs.Schema.{Schema, Property, Signature, is_declared, property_of, tuples_of, function_of, procedure_of, apart_among}
use Rattle.breach.specs.Breach.{Item, item_at, spanless, is_element, names_of, props_of, has_map, key_at, value_at, keys_of, owners, holder, bad_count, backed}
use Rattle.std.specs.Prelude.{Option, Some, None}
use Rattle.types.specs.declared.Ty.{Ty}

-- an item where a test passes
abbrev pub when : Bool → Item → List Item
when true x = x ∷ []
when false x = []

-- stage 0, name k of an element
unfoldable pub name_item : Tree → Schema → ℕ → ℕ → List Item
name_item t s i k =
    when (not (is_declared (owners s (t.kind i)) (t.text (i + 3 + k))))
    (item_at t i (pick (eqb (t.kind i) Kind.Node) 3001 3002) 0 k)

-- stage 0, a Call: unknown, or the wrong number of arguments
abbrev pub call_item : Option Signature → ℕ → Item → Item → List Item
call_item None n unknown wrong = unknown ∷ []
call_item (Some f) n unknown wrong = when (bad_count f n) wrong

-- stage 1
unfoldable pub node_item : Tree → Schema → ℕ → List Item
node_item t s i =
    when (both (eqb (t.kind i) Kind.Node) (both (is_one (Kind.Create ∷ Kind.Merge ∷ []) (holder t i))
    (both (leb 2 (t.value i / 2)) (apart_among s (names_of t i)))))
    (item_at t i 4023 1 0)

unfoldable pub set_item : Tree → Schema → ℕ → List Item
set_item t s i = when (both (leb 2 (t.value i)) (apart_among s (texts t (i + 1) (t.value i)))) (spanless t i 4023 1)

-- stage 2, key k of an element
abbrev pub key_judged : Option Property → Option Ty → Item → Item → List Item
key_judged None l undeclared wrong = undeclared ∷ []
key_judged (Some p) None undeclared wrong = []
key_judged (Some p) (Some a) undeclared wrong = when (not (types_compatible a p.type)) wrong

unfoldable pub key_item : Tree → Schema → ℕ → ℕ → List Item
key_item t s i k =
    key_judged (property_of (owners s (t.kind i)) (names_of t i) (key_at t i k)) (literal t (value_at t i k))
    (item_at t i 3003 2 k)
    (item_at t i 3004 2 k)

-- an element with a name and a Map as properties
abbrev pub is_keyed : Tree → ℕ → Bool
is_keyed t i = both (is_element (t.kind i)) (both (leb 1 (t.value i / 2)) (has_map t i))

-- a token's breaches of stages 0 to 2, in order
unfoldable pub element_items : Tree → Schema → ℕ → List Item
element_items t s i =
    over (name_item t s i) 0 (t.value i / 2) ++ node_item t s i
    ++ pick (is_keyed t i) (over (key_item t s i) 0 (t.value (props_of t i))) []

unfoldable pub early : Tree → Schema → ℕ → List Item
early t s i =
    pick (is_element (t.kind i)) (element_items t s i)
    (pick (eqb (t.kind i) Kind.FunctionCall)
    (call_item (function_of s (t.text (i + 1))) (t.value i) (spanless t i 3006 0) (spanless t i 3007 0))
    (pick (eqb (t.kind i) Kind.ProcedureCall)
    (call_item (procedure_of s (t.text (i + 3))) (t.value i) (item_at t i 3008 0 0) (item_at t i 3007 0 0))
    (pick (eqb (t.kind i) Kind.SetLabels) (set_item t s i) [])))

-- a token's breach of stage 3
unfoldable pub keyless : Tree → Schema → ℕ → List (List (List ℕ)) → List Item
keyless t s i tuples = when (both (not (is_empty tuples)) (not (backed tuples (keys_of t i)))) (item_at t i 3009 3 0)

unfoldable pub late : Tree → Schema → ℕ → List Item
late t s i =
    pick (both (is_keyed t i) (eqb (holder t i) Kind.Merge))
    (keyless t s i (tuples_of (owners s (t.kind i)) (names_of t i))) []

-- Order: clause; within it every E3009 last; then owner, stage, ordinal
unfoldable pub clause_items : Tree → Schema → ℕ → List Item
clause_items t s c = over (early t s) c (end t c) ++ over (late t s) c (end t c)

unfoldable pub listed : Tree → Schema → List Item
listed t s = over (λ c. clause_items t s (child t 0 c)) 0 (t.value 0)
