-- The text of each form of message, as a list of bytes: fixed phrases between names and numbers.
use Rattle.std.specs.Prelude.{ℕ, ◌+◌, Bool, List, [], ◌++◌, eqb}
use Prim.Native.String.{String}
use Rattle.lists.specs.Lists.{pick}
use Rattle.rules.specs.Kinds as Kind
use Rattle.grammar.specs.Tree.{Tree, texts}
use Rattle.types.specs.Types.{literal, type_name, property_type_name}
use Rattle.provider.specs.Schema.{Schema, Property, Signature, property_of, function_of, procedure_of}
use Rattle.breach.specs.Breach.{names_of, key_at, value_at, keys_of, owners}
use Rattle.in_order.specs.InOrder.{in_order}
use Rattle.phrase.specs.Phrase.{decimal, joined, colons, on_names}
use Rattle.text.specs.Text.{bytes}
use Rattle.std.specs.Prelude.{Option, Some, None}
use Rattle.types.specs.declared.Ty.{Ty}

-- a phrase that ends at a backtick, a name, a backtick
abbrev pub quoted : String → List ℕ → List ℕ
quoted phrase name = bytes phrase ++ name ++ bytes "`"

-- the type that is expected, and the one that was got
abbrev pub expected : Option Property → List ℕ
expected None = []
expected (Some p) = bytes (property_type_name p.type)

abbrev pub got : Option Ty → List ℕ
got None = []
got (Some a) = bytes (type_name a)

-- property `K` is not declared on label(s) :A, :B
unfoldable pub undeclared_text : Tree → ℕ → ℕ → List ℕ
undeclared_text t i k = bytes "property `" ++ key_at t i k ++ bytes "` is not declared on " ++ on_names t i

-- property `K` expects type `T` but got `U`
unfoldable pub wrong_type_text : Tree → Schema → ℕ → ℕ → List ℕ
wrong_type_text t s i k =
    bytes "property `" ++ key_at t i k ++ bytes "` expects type `"
    ++ expected (property_of (owners s (t.kind i)) (names_of t i) (key_at t i k))
    ++ bytes "` but got `" ++ got (literal t (value_at t i k)) ++ bytes "`"

-- exactly 2 argument(s) but got 3, or at least 2
abbrev pub count_phrase : ℕ → Bool → ℕ → List ℕ
count_phrase parameters variadic n =
    pick variadic (bytes "at least ") (bytes "exactly ") ++ decimal parameters ++ bytes " argument(s) but got "
    ++ decimal n

-- the same by a signature
unfoldable pub count_text : Option Signature → ℕ → List ℕ
count_text None n = []
count_text (Some f) n = count_phrase f.parameters f.variadic n

-- function `F` expects exactly 2 argument(s) but got 3, or procedure `P`
abbrev pub expects : String → List ℕ → Option Signature → ℕ → List ℕ
expects phrase name f n = bytes phrase ++ name ++ bytes "` expects " ++ count_text f n

unfoldable pub arity_text : Tree → Schema → ℕ → List ℕ
arity_text t s i =
    pick (eqb (t.kind i) Kind.FunctionCall)
    (expects "function `" (t.text (i + 1)) (function_of s (t.text (i + 1))) (t.value i))
    (expects "procedure `" (t.text (i + 3)) (procedure_of s (t.text (i + 3))) (t.value i))

-- the labels of a Node, or of a Set's Labels
abbrev pub labels_of : Tree → ℕ → List (List ℕ)
labels_of t i = pick (eqb (t.kind i) Kind.Node) (names_of t i) (texts t (i + 1) (t.value i))

-- labels :A:B cannot be combined on a single node, with nothing between the labels
unfoldable pub apart_text : Tree → ℕ → List ℕ
apart_text t i =
    bytes "labels " ++ colons (bytes "") (labels_of t i) ++ bytes " cannot be combined on a single node"

-- MERGE key {a, b} on label(s) :A, :B is not backed by a declared uniqueness constraint: keys distinct, by bytes
unfoldable pub unbacked_text : Tree → ℕ → List ℕ
unbacked_text t i =
    bytes "MERGE key {" ++ joined (bytes ", ") (in_order (keys_of t i)) ++ bytes "} on " ++ on_names t i
    ++ bytes " is not backed by a declared uniqueness constraint"
