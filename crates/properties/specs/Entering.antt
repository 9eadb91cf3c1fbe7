-- The properties of an element's names, entered by the numbers of their keys.
use Rattle.std.specs.Prelude.{ℕ, ◌+◌, ◌/◌, ◌≤◌, ◌<◌, ◌≡◌, true, List, [], ◌∷◌, eqb, length, get_or, set, Option, Some, None}
use Rattle.lists.specs.Lists.{pick, each, first}
use Rattle.text.specs.Text.{same_text}
use Rattle.frame.specs.Doc.{doc_of, kind_of, value_of}
use Rattle.frame.specs.declared.Sizes.{Sizes}
use Rattle.rules.specs.Kinds as Kind
use Rattle.grammar.specs.Tree.{Tree, tree_of}
use Rattle.schema.specs.Declarations.{name_below}
use Rattle.schema.specs.Inner.{first_named}
use Rattle.numbers.specs.Least.{texts_of, text_at, place_of}
use Rattle.register.specs.Register.{entry_of, Registered}
use Rattle.provider.specs.Schema.{items_of}
use Rattle.marks.specs.Marks.{NamesAt}
use Rattle.breach.specs.Breach.{is_element, names_of, statement_in}

-- token p is entered at its name's number, as its place and 1, where nothing is; tokens in turn
unfoldable pub entered_at : List (List ℕ) → Tree → ℕ → List ℕ → List ℕ
entered_at ts t p l =
    pick (eqb (get_or l (place_of ts (name_below t p)) 0) 0) (set l (place_of ts (name_below t p)) (p + 1)) l

unfoldable pub entered_each : List (List ℕ) → Tree → List ℕ → List ℕ → List ℕ
entered_each ts t [] l = l
entered_each ts t (p ∷ ps) l = entered_each ts t ps (entered_at ts t p l)

-- the properties of a declaration that was found; of the first declaration of kind k, of m tokens, with the name n
abbrev pub properties_at : Tree → Option ℕ → List ℕ
properties_at t None = []
properties_at t (Some i) = items_of t i Kind.Property

abbrev pub property_tokens : Tree → ℕ → ℕ → List ℕ → List ℕ
property_tokens t k m n = properties_at t (first_named t k n 0 m)

-- the tokens ps of a schema d are entered, beside a statement s
abbrev pub entered_in : List ℕ → List ℕ → List ℕ → List ℕ → List ℕ
entered_in s d ps l = entered_each (texts_of d s) (tree_of (doc_of d)) ps l

-- so are the properties of the declaration of kind k that the statement's Name at token i names
abbrev pub entered_for : List ℕ → List ℕ → Sizes → ℕ → ℕ → List ℕ → List ℕ
entered_for s d z k i l =
    entered_in s d (property_tokens (tree_of (doc_of d)) k z.schema.tokens ((tree_of (doc_of s)).text i)) l

-- the kind of the declarations of an element's names: a Node's are Labels, a Rel's RelTypes
abbrev pub owner_kind : ℕ → ℕ
owner_kind k = pick (eqb k Kind.Node) Kind.Label Kind.RelType

-- the properties of the names ns of an element of kind k
abbrev pub tokens_for : List ℕ → Sizes → ℕ → List (List ℕ) → List ℕ
tokens_for d z k ns = each (property_tokens (tree_of (doc_of d)) (owner_kind k) z.schema.tokens) ns

-- a list has, at the number of each name, the first of the tokens ps with that name
pub record EntriesOf (ts : List (List ℕ)) (t : Tree) (ps l : List ℕ) : Type 0 where
  pub room : length ts ≤ length l
  pub each : (i : ℕ) → i < length ts
      → get_or l (place_of ts (text_at ts i)) 0 ≡ entry_of (first (λ p. same_text (text_at ts i) (name_below t p)) ps)

-- the same for all properties of the names of the element i
abbrev pub PropertiesOf : List ℕ → List ℕ → Sizes → ℕ → List ℕ → Type 0
PropertiesOf s d z i l =
    EntriesOf (texts_of d s) (tree_of (doc_of d)) (tokens_for d z ((statement_in s).kind i) (names_of (statement_in s) i)) l

-- token i is an element, and its names stand behind its two Numbers
pub record Element (s d : List ℕ) (sizes : Sizes) (reg : List ℕ) (i : ℕ) : Type 0 where
  pub register : Registered s d sizes reg
  pub here : i < sizes.statement.tokens
  pub element : is_element (kind_of (doc_of s) i) ≡ true
  pub names : NamesAt (doc_of s) (i + 3) (value_of (doc_of s) i / 2)

-- a list with room for n numbers has 0 in each place
pub record Clear (n : ℕ) (l : List ℕ) : Type 0 where
  pub room : n ≤ length l
  pub each : (i : ℕ) → get_or l i 0 ≡ 0
