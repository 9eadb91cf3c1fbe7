-- What the functions that judge one token ask of the two sheets, and what they list.
use Rattle.std.specs.Prelude.{◌≡◌, List, [], ℕ, ◌+◌, ◌/◌}
use Rattle.lists.specs.Lists.{pick, over}
use Rattle.frame.specs.Doc.{doc_of}
use Rattle.frame.specs.Inner.{Sound}
use Rattle.frame.specs.declared.Sizes.{Sizes}
use Rattle.rules.specs.declared.Place.TheVariants.{WholeStatement}
use Rattle.grammar.specs.Machine.{grammar_fault}
use Rattle.grammar.specs.Tree.{Tree}
use Rattle.provider.specs.Schema.{Schema, function_of, procedure_of}
use Rattle.schema.specs.Inner.{Declared}
use Rattle.register.specs.Register.{Registered}
use Rattle.judge.specs.declared.Entry.{Entry}
use Rattle.breach.specs.Breach.{Item, item, clause_of, item_at, spanless, props_of, statement_in, schema_in}
use Rattle.breach.specs.Listing.{name_item, call_item, key_item, is_keyed}
use Rattle.judge.specs.declared.Tally.{Tally}
use Rattle.judge.specs.Window.{WroteItems}
use Rattle.std.specs.Prelude.{None}

-- the statement s and the schema d were read, which have these sizes, and the register of the two was made
pub record Lent (s d : List ℕ) (sizes : Sizes) (reg : List ℕ) : Type 0 where
  pub sheet : Sound s sizes.statement
  pub read : grammar_fault WholeStatement (doc_of s) ≡ None
  pub schema : Declared d sizes.schema
  pub register : Registered s d sizes reg

-- an item that the code is about to write, of clause n
abbrev pub item_of : Entry → ℕ → Item
item_of e n = item e.code e.start e.end e.owner e.stage e.ordinal n

-- in the clause of its owner
abbrev pub item_in : Tree → Entry → Item
item_in t e = item_of e (clause_of t e.owner)

-- what is listed of token i of the statement s against the schema d is written
abbrev pub Judged : (Tree → Schema → ℕ → List Item) → List ℕ → List ℕ → ℕ → Tally → List ℕ → Tally → List ℕ → Type 0
Judged items s d i w l r l' = WroteItems (items (statement_in s) (schema_in d) i) w l r l'

-- of an expression's Call, and of a clause's
abbrev pub function_item : Tree → Schema → ℕ → List Item
function_item t s i =
    call_item (function_of s (t.text (i + 1))) (t.value i) (spanless t i 3006 0) (spanless t i 3007 0)

abbrev pub procedure_item : Tree → Schema → ℕ → List Item
procedure_item t s i =
    call_item (procedure_of s (t.text (i + 3))) (t.value i) (item_at t i 3008 0 0) (item_at t i 3007 0 0)

-- of all names of an element, of all keys of its Map, and of these where it has a name and a Map
abbrev pub name_items : Tree → Schema → ℕ → List Item
name_items t s i = over (name_item t s i) 0 (t.value i / 2)

abbrev pub key_items : Tree → Schema → ℕ → List Item
key_items t s i = over (key_item t s i) 0 (t.value (props_of t i))

abbrev pub keyed_items : Tree → Schema → ℕ → List Item
keyed_items t s i = pick (is_keyed t i) (key_items t s i) []
