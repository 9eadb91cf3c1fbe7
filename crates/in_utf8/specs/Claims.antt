-- What is claimed of messages.
use Rattle.std.specs.Prelude.{◌≡◌, true, List, ℕ, take}
use Rattle.utf8.specs.Utf8.{utf8}
use Rattle.schema.specs.Declarations.{statement_fault}
use Rattle.schema.specs.Effect.{Done}
use Rattle.provider.specs.Schema.{Schema}
use Rattle.breach.specs.Breach.{Item, statement_in}
use Rattle.message.specs.Message.{message_of}
use Rattle.message.specs.Said.{message_effect}
use Rattle.std.specs.Prelude.{None, Ok}

-- the message of an item is UTF-8 where the statement's sheet is accepted, whatever the schema
abbrev pub MessageUtf8 : List ℕ → Schema → Item → Type 0
MessageUtf8 st s x = statement_fault st ≡ None → utf8 (message_of (statement_in st) s x) ≡ true

-- where the operation `message` answers n over the bytes of a statement and of a schema, an item's number and a lent
-- buffer, the first n bytes of the buffer are UTF-8 afterwards
abbrev pub SaysUtf8 : List ℕ → List ℕ → ℕ → List ℕ → Type 0
SaysUtf8 st sc k lent =
    (n : ℕ) (left : List ℕ) → Done (message_effect st sc k lent) lent (Ok n) left → utf8 (take n left) ≡ true
