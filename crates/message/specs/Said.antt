-- The operation `message`: for any bytes lent, the answer, and what then stands in the lent buffer.
use Rattle.std.specs.Prelude.{ℕ, List, length}
use Rattle.lists.specs.Lists.{nth}
use Rattle.provider.specs.Schema.{Schema}
use Rattle.schema.specs.Effect.{Effect, refusal, after_both, fitted}
use Rattle.grammar.specs.Tree.{Tree}
use Rattle.breach.specs.Breach.{Item, statement_in, schema_in}
use Rattle.breach.specs.Listing.{listed}
use Rattle.message.specs.Message.{message_of}
use Rattle.std.specs.Prelude.{Option, Some, None}

-- 15 no item k; else its message, with 16 where it is longer than the buffer
abbrev pub item_effect : Tree → Schema → Option Item → List ℕ → Effect
item_effect t s None text = refusal 15 0 0
item_effect t s (Some x) text = fitted (length (message_of t s x)) (message_of t s x) text

-- message: the statement's refusals, the schema's, then 15, 16
unfoldable pub message_effect : List ℕ → List ℕ → ℕ → List ℕ → Effect
message_effect st sc k text =
    after_both st sc (item_effect (statement_in st) (schema_in sc) (nth (listed (statement_in st) (schema_in sc)) k) text)
