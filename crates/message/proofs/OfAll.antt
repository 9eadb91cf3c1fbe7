-- Demand 3 for messages: the items that they are of are all breaches in order, and no others.
use mathlib.Core.Path.{◌≡◌}
use mathlib.Core.List.{List}
use Prim.Native.Nat.{ℕ}
use Rattle.lists.specs.Lists.{nth}
use Rattle.schema.specs.Declarations.{statement_fault, schema_fault}
use Rattle.schema.specs.Effect.{after_statement, after_schema}
use Rattle.breach.specs.Breach.{Item, statement_in, schema_in}
use Rattle.breach.specs.Listing.{listed}
use Rattle.breach.specs.Order.{AllBreaches}
use Rattle.breach.proofs.Only.{only-list}
use Rattle.breach.proofs.Demand.{demand-3}
use Rattle.message.specs.Said.{item_effect, message_effect}
use Rattle.std.specs.Prelude.{None}

-- Where both sheets are accepted, and xs are all breaches in order, the operation `message` does for k what is done for
-- item k of xs: its message, 16 where that is too long, and 15 where xs has no item k
pub message-of-all : (st sc : List ℕ) (k : ℕ) (text : List ℕ) (xs : List Item) → statement_fault st ≡ None
    → schema_fault sc ≡ None → AllBreaches (statement_in st) (schema_in sc) xs
    → message_effect st sc k text ≡ item_effect (statement_in st) (schema_in sc) (nth xs k) text
unfolding message_effect after_statement after_schema
message-of-all st sc k text xs a b all =
    let e : listed (statement_in st) (schema_in sc) ≡ xs = only-list (statement_in st) (schema_in sc) _ xs
    (demand-3 st (schema_in sc) a).all all in
    rw (a, b, e)
