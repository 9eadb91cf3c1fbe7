-- The check: for any bytes lent, the answer, and what then stands in the lent list.
use Rattle.std.specs.Prelude.{List, ℕ, ◌/◌, length, leb}
use Rattle.lists.specs.Lists.{pick, each}
use Rattle.schema.specs.Effect.{Effect, refusal, writes, after_both}
use Rattle.breach.specs.Breach.{Item, numbers, width, statement_in, schema_in}
use Rattle.breach.specs.Listing.{listed}

-- 14 more breaches than whole items fit; else all items
unfoldable pub items_effect : List Item → List ℕ → Effect
items_effect xs list =
    pick (leb (length xs) (length list / width)) (writes (length xs) (each numbers xs)) (refusal 14 0 0)

-- check_schema_aware: the statement's refusals, the schema's, then 14
unfoldable pub check_effect : List ℕ → List ℕ → List ℕ → Effect
check_effect st sc list = after_both st sc (items_effect (listed (statement_in st) (schema_in sc)) list)
