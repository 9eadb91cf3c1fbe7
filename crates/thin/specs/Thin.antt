-- The operations `thin_statement` and `thin_schema`: for any sheet and lent buffer, the answer, and what then stands in
-- the buffer.
use Rattle.std.specs.Prelude.{List, ℕ, length}
use Rattle.schema.specs.Effect.{Effect, after_statement, after_schema, fitted}
use Rattle.thinned.specs.Thinned.{thin_of}

-- 16, or the bytes of the sheet made thin; the answer is their number
unfoldable pub thin_effect : List ℕ → List ℕ → Effect
thin_effect s out = fitted (length (thin_of s)) (thin_of s) out

-- thin_statement: the statement's refusals; 16; thin_schema: the schema's; 16
unfoldable pub thin_statement : List ℕ → List ℕ → Effect
thin_statement st out = after_statement st (thin_effect st out)

unfoldable pub thin_schema : List ℕ → List ℕ → Effect
thin_schema sc out = after_schema sc (thin_effect sc out)
