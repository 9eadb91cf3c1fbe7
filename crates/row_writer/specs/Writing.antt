-- The sheet of a row's statement: what turns it down, and its bytes.
use Rattle.std.specs.Prelude.{ℕ, suc, List, [], ◌∷◌, length, ltb, leb}
use Rattle.lists.specs.Lists.{pick, both}
use Rattle.utf8.specs.Utf8.{utf8}
use Rattle.frame.specs.declared.Fault.{Fault}
use Rattle.frame.specs.Doc.{Doc}
use Rattle.schema.specs.Effect.{Effect, refusal, unless_refused, fitted}
use Rattle.written.specs.Written.{written, within_limits}
use Rattle.std.specs.Prelude.{Option, Some, None}
use Rattle.frame.specs.Sheet.{fault}

-- the greatest u32
abbrev pub max_number : ℕ
max_number = 4294967295

-- the number of the next name; a refusal's place is a u32, so that it stays at the greatest
abbrev pub next_number : ℕ → ℕ
next_number k = pick (ltb k max_number) (suc k) k

-- 5, of these names from number k on: the first that is not UTF-8
unfoldable pub name_fault_of : ℕ → List (List ℕ) → Option Fault
name_fault_of k [] = None
name_fault_of k (n ∷ ns) = let r : Option Fault = name_fault_of (next_number k) ns in pick (utf8 n) r (Some (fault 5 k))

-- of a row's statement, whose span ends at `stop`: 5 (sheet 1, the name's number) for a header or label not UTF-8; 19
-- when the sheet would pass a limit or the span a u32; 16; else the sheet's bytes
unfoldable pub paper_effect : Doc → ℕ → List ℕ → Effect
paper_effect d stop out =
    unless_refused 1 (name_fault_of 0 d.names)
    (pick (both (within_limits d) (leb stop max_number)) (fitted (length (written d)) (written d) out)
    (refusal 19 0 0))
