-- What an operation does, for any bytes lent: what it answers, and what it writes into the lent buffer.
use Rattle.std.specs.Prelude.{◌≡◌, List, [], ◌++◌, ℕ, length, drop, leb, Option, Some, None, Result, Ok, Err}
use Rattle.lists.specs.Lists.{pick}
use Rattle.frame.specs.declared.Fault.{Fault}
use Rattle.schema.specs.Declarations.{statement_fault, schema_fault}
use Rattle.schema.specs.declared.Refusal.{Refusal}

-- A refusal, which writes nothing: number, sheet (1 statement, 2 schema, 0 neither), place. Or what is written, and
-- the number of items (bytes, pairs, names) that it is
pub data Effect : Type 0 where
  refusal : (number sheet place : ℕ) → Effect
  writes : (count : ℕ) → List ℕ → Effect

-- the answer
abbrev pub answer_of : Effect → Result ℕ Refusal
answer_of (refusal n s p) = Err (record { number = n; sheet = s; place = p })
answer_of (writes count xs) = Ok count

-- the lent buffer afterwards: what is written stands first, and the other places keep their content
unfoldable pub exit : Effect → List ℕ → List ℕ
exit (refusal n s p) lent = lent
exit (writes count xs) lent = xs ++ drop (length xs) lent

-- what turned a sheet down, or what comes next
abbrev pub unless_refused : ℕ → Option Fault → Effect → Effect
unless_refused sheet None next = next
unless_refused sheet (Some k) next = refusal k.number sheet k.place

-- an operation over a statement, over a schema, over both: the statement's refusals, which are of sheet 1, the
-- schema's, of sheet 2, then what the operation does with what it read
unfoldable pub after_statement : List ℕ → Effect → Effect
after_statement st next = unless_refused 1 (statement_fault st) next

unfoldable pub after_schema : List ℕ → Effect → Effect
after_schema sc next = unless_refused 2 (schema_fault sc) next

abbrev pub after_both : List ℕ → List ℕ → Effect → Effect
after_both st sc next = after_statement st (after_schema sc next)

-- read_statement, read_schema: accepted, nothing is written
abbrev pub read_statement : List ℕ → Effect
read_statement st = after_statement st (writes 0 [])

abbrev pub read_schema : List ℕ → Effect
read_schema sc = after_schema sc (writes 0 [])

-- 16, last of all, exactly when what would be written is longer than the lent buffer; else all of it, with a number
-- as the answer
unfoldable pub fitted : ℕ → List ℕ → List ℕ → Effect
fitted count xs lent = pick (leb (length xs) (length lent)) (writes count xs) (refusal 16 0 0)

-- an operation's answer and its buffer afterwards are those of an effect
pub record Done (a : Effect) (lent : List ℕ) (r : Result ℕ Refusal) (left : List ℕ) : Type 0 where
  pub answer : r ≡ answer_of a
  pub buffer : left ≡ exit a lent
