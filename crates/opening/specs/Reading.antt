-- Sheets that are read, their frames and their tokens, before 10 to 13 are looked for.
use Rattle.std.specs.Prelude.{List, ◌≡◌, ℕ, true, Option, Result, Ok}
use Rattle.lists.specs.Lists.{first, through, is_one}
use Rattle.frame.specs.Sheet.{sheet_of, or_else, frame_fault}
use Rattle.frame.specs.Inner.{answered}
use Rattle.frame.specs.Doc.{doc_of}
use Rattle.frame.specs.declared.Sizes.{Sizes}
use Rattle.frame.specs.declared.Fault.{Fault}
use Rattle.rules.specs.Kinds as Kind
use Rattle.rules.specs.declared.Place.{Place}
use Rattle.rules.specs.declared.Place.TheVariants.{WholeStatement, WholeSchema}
use Rattle.grammar.specs.Machine.{grammar_fault}
use Rattle.grammar.specs.Tree.{Tree}
use Rattle.schema.specs.Declarations.{fault_at}
use Rattle.schema.specs.Scanned.{tokens_of, repeats}
use Rattle.schema.specs.Inner.{both_answered, both_sizes}
use Rattle.frame.specs.declared.Sheet.{Sheet}
use Rattle.schema.specs.declared.Refusal.{Refusal}

-- what turns a sheet down when it is read as a whole statement, or a whole schema: 1 to 9; and the answer
unfoldable pub read_fault : Place → List ℕ → Option Fault
read_fault p s = or_else (frame_fault s) (grammar_fault p (doc_of s))

unfoldable pub frame_as : Place → List ℕ → Result Sheet Fault
frame_as p s = answered (read_fault p s) (sheet_of s)

-- the answer of reading a statement and a schema: the sizes of both, or the first refusal, with its sheet
unfoldable pub read_both : List ℕ → List ℕ → Result Sizes Refusal
read_both st sc = both_answered (read_fault WholeStatement st) (read_fault WholeSchema sc) (sheet_of st) (sheet_of sc)

-- a statement and a schema were read, which have these sizes
abbrev pub BothRead : List ℕ → List ℕ → Sizes → Type 0
BothRead s d z = read_both s d ≡ Ok (both_sizes z.statement z.schema)

-- the kinds of declarations that must not repeat: 101 to 103
abbrev pub Single : ℕ → Type 0
Single k = is_one (through Kind.Label Kind.Parameter) k ≡ true

-- the first token of kind k that repeats one before it, refused with a number; 10 to 12, in turn
abbrev pub again_fault : Tree → ℕ → ℕ → Option Fault
again_fault t number k = fault_at number (first (repeats t k) (tokens_of t k))

unfoldable pub repeated_fault : Tree → Option Fault
repeated_fault t =
    or_else (again_fault t 10 Kind.Label) (or_else (again_fault t 11 Kind.RelType) (again_fault t 12 Kind.Parameter))
