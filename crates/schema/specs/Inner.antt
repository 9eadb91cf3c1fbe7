-- What the code's answers say, in the terms of the definitions.
use Rattle.std.specs.Prelude.{ℕ, ◌<◌, length, get_or, ◌≡◌, Bool, true, List, Option, Some, None, Result, Ok, Err}
use Rattle.lists.specs.Lists.{over, first, through, is_one}
use Rattle.text.specs.Text.{same_text}
use Rattle.text.specs.Folded.{same_folded}
use Rattle.frame.specs.Sheet.{sheet_of}
use Rattle.frame.specs.Inner.{answered, Sound}
use Rattle.frame.specs.Doc.{doc_of}
use Rattle.frame.specs.declared.Sheet.{Sheet}
use Rattle.frame.specs.declared.Fault.{Fault}
use Rattle.rules.specs.Kinds as Kind
use Rattle.rules.specs.declared.Place.TheVariants.{WholeSchema, Expr, Name}
use Rattle.rules.specs.Rules.{opens}
use Rattle.grammar.specs.Machine.{grammar_fault}
use Rattle.grammar.specs.Tree.{Tree}
use Rattle.schema.specs.Declarations.{of_kind, name_below, statement_fault, schema_fault}
use Rattle.schema.specs.declared.Refusal.{Refusal}
use Rattle.frame.specs.declared.Sizes.{Sizes}

-- the bytes are a sheet whose tokens read as a schema's
pub record Declared (s : List ℕ) (f : Sheet) : Type 0 where
  pub sheet : Sound s f
  pub read : grammar_fault WholeSchema (doc_of s) ≡ None

-- the first token of kind k, from a up to b, that passes; that has the name n below it
unfoldable pub searched : (ℕ → Bool) → Tree → ℕ → ℕ → ℕ → Option ℕ
searched p t k a b = first p (over (of_kind t k) a b)

abbrev pub first_named : Tree → ℕ → List ℕ → ℕ → ℕ → Option ℕ
first_named t k n a b = searched (λ i. same_text n (name_below t i)) t k a b

-- the first Function, from a up to b, of the name n, A to Z as a to z
abbrev pub first_function : Tree → List ℕ → ℕ → ℕ → Option ℕ
first_function t n a b = searched (λ i. same_folded n (name_below t i)) t Kind.Function a b

-- the answers of opening a sheet: its sizes, or the refusal's number and place
unfoldable pub statement_frame : List ℕ → Result Sheet Fault
statement_frame s = answered (statement_fault s) (sheet_of s)

unfoldable pub schema_frame : List ℕ → Result Sheet Fault
schema_frame s = answered (schema_fault s) (sheet_of s)

-- what reading a sheet answers, with the number of the sheet in its refusal
abbrev pub on_sheet : ℕ → Result Sheet Fault → Result Sheet Refusal
on_sheet sheet (Ok f) = Ok f
on_sheet sheet (Err k) = Err (record { number = k.number; sheet = sheet; place = k.place })

-- the sizes of a statement and a schema
abbrev pub both_sizes : Sheet → Sheet → Sizes
both_sizes f g = record { statement = f; schema = g }

-- the answer of opening a statement and a schema: the sizes of both, or the first refusal, with its sheet
abbrev pub both_answered : Option Fault → Option Fault → Sheet → Sheet → Result Sizes Refusal
both_answered (Some k) next f g = Err (record { number = k.number; sheet = 1; place = k.place })
both_answered None (Some k) f g = Err (record { number = k.number; sheet = 2; place = k.place })
both_answered None None f g = Ok (both_sizes f g)

unfoldable pub open_both : List ℕ → List ℕ → Result Sizes Refusal
open_both st sc = both_answered (statement_fault st) (schema_fault sc) (sheet_of st) (sheet_of sc)

-- a kind of declarations; one of those that have items, Label and RelType; a kind of items
abbrev pub Declaring : ℕ → Type 0
Declaring k = is_one (through Kind.Label Kind.Apart) k ≡ true

abbrev pub Owning : ℕ → Type 0
Owning k = is_one (through Kind.Label Kind.RelType) k ≡ true

abbrev pub Itemizing : ℕ → Type 0
Itemizing k = is_one (through Kind.Property Kind.End) k ≡ true

-- a kind whose tokens begin with a Name
abbrev pub Named : ℕ → Type 0
Named k = (v : ℕ) → (0 < length (opens k v)) × (get_or (opens k v) 0 Expr ≡ Name)
