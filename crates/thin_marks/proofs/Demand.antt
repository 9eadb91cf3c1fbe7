-- What is written for any bytes is accepted, says the same, and marks every paper the same; and a sheet's kind and
-- document determine its bytes.
use mathlib.Core.Path.{◌≡◌, refl, sym, ◌∙◌}
use mathlib.Core.List.{List}
use Prim.Native.Nat.{ℕ, ◌<◌}
use lib.ListN.{get_or}
use Rattle.lists.specs.Lists.{pick}
use Rattle.frame.specs.Sheet.{is_thin, frame_fault}
use Rattle.rules.specs.declared.Place.TheVariants.{WholeStatement, WholeSchema}
use Rattle.schema.specs.Declarations.{statement_fault, schema_fault}
use Rattle.schema.specs.Effect.{writes, after_statement, after_schema}
use Rattle.schema_aware.specs.Check.{check_effect}
use Rattle.margin.specs.Margin.{margin_effect}
use Rattle.message.specs.Said.{message_effect}
use Rattle.in_memory.specs.Store.{names_effect, endpoints_effect, digest_effect}
use Rattle.join.specs.Join.{join_statements}
use Rattle.written.specs.Written.{written}
use Rattle.thinned.specs.Thinned.{thinned}
use Rattle.thinned.proofs.Back.{of-its-kind}
use Rattle.thin.specs.Thin.{thin_statement, thin_schema}
use Rattle.thin_marks.specs.Alike.{Alike}
use Rattle.thin_marks.proofs.Answers.{itself, same-statement-fault, same-schema-fault, same_check, same-margin, same-message, same-joined, same_names, same-endpoints, same-digest}
use Rattle.thin_marks.proofs.Sheets.{ThinSheet, sheet-written, statement-parts, schema-parts}
use Rattle.std.specs.Prelude.{None}

-- What thin_statement writes for any bytes is accepted, a thin sheet that holds the same document, and never longer;
-- converting it again gives what converting once did
pub statement-written : (s out : List ℕ) (n : ℕ) (xs : List ℕ) → thin_statement s out ≡ writes n xs
    → ThinSheet statement_fault thin_statement s n xs
unfolding thin_statement after_statement
statement-written =
    sheet-written statement_fault thin_statement 1 WholeStatement (λ s out. refl) same-statement-fault statement-parts

-- and so is what thin_schema writes
pub schema-written : (s out : List ℕ) (n : ℕ) (xs : List ℕ) → thin_schema s out ≡ writes n xs
    → ThinSheet schema_fault thin_schema s n xs
unfolding thin_schema after_schema
schema-written = sheet-written schema_fault thin_schema 2 WholeSchema (λ s out. refl) same-schema-fault schema-parts

-- ---- what is marked
-- against every schema sheet a statement's list, margin list and messages stay, and what it is joined into, first or
-- second
pub record StatementKept (s xs : List ℕ) : Type 0 where
  pub check : (d list : List ℕ) → check_effect xs d list ≡ check_effect s d list
  pub margin : (d list : List ℕ) → margin_effect xs d list ≡ margin_effect s d list
  pub message : (d : List ℕ) (k : ℕ) (text : List ℕ) → message_effect xs d k text ≡ message_effect s d k text
  pub joined_first : (t out : List ℕ) → join_statements xs t out ≡ join_statements s t out
  pub joined_second : (t out : List ℕ) → join_statements t xs out ≡ join_statements t s out

-- A converter loses nothing: a statement made thin draws the same list, in margin order too, and the same messages
pub statement-kept : (s out : List ℕ) (n : ℕ) (xs : List ℕ) → thin_statement s out ≡ writes n xs → StatementKept s xs
statement-kept s out n xs e =
    let a = (statement-written s out n xs e).says_same in
    record {
      check = λ d. same_check xs s d d a itself;
      margin = λ d. same-margin xs s d d a itself;
      message = λ d. same-message xs s d d a itself;
      joined_first = λ t. same-joined xs s t t a itself;
      joined_second = λ t. same-joined t t xs s itself a;
    }

-- of every statement sheet a schema's list, margin list and messages stay, and its names, endpoints and digest
pub record SchemaKept (d ys : List ℕ) : Type 0 where
  pub check : (s list : List ℕ) → check_effect s ys list ≡ check_effect s d list
  pub margin : (s list : List ℕ) → margin_effect s ys list ≡ margin_effect s d list
  pub message : (s : List ℕ) (k : ℕ) (text : List ℕ) → message_effect s ys k text ≡ message_effect s d k text
  pub names : (kind : ℕ) (out : List ℕ) → names_effect kind ys out ≡ names_effect kind d out
  pub endpoints : (text out : List ℕ) → endpoints_effect ys text out ≡ endpoints_effect d text out
  pub digest : digest_effect ys ≡ digest_effect d

-- A schema made thin marks every paper the same, and its names, endpoints and digest are the same
pub schema-kept : (d out : List ℕ) (n : ℕ) (ys : List ℕ) → thin_schema d out ≡ writes n ys → SchemaKept d ys
schema-kept d out n ys e =
    let a = (schema-written d out n ys e).says_same in
    record {
      check = λ s. same_check s s ys d itself a;
      margin = λ s. same-margin s s ys d itself a;
      message = λ s. same-message s s ys d itself a;
      names = same_names ys d a;
      endpoints = same-endpoints ys d a;
      digest = same-digest ys d a;
    }

-- both made thin
pub record BothKept (s d xs ys : List ℕ) : Type 0 where
  pub check : (list : List ℕ) → check_effect xs ys list ≡ check_effect s d list
  pub margin : (list : List ℕ) → margin_effect xs ys list ≡ margin_effect s d list
  pub message : (k : ℕ) (text : List ℕ) → message_effect xs ys k text ≡ message_effect s d k text

-- So does a statement made thin against a schema made thin
pub both-kept : (s d out out' : List ℕ) (n m : ℕ) (xs ys : List ℕ) → thin_statement s out ≡ writes n xs
    → thin_schema d out' ≡ writes m ys → BothKept s d xs ys
both-kept s d out out' n m xs ys e g =
    let a = (statement-written s out n xs e).says_same in
    let b = (schema-written d out' m ys g).says_same in
    record {
      check = same_check xs s ys d a b;
      margin = same-margin xs s ys d a b;
      message = same-message xs s ys d a b;
    }

-- Kind and document determine a sheet: two lists of bytes that are alike, without a fault of their frames and of one
-- kind, are the same
pub one-sheet : (s t : List ℕ) → ((i : ℕ) → get_or s i 0 < 256) → ((i : ℕ) → get_or t i 0 < 256) → frame_fault s ≡ None
    → is_thin s ≡ is_thin t → Alike s t → s ≡ t
one-sheet s t small few h k a =
    sym (of-its-kind s small h)
    ∙ (λ i. pick (k i) (thinned (a.doc i)) (written (a.doc i)))
    ∙ of-its-kind t few (sym a.fault ∙ h)
