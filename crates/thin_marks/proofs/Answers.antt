-- Every operation on sheets, but for the two that make them thin, goes by their faults and documents alone: sheets that
-- are alike get the same answer and leave the same buffer, so it does not matter which kind held the tokens and names.
use mathlib.Core.Path.{◌≡◌, refl}
use mathlib.Core.List.{List}
use Prim.Native.Nat.{ℕ}
use Rattle.schema.specs.Declarations.{statement_fault, schema_fault}
use Rattle.schema.specs.Effect.{after_statement, after_schema, read_statement, read_schema}
use Rattle.schema_aware.specs.Check.{check_effect}
use Rattle.margin.specs.Margin.{margin_effect}
use Rattle.message.specs.Said.{message_effect}
use Rattle.in_memory.specs.Store.{names_effect, endpoints_effect, digest_effect}
use Rattle.join.specs.Join.{join_statements}
use Rattle.thin_marks.specs.Alike.{Alike}
use Rattle.frame.specs.Sheet.{fault}

-- they are turned down alike, as statements and as schemas
pub same-statement-fault : (s t : List ℕ) → Alike s t → statement_fault s ≡ statement_fault t
unfolding statement_fault
same-statement-fault s t a = rw (a.fault, a.doc)

pub same-schema-fault : (s t : List ℕ) → Alike s t → schema_fault s ≡ schema_fault t
unfolding schema_fault
same-schema-fault s t a = rw (a.fault, a.doc)

-- a sheet is like itself
pub itself : {s : List ℕ} → Alike s s
itself = record { fault = refl; doc = refl }

-- ---- a statement
module _ (s t : List ℕ) (a : Alike s t) where
  pub same-read-statement : read_statement s ≡ read_statement t
  unfolding after_statement
  same-read-statement = rw (same-statement-fault s t a)

  -- ---- a schema
  pub same-read-schema : read_schema s ≡ read_schema t
  unfolding after_schema
  same-read-schema = rw (same-schema-fault s t a)

  -- The names of labels, of relationship types and of parameters, the endpoints and the digest are the same
  pub same_names : (kind : ℕ) (out : List ℕ) → names_effect kind s out ≡ names_effect kind t out
  unfolding names_effect after_schema
  same_names kind out = rw (same-schema-fault s t a, a.doc)

  pub same-endpoints : (text out : List ℕ) → endpoints_effect s text out ≡ endpoints_effect t text out
  unfolding endpoints_effect after_schema
  same-endpoints text out = rw (same-schema-fault s t a, a.doc)

  pub same-digest : digest_effect s ≡ digest_effect t
  unfolding digest_effect after_schema
  same-digest = rw (same-schema-fault s t a, a.doc)

-- ---- two sheets, each of either kind
module _ (s t x y : List ℕ) (a : Alike s t) (b : Alike x y) where
  -- The list, the margin list and each message are the same
  pub same_check : (list : List ℕ) → check_effect s x list ≡ check_effect t y list
  unfolding check_effect after_statement after_schema
  same_check list = rw (same-statement-fault s t a, same-schema-fault x y b, a.doc, b.doc)

  pub same-margin : (list : List ℕ) → margin_effect s x list ≡ margin_effect t y list
  unfolding margin_effect after_statement after_schema
  same-margin list = rw (same-statement-fault s t a, same-schema-fault x y b, a.doc, b.doc)

  pub same-message : (k : ℕ) (text : List ℕ) → message_effect s x k text ≡ message_effect t y k text
  unfolding message_effect after_statement after_schema
  same-message k text = rw (same-statement-fault s t a, same-schema-fault x y b, a.doc, b.doc)

  -- Two statements are joined into the same bytes
  pub same-joined : (out : List ℕ) → join_statements s x out ≡ join_statements t y out
  unfolding join_statements
  same-joined out = rw (same-statement-fault s t a, same-statement-fault x y b, a.doc, b.doc)
