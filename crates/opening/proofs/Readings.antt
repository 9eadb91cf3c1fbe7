-- What reading a sheet answers, from what its frame and its tokens answered; and opening it, from what reading did.
use mathlib.Core.Path.{◌≡◌, sym, ◌∙◌}
use mathlib.Core.List.{List}
use Prim.Native.Nat.{ℕ}
use Rattle.frame.specs.Sheet.{sheet_of, frame_fault, or_else, fault}
use Rattle.frame.specs.Inner.{frame_of, Sound}
use Rattle.frame.specs.Doc.{doc_of}
use Rattle.frame.specs.declared.Sheet.{Sheet}
use Rattle.frame.specs.declared.Fault.{Fault}
use Rattle.frame.proofs.Laws.{no_fault, refused-read, answer-of, refused-of, or-else, sound}
use Rattle.rules.specs.declared.Place.{Place}
use Rattle.rules.specs.declared.Place.TheVariants.{WholeStatement, WholeSchema}
use Rattle.grammar.specs.Machine.{grammar_fault}
use Rattle.grammar.specs.Tree.{tree_of}
use Rattle.schema.specs.Declarations.{declared_fault, statement_fault, schema_fault}
use Rattle.schema.specs.Inner.{Declared, statement_frame, schema_frame}
use Rattle.opening.specs.Reading.{read_fault, frame_as}
use Rattle.std.specs.Prelude.{Option, Some, None, Result, Ok, Err}

-- the frame is refused
pub unframed : (p : Place) (s : List ℕ) (q : Result Sheet Fault) (n i : ℕ) → q ≡ frame_of s → q ≡ Err (fault n i) → q ≡ frame_as p s
unfolding frame_as read_fault
unframed p s q n i e h = let r = refused-read s n i q e h in h ∙ rw r

-- the frame is sound, and x is what is wrong with the tokens
module _ (p : Place) (s : List ℕ) (f : Sheet) (z : Sound s f) (x : Option Fault) (e : x ≡ grammar_fault p (doc_of s)) where
  pub unread : (n i : ℕ) → x ≡ Some (fault n i) → Err (fault n i) ≡ frame_as p s
  unfolding frame_as read_fault
  unread n i h = let g = sym e ∙ h in rw (z.framed, g)

  pub all_read : x ≡ None → Ok f ≡ frame_as p s
  unfolding frame_as read_fault
  all_read h = let g = sym e ∙ h in rw (z.framed, g, z.sizes)

-- ---- a statement that is read is opened
pub statement-as : (s : List ℕ) {q : Result Sheet Fault} → q ≡ frame_as WholeStatement s → q ≡ statement_frame s
unfolding frame_as read_fault statement_frame statement_fault
statement-as s e = e

-- ---- a schema that is not read is not opened; one that is has tokens that read as a schema's
or_at : (a b c : Option Fault) (n i : ℕ) → or_else a b ≡ Some (fault n i) → or_else a (or_else b c) ≡ Some (fault n i)
or_at (Some u) b c n i e = e
or_at None (Some u) c n i e = e
or_at None None c n i e = no_fault (sym e)

module _ (s : List ℕ) (q : Result Sheet Fault) (e : q ≡ frame_as WholeSchema s) where
  pub schema-unread : (n i : ℕ) → q ≡ Err (fault n i) → q ≡ schema_frame s
  unfolding frame_as read_fault schema_frame schema_fault
  schema-unread n i h =
      let r = refused-of (or_else (frame_fault s) (grammar_fault WholeSchema (doc_of s))) (sheet_of s) n i (sym e ∙ h) in
      let a = or_at (frame_fault s) (grammar_fault WholeSchema (doc_of s)) (declared_fault (tree_of (doc_of s))) n i r in
      h ∙ rw a

  pub schema-read : (f : Sheet) → q ≡ Ok f → Declared s f
  unfolding frame_as read_fault
  schema-read f h =
      let a = answer-of (or_else (frame_fault s) (grammar_fault WholeSchema (doc_of s))) (sheet_of s) f (sym e ∙ h) in
      let b = or-else (frame_fault s) (grammar_fault WholeSchema (doc_of s)) a.0 in
      record { sheet = sound s f b.0 a.1; read = b.1 }
