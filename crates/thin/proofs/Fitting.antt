-- 16 or the thin sheet, and the refusals before.
use mathlib.Core.Path.{◌≡◌, refl, sym, ap, ◌∙◌}
use mathlib.Core.List.{List, ◌++◌}
use Prim.Native.Nat.{ℕ, ◌≤◌, ◌<◌}
use native.Mathlib.Omega.{arith}
use borrow.Author.Tests.{le-leb, lt-leb}
use lib.ListN.{length, drop}
use Rattle.frame.specs.Limits.{max_names, max_text}
use Rattle.frame.specs.Sheet.{or_else, sheet_of, bytes_by, frame_fault}
use Rattle.frame.specs.Doc.{doc_of}
use Rattle.frame.specs.Inner.{max_thin, answered, Sound}
use Rattle.frame.specs.declared.Sheet.{Sheet}
use Rattle.frame.specs.declared.Fault.{Fault}
use Rattle.frame.proofs.Laws.{or-else, ranges, sound-sized, sound}
use Rattle.rules.specs.declared.Place.TheVariants.{WholeStatement, WholeSchema}
use Rattle.grammar.specs.Machine.{grammar_fault}
use Rattle.grammar.specs.Tree.{tree_of}
use Rattle.schema.specs.Declarations.{declared_fault, statement_fault, schema_fault}
use Rattle.schema.specs.Inner.{on_sheet, statement_frame, schema_frame}
use Rattle.schema.proofs.Effects.{refuses}
use Rattle.schema.proofs.Openings.{goes-on, turned-down}
use Rattle.schema.specs.Effect.{refusal, exit, unless_refused, after_statement, after_schema, fitted, Done}
use Rattle.thinned.specs.Thinned.{thin_of}
use Rattle.thinned.proofs.Back.{made-length}
use Rattle.thin.specs.Thin.{thin_effect, thin_statement, thin_schema}
use Rattle.std.specs.Prelude.{Option, Result, Ok, Err}
use Rattle.schema.specs.declared.Refusal.{Refusal}

-- ---- 16, or the sheet
module _ (s : List ℕ) (f : Sheet) (z : Sound s f) (l : List ℕ) (b : ℕ) (e : b ≡ bytes_by 2 f) where
  bytes-are : length (thin_of s) ≡ b
  bytes-are = made-length s f z ∙ sym e

  pub no_room : {r : Result ℕ Refusal} → length l < b → Done (refusal 16 0 0) l r l → Done (thin_effect s l) l r l
  unfolding thin_effect fitted
  no_room o w = rw (lt-leb (length (thin_of s)) (length l) (omega (arith, bytes-are))) w

  pub thin-put : {o : List ℕ} → b ≤ length l → o ≡ thin_of s ++ drop (length (thin_of s)) l
      → Done (thin_effect s l) l (Ok b) o
  unfolding thin_effect fitted exit
  thin-put h q =
      rw (le-leb (length (thin_of s)) (length l) (omega (arith, bytes-are)))
      (record { answer = ap Ok (sym bytes-are); buffer = q })

  -- so few bytes that their number is a u32
  pub bytes-few : b ≤ max_thin
  bytes-few = let r = ranges f (sound-sized s f z).ranges in omega (arith, e, r.few_tokens, r.few_names, r.short_text)

  -- its names and its text are within the limits
  pub within : (f.names ≤ max_names) × (f.text ≤ max_text)
  within = let r = ranges f (sound-sized s f z).ranges in (r.few_names, r.short_text)

-- ---- what opening a sheet tells, of either grammar
module _ (found : Option Fault) (sheet : ℕ) (s l : List ℕ) (q : Result Sheet Refusal)
    (e : q ≡ on_sheet sheet (answered found (sheet_of s))) where
  of-refused : (r : Refusal) → q ≡ Err r → Done (unless_refused sheet found (thin_effect s l)) l (Err r) l
  of-refused r h =
      let t = turned-down sheet q found (sheet_of s) r e h in
      rw t.1 (refuses t.0.number sheet t.0.place l (ap (λ (x : Refusal). Err x) t.2))

  of-accepted : (f : Sheet) {r : Result ℕ Refusal} {o : List ℕ} → q ≡ Ok f → Done (thin_effect s l) l r o
      → Done (unless_refused sheet found (thin_effect s l)) l r o
  of-accepted f h w = rw (goes-on sheet q found (sheet_of s) f e h).0 w

  sound-of : (rest : Option Fault) → found ≡ or_else (frame_fault s) rest → (f : Sheet) → q ≡ Ok f → Sound s f
  sound-of rest g f h =
      let a = goes-on sheet q found (sheet_of s) f e h in
      sound s f (or-else _ rest (sym g ∙ a.0)).0 a.1

module _ (s l : List ℕ) (q : Result Sheet Refusal) (e : q ≡ on_sheet 1 (statement_frame s)) where
  pub statement-sound : (f : Sheet) → q ≡ Ok f → Sound s f
  unfolding statement_frame statement_fault
  statement-sound f h = sound-of (statement_fault s) 1 s l q e (grammar_fault WholeStatement (doc_of s)) refl f h

  pub statement-refused : (r : Refusal) → q ≡ Err r → Done (thin_statement s l) l (Err r) l
  unfolding thin_statement after_statement statement_frame
  statement-refused r h = of-refused (statement_fault s) 1 s l q e r h

  pub statement-thin : (f : Sheet) {r : Result ℕ Refusal} {o : List ℕ} → q ≡ Ok f → Done (thin_effect s l) l r o
      → Done (thin_statement s l) l r o
  unfolding thin_statement after_statement statement_frame
  statement-thin f h w = of-accepted (statement_fault s) 1 s l q e f h w

module _ (s l : List ℕ) (q : Result Sheet Refusal) (e : q ≡ on_sheet 2 (schema_frame s)) where
  pub schema-sound : (f : Sheet) → q ≡ Ok f → Sound s f
  unfolding schema_frame schema_fault
  schema-sound f h =
      sound-of (schema_fault s) 2 s l q e
      (or_else (grammar_fault WholeSchema (doc_of s)) (declared_fault (tree_of (doc_of s)))) refl f h

  pub schema-refused : (r : Refusal) → q ≡ Err r → Done (thin_schema s l) l (Err r) l
  unfolding thin_schema after_schema schema_frame
  schema-refused r h = of-refused (schema_fault s) 2 s l q e r h

  pub schema-thin : (f : Sheet) {r : Result ℕ Refusal} {o : List ℕ} → q ≡ Ok f → Done (thin_effect s l) l r o
      → Done (thin_schema s l) l r o
  unfolding thin_schema after_schema schema_frame
  schema-thin f h w = of-accepted (schema_fault s) 2 s l q e f h w
