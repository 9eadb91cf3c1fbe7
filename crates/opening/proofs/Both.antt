-- Two sheets: what reading them answers, and that reading them and looking for 10 to 13 is to open them.
use mathlib.Core.Path.{◌≡◌, refl, sym, ap, ◌∙◌}
use mathlib.Core.List.{List}
use Prim.Native.Nat.{ℕ}
use native.Mathlib.Omega.{arith}
use Rattle.frame.specs.Sheet.{sheet_of, frame_fault, or_else, fault}
use Rattle.frame.specs.Inner.{Sound}
use Rattle.frame.specs.Doc.{doc_of}
use Rattle.frame.specs.declared.Sheet.{Sheet}
use Rattle.frame.specs.declared.Sizes.{Sizes}
use Rattle.frame.specs.declared.Fault.{Fault}
use Rattle.frame.proofs.Laws.{or-else, sound}
use Rattle.rules.specs.declared.Place.TheVariants.{WholeStatement, WholeSchema}
use Rattle.grammar.specs.Machine.{grammar_fault}
use Rattle.grammar.specs.Tree.{tree_of}
use Rattle.schema.specs.declared.Refusal.{Refusal}
use Rattle.schema.specs.Declarations.{declared_fault, statement_fault, schema_fault}
use Rattle.schema.specs.Inner.{Declared, on_sheet, both_answered, open_both, both_sizes}
use Rattle.schema.specs.Effect.{Effect, refusal, answer_of, after_both, Done}
use Rattle.schema.proofs.Openings.{both_of, goes-on, turned-down}
use Rattle.schema.proofs.Effects.{both-refuse, both-go-on}
use Rattle.opening.specs.Reading.{read_fault, frame_as, read_both, BothRead}
use Rattle.std.specs.Prelude.{Option, Some, None, Result, Ok, Err}

-- ---- both sheets, from what reading each answered
module _ (s d : List ℕ) (q : Result Sheet Refusal) (e : q ≡ on_sheet 1 (frame_as WholeStatement s)) where
  pub statement-first : (k : Refusal) → q ≡ Err k → Err k ≡ read_both s d
  unfolding frame_as read_both
  statement-first k h = let a = turned-down 1 q (read_fault WholeStatement s) (sheet_of s) k e h in
      rw a.1 (ap (λ (x : Refusal). Err x) a.2)

  module _ (f : Sheet) (h : q ≡ Ok f) (r : Result Sheet Refusal) (i : r ≡ on_sheet 2 (frame_as WholeSchema d)) where
    pub schema-second : (k : Refusal) → r ≡ Err k → Err k ≡ read_both s d
    unfolding frame_as read_both
    schema-second k g =
        let a = goes-on 1 q (read_fault WholeStatement s) (sheet_of s) f e h in
        let b = turned-down 2 r (read_fault WholeSchema d) (sheet_of d) k i g in
        rw (a.0, b.1) (ap (λ (x : Refusal). Err x) b.2)

    pub both_read : (g : Sheet) → r ≡ Ok g → Ok (both_sizes f g) ≡ read_both s d
    unfolding frame_as read_both
    both_read g k =
        let a = goes-on 1 q (read_fault WholeStatement s) (sheet_of s) f e h in
        let b = goes-on 2 r (read_fault WholeSchema d) (sheet_of d) g i k in
        rw (a.0, a.1, b.0, b.1)

-- ---- sheets that are refused when they are read are refused when they are opened
refused-both : (a b c x : Option Fault) (f g : Sheet) (r : Refusal) → both_answered a (or_else b c) f g ≡ Err r
    → both_answered a (or_else b (or_else c x)) f g ≡ Err r
refused-both (Some u) b c x f g r e = e
refused-both None (Some u) c x f g r e = e
refused-both None None (Some u) x f g r e = e
refused-both None None None x f g r e = absurd (let z : ◌≡◌ {A = ℕ} 0 1 = cc in omega arith)

pub read-refused : (s d : List ℕ) (q : Result Sizes Refusal) (r : Refusal) → q ≡ read_both s d → q ≡ Err r → q ≡ open_both s d
unfolding read_both read_fault open_both statement_fault schema_fault
read-refused s d q r e h =
    h ∙ sym (refused-both (or_else (frame_fault s) (grammar_fault WholeStatement (doc_of s))) (frame_fault d) (grammar_fault WholeSchema (doc_of d)) (declared_fault (tree_of (doc_of d)))
    (sheet_of s) (sheet_of d) r (sym e ∙ h))

-- ---- sheets that were read
module _ (s d : List ℕ) (sizes : Sizes) (z : BothRead s d sizes) where
  faults : (read_fault WholeStatement s ≡ None) × (sheet_of s ≡ sizes.statement) × (read_fault WholeSchema d ≡ None) × (sheet_of d ≡ sizes.schema)
  unfolding read_both
  faults = both_of (read_fault WholeStatement s) (read_fault WholeSchema d) (sheet_of s) (sheet_of d) sizes.statement sizes.schema z

  pub statement-sound : Sound s sizes.statement
  unfolding read_fault
  statement-sound = sound s sizes.statement (or-else (frame_fault s) _ faults.0).0 faults.1

  pub statement-read : grammar_fault WholeStatement (doc_of s) ≡ None
  unfolding read_fault
  statement-read = (or-else (frame_fault s) _ faults.0).1

  pub schema-declared : Declared d sizes.schema
  unfolding read_fault
  schema-declared =
      let b = or-else (frame_fault d) _ faults.2 in
      record { sheet = sound d sizes.schema b.0 faults.3; read = b.1 }

  -- they open exactly where the schema's declarations have no fault
  module _ (x : Option Fault) (e : x ≡ declared_fault (tree_of (doc_of d))) where
    pub declared-refuses : (n p : ℕ) → x ≡ Some (fault n p) → Err (record { number = n; sheet = 2; place = p })
        ≡ open_both s d
    unfolding open_both statement_fault schema_fault
    declared-refuses n p h =
        let y : declared_fault (tree_of (doc_of d)) ≡ Some (fault n p) = sym e ∙ h in
        rw (statement-sound.framed, statement-read, schema-declared.sheet.framed, schema-declared.read, y)

    pub declared-opens : x ≡ None → Ok (both_sizes sizes.statement sizes.schema) ≡ open_both s d
    unfolding open_both statement_fault schema_fault
    declared-opens h =
        let y : declared_fault (tree_of (doc_of d)) ≡ None = sym e ∙ h in
        rw (statement-sound.framed, statement-read, schema-declared.sheet.framed, schema-declared.read, y, faults.1, faults.3)

    -- an operation over both sheets refuses, or goes on
    module _ (l : List ℕ) (next : Effect) {o : Result ℕ Refusal} where
      pub both-turned-down : (n p : ℕ) → x ≡ Some (fault n p) → o ≡ answer_of (refusal n 2 p) → Done (after_both s d next) l o l
      both-turned-down n p h eo =
          let w = both-refuse s d l next _ (declared-refuses n p h) _ refl in
          record { answer = eo ∙ w.answer; buffer = w.buffer }

      pub both-opened : {l' : List ℕ} → x ≡ None → Done next l o l' → Done (after_both s d next) l o l'
      both-opened h w = both-go-on s d l next _ (declared-opens h) sizes.statement sizes.schema refl w
