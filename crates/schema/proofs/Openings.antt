-- What opening a sheet answers, and what is known where it opens.
use mathlib.Core.Path.{◌≡◌, refl, sym, ap, ◌∙◌}
use mathlib.Core.List.{List}
use Prim.Native.Nat.{ℕ}
use native.Mathlib.Omega.{arith}
use Rattle.frame.specs.Sheet.{sheet_of, frame_fault, or_else, fault}
use Rattle.frame.specs.Doc.{doc_of}
use Rattle.frame.specs.declared.Sheet.{Sheet}
use Rattle.frame.specs.declared.Fault.{Fault}
use Rattle.frame.specs.Inner.{answered}
use Rattle.frame.proofs.Laws.{answer-of, or-else, sound}
use Rattle.rules.specs.declared.Place.TheVariants.{WholeSchema}
use Rattle.grammar.specs.Machine.{grammar_fault}
use Rattle.grammar.specs.Tree.{tree_of}
use Rattle.schema.specs.Declarations.{declared_fault, statement_fault, schema_fault}
use Rattle.schema.specs.Inner.{Declared, on_sheet, statement_frame, schema_frame, both_answered, open_both, both_sizes}
use Rattle.schema.specs.Effect.{answer_of, after_statement, after_schema, read_statement, read_schema}
use Rattle.std.specs.Prelude.{Option, Some, None, Result, Ok, Err}
use Rattle.schema.specs.declared.Refusal.{Refusal}
use Rattle.frame.specs.declared.Sizes.{Sizes}

-- the tokens read, and x is what is wrong with the declarations
module _ (s : List ℕ) (f : Sheet) (z : Declared s f) (x : Option Fault) (e : x ≡ declared_fault (tree_of (doc_of s))) where
  pub declarations-refused : (n p : ℕ) → x ≡ Some (fault n p) → Err (fault n p) ≡ schema_frame s
  unfolding schema_frame schema_fault
  declarations-refused n p h = let g = sym e ∙ h in rw (z.sheet.framed, z.read, g)

  pub schema-opened : x ≡ None → Ok f ≡ schema_frame s
  unfolding schema_frame schema_fault
  schema-opened h = let g = sym e ∙ h in rw (z.sheet.framed, z.read, g, z.sheet.sizes)

-- a sheet's answer, with its number in a refusal: it goes on, or it is turned down
module _ (n : ℕ) (q : Result Sheet Refusal) where
  pub goes-on : (a : Option Fault) (f g : Sheet) → q ≡ on_sheet n (answered a f) → q ≡ Ok g
      → (a ≡ None) × (f ≡ g)
  goes-on None f g e h = let z : Ok f ≡ Ok g = sym e ∙ h in (refl, cc)
  goes-on (Some u) f g e h = absurd
      (let y : Err (record { number = u.number; sheet = n; place = u.place }) ≡ Ok g = sym e ∙ h in
      let z : ◌≡◌ {A = ℕ} 0 1 = cc in omega arith)

  pub turned-down : (a : Option Fault) (f : Sheet) (r : Refusal) → q ≡ on_sheet n (answered a f) → q ≡ Err r
      → (u : Fault) × (a ≡ Some u) × (r ≡ record { number = u.number; sheet = n; place = u.place })
  turned-down None f r e h = absurd
      (let y : Ok f ≡ Err r = sym e ∙ h in let z : ◌≡◌ {A = ℕ} 0 1 = cc in omega arith)
  turned-down (Some u) f r e h =
      let z : ◌≡◌ {A = Result Sheet Refusal} (Err r) (Err (record { number = u.number; sheet = n; place = u.place })) = sym h ∙ e in
      (u, refl, cc)

-- the public answers
module _ (s : List ℕ) (q : Result Sheet Refusal) where
  pub statement-accepted : (f : Sheet) → q ≡ on_sheet 1 (statement_frame s) → q ≡ Ok f → Ok 0 ≡ answer_of (read_statement s)
  unfolding statement_frame after_statement
  statement-accepted f e h = let a = goes-on 1 q (statement_fault s) (sheet_of s) f e h in rw a.0

  pub statement-turned-down : (r : Refusal) → q ≡ on_sheet 1 (statement_frame s) → q ≡ Err r
      → Err r ≡ answer_of (read_statement s)
  unfolding statement_frame after_statement
  statement-turned-down r e h = let t = turned-down 1 q (statement_fault s) (sheet_of s) r e h in rw t.1 (ap (λ (x : Refusal). Err x) t.2)

  pub schema-accepted : (f : Sheet) → q ≡ on_sheet 2 (schema_frame s) → q ≡ Ok f → Ok 0 ≡ answer_of (read_schema s)
  unfolding schema_frame after_schema
  schema-accepted f e h = let a = goes-on 2 q (schema_fault s) (sheet_of s) f e h in rw a.0

  pub schema-turned-down : (r : Refusal) → q ≡ on_sheet 2 (schema_frame s) → q ≡ Err r → Err r ≡ answer_of (read_schema s)
  unfolding schema_frame after_schema
  schema-turned-down r e h = let t = turned-down 2 q (schema_fault s) (sheet_of s) r e h in rw t.1 (ap (λ (x : Refusal). Err x) t.2)

-- what a caller knows of a schema that opens, and of two sheets that do
module _ (s : List ℕ) (f : Sheet) (q : Result Sheet Fault) where
  pub declared-open : q ≡ schema_frame s → q ≡ Ok f → Declared s f
  unfolding schema_frame schema_fault
  declared-open e h =
      let a = answer-of (schema_fault s) (sheet_of s) f (sym e ∙ h) in
      let x = grammar_fault WholeSchema (doc_of s) in
      let y = declared_fault (tree_of (doc_of s)) in
      let b = or-else (frame_fault s) (or_else x y) a.0 in
      record { sheet = sound s f b.0 a.1; read = (or-else x y b.1).0 }

pub both_of : (a b : Option Fault) (x y f g : Sheet) → both_answered a b x y ≡ Ok (both_sizes f g) → (a ≡ None) × (x ≡ f)
    × (b ≡ None) × (y ≡ g)
both_of (Some u) b x y f g e = absurd (let z : ◌≡◌ {A = ℕ} 0 1 = cc in omega arith)
both_of None (Some u) x y f g e = absurd (let z : ◌≡◌ {A = ℕ} 0 1 = cc in omega arith)
both_of None None x y f g e =
    let z : both_sizes x y ≡ both_sizes f g = cc in
    (refl, ap (λ (z : Sizes). z.statement) z, refl, ap (λ (z : Sizes). z.schema) z)

module _ (s d : List ℕ) (f g : Sheet) (q : Result Sizes Refusal) (e : q ≡ open_both s d) (h : q ≡ Ok (both_sizes f g)) where
  pub no-faults : (statement_fault s ≡ None) × (schema_fault d ≡ None)
  unfolding open_both
  no-faults = let r = both_of (statement_fault s) (schema_fault d) (sheet_of s) (sheet_of d) f g (sym e ∙ h) in (r.0, r.2)

  pub both-frames : (statement_frame s ≡ Ok f) × (schema_frame d ≡ Ok g)
  unfolding open_both statement_frame schema_frame
  both-frames =
      let r = both_of (statement_fault s) (schema_fault d) (sheet_of s) (sheet_of d) f g (sym e ∙ h) in
      (rw (r.0, r.1), rw (r.2, r.3))
