-- What is written by an operation that makes sheets thin, of any bytes and any buffer; and the same of both grammars.
use mathlib.Core.Path.{◌≡◌, refl, sym, ap, ◌∙◌, subst}
use mathlib.Core.Bool.{Bool, true, false}
use mathlib.Core.List.{List}
use Prim.Native.Nat.{ℕ, ◌≤◌, ◌<◌}
use borrow.Author.Tests.{le-leb, lt-leb, leb-false}
use lib.Dec.{leb}
use lib.ListN.{length, get_or}
use Rattle.lists.specs.Lists.{pick}
use Rattle.frame.specs.Sheet.{is_thin, frame_fault}
use Rattle.frame.specs.Doc.{doc_of}
use Rattle.frame.specs.declared.Fault.{Fault}
use Rattle.frame.proofs.Laws.{or-else}
use Rattle.rules.specs.declared.Place.{Place}
use Rattle.rules.specs.declared.Place.TheVariants.{WholeStatement, WholeSchema}
use Rattle.grammar.specs.Machine.{grammar_fault}
use Rattle.schema.specs.Declarations.{statement_fault, schema_fault}
use Rattle.schema.specs.Effect.{Effect, refusal, writes, unless_refused, fitted}
use Rattle.schema.proofs.Effects.{writes_nothing, unrefused, fitted-wrote}
use Rattle.join_marks.proofs.Sheets.{neither}
use Rattle.thinned.specs.Thinned.{thinned, thin_of}
use Rattle.thinned.proofs.Back.{copied, made-of-document}
use Rattle.thin.specs.Thin.{thin_effect}
use Rattle.thin_marks.specs.Alike.{Alike}
use Rattle.thin_marks.proofs.Made.{made_alike, made-thin, never-longer, once}
use Rattle.std.specs.Prelude.{Option, Some, None}
use Rattle.frame.specs.Sheet.{fault}

-- of a sheet s, turned down by `fault_in` if at all, whose thin bytes xs were written
pub record ThinSheet (fault_in : List ℕ → Option Fault) (made : List ℕ → List ℕ → Effect) (s : List ℕ) (n : ℕ) (xs : List ℕ)
    : Type 0 where
  -- the sheet was accepted, and so is what is written: it is a thin sheet
  pub accepted : fault_in s ≡ None
  pub no_fault : fault_in xs ≡ None
  pub thin : is_thin xs ≡ true
  -- every name and token reads the same, and a sheet already of that kind is copied
  pub says_same : Alike xs s
  pub copies : is_thin s ≡ true → xs ≡ s
  -- its number of bytes is the answer, and it is no longer than the sheet
  pub count : n ≡ length xs
  pub no_longer : length xs ≤ length s
  -- made thin again it is itself, with room for it
  pub again : (out : List ℕ) → length xs ≤ length out → made xs out ≡ writes n xs

-- of a sheet s with the number `sheet`, and any buffer: which answer is due
pub record ThinAnswer (fault_in : List ℕ → Option Fault) (made : List ℕ → List ℕ → Effect) (sheet : ℕ) (s out : List ℕ) : Type 0 where
  -- the sheet's refusals come first
  pub refused : (n p : ℕ) → fault_in s ≡ Some (fault n p) → made s out ≡ refusal n sheet p
  -- then 16, exactly when the thin bytes are longer than the buffer
  pub no_room : fault_in s ≡ None → length out < length (thin_of s) → made s out ≡ refusal 16 0 0
  pub only_no_room : made s out ≡ refusal 16 0 0 → (fault_in s ≡ None) × (length out < length (thin_of s))
  -- else they are written
  pub room : fault_in s ≡ None → length (thin_of s) ≤ length out → made s out ≡ writes (length (thin_of s)) (thin_of s)

-- what fits is written
fits-again : (xs out : List ℕ) (n : ℕ) → n ≡ length xs → length xs ≤ length out
    → fitted (length xs) xs out ≡ writes n xs
unfolding fitted
fits-again xs out n e h = rw (le-leb (length xs) (length out) h, e)

-- and 16 tells what does not
told-16 : (xs out : List ℕ) (n : ℕ) → fitted n xs out ≡ refusal 16 0 0 → length out < length xs
unfolding fitted
told-16 xs out n e = go (leb (length xs) (length out)) refl e
  where
    go : (t : Bool) → leb (length xs) (length out) ≡ t → pick t (writes n xs) (refusal 16 0 0) ≡ refusal 16 0 0
        → length out < length xs
    go true g e = writes_nothing (sym e)
    go false g e = leb-false (length xs) (length out) g

-- one law over both grammars: a sheet's faults are its frame's, the grammar's and what else goes by the document
module _ (fault_in : List ℕ → Option Fault) (made : List ℕ → List ℕ → Effect) (sheet : ℕ) (p : Place)
    (is : (s out : List ℕ) → made s out ≡ unless_refused sheet (fault_in s) (thin_effect s out))
    (same : (s t : List ℕ) → Alike s t → fault_in s ≡ fault_in t)
    (parts : (s : List ℕ) → fault_in s ≡ None → (frame_fault s ≡ None) × (grammar_fault p (doc_of s) ≡ None)) where
  pub sheet-written : (s out : List ℕ) (n : ℕ) (xs : List ℕ) → made s out ≡ writes n xs → ThinSheet fault_in made s n xs
  unfolding thin_effect
  sheet-written s out n xs e =
      let u = unrefused sheet (fault_in s) (fitted (length (thin_of s)) (thin_of s) out) n xs (sym (is s out) ∙ e) in
      let w = fitted-wrote (length (thin_of s)) (thin_of s) out n xs u.1 in
      let o = parts s u.0 in
      let a = made_alike p s o.0 o.1 in
      let q : fault_in (thin_of s) ≡ None = same (thin_of s) s a ∙ u.0 in
      subst (ThinSheet fault_in made s n) w.0 (record {
        accepted = u.0;
        no_fault = q;
        thin = made-thin p s o.0 o.1;
        says_same = a;
        copies = copied s;
        count = sym w.1;
        no_longer = never-longer p s o.0 o.1;
        again = λ out' h.
            is (thin_of s) out' ∙ rw (q, once p s o.0 o.1) (fits-again (thin_of s) out' n (sym w.1) h);
      })

  pub sheet-answer : 0 < sheet → (s out : List ℕ) → ThinAnswer fault_in made sheet s out
  unfolding thin_effect fitted
  sheet-answer o s out =
      let l = length (thin_of s) in
      record {
        refused = λ n p h. is s out ∙ rw h;
        no_room = λ h b. is s out ∙ rw (h, lt-leb l (length out) b);
        only_no_room = λ e.
            let q = neither sheet (fault_in s) (thin_effect s out) 16 o (sym (is s out) ∙ e) in
            (q.0, told-16 (thin_of s) out l q.1);
        room = λ h b. is s out ∙ rw (h, le-leb l (length out) b);
      }

  -- of two lists of bytes that are alike the same is made
  pub sheet-same : (s t : List ℕ) → ((i : ℕ) → get_or s i 0 < 256) → ((i : ℕ) → get_or t i 0 < 256) → Alike s t
      → (out : List ℕ) → made s out ≡ made t out
  unfolding fitted thin_effect
  sheet-same s t small few a out = is s out ∙ go (fault_in s) refl ∙ sym (is t out)
    where
      go : (q : Option Fault) → fault_in s ≡ q → unless_refused sheet (fault_in s) (thin_effect s out)
          ≡ unless_refused sheet (fault_in t) (thin_effect t out)
      go None e =
          let h : frame_fault s ≡ None = (parts s e).0 in
          let same_bytes : thin_of s ≡ thin_of t =
          made-of-document s small h ∙ ap thinned a.doc ∙ sym (made-of-document t few (sym a.fault ∙ h)) in
          λ i. unless_refused sheet (same s t a i) (fitted (length (same_bytes i)) (same_bytes i) out)
      go (Some u) e = rw (e, sym (same s t a) ∙ e)

pub statement-parts : (s : List ℕ) → statement_fault s ≡ None
    → (frame_fault s ≡ None) × (grammar_fault WholeStatement (doc_of s) ≡ None)
unfolding statement_fault
statement-parts s h = or-else (frame_fault s) _ h

pub schema-parts : (s : List ℕ) → schema_fault s ≡ None
    → (frame_fault s ≡ None) × (grammar_fault WholeSchema (doc_of s) ≡ None)
unfolding schema_fault
schema-parts s h = let a = or-else (frame_fault s) _ h in (a.0, (or-else (grammar_fault WholeSchema (doc_of s)) _ a.1).0)
