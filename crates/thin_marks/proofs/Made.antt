-- A sheet made thin, for any bytes: it is accepted where the sheet was, says the same, and is no longer.
use mathlib.Core.Path.{◌≡◌, refl, sym, ap, ◌∙◌, subst}
use mathlib.Core.Bool.{Bool, true, false}
use mathlib.Core.List.{List}
use Prim.Native.Nat.{ℕ, ◌+◌, ◌*◌, ◌≤◌}
use native.Mathlib.Omega.{arith}
use lib.ListN.{length}
use Rattle.frame.specs.Sheet.{is_thin, sheet_of, frame_fault}
use Rattle.frame.specs.Doc.{doc_of}
use Rattle.frame.specs.Inner.{Sound}
use Rattle.frame.specs.declared.Sheet.{Sheet}
use Rattle.frame.proofs.Laws.{ranges, sound, sound-sized, size-wide, name-utf8}
use Rattle.rules.specs.declared.Place.{Place}
use Rattle.grammar.specs.Machine.{grammar_fault}
use Rattle.written.specs.Written.{within_limits, sizes_within, Fits}
use Rattle.join.proofs.Joining.{all-within}
use Rattle.join_marks.proofs.Sheets.{accepted-fits}
use Rattle.thinned.specs.Thinned.{thin_of}
use Rattle.thinned.proofs.Back.{thin-back, thin-marked, copied, converted, sizes-in, made-length}
use Rattle.thin_marks.specs.Alike.{Alike}
use Rattle.thin_marks.proofs.Answers.{itself}
use Rattle.std.specs.Prelude.{None}
use Rattle.frame.specs.Sheet.{fault}

-- ---- a sheet without fault that a grammar accepts
module _ (p : Place) (s : List ℕ) (h : frame_fault s ≡ None) (g : grammar_fault p (doc_of s) ≡ None) where
  z : Sound s (sheet_of s)
  z = sound s (sheet_of s) h refl

  within : within_limits (doc_of s) ≡ true
  within =
      let r = ranges (sheet_of s) (sound-sized s (sheet_of s) z).ranges in
      subst (λ (f : Sheet). sizes_within f ≡ true) (sym (sizes-in s (sheet_of s) z))
      (sym (all-within (sheet_of s) r.few_tokens r.few_names r.short_text))

  fits : Fits (doc_of s)
  fits = accepted-fits p (doc_of s) g (omega (arith, z.tokens, z.some_tokens)) within (λ k l. name-utf8 s k h)

  -- Made thin it says the same
  pub made_alike : Alike (thin_of s) s
  made_alike = go (is_thin s) refl
    where
      go : (b : Bool) → is_thin s ≡ b → Alike (thin_of s) s
      go true e = rw (copied s e) itself
      go false e =
          let r = thin-back (doc_of s) fits in
          rw (converted s e) (record { fault = r.0 ∙ sym h; doc = r.1 })

  -- It is of the thin kind
  pub made-thin : is_thin (thin_of s) ≡ true
  made-thin = go (is_thin s) refl
    where
      go : (b : Bool) → is_thin s ≡ b → is_thin (thin_of s) ≡ true
      go true e = ap is_thin (copied s e) ∙ e
      go false e = ap is_thin (converted s e) ∙ thin-marked (doc_of s) fits.few_tokens

  -- A sheet with u32 ends is two bytes a name longer
  pub two-a-name : is_thin s ≡ false → length (thin_of s) + 2 * (sheet_of s).names ≡ length s
  two-a-name e = omega (
    arith,
    made-length s (sheet_of s) z,
    size-wide s (sheet_of s) false (sym e) (sound-sized s (sheet_of s) z) refl,
  )

  -- so that made thin it is never longer
  pub never-longer : length (thin_of s) ≤ length s
  never-longer = go (is_thin s) refl
    where
      go : (b : Bool) → is_thin s ≡ b → length (thin_of s) ≤ length s
      go true e = omega (arith, ap length (copied s e))
      go false e = omega (arith, two-a-name e)

  -- Made thin twice is made thin once
  pub once : thin_of (thin_of s) ≡ thin_of s
  once = copied (thin_of s) made-thin
