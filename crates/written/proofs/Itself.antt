-- A sheet without fault is the bytes of its document: its kind and its document determine it, byte by byte.
use mathlib.Core.Path.{◌≡◌, refl, sym, ap, ◌∙◌}
use mathlib.Core.List.{List, [], ◌++◌}
use mathlib.Core.Bool.{Bool, false}
use Prim.Native.Nat.{ℕ, ◌+◌, ◌*◌, ◌≤◌, ◌<◌}
use native.Mathlib.Nat.{mod-eq_of_lt}
use native.Mathlib.Omega.{arith}
use borrow.Author.Tests.{leb-false}
use lib.ListN.{length, get_or, take, drop, take-append-drop}
use Rattle.lists.specs.Lists.{pick, table, each}
use Rattle.lists.proofs.Joins.{map-table}
use Rattle.lists.proofs.Parts.{seam, numbers-there, all-pieces}
use Rattle.endian.specs.Endian.{u32_at, u32_of}
use Rattle.endian.proofs.Laws.{u32-whole}
use Rattle.frame.specs.Sheet.{top_bit, is_thin, sheet_of, end_width, values_at, ends_at, text_behind, bytes_by, end_of, frame_fault}
use Rattle.frame.specs.Doc.{Token, token_at, doc_as, doc_of}
use Rattle.frame.specs.Inner.{Sound}
use Rattle.frame.specs.declared.Sheet.{Sheet}
use Rattle.frame.proofs.Laws.{Passed, all-passed, sound, end-wide}
use Rattle.written.specs.Written.{text_in, ends_from, kind_bytes, value_bytes, written}
use Rattle.written.proofs.Back.{counted_sizes, laid}
use Rattle.written.proofs.Sizes.{ends-are, doc-text-is, doc-text}
use Rattle.std.specs.Prelude.{None}

module _ (s : List ℕ) (small : (i : ℕ) → get_or s i 0 < 256) (h : frame_fault s ≡ None) where
  abbrev f : Sheet
  f = sheet_of s

  z : Sound s f
  z = sound s f h refl

  p : Passed s f
  p = all-passed s h

  fit : length s ≡ bytes_by (end_width s) f
  fit = p.sized.size

  -- ---- each part of it
  -- several u32, from a place on
  u32s-there : (at n : ℕ) → at + 4 * n ≤ length s
      → each u32_of (table (λ i. u32_at s (at + 4 * i)) 0 n) ≡ take (4 * n) (drop at s)
  u32s-there at n b =
      all-pieces s 4 at u32_of (λ i. u32_at s (at + 4 * i)) (λ k. u32-whole s small (at + 4 * k)) n b

  sizes-are : counted_sizes (u32_at s 0) (doc_of s) ≡ take 12 s
  unfolding sheet_of each table
  sizes-are =
      let m : length (doc_of s).names ≡ u32_at s 4 = z.names in
      let b : length (text_in (doc_of s).names) ≡ u32_at s 8 = doc-text s h in
      (λ i. u32_of (u32_at s 0) ++ (u32_of (m i) ++ (u32_of (b i) ++ []))) ∙ u32s-there 0 3 (omega (arith, fit))

  kinds-are : kind_bytes (doc_of s).tokens ≡ take f.tokens (drop 12 s)
  unfolding doc_of doc_as
  kinds-are =
      map-table (λ (t : Token). t.kind) (token_at s f) 0 f.tokens
      ∙ numbers-there s (λ i. get_or s (12 + i) 0) 12 (λ i. refl) f.tokens 0 (omega (arith, fit))

  values-are : value_bytes (doc_of s).tokens ≡ take (4 * f.tokens) (drop (values_at f) s)
  unfolding doc_of doc_as
  values-are =
      ap (each u32_of) (map-table (λ (t : Token). t.value) (token_at s f) 0 f.tokens)
      ∙ u32s-there (values_at f) f.tokens (omega (arith, fit))

  -- ---- by the bytes w of an end, how it is put and how it is read
  module _ (w : ℕ) (put : ℕ → List ℕ) (read : List ℕ → ℕ → ℕ) (width : end_width s ≡ w)
      (whole : (at : ℕ) → at + w ≤ length s → put (read s at) ≡ take w (drop at s))
      (end : (k : ℕ) → end_of s f k ≡ read s (ends_at f + w * k)) where
    end-bytes-are : each put (ends_from 0 (doc_of s).names) ≡ take (w * f.names) (drop (ends_at f) s)
    unfolding doc_of doc_as
    end-bytes-are =
        let e : length s ≡ bytes_by w f = fit ∙ ap (λ (n : ℕ). bytes_by n f) width in
        ap (each put) (ends-are s f fit p.ends)
        ∙ (λ i. each put (table (λ k. end k i) 0 f.names))
        ∙ all-pieces s w (ends_at f) put (λ i. read s (ends_at f + w * i)) (λ k. whole (ends_at f + w * k)) f.names
        (omega (arith, e))

    pub laid-itself : laid (counted_sizes (u32_at s 0) (doc_of s)) (each put (ends_from 0 (doc_of s).names)) (doc_of s) ≡ s
    laid-itself =
        let t : text_in (doc_of s).names ≡ drop (text_behind w f) s =
        doc-text-is s h ∙ ap (λ (n : ℕ). drop (text_behind n f) s) width in
        (λ i. sizes-are i ++ (kinds-are i ++ (values-are i ++ (end-bytes-are i ++ t i))))
        ∙ ap (λ (l : List ℕ). take 12 s ++ (take f.tokens (drop 12 s) ++ (take (4 * f.tokens) (drop (values_at f) s) ++ l)))
        (seam s (ends_at f) (w * f.names) (text_behind w f) refl)
        ∙ ap (λ (l : List ℕ). take 12 s ++ (take f.tokens (drop 12 s) ++ l))
        (seam s (values_at f) (4 * f.tokens) (ends_at f) (omega arith))
        ∙ ap (λ (l : List ℕ). take 12 s ++ l) (seam s 12 f.tokens (values_at f) refl)
        ∙ take-append-drop 12 s

  -- A sheet with u32 ends is its document's bytes
  pub written-itself : is_thin s ≡ false → written (doc_of s) ≡ s
  unfolding written sheet_of
  written-itself e =
      let c : length (doc_of s).tokens ≡ u32_at s 0 = z.tokens ∙ mod-eq_of_lt (leb-false top_bit (u32_at s 0) e) in
      ap (λ (n : ℕ). laid (counted_sizes n (doc_of s)) (each u32_of (ends_from 0 (doc_of s).names)) (doc_of s)) c
      ∙ laid-itself 4 u32_of u32_at (ap (λ (b : Bool). pick b 2 4) e) (u32-whole s small)
      (λ k. sym (end-wide s f false (sym e) k refl))
