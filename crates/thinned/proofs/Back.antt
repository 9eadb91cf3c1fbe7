-- A document's thin bytes are a thin sheet without fault, and it reads as the document; and a thin sheet is its
-- document's thin bytes.
use mathlib.Core.Path.{◌≡◌, refl, sym, ap, ◌∙◌}
use mathlib.Core.List.{List}
use mathlib.Core.Bool.{Bool, true, false}
use Prim.Native.Nat.{ℕ, ◌+◌, ◌-◌, ◌*◌, ◌%◌, ◌≤◌, ◌<◌}
use native.Mathlib.Nat.{add-mod_left, mod-eq_of_lt, mod-eq-sub-mod}
use native.Mathlib.Omega.{arith}
use borrow.Author.Tests.{le-leb, leb-true}
use lib.ListN.{length, get_or}
use Rattle.lists.specs.Lists.{pick, each}
use Rattle.endian.specs.Endian.{u32_at, u16_at, u16_of}
use Rattle.endian.proofs.Laws.{u16-is, u16-skip, u16-whole}
use Rattle.frame.specs.Limits.{max_tokens}
use Rattle.frame.specs.Sheet.{top_bit, is_thin, sheet_of, ends_at, bytes_by, end_of, frame_fault}
use Rattle.frame.specs.Doc.{Doc, doc_of}
use Rattle.frame.specs.Inner.{Sound}
use Rattle.frame.specs.declared.Sheet.{Sheet}
use Rattle.frame.proofs.Laws.{marked, end-thin, size-thin, sound, sound-sized}
use Rattle.written.specs.Written.{text_in, ends_from, sizes_in, written, Fits}
use Rattle.written.proofs.Bytes.{ends-length, parts-length}
use Rattle.written.proofs.Numbers.{numbers-length}
use Rattle.written.proofs.Back.{counted_sizes, laid, count-first, laid_by, counted_back}
use Rattle.written.proofs.Sizes.{doc-text}
use Rattle.written.proofs.Itself.{laid-itself, written-itself}
use Rattle.thinned.specs.Thinned.{u16s, thin_sizes, thinned, thin_of}
use Rattle.std.specs.Prelude.{None}

-- ends of two bytes, where the count has the top bit
thin-end : (s : List ℕ) (f : Sheet) (k c : ℕ) → u32_at s 0 ≡ c → top_bit ≤ c → end_of s f k ≡ u16_at s (ends_at f + 2 * k)
thin-end s f k c e h = sym (end-thin s f true (marked s c (sym e) h) k refl)

-- The thin bytes of a document that fits a sheet have no fault of their frame, and hold the document
pub thin-back : (d : Doc) → Fits d → (frame_fault (thinned d) ≡ None) × (doc_of (thinned d) ≡ d)
unfolding thinned
thin-back d ok =
    let T : ℕ = length d.tokens in
    let low : (top_bit + T) % top_bit ≡ T = add-mod_left top_bit T ∙ mod-eq_of_lt (omega (arith, ok.few_tokens)) in
    counted_back d ok (top_bit + T) 2 u16_of u16_at
    (laid_by d ok (top_bit + T) 2 u16_of u16_at (λ n. refl) u16-skip u16-is (omega (arith, ok.few_tokens)) low
    (ap (λ (b : Bool). pick b 2 4) (le-leb top_bit (top_bit + T) (omega arith)))
    (λ s f k e. thin-end s f k (top_bit + T) e (omega arith)))

-- They are marked
pub thin-marked : (d : Doc) → length d.tokens ≤ max_tokens → is_thin (thinned d) ≡ true
unfolding thinned
thin-marked d h =
    let c : u32_at (thinned d) 0 ≡ top_bit + length d.tokens =
    count-first (top_bit + length d.tokens) (u16s (ends_from 0 d.names)) d (omega arith) in
    le-leb top_bit (u32_at (thinned d) 0) (omega (arith, c))

-- and as many as 12 + 5T + 2M + B
pub thin-length : (d : Doc) → length (thinned d) ≡ bytes_by 2 (sizes_in d)
unfolding thinned each
thin-length d = omega (
  arith,
  parts-length (thin_sizes (sizes_in d)) d.tokens (u16s (ends_from 0 d.names)) (text_in d.names),
  numbers-length 2 u16_of (λ n. refl) (ends_from 0 d.names),
  ends-length 0 d.names,
)

-- ---- a sheet made thin
-- A sheet already of that kind is copied; any other is its document's thin bytes
pub copied : (s : List ℕ) → is_thin s ≡ true → thin_of s ≡ s
unfolding thin_of
copied s e = rw e

pub converted : (s : List ℕ) → is_thin s ≡ false → thin_of s ≡ thinned (doc_of s)
unfolding thin_of
converted s e = rw e

-- the document's sizes are the sheet's
pub sizes-in : (s : List ℕ) (f : Sheet) → Sound s f → sizes_in (doc_of s) ≡ f
sizes-in s f z =
    let e : length (text_in (doc_of s).names) ≡ f.text = doc-text s z.framed ∙ ap (λ (g : Sheet). g.text) z.sizes in
    λ i. record { tokens = z.tokens i; names = z.names i; text = e i }

pub made-length : (s : List ℕ) (f : Sheet) → Sound s f → length (thin_of s) ≡ bytes_by 2 f
made-length s f z = go (is_thin s) refl
  where
    go : (b : Bool) → b ≡ is_thin s → length (thin_of s) ≡ bytes_by 2 f
    go true e = ap length (copied s (sym e)) ∙ size-thin s f true e (sound-sized s f z) refl
    go false e = ap length (converted s (sym e)) ∙ thin-length (doc_of s) ∙ ap (bytes_by 2) (sizes-in s f z)

-- ---- a sheet's bytes by its kind and its document
module _ (s : List ℕ) (small : (i : ℕ) → get_or s i 0 < 256) (h : frame_fault s ≡ None) where
  -- the token count of a thin sheet is the mark and T
  counted : is_thin s ≡ true → top_bit + length (doc_of s).tokens ≡ u32_at s 0
  unfolding sheet_of
  counted e =
      let l : top_bit ≤ u32_at s 0 = leb-true top_bit (u32_at s 0) e in
      let b : u32_at s 0 - top_bit < top_bit = omega (arith, small 0, small 1, small 2, small 3) in
      let m : length (doc_of s).tokens ≡ u32_at s 0 - top_bit =
      (sound s (sheet_of s) h refl).tokens ∙ mod-eq-sub-mod l ∙ mod-eq_of_lt b in
      omega (arith, l, m)

  -- A thin sheet is its document's thin bytes
  pub thin-itself : is_thin s ≡ true → thinned (doc_of s) ≡ s
  unfolding thinned
  thin-itself e =
      ap (λ (n : ℕ). laid (counted_sizes n (doc_of s)) (each u16_of (ends_from 0 (doc_of s).names)) (doc_of s)) (counted e)
      ∙ laid-itself s small h 2 u16_of u16_at (ap (λ (b : Bool). pick b 2 4) e) (u16-whole s small)
      (λ k. sym (end-thin s (sheet_of s) true (sym e) k refl))

  -- Made thin, each sheet is its document's thin bytes: to convert a thin one again is to copy it
  pub made-of-document : thin_of s ≡ thinned (doc_of s)
  made-of-document = go (is_thin s) refl
    where
      go : (b : Bool) → is_thin s ≡ b → thin_of s ≡ thinned (doc_of s)
      go true e = copied s e ∙ sym (thin-itself e)
      go false e = converted s e

  -- Each sheet is the bytes of its document, of its kind
  pub of-its-kind : pick (is_thin s) (thinned (doc_of s)) (written (doc_of s)) ≡ s
  of-its-kind = go (is_thin s) refl
    where
      go : (b : Bool) → is_thin s ≡ b → pick b (thinned (doc_of s)) (written (doc_of s)) ≡ s
      go true e = thin-itself e
      go false e = written-itself s small h e
