-- What it says of a sheet that its frame has no fault.
use mathlib.Core.Path.{◌≡◌, ◌∙◌, sym, refl, ap, subst}
use mathlib.Core.List.{List, []}
use mathlib.Core.Bool.{Bool, true, false}
use mathlib.Core.Logic.{⊎_elim}
use Prim.Native.Nat.{ℕ, zero, suc, ◌+◌, ◌-◌, ◌*◌, ◌/◌, ◌≤◌, ◌<◌}
use native.Mathlib.Omega.{arith}
use native.Mathlib.Nat.{eq-or-lt_of_le, mul-suc, mul-le-mul_right, div-eq_of_lt, div-eq_of_lt-le, div-lt_iff_lt-mul}
use lib.Dec.{ltb}
use lib.ListN.{length, get_or, get_or-eq_default}
use borrow.Author.Tests.{ltb-false, leb-true, eqb-true, lt-leb, le-leb}
use Rattle.lists.specs.Lists.{pick, either, table}
use Rattle.lists.proofs.Tests.{both_true, below}
use Rattle.lists.proofs.Laws.{table-length, table_at}
use Rattle.endian.specs.Endian.{u32_at, u16_at}
use Rattle.utf8.specs.Utf8.{goes_on, utf8}
use Rattle.frame.specs.Limits.{max_tokens, max_names, max_text}
use Rattle.frame.specs.Sheet.{or_else, top_bit, is_thin, end_width, ends_at, text_behind, bytes_by, bytes_of, sheet_of, in_range, end_of, start_of, part_of, name_at, end_fault, name_fault, sized_fault, frame_fault, fault}
use Rattle.frame.specs.Inner.{max_bytes, max_thin, Sized, answered, frame_of, Sound}
use Rattle.frame.specs.Doc.{Token, token_at, doc_as, doc_of, name_of}
use Rattle.frame.specs.declared.Sheet.{Sheet}
use Rattle.frame.specs.declared.Fault.{Fault}
use Rattle.std.specs.Prelude.{Option, Some, None, Result, Ok, Err}

-- ---- faults in turn
pub no_fault : {A : Type 0} {n p : ℕ} → Some (fault n p) ≡ None → A
no_fault e = let z : ◌≡◌ {A = ℕ} 0 1 = cc in absurd (omega arith)

-- two faults in turn are none: neither is one
pub or-else : (a b : Option Fault) → or_else a b ≡ None → (a ≡ None) × (b ≡ None)
or-else None b h = (refl, h)
or-else (Some u) b h = no_fault h

-- the first of two that is one; the second where the first is none
pub or-first : {x : Option Fault} (a b : Option Fault) (n p : ℕ) → x ≡ a → x ≡ Some (fault n p) → Some (fault n p) ≡ or_else a b
or-first a b n p e h = let g : a ≡ Some (fault n p) = sym e ∙ h in rw g

pub or-second : {x r : Option Fault} (a b : Option Fault) → x ≡ a → x ≡ None → r ≡ b → r ≡ or_else a b
or-second a b e h g = let i : a ≡ None = sym e ∙ h in rw i g

passed : (t : Bool) (x : Option Fault) (n p : ℕ) → pick t x (Some (fault n p)) ≡ None → (t ≡ true) × (x ≡ None)
passed true x n p e = (refl, e)
passed false x n p e = no_fault e

pub not_taken : (t : Bool) (x : Option Fault) (n p : ℕ) → pick t (Some (fault n p)) x ≡ None → (t ≡ false) × (x ≡ None)
not_taken true x n p e = no_fault e
not_taken false x n p e = (refl, e)

neither : (a b : Bool) → either a b ≡ false → (a ≡ false) × (b ≡ false)
neither true b e = absurd (let z : ◌≡◌ {A = ℕ} 0 1 = cc in omega arith)
neither false b e = (refl, e)

-- ---- each size in its range
pub record Ranges (f : Sheet) : Type 0 where
  pub some_tokens : 1 ≤ f.tokens
  pub few_tokens : f.tokens ≤ max_tokens
  pub few_names : f.names ≤ max_names
  pub short_text : f.text ≤ max_text

pub ranges : (f : Sheet) → in_range f ≡ true → Ranges f
unfolding in_range
ranges f e =
    let p = both_true _ _ e in
    let q = both_true _ _ p.1 in
    let r = both_true _ _ q.1 in
    record {
      some_tokens = leb-true _ _ p.0;
      few_tokens = leb-true _ _ q.0;
      few_names = leb-true _ _ r.0;
      short_text = leb-true _ _ r.1;
    }

-- ---- a sheet without fault passed each test
pub record Passed (s : List ℕ) (f : Sheet) : Type 0 where
  pub sized : Sized s f
  pub ends : end_fault s f 0 f.names ≡ None
  pub names : name_fault s f 0 f.names ≡ None

sized-passed : (s : List ℕ) (f : Sheet) → sized_fault s f ≡ None → Passed s f
unfolding sized_fault
sized-passed s f h =
    let p = passed _ _ 2 0 h in
    let q = passed _ _ 3 0 p.1 in
    let r = or-else _ _ q.1 in
    record { sized = record { ranges = p.0; size = eqb-true _ _ q.0 }; ends = r.0; names = r.1 }

pub all-passed : (s : List ℕ) → frame_fault s ≡ None → Passed s (sheet_of s)
unfolding frame_fault
all-passed s h = sized-passed s (sheet_of s) (not_taken (ltb (length s) 12) _ 1 0 h).1

-- such a sheet is sound: what a caller of the frame hands on
pub sound : (s : List ℕ) (f : Sheet) → frame_fault s ≡ None → sheet_of s ≡ f → Sound s f
unfolding doc_of doc_as
sound s f h e =
    let r = ranges f (subst (λ (x : Sheet). in_range x ≡ true) e (all-passed s h).sized.ranges) in
    record {
      framed = h;
      sizes = e;
      tokens = table-length _ _ _ ∙ ap (λ (x : Sheet). x.tokens) e;
      names = table-length _ _ _ ∙ ap (λ (x : Sheet). x.names) e;
      some_tokens = r.some_tokens;
      few_tokens = r.few_tokens;
      few_names = r.few_names;
    }

-- what a call of `read` answered
pub answer-of : (q : Option Fault) (g f : Sheet) → answered q g ≡ Ok f → (q ≡ None) × (g ≡ f)
answer-of None g f e = (refl, cc)
answer-of (Some u) g f e = absurd (let z : ◌≡◌ {A = ℕ} 0 1 = cc in omega arith)

pub refused-of : (q : Option Fault) (g : Sheet) (n p : ℕ) → answered q g ≡ Err (fault n p) → q ≡ Some (fault n p)
refused-of None g n p e = absurd (let z : ◌≡◌ {A = ℕ} 0 1 = cc in omega arith)
refused-of (Some u) g n p e = cc

pub sound-read : (s : List ℕ) (f : Sheet) (r : Result Sheet Fault) → r ≡ frame_of s → r ≡ Ok f → Sound s f
unfolding frame_of
sound-read s f r e h = let a = answer-of (frame_fault s) (sheet_of s) f (sym e ∙ h) in sound s f a.0 a.1

pub refused-read : (s : List ℕ) (n p : ℕ) (r : Result Sheet Fault) → r ≡ frame_of s → r ≡ Err (fault n p) → frame_fault s ≡ Some (fault n p)
unfolding frame_of
refused-read s n p r e h = refused-of (frame_fault s) (sheet_of s) n p (sym e ∙ h)

-- ---- a token count below its top bit, or not; by its last byte
module _ (s : List ℕ) (small : (i : ℕ) → get_or s i 0 < 256) where
  pub unmarked-byte : get_or s 3 0 < 128 → false ≡ is_thin s
  unmarked-byte h = sym (lt-leb top_bit (u32_at s 0) (omega (arith, small 0, small 1, small 2)))

  pub marked-byte : 128 ≤ get_or s 3 0 → true ≡ is_thin s
  marked-byte h = sym (le-leb top_bit (u32_at s 0) (omega arith))

  -- that byte's top bit, and the bytes of an end by it
  pub top-bit : get_or s 3 0 / 128 < 2
  top-bit = (div-lt_iff_lt-mul {k = 128} (omega arith)).1 (small 3)

  pub width-byte : 4 - 2 * (get_or s 3 0 / 128) ≡ end_width s
  width-byte = ⊎_elim
      (λ h. let e : get_or s 3 0 / 128 ≡ 0 = div-eq_of_lt h in
      ap (λ (n : ℕ). 4 - 2 * n) e ∙ ap (λ (b : Bool). pick b 2 4) (unmarked-byte h))
      (λ h. let e : get_or s 3 0 / 128 ≡ 1 = div-eq_of_lt-le 128 (omega (arith, h)) (omega (arith, small 3)) in
      ap (λ (n : ℕ). 4 - 2 * n) e ∙ ap (λ (b : Bool). pick b 2 4) (marked-byte h))
      (below (get_or s 3 0) 128)

module _ (s : List ℕ) (x : ℕ) (e : x ≡ u32_at s 0) where
  pub unmarked : x < top_bit → false ≡ is_thin s
  unmarked h = sym (lt-leb top_bit (u32_at s 0) (subst (λ (n : ℕ). n < top_bit) e h))

  pub marked : top_bit ≤ x → true ≡ is_thin s
  marked h = sym (le-leb top_bit (u32_at s 0) (subst (λ (n : ℕ). top_bit ≤ n) e h))

-- ---- a sheet of its size that is thin or not: its length, and its ends
module _ (s : List ℕ) (f : Sheet) (b : Bool) (e : b ≡ is_thin s) where
  pub size-thin : Sized s f → b ≡ true → length s ≡ bytes_by 2 f
  size-thin z h = z.size ∙ ap (λ (t : Bool). bytes_by (pick t 2 4) f) (sym e ∙ h)

  pub size-wide : Sized s f → b ≡ false → length s ≡ bytes_of f
  size-wide z h = z.size ∙ ap (λ (t : Bool). bytes_by (pick t 2 4) f) (sym e ∙ h)

  pub text-there : {x : ℕ} → x ≡ text_behind (pick b 2 4) f → x ≡ text_behind (end_width s) f
  text-there h = h ∙ ap (λ (t : Bool). text_behind (pick t 2 4) f) e

  pub end-thin : (k : ℕ) → b ≡ true → u16_at s (ends_at f + 2 * k) ≡ end_of s f k
  unfolding end_of
  end-thin k h = rw (sym e ∙ h)

  pub end-wide : (k : ℕ) → b ≡ false → u32_at s (ends_at f + 4 * k) ≡ end_of s f k
  unfolding end_of
  end-wide k h = rw (sym e ∙ h)

-- where its text begins, by a test that came out so
pub text-by : {b t : Bool} (f : Sheet) → b ≡ t → text_behind (pick t 2 4) f ≡ text_behind (pick b 2 4) f
text-by f e = ap (λ (x : Bool). text_behind (pick x 2 4) f) (sym e)

-- and it is no longer than with ends of four bytes
pub by_width : (t : Bool) (f : Sheet) → bytes_by (pick t 2 4) f ≤ bytes_of f
by_width true f = omega arith
by_width false f = omega arith

pub size-most : (s : List ℕ) (f : Sheet) → Sized s f → length s ≤ bytes_of f
size-most s f z = omega (arith, z.size, by_width (is_thin s) f)

-- an end has at most four bytes, so that a sheet is no longer than with ends of four
width-by : (t : Bool) → pick t 2 4 ≤ 4
width-by true = omega arith
width-by false = omega arith

pub width_few : (s : List ℕ) → end_width s ≤ 4
width_few s = width-by (is_thin s)

pub size_few : (s : List ℕ) (f : Sheet) → Sized s f → length s ≤ max_bytes
size_few s f z =
    let r = ranges f z.ranges in
    omega (
      arith,
      z.size,
      mul-le-mul_right f.names (width_few s),
      r.few_tokens,
      r.few_names,
      r.short_text,
    )

-- A thin sheet without fault has at most 55,308 bytes
pub thin-few : (s : List ℕ) → frame_fault s ≡ None → is_thin s ≡ true → length s ≤ max_thin
thin-few s h e =
    let z = (all-passed s h).sized in
    let r = ranges (sheet_of s) z.ranges in
    omega (arith, size-thin s (sheet_of s) true (sym e) z refl, r.few_tokens, r.few_names, r.short_text)

-- ---- where the ends have no fault, each name's part is within the text
pub record Within (s : List ℕ) (f : Sheet) (k : ℕ) : Type 0 where
  pub rises : start_of s f k ≤ end_of s f k
  pub inside : end_of s f k ≤ f.text

within-from : (s : List ℕ) (f : Sheet) (n k j : ℕ) → end_fault s f k n ≡ None → k ≤ j → j < k + n → Within s f j
unfolding end_fault
within-from s f zero k j e h g = absurd (omega arith)
within-from s f (suc n) k j e h g =
    let p = not_taken _ _ 4 k e in
    let q = neither _ _ p.0 in
    ⊎_elim
    (λ (i : k ≡ j). subst (λ (m : ℕ). Within s f m) i (record
    { rises = ltb-false _ _ q.0; inside = ltb-false _ _ q.1 }))
    (λ (l : k < j). within-from s f n (suc k) j p.1 l (omega arith))
    (eq-or-lt_of_le h)

pub within : (s : List ℕ) (f : Sheet) (k : ℕ) → end_fault s f 0 f.names ≡ None → k < f.names → Within s f k
within s f k e h = within-from s f f.names 0 k e (omega arith) (omega arith)

-- ---- where the names have no fault, each is UTF-8
names-from : (s : List ℕ) (f : Sheet) (n k j : ℕ) → name_fault s f k n ≡ None → k ≤ j → j < k + n → utf8
    (name_at s f j) ≡ true
unfolding name_fault
names-from s f zero k j e h g = absurd (omega arith)
names-from s f (suc n) k j e h g =
    let p = passed (utf8 (name_at s f k)) _ _ _ e in
    ⊎_elim
    (λ (i : k ≡ j). subst (λ (m : ℕ). utf8 (name_at s f m) ≡ true) i p.0)
    (λ (l : k < j). names-from s f n (suc k) j p.1 l (omega arith))
    (eq-or-lt_of_le h)

-- and so is what stands for a name past the last, which is empty
name-or-none : (s : List ℕ) (f : Sheet) (k : ℕ) → name_fault s f 0 f.names ≡ None → utf8
    (get_or (table (name_at s f) 0 f.names) k []) ≡ true
unfolding utf8 goes_on
name-or-none s f k e = ⊎_elim
    (λ h. rw (table_at (name_at s f) f.names k [] h) (names-from s f f.names 0 k e (omega arith) (omega arith)))
    (λ h. rw (get_or-eq_default (table (name_at s f) 0 f.names) [] {n = k}
    (omega (arith, table-length (name_at s f) 0 f.names))))
    (below k f.names)

pub name-utf8 : (s : List ℕ) (k : ℕ) → frame_fault s ≡ None → utf8 (name_of (doc_of s) k) ≡ true
unfolding doc_of doc_as
name-utf8 s k h = name-or-none s (sheet_of s) _ (all-passed s h).names

-- ---- where the ends have no fault, an end's first two bytes say it, whatever its width
ends_by : (s : List ℕ) (f : Sheet) (b : Bool) → b ≡ is_thin s → (k : ℕ) → end_of s f k < 65536
    → u16_at s (ends_at f + pick b 2 4 * k) ≡ end_of s f k
ends_by s f true e k h = end-thin s f true e k refl
ends_by s f false e k h =
    let w : u32_at s (ends_at f + 4 * k) ≡ end_of s f k = end-wide s f false e k refl in
    omega (arith, w, h)

-- and stand in the sheet
end-inside : (t : Bool) (f : Sheet) (k : ℕ) → k < f.names → ends_at f + pick t 2 4 * k + 2 ≤ bytes_by (pick t 2 4) f
end-inside true f k h = omega arith
end-inside false f k h = omega arith

-- the end before it
before-it : (x w k : ℕ) → (x + w * suc k) - w ≡ x + w * k
before-it x w k = omega (arith, mul-suc w k)

module _ (s : List ℕ) (f : Sheet) (z : Sized s f) (e : end_fault s f 0 f.names ≡ None) (w : ℕ)
    (b : w ≡ end_width s) where
  there : (k : ℕ) → k < f.names → ends_at f + w * k + 2 ≤ length s
  there k h = rw b (omega (arith, end-inside (is_thin s) f k h, z.size))

  short : (k : ℕ) → k < f.names → u16_at s (ends_at f + w * k) ≡ end_of s f k
  short k h =
      let i = (within s f k e h).inside in
      let r = (ranges f z.ranges).short_text in
      ap (λ (x : ℕ). u16_at s (ends_at f + x * k)) b ∙ ends_by s f (is_thin s) refl k (omega (arith, i, r))

  start-there : (k : ℕ) → k < f.names → (k ≡ 0 → ⊥) → (ends_at f + w * k) - w + 2 ≤ length s
  start-there zero h n = absurd (n refl)
  start-there (suc k) h n = omega (arith, before-it (ends_at f) w k, there k (omega arith))

  start-short : (k : ℕ) → k < f.names → (k ≡ 0 → ⊥) → u16_at s ((ends_at f + w * k) - w) ≡ start_of s f k
  unfolding start_of
  start-short zero h n = absurd (n refl)
  start-short (suc k) h n = ap (u16_at s) (before-it (ends_at f) w k) ∙ short k (omega arith)

-- what is asked of a sheet and a name whose ends are read so
abbrev pub HasEnds : List ℕ → Sheet → ℕ → Type 0
HasEnds s f k = Sized s f × ((end_fault s f 0 f.names ≡ None) × (k < f.names))

-- the name's end stands at `at`, its first two bytes say where the name ends in the text, and those of the end before
-- where it starts
module _ {s : List ℕ} {f : Sheet} {k w at : ℕ} (p : HasEnds s f k) (b : w ≡ end_width s) (g : at ≡ ends_at f + w * k) where
  pub to-there : at + 2 ≤ length s
  to-there = omega (arith, g, there s f p.0 p.1.0 w b k p.1.1)

  pub from-there : (k ≡ 0 → ⊥) → at - w + 2 ≤ length s
  from-there n = rw g (start-there s f p.0 p.1.0 w b k p.1.1 n)

  -- in a text that begins at t the name ends within the sheet, which is not long
  module _ {t to : ℕ} (a : t ≡ text_behind (end_width s) f) (q : to ≡ u16_at s at) where
    pub to_is : to ≡ end_of s f k
    to_is = q ∙ ap (u16_at s) g ∙ short s f p.0 p.1.0 w b k p.1.1

    pub to_inside : (t + to ≤ length s) × (length s ≤ max_bytes)
    to_inside =
        (omega (arith, to_is, p.0.size, (within s f k p.1.0 p.1.1).inside), size_few s f p.0)

    -- and starts no later
    module _ {from : ℕ} (n : k ≡ 0 → ⊥) (r : from ≡ u16_at s (at - w)) where
      pub from_is : from ≡ start_of s f k
      from_is = r ∙ ap (λ (i : ℕ). u16_at s (i - w)) g ∙ start-short s f p.0 p.1.0 w b k p.1.1 n

      pub from-before : t + from ≤ t + to
      from-before = omega (arith, to_is, from_is, (within s f k p.1.0 p.1.1).rises)

-- a caller's from and to, the start and the end of a name
module _ (s : List ℕ) (f : Sheet) (k from to : ℕ) (e : end_fault s f 0 f.names ≡ None) (h : k < f.names)
    (a : from ≡ start_of s f k) (b : to ≡ end_of s f k) where
  pub part-rises : from ≤ to
  part-rises = let w = within s f k e h in omega arith

  pub part-inside : to ≤ f.text
  part-inside = let w = within s f k e h in omega arith

-- ---- the same of a sheet that is sound
sound-passed : (s : List ℕ) (f : Sheet) → Sound s f → Passed s f
sound-passed s f h = subst (λ (x : Sheet). Passed s x) h.sizes (all-passed s h.framed)

pub sound-sized : (s : List ℕ) (f : Sheet) → Sound s f → Sized s f
sound-sized s f h = (sound-passed s f h).sized

pub sound-ends : (s : List ℕ) (f : Sheet) → Sound s f → end_fault s f 0 f.names ≡ None
sound-ends s f h = (sound-passed s f h).ends

sound-doc : (s : List ℕ) (f : Sheet) → Sound s f → doc_as s f ≡ doc_of s
unfolding doc_of
sound-doc s f h = ap (doc_as s) (sym h.sizes)

-- what stands at a token's and a name's place is the document's
pub token-is : (s : List ℕ) (f : Sheet) (i : ℕ) (d : Token) → Sound s f → i < f.tokens → token_at s f i ≡ get_or
    (doc_of s).tokens i d
unfolding doc_as
token-is s f i d z h = rw (← sound-doc s f z) (sym (table_at (token_at s f) f.tokens i d h))

pub name-is : (s : List ℕ) (f : Sheet) (k from to : ℕ) (t : List ℕ) → Sound s f → k < f.names → from ≡ start_of s f k
    → to ≡ end_of s f k
    → t ≡ part_of s f from to → t ≡ name_of (doc_of s) k
unfolding doc_as
name-is s f k from to t z h a b e =
    let g : t ≡ name_at s f k = cc in
    rw (← sound-doc s f z) (g ∙ sym (table_at (name_at s f) f.names k [] h))
