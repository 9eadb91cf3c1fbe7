-- The first edition's reader, as it stood before sheets could be thin: what it makes of a thin sheet, and that every
-- other sheet is read as it read it.
use mathlib.Core.Path.{◌≡◌, refl, ap, ◌∙◌}
use mathlib.Core.List.{List}
use mathlib.Core.Bool.{Bool, true, false}
use Prim.Native.Nat.{ℕ, zero, suc, ◌+◌, ◌-◌, ◌*◌, ◌%◌, ◌≤◌}
use native.Mathlib.Nat.{mod-eq_of_lt}
use native.Mathlib.Omega.{arith}
use lib.Dec.{ltb, leb, eqb}
use lib.ListN.{length, take, drop}
use borrow.Author.Tests.{le-ltb, lt-leb, le-leb, leb-true, leb-false}
use Rattle.lists.specs.Lists.{pick, both, either, table}
use Rattle.lists.proofs.Joins.{table_same}
use Rattle.endian.specs.Endian.{u32_at}
use Rattle.utf8.specs.Utf8.{utf8}
use Rattle.frame.specs.Limits.{max_tokens, max_names, max_text}
use Rattle.frame.specs.Sheet.{top_bit, is_thin, in_range, ends_at, or_else, sheet_of, end_of, start_of, part_of, name_at, end_fault, name_fault, sized_fault, frame_fault, fault}
use Rattle.frame.specs.Doc.{Doc, token_at, doc_as, doc_of}
use Rattle.frame.specs.declared.Sheet.{Sheet}
use Rattle.frame.specs.declared.Fault.{Fault}
use Rattle.frame.proofs.Laws.{all-passed}
use Rattle.std.specs.Prelude.{Option, Some, None}

-- ---- the reader as it was: sizes, places, ends, parts, faults, document. What it shares with the reader of now (the
-- limits, where kinds, values and ends begin, a token, the first of two faults) is as it was
unfoldable pub sheet_before : List ℕ → Sheet
sheet_before s = record { tokens = u32_at s 0; names = u32_at s 4; text = u32_at s 8 }

unfoldable pub range_before : Sheet → Bool
range_before f =
    both (leb 1 f.tokens)
    (both (leb f.tokens max_tokens) (both (leb f.names max_names) (leb f.text max_text)))

abbrev pub text_before : Sheet → ℕ
text_before f = 12 + 5 * f.tokens + 4 * f.names

abbrev pub bytes_before : Sheet → ℕ
bytes_before f = text_before f + f.text

unfoldable pub end_before : List ℕ → Sheet → ℕ → ℕ
end_before s f k = u32_at s (ends_at f + 4 * k)

unfoldable pub start_before : List ℕ → Sheet → ℕ → ℕ
start_before s f zero = 0
start_before s f (suc k) = end_before s f k

unfoldable pub part_before : List ℕ → Sheet → ℕ → ℕ → List ℕ
part_before s f from to = take (to - from) (drop (text_before f + from) s)

abbrev pub name_before : List ℕ → Sheet → ℕ → List ℕ
name_before s f k = part_before s f (start_before s f k) (end_before s f k)

unfoldable pub end_fault_before : List ℕ → Sheet → ℕ → ℕ → Option Fault
end_fault_before s f k zero = pick (ltb (start_before s f k) f.text) (Some (fault 4 k)) None
end_fault_before s f k (suc n) =
    let r : Option Fault = end_fault_before s f (suc k) n in
    pick (either (ltb (end_before s f k) (start_before s f k)) (ltb f.text (end_before s f k))) (Some (fault 4 k)) r

unfoldable pub name_fault_before : List ℕ → Sheet → ℕ → ℕ → Option Fault
name_fault_before s f k zero = None
name_fault_before s f k (suc n) =
    let r : Option Fault = name_fault_before s f (suc k) n in pick (utf8 (name_before s f k)) r (Some (fault 5 k))

unfoldable pub sized_fault_before : List ℕ → Sheet → Option Fault
sized_fault_before s f =
    pick (range_before f)
    (pick (eqb (length s) (bytes_before f))
    (or_else (end_fault_before s f 0 f.names) (name_fault_before s f 0 f.names)) (Some (fault 3 0)))
    (Some (fault 2 0))

unfoldable pub fault_before : List ℕ → Option Fault
fault_before s = pick (ltb (length s) 12) (Some (fault 1 0)) (sized_fault_before s (sheet_before s))

unfoldable pub doc_before : List ℕ → Doc
doc_before s =
    let f : Sheet = sheet_before s in
    record { tokens = table (token_at s f) 0 f.tokens; names = table (name_before s f) 0 f.names }

-- A reader of the first edition refuses with 2 any bytes, twelve of them or more, whose token count has its top bit
pub marked_refused : (s : List ℕ) → 12 ≤ length s → is_thin s ≡ true → fault_before s ≡ Some (fault 2 0)
unfolding fault_before sized_fault_before sheet_before range_before
marked_refused s h e =
    let g : top_bit ≤ u32_at s 0 = leb-true top_bit (u32_at s 0) e in
    simp (le-ltb _ _ h, le-leb 1 (u32_at s 0) (omega arith), lt-leb (u32_at s 0) max_tokens (omega arith))

-- and so every thin sheet that is now without fault
pub thin-refused : (s : List ℕ) → frame_fault s ≡ None → is_thin s ≡ true → fault_before s ≡ Some (fault 2 0)
thin-refused s h e = marked_refused s (omega (arith, (all-passed s h).sized.size)) e

-- ---- a sheet that is not marked
module _ (s : List ℕ) (e : is_thin s ≡ false) where
  sheet-same : sheet_of s ≡ sheet_before s
  unfolding sheet_of sheet_before
  sheet-same =
      let t : u32_at s 0 % top_bit ≡ u32_at s 0 = mod-eq_of_lt (leb-false top_bit (u32_at s 0) e) in
      λ i. record { tokens = t i; names = u32_at s 4; text = u32_at s 8 }

  module _ (f : Sheet) where
    end_same : (k : ℕ) → end_of s f k ≡ end_before s f k
    unfolding end_of end_before
    end_same k = rw e

    start-same : (k : ℕ) → start_of s f k ≡ start_before s f k
    unfolding start_of start_before
    start-same zero = refl
    start-same (suc k) = end_same k

    name-same : (k : ℕ) → name_at s f k ≡ name_before s f k
    unfolding part_of part_before
    name-same k = rw (e, start-same k, end_same k)

    ends_same : (k n : ℕ) → end_fault s f k n ≡ end_fault_before s f k n
    unfolding end_fault end_fault_before
    ends_same k zero = rw (start-same k)
    ends_same k (suc n) = rw (start-same k, end_same k, ends_same (suc k) n)

    names_same : (k n : ℕ) → name_fault s f k n ≡ name_fault_before s f k n
    unfolding name_fault name_fault_before
    names_same k zero = refl
    names_same k (suc n) = rw (name-same k, names_same (suc k) n)

    sized_same : sized_fault s f ≡ sized_fault_before s f
    unfolding sized_fault sized_fault_before in_range range_before
    sized_same = rw (e, ends_same 0 f.names, names_same 0 f.names)

  -- Any bytes whose token count lacks the top bit have the fault, and the document, that the first edition read
  pub fault-as-before : frame_fault s ≡ fault_before s
  unfolding frame_fault fault_before
  fault-as-before = rw (sized_same (sheet_of s), sheet-same)

  pub doc-as-before : doc_of s ≡ doc_before s
  unfolding doc_of doc_as doc_before
  doc-as-before =
      ap (doc_as s) sheet-same
      ∙ (λ i. record {
        tokens = table (token_at s (sheet_before s)) 0 (sheet_before s).tokens;
        names = table_same (name_before s (sheet_before s)) (name_at s (sheet_before s)) (sheet_before s).names
            (λ j h. name-same (sheet_before s) j) i;
      })
