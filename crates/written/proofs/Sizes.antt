-- The document of a sheet without fault: the ends of its names are the sheet's, and its names together the sheet's text.
use mathlib.Core.Path.{◌≡◌, refl, sym, ap, ◌∙◌}
use mathlib.Core.List.{List, ◌∷◌, ◌++◌}
use Prim.Native.Nat.{ℕ, zero, suc, ◌+◌, ◌-◌, ◌≤◌, ◌<◌}
use native.Mathlib.Nat.{add-zero}
use native.Mathlib.Omega.{arith}
use borrow.Author.Tests.{ltb-false}
use lib.ListN.{length, take, drop, length-drop}
use lib.Seq.{length-take-le}
use lib.Dec.{ltb}
use Rattle.lists.specs.Lists.{either, table, each}
use Rattle.lists.proofs.Laws.{rest-none}
use Rattle.lists.proofs.Parts.{seam}
use Rattle.frame.specs.Sheet.{end_width, sheet_of, text_behind, bytes_by, end_of, start_of, part_of, name_at, end_fault, frame_fault}
use Rattle.frame.specs.Doc.{doc_as, doc_of}
use Rattle.frame.specs.declared.Sheet.{Sheet}
use Rattle.frame.proofs.Laws.{not_taken, all-passed, within}
use Rattle.written.specs.Written.{text_in, ends_from}
use Rattle.std.specs.Prelude.{None}

module _ (s : List ℕ) (f : Sheet) where
  -- the last name ends at the end of the text, or after it
  last-from : (n k : ℕ) → end_fault s f k n ≡ None → f.text ≤ start_of s f (k + n)
  unfolding end_fault
  last-from zero k e = rw (add-zero k) (ltb-false _ _ (not_taken (ltb (start_of s f k) f.text) None 4 k e).0)
  last-from (suc n) k e =
      let r = not_taken (either (ltb (end_of s f k) (start_of s f k)) (ltb f.text (end_of s f k)))
      (end_fault s f (suc k) n) 4 k e in
      let z : k + suc n ≡ suc k + n = omega arith in
      rw z (last-from n (suc k) r.1)

  module _ (fit : length s ≡ bytes_by (end_width s) f) (ends : end_fault s f 0 f.names ≡ None) where
    name-length : (k : ℕ) → k < f.names → length (name_at s f k) + start_of s f k ≡ end_of s f k
    unfolding part_of
    name-length k h =
        let w = within s f k ends h in
        let l : length (take (end_of s f k - start_of s f k) (drop (text_behind (end_width s) f + start_of s f k) s))
        ≡ end_of s f k - start_of s f k =
        length-take-le _ _ (omega (arith, length-drop (text_behind (end_width s) f + start_of s f k) s, w.rises, w.inside)) in
        omega (arith, l, w.rises)

    most : (m : ℕ) → m ≤ f.names → start_of s f m ≤ f.text
    unfolding start_of
    most zero e = omega arith
    most (suc m) e = (within s f m ends e).inside

    -- the last name ends where the text does
    last_end : start_of s f f.names ≡ f.text
    last_end =
        let z : 0 + f.names ≡ f.names = omega arith in
        let l : f.text ≤ start_of s f (0 + f.names) = last-from f.names 0 ends in
        let q : start_of s f (0 + f.names) ≡ start_of s f f.names = ap (start_of s f) z in
        omega (arith, most f.names (omega arith), l, q)

    -- the names from k on are the text from there on
    texts-from : (n k : ℕ) → k + n ≡ f.names
        → text_in (table (name_at s f) k n) ≡ drop (text_behind (end_width s) f + start_of s f k) s
    unfolding each table start_of part_of
    texts-from zero k h =
        let e : k ≡ f.names = omega arith in
        let l : start_of s f k ≡ f.text = ap (start_of s f) e ∙ last_end in
        sym (rest-none s (text_behind (end_width s) f + start_of s f k) (omega (arith, l, fit)))
    texts-from (suc n) k h =
        let v = within s f k ends (omega arith) in
        let t : ℕ = text_behind (end_width s) f + start_of s f k in
        let m : ℕ = end_of s f k - start_of s f k in
        let e : t + m ≡ text_behind (end_width s) f + end_of s f k = omega (arith, v.rises) in
        let r : text_in (table (name_at s f) (suc k) n) ≡ drop (text_behind (end_width s) f + end_of s f k) s =
        texts-from n (suc k) (omega arith) in
        ap (λ (l : List ℕ). take m (drop t s) ++ l) r ∙ seam s t m (text_behind (end_width s) f + end_of s f k) e

    pub texts-are : text_in (table (name_at s f) 0 f.names) ≡ drop (text_behind (end_width s) f) s
    unfolding start_of
    texts-are =
        let e : text_behind (end_width s) f + 0 ≡ text_behind (end_width s) f = omega arith in
        texts-from f.names 0 (omega arith) ∙ ap (λ (j : ℕ). drop j s) e

    -- where each name ends
    ends-from : (n k : ℕ) → k + n ≤ f.names → ends_from (start_of s f k) (table (name_at s f) k n) ≡ table (end_of s f) k n
    unfolding ends_from table start_of
    ends-from zero k h = refl
    ends-from (suc n) k h =
        let e : start_of s f k + length (name_at s f k) ≡ end_of s f k = omega (arith, name-length k (omega arith)) in
        let r : ends_from (end_of s f k) (table (name_at s f) (suc k) n) ≡ table (end_of s f) (suc k) n =
        ends-from n (suc k) (omega arith) in
        ap (λ (j : ℕ). j ∷ ends_from j (table (name_at s f) (suc k) n)) e ∙ ap (λ (l : List ℕ). end_of s f k ∷ l) r

    pub ends-are : ends_from 0 (table (name_at s f) 0 f.names) ≡ table (end_of s f) 0 f.names
    unfolding start_of
    ends-are = ends-from f.names 0 (omega arith)

-- the text of a sheet without fault is its names', one after the other; so they are together as long
pub doc-text-is : (s : List ℕ) → frame_fault s ≡ None
    → text_in (doc_of s).names ≡ drop (text_behind (end_width s) (sheet_of s)) s
unfolding doc_of doc_as
doc-text-is s h = texts-are s (sheet_of s) (all-passed s h).sized.size (all-passed s h).ends

pub doc-text : (s : List ℕ) → frame_fault s ≡ None → length (text_in (doc_of s).names) ≡ (sheet_of s).text
doc-text s h =
    let l : length (drop (text_behind (end_width s) (sheet_of s)) s) ≡ length s - text_behind (end_width s) (sheet_of s) =
    length-drop (text_behind (end_width s) (sheet_of s)) s in
    omega (arith, ap length (doc-text-is s h), l, (all-passed s h).sized.size)
