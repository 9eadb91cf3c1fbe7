-- What follows from a row that begins at a place, and from a place where a text breaks the grammar.
use mathlib.Core.Path.{◌≡◌, ◌∙◌, refl, sym}
use mathlib.Core.List.{List, [], ◌∷◌, ◌++◌, append_assoc}
use mathlib.Core.Bool.{false}
use mathlib.Core.Logic.{⊎_elim}
use Prim.Native.Nat.{ℕ, suc, ◌+◌, ◌-◌, ◌≤◌, ◌<◌}
use native.Mathlib.Omega.{arith}
use lib.Dec.{eqb}
use lib.ListN.{length, length-append, length-drop, take, drop, take-append-drop}
use lib.Seq.{length-take-le, take_all, take-add, drop-drop}
use borrow.Author.Tests.{ne_eqb}
use Rattle.lists.proofs.Laws.{rest-none}
use Rattle.lists.proofs.Tests.{below}
use Rattle.lists.proofs.Parts.{seam}
use Rattle.rfc4180.specs.Cells.{row_of}
use Rattle.rfc4180.specs.Grammar.{CRLF}
use Rattle.rfc4180.specs.Csv.{begin, runs, rows_from, prepend, fresh}
use Rattle.rfc4180.specs.Line.{line_from}
use Rattle.rfc4180.specs.RowHere.{RowEnds, with_crlf, with_text, RowHere, Breaks}
use Rattle.rfc4180.specs.declared.Span.{Span}
use Rattle.rfc4180.specs.declared.Line.TheVariants.{Whole}
use Rattle.rfc4180.proofs.Agree.{broken-from}
use Rattle.rfc4180.proofs.Computed.{Done, done-as, done-crlf, done_end, record-done, none_row, runs_append, runs_none}
use Rattle.rfc4180.proofs.Later.{row-later}
use Rattle.rfc4180.proofs.Recorded.{crlf-line, end_line}
use Rattle.std.specs.Prelude.{None}

-- ---- the bytes from one place up to another
module _ (s : List ℕ) (a q : ℕ) (f : a ≤ q) (w : q ≤ length s) where
  part-size : q ≡ a + length (take (q - a) (drop a s))
  part-size = omega (arith, length-take-le (q - a) (drop a s) (omega (arith, length-drop a s)))

  part-rest : drop a s ≡ take (q - a) (drop a s) ++ drop q s
  part-rest = sym (seam s a (q - a) q (omega arith))

module _ (s : List ℕ) (q : ℕ) (e : take (length CRLF) (drop q s) ≡ CRLF) where
  crlf-rest : drop q s ≡ CRLF ++ drop (q + length CRLF) s
  crlf-rest = sym (rw (e, drop-drop (length CRLF) q s) at (take-append-drop (length CRLF) (drop q s)))

  crlf-within : q + length CRLF ≤ length s
  crlf-within =
      let z : length (drop q s) ≡ length CRLF + length (drop (q + length CRLF) s) = rw crlf-rest
      (length-append CRLF (drop (q + length CRLF) s)) in
      omega (arith, length-drop q s)

-- ---- a row that begins at a
module _ {s : List ℕ} {a : ℕ} {sp : Span} (h : RowHere s a sp) where
  abbrev bytes_of : List ℕ
  bytes_of = take (sp.stop - a) (drop a s)

  size : sp.stop ≡ a + length bytes_of
  size = part-size s a sp.stop h.forward h.within

  before-crlf : take (length CRLF) (drop sp.stop s) ≡ CRLF → sp.next ≡ sp.stop + length CRLF
      → drop a s ≡ bytes_of ++ CRLF ++ drop sp.next s
  before-crlf e f = part-rest s a sp.stop h.forward h.within
      ∙ rw (crlf-rest s sp.stop e, ← f) (sym (append_assoc bytes_of CRLF (drop sp.next s)))

  to_the_end : sp.stop ≡ length s → drop a s ≡ bytes_of
  to_the_end e = sym (take_all (sp.stop - a) (drop a s) (omega (arith, length-drop a s)))

  -- it is what `line_from` reads
  pub row_line : line_from (drop a s) fresh 0 a ≡ Whole sp
  row_line = go h.ends
    where
      go : RowEnds s a sp → line_from (drop a s) fresh 0 a ≡ Whole sp
      go (with_crlf e f) = rw (before-crlf e f, ← h.count)
          (crlf-line (drop sp.next s) a sp.stop sp.next size f h.holds)
      go (with_text l e f) =
          let g : sp.next ≡ sp.stop = f ∙ sym e in
          rw (to_the_end e, ← h.count, g) (end_line a sp.stop size h.holds)

  -- the text does not end where it begins
  pub row-begins : a < length s
  row-begins = go h.ends
    where
      go : RowEnds s a sp → a < length s
      go (with_crlf e f) = omega (arith, h.forward, crlf-within s sp.stop e)
      go (with_text l e f) = l

  -- the next row does not begin before its stop
  pub row-ordered : sp.stop ≤ sp.next
  row-ordered = go h.ends
    where
      go : RowEnds s a sp → sp.stop ≤ sp.next
      go (with_crlf e f) = omega arith
      go (with_text l e f) = omega arith

  -- the next row begins further on
  pub row-further : a < sp.next
  row-further = go h.ends
    where
      go : RowEnds s a sp → a < sp.next
      go (with_crlf e f) = omega (arith, h.forward)
      go (with_text l e f) = omega arith

  -- the next row does not begin behind the text
  pub row_inside : sp.next ≤ length s
  row_inside = go h.ends
    where
      go : RowEnds s a sp → sp.next ≤ length s
      go (with_crlf e f) = omega (arith, crlf-within s sp.stop e)
      go (with_text l e f) = omega arith

  -- the reading up to its stop
  done : Done a [] sp.stop h.fields (runs (begin a []) bytes_of)
  done = done-as a [] (sym size) refl (record-done a [] a [] h.holds)

  rows-crlf : drop a s ≡ bytes_of ++ CRLF ++ drop sp.next s → sp.next ≡ sp.stop + length CRLF
      → rows_from a (drop a s) ≡ prepend (row_of a sp.stop h.fields) (rows_from sp.next (drop sp.next s))
  unfolding rows_from
  rows-crlf e f =
      let j : sp.next ≡ suc (suc sp.stop) = omega arith in
      let r = row_of a sp.stop h.fields in
      let g : runs (begin a []) (bytes_of ++ CRLF ++ drop sp.next s) ≡ runs (begin sp.next (r ∷ []))
      (drop sp.next s)
      = rw (
        runs_append (begin a []) (bytes_of ++ CRLF) (drop sp.next s),
        runs_append (begin a []) bytes_of CRLF,
        done-crlf a [] done,
        ← j,
      ) in
      rw (e, g) (row-later r sp.next (drop sp.next s))

  rows_last : a < length s → sp.stop ≡ length s → sp.next ≡ length s
      → rows_from a (drop a s) ≡ prepend (row_of a sp.stop h.fields) (rows_from sp.next (drop sp.next s))
  unfolding rows_from
  rows_last l e f =
      let n : eqb sp.stop a ≡ false = ne_eqb sp.stop a (λ (z : sp.stop ≡ a). omega arith) in
      rw (to_the_end e, rest-none s sp.next (omega arith), runs_none, none_row sp.next [])
      (done_end a [] done ∙ rw n)

  -- the rows from a on are this row and those from its `next` on
  pub row_first : rows_from a (drop a s) ≡ prepend (row_of a sp.stop h.fields)
      (rows_from sp.next (drop sp.next s))
  row_first = go h.ends
    where
      go : RowEnds s a sp → rows_from a (drop a s) ≡ prepend (row_of a sp.stop h.fields)
          (rows_from sp.next (drop sp.next s))
      go (with_crlf e f) = rows-crlf (before-crlf e f) f
      go (with_text l e f) = rows_last l e f

-- ---- a text that breaks at p
module _ {s : List ℕ} {a p : ℕ} (h : Breaks s a p) where
  -- it has no rows from a on
  pub break-none : rows_from a (drop a s) ≡ None
  break-none = (broken-from a (drop a s)).1 (λ g. ⊎_elim
      (λ (l : p < length s). h.stops l (drop (p + 1) s)
      (rw (← part-rest s a (p + 1) (omega (arith, h.forward)) (omega arith)) g))
      (λ (l : length s ≤ p). h.cut (omega (arith, h.within))
      (rw (take_all (p - a) (drop a s) (omega (arith, length-drop a s))) g))
      (below p (length s)))

  -- it breaks at no place after p: what stands before that cannot be continued
  pub break-stops : {q : ℕ} → p < q → Breaks s a q → ⊥
  break-stops {q} l k =
      let e : (p + 1 - a) + (q - (p + 1)) ≡ q - a = omega (arith, h.forward) in
      let t : take (q - a) (drop a s) ≡ take (p + 1 - a) (drop a s) ++ take (q - (p + 1)) (drop (p + 1 - a) (drop a s))
      = rw (← e) (take-add (p + 1 - a) (q - (p + 1)) (drop a s)) in
      h.stops (omega (arith, k.within)) (take (q - (p + 1)) (drop (p + 1 - a) (drop a s)) ++ k.rest)
      (rw (t, append_assoc) at k.goes)
