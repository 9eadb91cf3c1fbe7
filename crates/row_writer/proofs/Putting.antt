-- The names of a row's sheet, put one after the other.
use mathlib.Core.Path.{◌≡◌, refl, sym, ap, ◌∙◌}
use mathlib.Core.List.{List, [], ◌∷◌, ◌++◌, map, append_assoc, append-nil}
use Prim.Native.Nat.{ℕ, ◌+◌, ◌-◌, ◌≤◌, ◌<◌}
use native.Mathlib.Omega.{arith}
use lib.ListN.{length, get_or, take, drop, length-append, length-map}
use Rattle.lists.specs.Lists.{each}
use Rattle.frame.specs.declared.Sheet.{Sheet}
use Rattle.cells.specs.Raw.{raw_cells, cell_end, width_of, undoubled}
use Rattle.cells.proofs.Contents.{undoubled-more, undoubled-none}
use Rattle.written.specs.Written.{text_in, ends_from}
use Rattle.written.specs.Inner.{EndsPut, TextPut, NamesPut}
use Rattle.written.proofs.Begun.{text-none, text-join, names-join, names-one}
use Rattle.written.proofs.Naming.{Naming, naming-start, naming-as, naming-room, naming-turn, naming-last}
use Rattle.row_writer.specs.Inner.{content_of, contents_in}
use Rattle.row_writer.proofs.Left.{cells_left, left-all, left-none}
use Rattle.row_writer.proofs.Headers.{left_is}

-- ---- the content of a quoted cell
-- some of it is put: what is left of it begins at i of the cell, and its place is `to`
pub record Undoubling (f : Sheet) (at : ℕ) (s : List ℕ) (to i : ℕ) (l out : List ℕ) : Type 0 where
  pub done : List ℕ
  pub put : TextPut f at done l out
  pub left : done ++ undoubled (drop i s) ≡ undoubled s
  pub place : to ≡ at + length done
  pub size : length out ≡ length l

module _ (f : Sheet) (at : ℕ) (s : List ℕ) (l : List ℕ) where
  pub undouble-start : Undoubling f at s at 0 l l
  undouble-start = record { done = []; put = text-none; left = refl; place = omega arith; size = refl }

  module _ {to i : ℕ} {out : List ℕ} (p : Undoubling f at s to i l out) where
    pub undouble-room : i + 1 < length s → to < at + length (undoubled s)
    undouble-room h =
        let b : ℕ = get_or s i 0 in
        let r : List ℕ = undoubled (drop (i + width_of b) s) in
        let e : p.done ++ (b ∷ r) ≡ undoubled s = rw (undoubled-more s i h) at p.left in
        omega (arith, p.place, length-append p.done (b ∷ r), ap length e)

    pub undouble-turn : (w : ℕ) (out' : List ℕ) → i + 1 < length s → TextPut f to (get_or s i 0 ∷ []) out out'
        → length out' ≡ length out → w ≡ width_of (get_or s i 0) → Undoubling f at s (to + 1) (i + w) l out'
    undouble-turn w out' h q g e =
        let b : ℕ = get_or s i 0 in
        let r : List ℕ = undoubled (drop (i + width_of b) s) in
        let d : p.done ++ (b ∷ r) ≡ undoubled s = rw (undoubled-more s i h) at p.left in
        record {
          done = p.done ++ (b ∷ []);
          put = text-join p.put p.place q;
          left = rw (e, append_assoc p.done (b ∷ []) r) d;
          place = omega (arith, p.place, length-append p.done (b ∷ []));
          size = g ∙ p.size;
        }

    pub undouble-last : length s ≤ i + 1 → (to ≡ at + length (undoubled s)) × TextPut f at (undoubled s) l out
    undouble-last h =
        let e : p.done ≡ undoubled s = sym (append-nil p.done) ∙ rw (undoubled-none s i h) at p.left in
        (omega (arith, p.place, ap length e), rw e at p.put)

-- ---- the headers
-- some of them are put: those left begin at `at` of the header, the next is name k and its text begins at `end`
abbrev pub Heading : Sheet → ℕ → List ℕ → (end k at : ℕ) → List ℕ → List ℕ → Type 0
Heading f from s end k at l out = Naming f 1 from (contents_in s) (map content_of (cells_left s at)) end k l out

module _ (f : Sheet) (from : ℕ) (s : List ℕ) (l : List ℕ) where
  pub heading-start : Heading f from s from 1 0 l l
  heading-start = naming-as (ap (map content_of) (sym (left-all s))) (naming-start f 1 from (contents_in s) l)

  module _ {end k at : ℕ} {out : List ℕ} (p : Heading f from s end k at l out) where
    module _ (stop : ℕ) (h : at ≤ length s) (e : stop ≡ cell_end s at) where
      abbrev raw : List ℕ
      raw = take (stop - at) (drop at s)

      abbrev later : List (List ℕ)
      later = map content_of (cells_left s (stop + 1))

      next : Naming f 1 from (contents_in s) (content_of raw ∷ later) end k l out
      next = naming-as (ap (map content_of) (left_is s at stop h e)) p

      pub heading-room : (k < 1 + length (raw_cells s))
          × (end + length (content_of raw) ≤ from + length (text_in (contents_in s)))
      heading-room =
          let r = naming-room (content_of raw) later next in
          (omega (arith, r.0, length-map (raw_cells s) content_of), r.1)

      pub heading-turn : (end' : ℕ) (m out' : List ℕ) → end' ≡ end + length (content_of raw)
          → TextPut f end (content_of raw) out m → EndsPut f k (end' ∷ []) m out' → length out' ≡ length out
          → Heading f from s end' (k + 1) (stop + 1) l out'
      heading-turn end' m out' g q r z = naming-turn (content_of raw) later next end' m out' g q r z

    pub heading-last : length s < at → NamesPut f 1 (ends_from from (contents_in s)) from (text_in (contents_in s)) l out
    heading-last h = naming-last (naming-as (ap (map content_of) (left-none s at h)) p)

-- ---- the content of a raw cell, by its first byte
pub content-as : (f : Sheet) (at r : ℕ) (raw piece l l' : List ℕ) → content_of raw ≡ piece
    → (r ≡ at + length piece) × TextPut f at piece l l'
    → (r ≡ at + length (content_of raw)) × TextPut f at (content_of raw) l l'
content-as f at r raw piece l l' e p = rw e p

pub nothing_put : (f : Sheet) (at : ℕ) (l : List ℕ) → (at ≡ at + length {A = ℕ} []) × TextPut f at [] l l
nothing_put f at l = (omega arith, text-none)

-- ---- label and headers
pub text-split : (label : List ℕ) (ns : List (List ℕ))
    → length (text_in (label ∷ ns)) ≡ length label + length (text_in ns)
unfolding each
text-split label ns = length-append label (text_in ns)

pub names-all : {f : Sheet} {end : ℕ} {label l m n o : List ℕ} (cs : List (List ℕ)) → TextPut f 0 label l m
    → EndsPut f 0 (end ∷ []) m n → end ≡ length label → NamesPut f 1 (ends_from end cs) end (text_in cs) n o
    → NamesPut f 0 (ends_from 0 (label ∷ cs)) 0 (text_in (label ∷ cs)) l o
unfolding ends_from each
names-all {end = end} {label = label} cs p q e r =
    let z : end ≡ 0 + length label = omega (arith, e) in
    rw (← z) (names-join (names-one p q) refl z r)
