-- What writing a row's sheet does: 5, 19, 16, or its bytes.
use mathlib.Core.Path.{◌≡◌, refl, sym, ap, ◌∙◌}
use mathlib.Core.Bool.{Bool, true, false}
use mathlib.Core.List.{List, [], ◌∷◌, ◌++◌, map, Memᴰ}
use Prim.Native.Nat.{ℕ, ◌+◌, ◌*◌, ◌≤◌, ◌<◌}
use native.Mathlib.Omega.{arith}
use borrow.Author.Tests.{le-leb, lt-leb}
use lib.ListN.{length, length-append, length-map}
use lib.Dec.{leb}
use Rattle.lists.specs.Lists.{both, each}
use Rattle.utf8.specs.Utf8.{utf8}
use Rattle.frame.specs.Limits.{max_names, max_text}
use Rattle.frame.specs.Inner.{max_bytes}
use Rattle.frame.specs.Sheet.{bytes_of}
use Rattle.frame.specs.Doc.{Doc}
use Rattle.frame.specs.declared.Sheet.{Sheet}
use Rattle.frame.specs.declared.Fault.{Fault}
use Rattle.schema.specs.Effect.{refusal, writes, exit, fitted, Done}
use Rattle.rfc4180.specs.Cells.{Cell}
use Rattle.cells.specs.Raw.{cell_of, raw_cells}
use Rattle.cells.proofs.Contents.{field-utf8}
use Rattle.cells.proofs.Fields.{record-fields}
use Rattle.written.specs.Written.{text_in, ends_from, sizes_in, written, within_limits}
use Rattle.written.specs.Inner.{Begun, TokensPut, NamesPut}
use Rattle.written.proofs.Begun.{finished}
use Rattle.written.proofs.Bytes.{written-length}
use Rattle.row_paper.specs.Paper.{column_tokens, paper_of}
use Rattle.row_paper.proofs.Columns.{columns-length}
use Rattle.row_writer.specs.Writing.{max_number, next_number, name_fault_of, paper_effect}
use Rattle.row_writer.specs.Inner.{content_of, cells_in, contents_in, Cut, paper_in, clause_tokens, node_tokens, node_size, is_within, sizes_by, Planned}
use Rattle.row_writer.specs.declared.Bounds.{Bounds}
use Rattle.row_writer.proofs.Within.{within-limits, limits-are}
use Rattle.row_writer.proofs.Putting.{text-split}
use Rattle.std.specs.Prelude.{Option, Some, None, Result, Ok}
use Rattle.frame.specs.Sheet.{fault}
use Rattle.schema.specs.declared.Refusal.{Refusal}

-- the contents of cells, and of raw cells
contents-are : (raws : List (List ℕ)) → map (λ (c : Cell). c.content) (map cell_of raws) ≡ map content_of raws
contents-are [] = refl
contents-are (r ∷ rs) = ap (λ (l : List (List ℕ)). content_of r ∷ l) (contents-are rs)

-- raw cells are UTF-8 exactly where their contents are
fault-alike : (k : ℕ) (raws : List (List ℕ)) → ((r : List ℕ) → Memᴰ r raws → utf8 r ≡ utf8 (content_of r))
    → name_fault_of k (map content_of raws) ≡ name_fault_of k raws
unfolding name_fault_of
fault-alike k [] h = refl
fault-alike k (r ∷ rs) h =
    rw (h r (Memᴰ.head refl), fault-alike (next_number k) rs (λ q m. h q (Memᴰ.tail m))) refl

module _ (label header row : List ℕ) (place : Bounds) (cut : Cut header row place) where
  abbrev d : Doc
  d = paper_in label header row place

  names-are : d.names ≡ label ∷ contents_in header
  unfolding paper_of
  names-are = ap (λ (l : List (List ℕ)). label ∷ l) (contents-are (raw_cells header))

  faults-are : name_fault_of 0 d.names ≡ name_fault_of 0 (label ∷ raw_cells header)
  unfolding name_fault_of
  faults-are =
      ap (name_fault_of 0) names-are
      ∙ rw (fault-alike (next_number 0) (raw_cells header)
      (λ r m. field-utf8 (record-fields r cut.header_read m))) refl

  tokens-are : d.tokens
      ≡ clause_tokens ++ (node_tokens place.start place.stop place.cells ++ column_tokens 1 (cells_in row))
  unfolding paper_of
  tokens-are =
      let n : length (cells_in row) ≡ place.cells = length-map (raw_cells row) cell_of ∙ cut.cells in
      rw n refl

  abbrev total : ℕ
  total = length (text_in (contents_in header))

  text-is : length (text_in d.names) ≡ length label + total
  unfolding each
  text-is = ap (λ (ns : List (List ℕ)). length (text_in ns)) names-are ∙ length-append label (text_in (contents_in header))

  names-count : length d.names ≡ 1 + place.cells
  names-count = omega (arith, ap length names-are, length-map (raw_cells header) content_of, cut.headers)

  tokens-count : length d.tokens ≡ 9 + 2 * place.cells
  tokens-count =
      let n : length (cells_in row) ≡ place.cells = length-map (raw_cells row) cell_of ∙ cut.cells in
      ap length tokens-are ∙ omega (arith, columns-length 1 (cells_in row), n)

  pub sizes-are : sizes_by place.cells (length label) total ≡ sizes_in d
  sizes-are = λ i. record { tokens = sym tokens-count i; names = sym names-count i; text = sym text-is i }

  limits : both (within_limits d) (leb place.stop max_number)
      ≡ is_within place.cells place.stop (length label) total
  limits = rw (tokens-count, names-count, text-is) (limits-are place.cells place.stop (length label) total)

  module _ (l : List ℕ) (q : Option Fault) (e : q ≡ name_fault_of 0 (label ∷ raw_cells header)) where
    pub bad-name : (n k : ℕ) {r : Result ℕ Refusal} → q ≡ Some (fault n k) → Done (refusal n 1 k) l r l
        → Done (paper_effect d place.stop l) l r l
    unfolding paper_effect
    bad-name n k h w = rw (faults-are ∙ sym e ∙ h) w

    pub past_limit : (t : Bool) {r : Result ℕ Refusal} → q ≡ None
        → t ≡ is_within place.cells place.stop (length label) total → t ≡ false
        → Done (refusal 19 0 0) l r l → Done (paper_effect d place.stop l) l r l
    unfolding paper_effect
    past_limit t h u v w = rw (faults-are ∙ sym e ∙ h, limits ∙ sym u ∙ v) w

    module _ (t : Bool) (h : q ≡ None)
        (u : t ≡ is_within place.cells place.stop (length label) total) (v : t ≡ true)
        (f : Sheet) (g : f ≡ sizes_by place.cells (length label) total) (b : ℕ) (y : b ≡ bytes_of f) where
      bytes-are : length (written d) ≡ b
      bytes-are = written-length d ∙ ap bytes_of (sym (g ∙ sizes-are)) ∙ sym y

      pub no_room : {r : Result ℕ Refusal} → length l < b → Done (refusal 16 0 0) l r l
          → Done (paper_effect d place.stop l) l r l
      unfolding paper_effect fitted
      no_room k w =
          let z = lt-leb (length (written d)) (length l) (omega (arith, bytes-are)) in
          rw (faults-are ∙ sym e ∙ h, limits ∙ sym u ∙ v, z) w

      pub paper-put : {o : List ℕ} → b ≤ length l → o ≡ exit (writes 0 (written d)) l
          → Done (paper_effect d place.stop l) l (Ok b) o
      unfolding paper_effect fitted exit
      paper-put k z =
          let w = le-leb (length (written d)) (length l) (omega (arith, bytes-are)) in
          rw (faults-are ∙ sym e ∙ h, limits ∙ sym u ∙ v, w)
          (record { answer = ap Ok (sym bytes-are); buffer = z })

  -- sizes, tokens and names are the whole sheet
  pub all-put : {f : Sheet} {l m n o : List ℕ} → f ≡ sizes_by place.cells (length label) total → Begun f [] [] [] l m
      → TokensPut f 0
      (clause_tokens ++ (node_tokens place.start place.stop place.cells ++ column_tokens 1 (cells_in row))) m n
      → NamesPut f 0 (ends_from 0 (label ∷ contents_in header)) 0 (text_in (label ∷ contents_in header)) n o
      → o ≡ exit (writes 0 (written d)) l
  unfolding exit
  all-put {f} {l} {m} {n} {o} g p s z =
      let begun : Begun f d.tokens (ends_from 0 d.names) (text_in d.names) l o =
      rw (tokens-are, names-are) (z.adds (s.adds p refl) refl refl) in
      finished d (g ∙ sizes-are) begun

-- ---- what a plan says of the pieces
module _ {f : Sheet} {label header row : List ℕ} {place : Bounds} (cut : Cut header row place)
    (p : Planned f label header place) where
  abbrev headers : ℕ
  headers = length (text_in (contents_in header))

  limited : (place.cells + 1 ≤ max_names) × (place.stop ≤ max_number) × (length label + headers ≤ max_text)
  limited = within-limits place.cells place.stop (length label) headers p.within

  pub tokens-planned : (node_size + 2 * length (raw_cells row) ≤ f.tokens)
      × ((place.start ≤ max_number) × (place.stop ≤ max_number) × (place.cells ≤ max_number))
  tokens-planned = (
    omega (arith, ap (λ (g : Sheet). g.tokens) p.sizes, cut.cells),
    (omega (arith, cut.ordered, limited.1), limited.1, omega (arith, limited.0)),
  )

  pub names-planned : (1 + length (raw_cells header) ≤ f.names)
      × (length (text_in (label ∷ contents_in header)) ≤ f.text)
  names-planned = (
    omega (arith, ap (λ (g : Sheet). g.names) p.sizes, cut.headers),
    omega (arith, ap (λ (g : Sheet). g.text) p.sizes, text-split label (contents_in header)),
  )

  pub bytes-planned : bytes_of f ≤ max_bytes
  bytes-planned = omega (
    arith,
    ap (λ (g : Sheet). g.tokens) p.sizes,
    ap (λ (g : Sheet). g.names) p.sizes,
    ap (λ (g : Sheet). g.text) p.sizes,
    limited.0,
    limited.2,
  )
