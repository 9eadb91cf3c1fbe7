-- The pairs of the columns, put one after the other.
use mathlib.Core.Path.{◌≡◌, refl, sym, ap, ◌∙◌}
use mathlib.Core.List.{List, [], ◌∷◌, ◌++◌, map, append_assoc, append-nil}
use Prim.Native.Nat.{ℕ, suc, ◌+◌, ◌-◌, ◌*◌, ◌≤◌, ◌<◌}
use native.Mathlib.Omega.{arith}
use lib.ListN.{length, take, drop, length-append, length-map}
use Rattle.frame.specs.Doc.{Token}
use Rattle.frame.specs.declared.Sheet.{Sheet}
use Rattle.rules.specs.Kinds as Kind
use Rattle.cells.specs.KindOf.{kind_of_cell}
use Rattle.cells.specs.Raw.{cell_of, raw_cells, cell_end}
use Rattle.written.specs.Inner.{TokensPut}
use Rattle.written.proofs.Begun.{tokens_none, tokens-join}
use Rattle.row_paper.specs.Paper.{token, column_tokens}
use Rattle.row_paper.proofs.Columns.{columns-length}
use Rattle.row_writer.specs.Inner.{cells_in, node_size}
use Rattle.row_writer.proofs.Left.{cells_left, left-all, left-none}
use Rattle.row_writer.proofs.Headers.{left_is}

-- some are put: those left begin at `at` of the row, the next has name k and begins at token i
pub record Pairing (f : Sheet) (s : List ℕ) (i k at : ℕ) (l out : List ℕ) : Type 0 where
  pub done : List Token
  pub put : TokensPut f node_size done l out
  pub left : done ++ column_tokens k (map cell_of (cells_left s at)) ≡ column_tokens 1 (cells_in s)
  pub place : i ≡ node_size + length done
  pub number : 2 * k ≡ 2 + length done
  pub size : length out ≡ length l

module _ (f : Sheet) (s : List ℕ) (l : List ℕ) where
  pub pairing-start : Pairing f s node_size 1 0 l l
  pairing-start =
      record {
        done = [];
        put = tokens_none;
        left = ap (λ (cs : List (List ℕ)). column_tokens 1 (map cell_of cs)) (left-all s);
        place = omega arith;
        number = refl;
        size = refl;
      }

  module _ {i k at : ℕ} {out : List ℕ} (p : Pairing f s i k at l out) where
    module _ (end : ℕ) (h : at ≤ length s) (e : end ≡ cell_end s at) where
      abbrev raw : List ℕ
      raw = take (end - at) (drop at s)

      abbrev pair : List Token
      pair = token Kind.Name k ∷ token (kind_of_cell (cell_of raw)) 0 ∷ []

      abbrev later : List Token
      later = column_tokens (suc k) (map cell_of (cells_left s (end + 1)))

      more : p.done ++ (pair ++ later) ≡ column_tokens 1 (cells_in s)
      unfolding column_tokens
      more = rw (left_is s at end h e) at p.left

      pub pairing-room : i + 2 ≤ node_size + 2 * length (raw_cells s)
      pairing-room =
          let n : length (column_tokens 1 (cells_in s)) ≡ 2 * length (raw_cells s) =
          columns-length 1 (cells_in s) ∙ ap (λ (m : ℕ). 2 * m) (length-map (raw_cells s) cell_of) in
          omega (arith, p.place, n, ap length more, length-append p.done (pair ++ later), length-append pair later)

      pub pairing-turn : (kind : ℕ) (m out' : List ℕ) → kind ≡ kind_of_cell (cell_of raw)
          → TokensPut f i (token Kind.Name k ∷ []) out m → TokensPut f (i + 1) (token kind 0 ∷ []) m out'
          → length out' ≡ length out → Pairing f s (i + 2) (k + 1) (end + 1) l out'
      pairing-turn kind m out' g q r z =
          let c : k + 1 ≡ suc k = omega arith in
          record {
            done = p.done ++ pair;
            put = tokens-join p.put p.place (tokens-join q (omega arith) (rw g at r));
            left = rw (c, append_assoc p.done pair later) more;
            place = omega (arith, p.place, length-append p.done pair);
            number = omega (arith, p.number, length-append p.done pair);
            size = z ∙ p.size;
          }

    pub pairing-last : length s < at → TokensPut f node_size (column_tokens 1 (cells_in s)) l out
    unfolding column_tokens
    pairing-last h =
        let a : p.done ≡ column_tokens 1 (cells_in s) =
        sym (append-nil p.done) ∙ rw (left-none s at h) at p.left in
        rw (← a) p.put
