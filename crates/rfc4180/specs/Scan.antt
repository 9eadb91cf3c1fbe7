-- What the parts of the code that find a row promise: the end of a run of text, of a content in quotes, of a cell.
use Rattle.std.specs.Prelude.{ℕ, suc, ◌+◌, ◌≤◌, ◌<◌, ◌≡◌, List, [], ◌∷◌, Bool, true, false, eqb, length, drop, get_or}
use Rattle.lists.specs.Lists.{pick}
use Rattle.rfc4180.specs.Grammar.{DQUOTE}
use Rattle.rfc4180.specs.Csv.{Class, dquote, comma, cr, lf, text, other, class_of, Mode, fresh, quotes, return}
use Rattle.rfc4180.specs.Line.{span_of, line_from}
use Rattle.std.specs.Prelude.{Result, Ok, Err}
use Rattle.rfc4180.specs.declared.Line.{Line}
use Rattle.rfc4180.specs.declared.Line.TheVariants.{Whole, Broken}

-- a text begins with a byte
unfoldable pub starts : ℕ → List ℕ → Bool
starts b [] = false
starts b (x ∷ s) = eqb x b

-- a class is that of TEXTDATA
unfoldable pub is_text : Class → Bool
is_text dquote = false
is_text comma = false
is_text cr = false
is_text lf = false
is_text text = true
is_text other = false

-- a text begins with TEXTDATA
unfoldable pub starts_text : List ℕ → Bool
starts_text [] = false
starts_text (b ∷ s) = is_text (class_of b)

-- the bytes from a up to b are TEXTDATA
pub record Texts (s : List ℕ) (a b : ℕ) : Type 0 where
  pub onward : a ≤ b
  pub inside : b ≤ length s
  pub all : (i : ℕ) → a ≤ i → i < b → is_text (class_of (get_or s i 0)) ≡ true

-- the bytes from a up to b are TEXTDATA, and the byte at b, if there is one, is not
pub record TextTo (s : List ℕ) (a b : ℕ) : Type 0 where
  pub run : Texts s a b
  pub stops : starts_text (drop b s) ≡ false

-- where a cell ends, or as the error where it breaks the grammar
abbrev pub CellEnd : Type 0
CellEnd = Result ℕ ℕ

-- that place, whichever it is
abbrev pub place_of : CellEnd → ℕ
place_of (Ok p) = p
place_of (Err p) = p

-- how a row goes on after a byte, of a class and at p, that follows the end of its cell n
unfoldable pub after_by : Class → List ℕ → ℕ → ℕ → Line
after_by dquote s n p = Broken p
after_by comma s n p = line_from s fresh n (suc p)
after_by cr s n p = line_from s return n (suc p)
after_by lf s n p = Broken p
after_by text s n p = Broken p
after_by other s n p = Broken p

-- how a row goes on at p, where its cell n ends
unfoldable pub after_cell : List ℕ → ℕ → ℕ → Line
after_cell [] n p = Whole (span_of p p n)
after_cell (b ∷ s) n p = after_by (class_of b) s n p

-- how a row goes on after the end of its cell n
unfoldable pub after : List ℕ → CellEnd → ℕ → Line
after s (Ok p) n = after_cell (drop p s) n p
after s (Err p) n = Broken p

-- the end of a cell whose content in quotes ends at a place: after the quote, and broken where there is none
unfoldable pub closed_at : List ℕ → ℕ → CellEnd
closed_at s p = pick (starts DQUOTE (drop p s)) (Ok (p + 1)) (Err p)

-- in quotes, the k bytes at a place are content; with k = 0 the content ends there, unless TEXTDATA follows
pub record InnerAt (s : List ℕ) (p k : ℕ) : Type 0 where
  pub inside : p + k ≤ length s
  pub on : (n : ℕ) → line_from (drop p s) quotes n p ≡ line_from (drop (p + k) s) quotes n (p + k)
  pub stops : k ≡ 0 → starts_text (drop p s) ≡ false → (n : ℕ)
      → line_from (drop p s) quotes n p ≡ after s (closed_at s p) (suc n)

-- the cell that stands in a mode at a place has this end
pub record CellTo (s : List ℕ) (m : Mode) (p : ℕ) (c : CellEnd) : Type 0 where
  pub onward : p ≤ place_of c
  pub inside : place_of c ≤ length s
  pub goes : (n : ℕ) → line_from (drop p s) m n p ≡ after s c (suc n)
