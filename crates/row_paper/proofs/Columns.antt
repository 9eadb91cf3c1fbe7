-- The tokens of the columns: how many they are, and what each is.
use mathlib.Core.Path.{◌≡◌, refl, ap, ◌∙◌}
use mathlib.Core.List.{List, [], ◌∷◌}
use Prim.Native.Nat.{ℕ, zero, suc, ◌+◌, ◌*◌, ◌≤◌, ◌<◌}
use native.Mathlib.Omega.{arith}
use lib.ListN.{length, get_or}
use Rattle.frame.specs.Doc.{Doc, Token, kind_of, value_of}
use Rattle.rules.specs.Kinds as Kind
use Rattle.rfc4180.specs.Cells.{Cell, unquoted, Row}
use Rattle.row_paper.specs.Paper.{token, literal_kind, column_tokens, paper_of}

-- a token past the end, and a cell past the end
abbrev pub no_token : Token
no_token = token 0 0

abbrev pub no_cell : Cell
no_cell = unquoted []

-- the kind and the value of a token that is known
module _ (d : Doc) (i : ℕ) {k v : ℕ} (e : get_or d.tokens i no_token ≡ token k v) where
  pub kind-is : kind_of d i ≡ k
  kind-is = ap (λ (t : Token). t.kind) e

  pub value-is : value_of d i ≡ v
  value-is = ap (λ (t : Token). t.value) e

-- two tokens to a column
pub columns-length : (k : ℕ) (cs : List Cell) → length (column_tokens k cs) ≡ 2 * length cs
unfolding column_tokens
columns-length k [] = refl
columns-length k (c ∷ cs) = omega (arith, columns-length (suc k) cs)

-- column j: the Name of its header, and the cell's literal
pub name-token : (k : ℕ) (cs : List Cell) (j : ℕ) → j < length cs → get_or (column_tokens k cs) (2 * j) no_token
    ≡ token Kind.Name (k + j)
unfolding column_tokens
name-token k [] j h = absurd (omega arith)
name-token k (c ∷ cs) zero h = let e : k ≡ k + 0 = omega arith in ap (token Kind.Name) e
name-token k (c ∷ cs) (suc j) h =
    let e : 2 * suc j ≡ suc (suc (2 * j)) = omega arith in
    let g : suc k + j ≡ k + suc j = omega arith in
    rw e (name-token (suc k) cs j (omega arith) ∙ ap (token Kind.Name) g)

pub literal-token : (k : ℕ) (cs : List Cell) (j : ℕ) → j < length cs → get_or (column_tokens k cs) (2 * j + 1) no_token
    ≡ token (literal_kind (get_or cs j no_cell)) 0
unfolding column_tokens
literal-token k [] j h = absurd (omega arith)
literal-token k (c ∷ cs) zero h = refl
literal-token k (c ∷ cs) (suc j) h =
    let e : 2 * suc j + 1 ≡ suc (suc (2 * j + 1)) = omega arith in
    rw e (literal-token (suc k) cs j (omega arith))

-- what holds of the Name of each header and of each literal holds of every token of the columns
pub columns-all : (P : Token → Type 0) (k : ℕ) (cs : List Cell)
    → ((j : ℕ) → k ≤ j → j < k + length cs → P (token Kind.Name j)) → ((c : Cell) → P (token (literal_kind c) 0))
    → (i : ℕ) → i < length (column_tokens k cs) → P (get_or (column_tokens k cs) i no_token)
unfolding column_tokens
columns-all P k [] p q i h = absurd (omega arith)
columns-all P k (c ∷ cs) p q zero h = p k (omega arith) (omega arith)
columns-all P k (c ∷ cs) p q (suc zero) h = q c
columns-all P k (c ∷ cs) p q (suc (suc i)) h =
    columns-all P (suc k) cs (λ j a b. p j (omega arith) (omega arith)) q i (omega arith)

-- the tokens before the columns
abbrev pub head_tokens : ℕ
head_tokens = 9

module _ (label : List ℕ) (header : List Cell) (r : Row) where
  -- as many tokens as 9 and two to a column
  pub paper-length : length (paper_of label header r).tokens ≡ head_tokens + 2 * length r.cells
  unfolding paper_of
  paper-length = omega (arith, columns-length 1 r.cells)

  -- the tokens behind those are the columns'
  pub behind : (i : ℕ) → get_or (paper_of label header r).tokens (head_tokens + i) no_token
      ≡ get_or (column_tokens 1 r.cells) i no_token
  unfolding paper_of
  behind i =
      let e : head_tokens + i ≡ suc (suc (suc (suc (suc (suc (suc (suc (suc i)))))))) = omega arith in
      rw e
