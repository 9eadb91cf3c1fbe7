-- A sheet that is being written into a lent buffer, piece by piece.
use Rattle.std.specs.Prelude.{ℕ, ◌≤◌, ◌≡◌, List, ◌++◌, length}
use Rattle.std.proofs.lemmas.List.Edits.{sets}
use Rattle.frame.specs.Sheet.{kinds_at, values_at, ends_at, text_at, bytes_of}
use Rattle.frame.specs.Doc.{Token}
use Rattle.frame.specs.declared.Sheet.{Sheet}
use Rattle.written.specs.Written.{u32s, size_bytes, kind_bytes, value_bytes}

-- the lent buffer with the sizes in it, the first tokens, the first ends of names, and the first bytes of the text,
-- each at its place; what stands elsewhere is as it was lent
unfoldable pub filled : Sheet → List Token → List ℕ → List ℕ → List ℕ → List ℕ
filled f ts es xs lent =
    let sized : List ℕ = sets lent 0 (size_bytes f) in
    let tokens : List ℕ = sets (sets sized (kinds_at f) (kind_bytes ts)) (values_at f) (value_bytes ts) in
    sets (sets tokens (ends_at f) (u32s es)) (text_at f) xs

-- a sheet of these sizes is begun in the lent buffer, which has room for it: the tokens ts are there, the ends es, and
-- the bytes xs of the text
pub record Begun (f : Sheet) (ts : List Token) (es xs : List ℕ) (lent out : List ℕ) : Type 0 where
  pub room : bytes_of f ≤ length lent
  pub size : length out ≡ length lent
  pub tokens : length ts ≤ f.tokens
  pub ends : length es ≤ f.names
  pub text : length xs ≤ f.text
  pub buffer : out ≡ filled f ts es xs lent

-- what writing tokens adds to any sheet that has the tokens before token i
pub record TokensPut (f : Sheet) (i : ℕ) (us : List Token) (l l' : List ℕ) : Type 0 where
  pub adds : {ts : List Token} {es xs lent : List ℕ} → Begun f ts es xs lent l → i ≡ length ts
      → Begun f (ts ++ us) es xs lent l'

-- what writing ends of names adds, from the end of name k on
pub record EndsPut (f : Sheet) (k : ℕ) (ds : List ℕ) (l l' : List ℕ) : Type 0 where
  pub adds : {ts : List Token} {es xs lent : List ℕ} → Begun f ts es xs lent l → k ≡ length es
      → Begun f ts (es ++ ds) xs lent l'

-- what writing a piece of the text adds, from place `at` of the text on
pub record TextPut (f : Sheet) (at : ℕ) (piece : List ℕ) (l l' : List ℕ) : Type 0 where
  pub adds : {ts : List Token} {es xs lent : List ℕ} → Begun f ts es xs lent l → at ≡ length xs
      → Begun f ts es (xs ++ piece) lent l'

-- what writing names adds, from name k and place `at` of the text on: their ends and their text
pub record NamesPut (f : Sheet) (k : ℕ) (es : List ℕ) (at : ℕ) (xs : List ℕ) (l l' : List ℕ) : Type 0 where
  pub adds : {ts : List Token} {ends text lent : List ℕ} → Begun f ts ends text lent l → k ≡ length ends
      → at ≡ length text → Begun f ts (ends ++ es) (text ++ xs) lent l'
