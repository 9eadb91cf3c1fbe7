-- Pieces of the text put one after the other, and tokens.
use mathlib.Core.Path.{◌≡◌, refl, ap, ◌∙◌, subst}
use mathlib.Core.List.{List, [], ◌∷◌, ◌++◌}
use Prim.Native.Nat.{ℕ, ◌+◌, ◌≤◌, ◌<◌}
use native.Mathlib.Numerals.{add-one}
use native.Mathlib.Omega.{arith}
use lib.ListN.{length, get_or, take}
use lib.Seq.{take-suc, take_all, length-take-le}
use Rattle.lists.specs.Lists.{each}
use Rattle.lists.proofs.Joins.{each_append, each-one}
use Rattle.frame.specs.Doc.{Doc, Token, kind_of, value_of}
use Rattle.frame.specs.declared.Sheet.{Sheet}
use Rattle.written.specs.Inner.{TokensPut, TextPut}
use Rattle.written.proofs.Begun.{tokens_none, tokens-join, text-none, text-join}

-- one more of several
taken_more : {A : Type 0} (xs : List A) (k : ℕ) (d : A) → k < length xs → take (k + 1) xs ≡ take k xs ++ (get_or xs k d ∷ [])
taken_more xs k d h = rw (add-one k) (take-suc xs k d h)

-- ---- of some pieces the first k are put, from place `at` of the text on
pub record Pieces {A : Type 0} (g : A → List ℕ) (xs : List A) (h : Sheet) (at k : ℕ) (l out : List ℕ) : Type 0 where
  pub few : k ≤ length xs
  pub put : TextPut h at (each g (take k xs)) l out
  pub size : length out ≡ length l

module _ {A : Type 0} (g : A → List ℕ) (xs : List A) (h : Sheet) (at : ℕ) (l : List ℕ) where
  pub pieces-start : Pieces g xs h at 0 l l
  unfolding each
  pieces-start = record { few = omega arith; put = text-none; size = refl }

  module _ {k : ℕ} {out : List ℕ} (p : Pieces g xs h at k l out) where
    pub pieces-turn : (d : A) (place : ℕ) (out' : List ℕ) → k < length xs → place ≡ at + length (each g (take k xs))
        → TextPut h place (g (get_or xs k d)) out out' → length out' ≡ length out → Pieces g xs h at (k + 1) l out'
    pieces-turn d place out' b e q z =
        let n : each g (take (k + 1) xs) ≡ each g (take k xs) ++ g (get_or xs k d) =
        ap (each g) (taken_more xs k d b) ∙ rw (each_append, each-one) in
        record { few = omega arith; put = rw n (text-join p.put e q); size = z ∙ p.size }

    pub pieces-last : length xs ≤ k → TextPut h at (each g xs) l out
    pieces-last b = subst (λ (ys : List A). TextPut h at (each g ys) l out) (take_all k xs b) p.put

-- ---- of a document the first i tokens are put
pub record Tokens (h : Sheet) (d : Doc) (i : ℕ) (l out : List ℕ) : Type 0 where
  pub few : i ≤ length d.tokens
  pub put : TokensPut h 0 (take i d.tokens) l out
  pub size : length out ≡ length l

module _ (h : Sheet) (d : Doc) (l : List ℕ) where
  pub tokens-start : Tokens h d 0 l l
  tokens-start = record { few = omega arith; put = tokens_none; size = refl }

  module _ {i : ℕ} {out : List ℕ} (p : Tokens h d i l out) where
    pub tokens-turn : (kind value : ℕ) (out' : List ℕ) → i < length d.tokens → kind ≡ kind_of d i → value ≡ value_of d i
        → TokensPut h i (record { kind = kind; value = value } ∷ []) out out' → length out' ≡ length out
        → Tokens h d (i + 1) l out'
    tokens-turn kind value out' b ek ev q z =
        let n : i ≡ 0 + length (take i d.tokens) = omega (arith, length-take-le i d.tokens p.few) in
        let e : record { kind = kind; value = value } ≡ get_or d.tokens i (record { kind = 0; value = 0 }) = rw (ek, ev) in
        record {
          few = omega arith;
          put = rw (taken_more d.tokens i (record { kind = 0; value = 0 }) b) (tokens-join p.put n (rw e at q));
          size = z ∙ p.size;
        }

    pub tokens-last : length d.tokens ≤ i → TokensPut h 0 d.tokens l out
    tokens-last b = subst (λ (ts : List Token). TokensPut h 0 ts l out) (take_all i d.tokens b) p.put
