-- Two documents joined: tokens whose names are numbered after others, and the sizes.
use mathlib.Core.Bool.{Bool, true, false}
use mathlib.Core.Path.{◌≡◌, refl, ap, ◌∙◌}
use mathlib.Core.List.{List, [], ◌∷◌, map}
use Prim.Native.Nat.{ℕ, ◌+◌, ◌<◌}
use native.Mathlib.Nat.{zero-add}
use native.Mathlib.Omega.{arith}
use lib.ListN.{length, drop, length-append, length-drop, length-map}
use lib.Dec.{eqb}
use Rattle.lists.specs.Lists.{pick}
use Rattle.lists.proofs.Joins.{each_append}
use Rattle.frame.specs.Doc.{Doc, Token}
use Rattle.written.specs.Written.{text_in}
use Rattle.join.specs.Join.{numbered_after, joined}

-- numbered after no names
pub numbered-none : (ts : List Token) → map (numbered_after 0) ts ≡ ts
numbered-none [] = refl
numbered-none (t ∷ ts) = λ i. record { kind = t.kind; value = go (eqb t.kind 50) i } ∷ numbered-none ts i
  where
    go : (b : Bool) → pick b (0 + t.value) t.value ≡ t.value
    go true = zero-add t.value
    go false = refl

-- numbered after n names and then after m others
numbered-twice : (m n : ℕ) (t : Token) → numbered_after m (numbered_after n t) ≡ numbered_after (m + n) t
numbered-twice m n t =
    ap (λ (v : ℕ). record { kind = t.kind; value = v }) (go (eqb t.kind 50))
  where
    go : (b : Bool) → pick b (m + pick b (n + t.value) t.value) (pick b (n + t.value) t.value)
        ≡ pick b (m + n + t.value) t.value
    go true = omega arith
    go false = refl

-- the same of each of a list
pub all-twice : (m n : ℕ) (ts : List Token)
    → map (numbered_after m) (map (numbered_after n) ts) ≡ map (numbered_after (m + n)) ts
all-twice m n [] = refl
all-twice m n (t ∷ ts) = rw (numbered-twice m n t, all-twice m n ts)

-- ---- the sizes
module _ (a b : Doc) where
  -- T = T1 + T2 - 1
  pub joined-tokens : 0 < length a.tokens → 0 < length b.tokens
      → 1 + length (joined a b).tokens ≡ length a.tokens + length b.tokens
  unfolding joined
  joined-tokens p q = omega (
    arith,
    length-append (drop 1 a.tokens) (map (numbered_after (length a.names)) (drop 1 b.tokens)),
    length-map (drop 1 b.tokens) (numbered_after (length a.names)),
    length-drop 1 a.tokens,
    length-drop 1 b.tokens,
  )

  -- M = M1 + M2
  pub joined-names : length (joined a b).names ≡ length a.names + length b.names
  unfolding joined
  joined-names = length-append a.names b.names

  -- B = B1 + B2
  pub joined-text : length (text_in (joined a b).names) ≡ length (text_in a.names) + length (text_in b.names)
  unfolding joined
  joined-text = ap length (each_append (λ n. n) a.names b.names)
      ∙ length-append (text_in a.names) (text_in b.names)
