-- Several numbers, one behind the other, each of as many bytes.
use mathlib.Core.Path.{◌≡◌, sym, subst, ◌∙◌}
use mathlib.Core.List.{List, [], ◌∷◌, ◌++◌, append_assoc}
use Prim.Native.Nat.{ℕ, zero, suc, ◌+◌, ◌*◌, ◌<◌}
use native.Mathlib.Nat.{mul-zero, mul-suc}
use native.Mathlib.Omega.{arith}
use lib.ListN.{length, get_or, length-append}
use Rattle.lists.specs.Lists.{each}

-- what is read at a place does not depend on the bytes before it
abbrev pub Skips : {A : Type 0} → (List ℕ → ℕ → A) → Type 0
Skips g = (p q : List ℕ) (k : ℕ) → g (p ++ q) (length p + k) ≡ g q k

pub past : {A : Type 0} (g : List ℕ → ℕ → A) → Skips g → (p q : List ℕ) (at k : ℕ) → at ≡ length p + k
    → g (p ++ q) at ≡ g q k
past g h p q at k e = subst (λ (n : ℕ). g (p ++ q) n ≡ g q k) (sym e) (h p q k)

-- a number is put as w bytes
module _ (w : ℕ) (put : ℕ → List ℕ) (size : (n : ℕ) → length (put n) ≡ w) where
  pub numbers-length : (ns : List ℕ) → length (each put ns) ≡ w * length ns
  unfolding each
  numbers-length [] = sym (mul-zero w)
  numbers-length (n ∷ ns) =
      omega (arith, length-append (put n) (each put ns), size n, numbers-length ns, mul-suc w (length ns))

  -- and one below `limit` is read from them
  module _ (limit : ℕ) (read : List ℕ → ℕ → ℕ) (skips : Skips read)
      (is : (n : ℕ) (q : List ℕ) → n < limit → read (put n ++ q) 0 ≡ n) where
    -- number i of several
    pub number_at : (ns q : List ℕ) (i : ℕ) → i < length ns → get_or ns i 0 < limit
        → read (each put ns ++ q) (w * i) ≡ get_or ns i 0
    unfolding each
    number_at [] q i h g = absurd (omega arith)
    number_at (n ∷ ns) q zero h g = rw (mul-zero w, append_assoc (put n) (each put ns) q) (is n (each put ns ++ q) g)
    number_at (n ∷ ns) q (suc i) h g =
        let e : w * suc i ≡ length (put n) + w * i = omega (arith, mul-suc w i, size n) in
        rw (append_assoc (put n) (each put ns) q)
        (past read skips (put n) (each put ns ++ q) (w * suc i) (w * i) e ∙ number_at ns q i (omega arith) g)
