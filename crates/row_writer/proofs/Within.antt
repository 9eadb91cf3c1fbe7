-- The limits of a row's sheet, by the number of its cells and the lengths of its names.
use mathlib.Core.Path.{◌≡◌, refl}
use mathlib.Core.Bool.{Bool, true, false}
use Prim.Native.Nat.{ℕ, ◌+◌, ◌*◌, ◌≤◌, ◌<◌}
use native.Mathlib.Omega.{arith}
use borrow.Author.Tests.{leb-true, le-leb, lt-leb}
use lib.Dec.{leb}
use Rattle.lists.specs.Lists.{both}
use Rattle.lists.proofs.Tests.{never, both_true}
use Rattle.frame.specs.Limits.{max_tokens, max_names, max_text}
use Rattle.row_writer.specs.Writing.{max_number}
use Rattle.row_writer.specs.Inner.{node_size, is_within}

-- the second, or the third, of three tests fails
second-fails : (a b : Bool) → false ≡ both a (both false b)
second-fails true b = refl
second-fails false b = refl

third-fails : (a b : Bool) → false ≡ both a (both b false)
third-fails true true = refl
third-fails true false = refl
third-fails false b = refl

module _ (cells stop label headers : ℕ) where
  pub many-names : max_names ≤ cells → false ≡ is_within cells stop label headers
  unfolding is_within
  many-names h = rw (lt-leb (cells + 1) max_names (omega arith)) refl

  pub far-span : max_number < stop → false ≡ is_within cells stop label headers
  unfolding is_within
  far-span h = rw (lt-leb stop max_number h) (second-fails (leb (cells + 1) max_names) (leb (label + headers) max_text))

  pub long-text : max_text < label + headers → false ≡ is_within cells stop label headers
  unfolding is_within
  long-text h = rw (lt-leb (label + headers) max_text h) (third-fails (leb (cells + 1) max_names) (leb stop max_number))

  pub all-within : cells < max_names → stop ≤ max_number → label + headers ≤ max_text
      → true ≡ is_within cells stop label headers
  unfolding is_within
  all-within h g k =
      let n = le-leb (cells + 1) max_names (omega arith) in
      rw (n, le-leb stop max_number g, le-leb (label + headers) max_text k) refl

  pub within-limits : is_within cells stop label headers ≡ true
      → (cells + 1 ≤ max_names) × (stop ≤ max_number) × (label + headers ≤ max_text)
  unfolding is_within
  within-limits e =
      let p = both_true (leb (cells + 1) max_names) (both (leb stop max_number) (leb (label + headers) max_text)) e in
      let q = both_true (leb stop max_number) (leb (label + headers) max_text) p.1 in
      (leb-true _ _ p.0, leb-true _ _ q.0, leb-true _ _ q.1)

  -- with so few names the tokens are few enough
  pub limits-are : both
      (both (leb (node_size + 2 * cells) max_tokens) (both (leb (1 + cells) max_names) (leb (label + headers) max_text)))
      (leb stop max_number)
      ≡ is_within cells stop label headers
  unfolding is_within
  limits-are =
      let z : 1 + cells ≡ cells + 1 = omega arith in
      rw z (go (leb (node_size + 2 * cells) max_tokens) (leb (cells + 1) max_names) (leb (label + headers) max_text)
      (leb stop max_number)
      (λ h. le-leb (node_size + 2 * cells) max_tokens (omega (arith, leb-true (cells + 1) max_names h))))
    where
      go : (t n x s : Bool) → (n ≡ true → t ≡ true) → both (both t (both n x)) s ≡ both n (both s x)
      go true true true true f = refl
      go true true true false f = refl
      go true true false true f = refl
      go true true false false f = refl
      go true false x s f = refl
      go false true x s f = never (f refl)
      go false false x s f = refl
