-- That ten digits suffice: more steps change nothing, read back they are the number, and none is a leading zero.
use mathlib.Core.Path.{◌≡◌, refl, sym}
use mathlib.Core.List.{List, [], ◌∷◌, ◌++◌}
use mathlib.Core.Logic.{⊎_elim}
use Prim.Native.Nat.{ℕ, zero, suc, ◌+◌, ◌-◌, ◌*◌, ◌/◌, ◌%◌, ◌≤◌, ◌<◌}
use native.Mathlib.Nat.{suc-add}
use native.Mathlib.Omega.{arith}
use lib.ListN.{get_or}
use Rattle.lists.proofs.Tests.{below}
use Rattle.phrase.specs.Phrase.{digits, decimal}
use Rattle.phrase.proofs.Laws.{last-digit, more_digits}

-- the numbers of at most k digits are those below 10 to the k
unfoldable pub tens : ℕ → ℕ
tens zero = 1
tens (suc k) = 10 * tens k

-- what digits say in base ten, where those before them say n
unfoldable pub read_on : ℕ → List ℕ → ℕ
read_on n [] = n
read_on n (x ∷ xs) = read_on (10 * n + (x - 48)) xs

-- ---- a number of one digit, and of more
one : (left n : ℕ) → n < 10 → digits (suc left) n ≡ (48 + n) ∷ []
one left n h = sym (last-digit (suc left) n (λ e. omega arith) h)

more : (left n : ℕ) → 10 ≤ n → digits (suc left) n ≡ digits left (n / 10) ++ ((48 + n % 10) ∷ [])
more left n h =
    let z : suc left - 1 ≡ left = omega arith in
    sym (rw z at (more_digits (suc left) n (λ e. omega arith) h))

none_below : (n : ℕ) → n < tens 1 → n < 10
unfolding tens
none_below n h = omega arith

tenth : (k n : ℕ) → n < tens (suc (suc k)) → n / 10 < tens (suc k)
unfolding tens
tenth k n h = omega arith

-- ---- more steps change nothing
steps : (k m n : ℕ) → n < tens (suc k) → digits (suc k + m) n ≡ digits (suc k) n
steps zero m n h =
    let g : n < 10 = none_below n h in
    rw (suc-add, one _ n g, one zero n g)
steps (suc k) m n h = ⊎_elim
    (λ g. rw (suc-add, one _ n g, one (suc k) n g))
    (λ g. rw (suc-add, more _ n g, more (suc k) n g, steps k m (n / 10) (tenth k n h)))
    (below n 10)

-- ---- read back
read-last : (n : ℕ) (xs : List ℕ) (x : ℕ) → read_on n (xs ++ (x ∷ [])) ≡ 10 * read_on n xs + (x - 48)
unfolding read_on
read-last n [] x = refl
read-last n (y ∷ xs) x = read-last (10 * n + (y - 48)) xs x

read_one : (n : ℕ) → read_on 0 ((48 + n) ∷ []) ≡ n
unfolding read_on
read_one n = omega arith

read_back : (k n : ℕ) → n < tens (suc k) → read_on 0 (digits (suc k) n) ≡ n
read_back zero n h = rw (one zero n (none_below n h)) (read_one n)
read_back (suc k) n h = ⊎_elim
    (λ g. rw (one (suc k) n g) (read_one n))
    (λ g. rw (more (suc k) n g, read-last)
    (let e : read_on 0 (digits (suc k) (n / 10)) ≡ n / 10 = read_back k (n / 10) (tenth k n h) in omega arith))
    (below n 10)

-- ---- the first digit
front : (xs ys : List ℕ) → 48 < get_or xs 0 0 → 48 < get_or (xs ++ ys) 0 0
front [] ys h = absurd (omega arith)
front (x ∷ xs) ys h = h

leads : (k n : ℕ) → 0 < n → n < tens (suc k) → 48 < get_or (digits (suc k) n) 0 0
leads zero n p h = rw (one zero n (none_below n h)) (omega arith)
leads (suc k) n p h = ⊎_elim
    (λ g. rw (one (suc k) n g) (omega arith))
    (λ g. rw (more (suc k) n g)
    (front (digits (suc k) (n / 10)) ((48 + n % 10) ∷ []) (leads k (n / 10) (omega arith) (tenth k n h))))
    (below n 10)

-- ---- ten digits
ten : (n : ℕ) → n < 10000000000 → n < tens 10
unfolding tens
ten n h = h

module _ (n : ℕ) (h : n < 10000000000) where
  -- a number below 10,000,000,000 has at most ten digits: with more steps it has no more
  pub decimal-more : (m : ℕ) → digits (10 + m) n ≡ decimal n
  decimal-more m = steps 9 m n (ten n h)

  -- read back, its digits say the number
  pub decimal-read : read_on 0 (decimal n) ≡ n
  decimal-read = read_back 9 n (ten n h)

  -- the first of them is 0 only where the number is
  pub decimal-leads : 0 < n → 48 < get_or (decimal n) 0 0
  decimal-leads p = leads 9 n p (ten n h)
