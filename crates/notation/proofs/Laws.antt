-- One digit more, and all digits; the bytes of ends.
use Rattle.std.proofs.Common.{◌≡◌, ℕ, ◌+◌, ◌-◌, ◌*◌, ◌<◌, ◌≤◌, Bool, true, false, List, [], ◌∷◌, length, get_or, drop, sym, refl, ap, ◌∙◌, arith, le-leb}
use borrow.Author.Tests.{lt-leb}
use Rattle.lists.specs.Lists.{pick}
use Rattle.lists.proofs.Laws.{rest_more, rest-none}
use Rattle.notation.specs.Digits.{one_more, more, all_more, number_of}
use Rattle.std.specs.Prelude.{◌^◌, Some, None, Result, Ok, Err}
use Rattle.std.specs.Result.{OkIff, result_ok}

module _ (n b : ℕ) where
  pub before-digits : b < 48 → None ≡ one_more n b
  unfolding one_more
  before-digits h = rw (lt-leb 48 b h)

  pub behind-digits : 57 < b → None ≡ one_more n b
  unfolding one_more
  behind-digits h = rw (le-leb 48 b (omega arith), lt-leb b 57 h)

  pub too_large : 48 ≤ b → b ≤ 57 → 4294967295 < 10 * n + (b - 48) → None ≡ one_more n b
  unfolding one_more
  too_large h k l = rw (le-leb 48 b h, le-leb b 57 k, lt-leb (10 * n + (b - 48)) 4294967295 l)

  pub one_more_lem : 48 ≤ b → b ≤ 57 → 10 * n + (b - 48) ≤ 4294967295 → Some (10 * n + (b - 48)) ≡ one_more n b
  unfolding one_more
  one_more_lem h k l = rw (le-leb 48 b h, le-leb b 57 k, le-leb (10 * n + (b - 48)) 4294967295 l)

  -- the same as a conversion to 32 bits says it
  pub converted :
      {E : Type 0} (r : Result ℕ E) → 48 ≤ b → b ≤ 57 → OkIff r (10 * n + (b - 48) < 2 ^ 32) (10 * n + (b - 48))
      → result_ok r ≡ one_more n b
  converted (Ok x) h k l = ap Some l.1 ∙ one_more_lem h k (omega (arith, l.0))
  converted (Err e) h k l = too_large h k (omega (arith, l))

-- what is no number is none with more digits
not_more : (bs : List ℕ) → all_more bs None ≡ None
unfolding all_more more
not_more [] = refl
not_more (b ∷ bs) = not_more bs

pub no_digit : (bs : List ℕ) → length bs ≡ 0 → None ≡ number_of bs
unfolding number_of
no_digit [] h = refl
no_digit (b ∷ bs) h = absurd (omega arith)

pub digits-start : (bs : List ℕ) → (length bs ≡ 0 → ⊥) → all_more bs (Some 0) ≡ number_of bs
unfolding number_of
digits-start [] h = absurd (h refl)
digits-start (b ∷ bs) h = refl

module _ (bs : List ℕ) (i n : ℕ) (inv : all_more (drop i bs) (Some n) ≡ number_of bs) where
  pub digits-turn :
      (m : ℕ) → i < length bs → Some m ≡ one_more n (get_or bs i 0) → all_more (drop (i + 1) bs) (Some m) ≡ number_of bs
  unfolding all_more more
  digits-turn m l e = rw e (rw (rest_more bs i l) at inv)

  pub digits-stop : i < length bs → None ≡ one_more n (get_or bs i 0) → None ≡ number_of bs
  unfolding all_more more
  digits-stop l e = sym (not_more (drop (i + 1) bs)) ∙ rw e (rw (rest_more bs i l) at inv)

  pub digits-end : length bs ≤ i → Some n ≡ number_of bs
  unfolding all_more
  digits-end l = rw (rest-none bs i l) at inv

module _ (thin : Bool) (n : ℕ) where
  pub two-each : thin ≡ true → (2 * n ≡ pick thin (2 * n) (4 * n)) × (2 * n ≤ 4 * n)
  two-each h = (rw h, omega arith)

  pub four-each : thin ≡ false → (4 * n ≡ pick thin (2 * n) (4 * n)) × (4 * n ≤ 4 * n)
  four-each h = (rw h, omega arith)
