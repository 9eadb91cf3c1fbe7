-- The wrapping multiply: the places of the bits that are set, and one turn of the sum.
use Rattle.std.proofs.Common.{◌≡◌, ℕ, zero, suc, ◌+◌, ◌-◌, ◌*◌, ◌/◌, ◌%◌, ◌^◌, ◌<◌, ◌≤◌, sym, refl, ap, ◌∙◌, subst, ⊎_elim, add-zero, add_assoc, mod-eq_of_lt, mul_assoc, mul_comm, add-mul, add_comm, pow-suc, mul-zero, zero-mul, mul-one, mul-suc, div-one, mul_left_comm, arith}
use native.Mathlib.Nat.{div-div-eq-div-mul, mod-add-mod, add-mul-mod_self_left, mod-add-div}
use lib.Count.{count_trailing_zeros, under}
use Rattle.lists.proofs.Tests.{below}

-- ---- the zeros below the lowest bit that is set
tz-le : (d n : ℕ) → count_trailing_zeros d n ≤ d
unfolding count_trailing_zeros
tz-le zero n = omega arith
tz-le (suc d) n = go (n % 2) (tz-le d (n / 2))
  where
    go : (r : ℕ) → count_trailing_zeros d (n / 2) ≤ d → under r (count_trailing_zeros d (n / 2)) ≤ suc d
    go zero h = omega arith
    go (suc r) h = omega arith

-- what is shifted out is nothing
pub tz-whole : (d n : ℕ) → n / 2 ^ count_trailing_zeros d n * 2 ^ count_trailing_zeros d n ≡ n
unfolding count_trailing_zeros
tz-whole zero n = mul-one (n / 1) ∙ div-one n
tz-whole (suc d) n = go (n % 2) refl (tz-whole d (n / 2))
  where
    go : (r : ℕ) → n % 2 ≡ r → n / 2 / 2 ^ count_trailing_zeros d (n / 2) * 2 ^ count_trailing_zeros d (n / 2) ≡ n / 2
        → n / 2 ^ under r (count_trailing_zeros d (n / 2)) * 2 ^ under r (count_trailing_zeros d (n / 2)) ≡ n
    go zero e ih =
        let t = count_trailing_zeros d (n / 2) in
        let p : 2 ^ suc t ≡ 2 * 2 ^ t = pow-suc 2 t ∙ mul_comm (2 ^ t) 2 in
        let half : 2 * (n / 2) ≡ n = omega arith in
        ap (λ (x : ℕ). n / x * x) p
        ∙ ap (λ (x : ℕ). x * (2 * 2 ^ t)) (sym (div-div-eq-div-mul n 2 (2 ^ t)))
        ∙ mul_left_comm (n / 2 / 2 ^ t) 2 (2 ^ t)
        ∙ ap (λ (x : ℕ). 2 * x) ih
        ∙ half
    go (suc r) e ih = mul-one (n / 1) ∙ div-one n

module _ (n : ℕ) (h : (n ≡ 0 → ⊥)) where
  -- a bit is set, so the lowest one is left
  pub tz-some : (d : ℕ) → 1 ≤ n / 2 ^ count_trailing_zeros d n
  tz-some d = ⊎_elim
      (λ b. let z : n / 2 ^ count_trailing_zeros d n ≡ 0 = omega arith in absurd
      (h (sym (tz-whole d n) ∙ ap (λ (x : ℕ). x * 2 ^ count_trailing_zeros d n) z ∙ zero-mul (2 ^ count_trailing_zeros d n))))
      (λ b. b)
      (below (n / 2 ^ count_trailing_zeros d n) 1)

  pub tz-lt : n < 2 ^ 64 → count_trailing_zeros 64 n < 64
  tz-lt b = ⊎_elim
      (λ l. l)
      (λ l. let e : count_trailing_zeros 64 n ≡ 64 = omega (arith, tz-le 64 n) in
      let s : 1 ≤ n / 2 ^ 64 = subst (λ (t : ℕ). 1 ≤ n / 2 ^ t) e (tz-some 64) in
      absurd (omega arith))
      (below (count_trailing_zeros 64 n) 64)

-- ---- sums and products modulo w
mod_times : (s y q w : ℕ) → (s + y % w * q) % w ≡ (s + y * q) % w
mod_times s y q w =
    let e : y * q ≡ y % w * q + w * (y / w * q) = ap (λ (x : ℕ). x * q) (sym (mod-add-div y w)) ∙ add-mul (y % w)
    (w * (y / w)) q ∙ ap (λ (x : ℕ). y % w * q + x) (mul_assoc w (y / w) q) in
    sym (ap (λ (x : ℕ). (s + x) % w) e ∙ ap (λ (x : ℕ). x % w) (sym (add_assoc s (y % w * q) (w * (y / w * q))))
    ∙ add-mul-mod_self_left (s + y % w * q) w (y / w * q))

-- one turn: the lowest bit that is set in m stands at z
pub mul-turn : (s x m z w u v : ℕ) → m / 2 ^ z * 2 ^ z ≡ m → 1 ≤ m / 2 ^ z → u ≡ x * 2 ^ z % w → v ≡ (s + u) % w
    → (v + u * (m / 2 ^ z - 1)) % w ≡ (s + x * m) % w
mul-turn s x m z w u v e h eu ev =
    let q = m / 2 ^ z in
    let p : suc (q - 1) ≡ q = omega arith in
    let t : u + u * (q - 1) ≡ u * q = add_comm u (u * (q - 1)) ∙ sym (mul-suc u (q - 1)) ∙ ap (λ (k : ℕ). u * k) p in
    let y : x * 2 ^ z * q ≡ x * m = mul_assoc x (2 ^ z) q ∙ ap (λ (k : ℕ). x * k) (mul_comm (2 ^ z) q ∙ e) in
    ap (λ (k : ℕ). (k + u * (q - 1)) % w) ev
    ∙ mod-add-mod (s + u) w (u * (q - 1))
    ∙ ap (λ (k : ℕ). k % w) (add_assoc s u (u * (q - 1)) ∙ ap (λ (k : ℕ). s + k) t)
    ∙ ap (λ (k : ℕ). (s + k * q) % w) eu
    ∙ mod_times s (x * 2 ^ z) q w
    ∙ ap (λ (k : ℕ). (s + k) % w) y

pub mul-done : (s x m p w : ℕ) → m ≡ 0 → s < w → (s + x * m) % w ≡ p → s ≡ p
mul-done s x m p w e h i =
    sym (mod-eq_of_lt h) ∙ ap (λ (k : ℕ). k % w) (sym (add-zero s) ∙ ap (λ (k : ℕ). s + k)
    (sym (mul-zero x) ∙ ap (λ (k : ℕ). x * k) (sym e))) ∙ i
