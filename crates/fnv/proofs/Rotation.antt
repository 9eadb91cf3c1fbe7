-- The rotation: what is shifted up and what comes in below do not meet.
use Rattle.std.proofs.Common.{◌≡◌, ℕ, ◌+◌, ◌-◌, ◌*◌, ◌/◌, ◌%◌, ◌^◌, ◌<◌, sym, refl, ap, ◌∙◌, subst, add-zero, mod-lt, mod-eq_of_lt, mul-one, arith, pow_pos, pow-add, shr_lt}
use native.Mathlib.Nat.{div-eq_of_lt, mul-mod_left}
use lib.Arith.{digits_lt}
use lib.Pow.{shl-shr, mod-pow-add}
use Rattle.fnv.specs.Fnv.{rotated}

shifted_up : (x j k : ℕ) → x * 2 ^ k % 2 ^ (j + k) ≡ x % 2 ^ j * 2 ^ k
shifted_up x j k =
    mod-pow-add (x * 2 ^ k) j k
    ∙ ap (λ (y : ℕ). y % 2 ^ j * 2 ^ k + x * 2 ^ k % 2 ^ k) (shl-shr x k)
    ∙ ap (λ (y : ℕ). x % 2 ^ j * 2 ^ k + y) (mul-mod_left x (2 ^ k))
    ∙ add-zero (x % 2 ^ j * 2 ^ k)

apart : (x j k : ℕ) → x < 2 ^ (k + j) → x * 2 ^ k % 2 ^ (j + k) + x / 2 ^ j < 2 ^ (j + k)
apart x j k h =
    subst (λ (y : ℕ). y + x / 2 ^ j < 2 ^ (j + k)) (sym (shifted_up x j k))
    (subst (λ (y : ℕ). x % 2 ^ j * 2 ^ k + x / 2 ^ j < y) (sym (pow-add 2 j k))
    (digits_lt (mod-lt x (pow_pos j)) (shr_lt k j h)))

pub turned-fits : (x r : ℕ) → x < 2 ^ 64 → r < 64 → x * 2 ^ r % 2 ^ 64 + x / 2 ^ (64 - r) < 2 ^ 64
turned-fits x r h l =
    let e : (64 - r) + r ≡ 64 = omega arith in
    let g : r + (64 - r) ≡ 64 = omega arith in
    subst (λ (w : ℕ). x * 2 ^ r % 2 ^ w + x / 2 ^ (64 - r) < 2 ^ w) e
    (apart x (64 - r) r (subst (λ (w : ℕ). x < 2 ^ w) (sym g) h))

pub turned-not : (x r : ℕ) → x < 2 ^ 64 → r ≡ 0 → x ≡ rotated x r
unfolding rotated
turned-not x r h e =
    let u : x * 1 % 2 ^ 64 ≡ x = ap (λ (y : ℕ). y % 2 ^ 64) (mul-one x) ∙ mod-eq_of_lt h in
    let d : x / 2 ^ 64 ≡ 0 = div-eq_of_lt h in
    rw e (sym (ap (λ (y : ℕ). y + x / 2 ^ 64) u ∙ ap (λ (y : ℕ). x + y) d ∙ add-zero x))

pub turned : (x r : ℕ) → x * 2 ^ r % 2 ^ 64 + x / 2 ^ (64 - r) ≡ rotated x r
unfolding rotated
turned x r = refl
