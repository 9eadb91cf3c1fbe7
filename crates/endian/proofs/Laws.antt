-- A u32 and its four bytes, a u16 and its two.
use mathlib.Core.Path.{◌≡◌, refl, sym, ap, ◌∙◌}
use mathlib.Core.List.{List, [], ◌∷◌, ◌++◌}
use Prim.Native.Nat.{ℕ, suc, ◌+◌, ◌*◌, ◌/◌, ◌%◌, ◌≤◌, ◌<◌}
use native.Mathlib.Nat.{add_assoc, div-div-eq-div-mul, div-add-mod, mod-eq_of_lt, div-eq_of_lt, div-lt_iff_lt-mul, add-mul-mod_self_left, add-mul-div_left}
use native.Mathlib.Omega.{arith}
use borrow.Rule.Slice.PartMut.{put_mid}
use lib.ListN.{length, get_or, take, drop}
use lib.Seq.{sets, sets-eq, take_all, get_or-append-add, drop-cons}
use Rattle.std.proofs.lemmas.Slice.{put_mid-paste}
use Rattle.endian.specs.Endian.{u32_at, u16_at, u32_of, u16_of}

-- what the four bytes of a number stand for
pub u32-is : (n : ℕ) (q : List ℕ) → n < 4294967296 → u32_at (u32_of n ++ q) 0 ≡ n
u32-is n q h =
    let a : n / 256 / 256 ≡ n / 65536 = div-div-eq-div-mul n 256 256 in
    let b : n / 65536 / 256 ≡ n / 16777216 = div-div-eq-div-mul n 65536 256 in
    let c : n / 16777216 % 256 ≡ n / 16777216 = mod-eq_of_lt ((div-lt_iff_lt-mul {k = 16777216} (omega arith)).1 h) in
    omega (arith, div-add-mod n 256, div-add-mod (n / 256) 256, div-add-mod (n / 65536) 256)

-- a u32 that stands behind other bytes
pub u32-skip : (p q : List ℕ) (k : ℕ) → u32_at (p ++ q) (length p + k) ≡ u32_at q k
u32-skip p q k = rw (
  add_assoc (length p) k 1,
  add_assoc (length p) k 2,
  add_assoc (length p) k 3,
  get_or-append-add p q k 0,
  get_or-append-add p q (k + 1) 0,
  get_or-append-add p q (k + 2) 0,
  get_or-append-add p q (k + 3) 0,
)

-- what the two bytes of a number stand for
pub u16-is : (n : ℕ) (q : List ℕ) → n < 65536 → u16_at (u16_of n ++ q) 0 ≡ n
u16-is n q h =
    let c : n / 256 % 256 ≡ n / 256 = mod-eq_of_lt ((div-lt_iff_lt-mul {k = 256} (omega arith)).1 h) in
    omega (arith, div-add-mod n 256)

-- a u16 that stands behind other bytes
pub u16-skip : (p q : List ℕ) (k : ℕ) → u16_at (p ++ q) (length p + k) ≡ u16_at q k
u16-skip p q k = rw (add_assoc (length p) k 1, get_or-append-add p q k 0, get_or-append-add p q (k + 1) 0)

-- a piece that is copied to a place: it stands there, and what stands elsewhere is as it was
pub stored-in : (l piece ys : List ℕ) (at k : ℕ) → ys ≡ piece → k ≡ length piece → at + length piece ≤ length l
    → put_mid at k l ys ≡ sets l at piece
stored-in l piece ys at k e n h =
    put_mid-paste at k l ys piece (length piece) e (sym n) refl
    ∙ ap (λ (x : List ℕ). take at l ++ x ++ drop (at + length piece) l) (take_all (length piece) piece (omega arith))
    ∙ sym (sets-eq piece l at h)

-- ---- the bytes of the number that some bytes stand for are these bytes
-- a number's last byte, and what stands above it
last_byte : (a q : ℕ) → a < 256 → ((a + 256 * q) % 256 ≡ a) × ((a + 256 * q) / 256 ≡ q)
last_byte a q h = (
  add-mul-mod_self_left a 256 q ∙ mod-eq_of_lt h,
  add-mul-div_left a q (omega arith) ∙ ap (λ (n : ℕ). n + q) (div-eq_of_lt h) ∙ omega arith,
)

module _ (s : List ℕ) (small : (i : ℕ) → get_or s i 0 < 256) (at : ℕ) where
  pub u16-whole : at + 2 ≤ length s → u16_of (u16_at s at) ≡ take 2 (drop at s)
  u16-whole h =
      let a = last_byte (get_or s at 0) (get_or s (at + 1) 0) (small at) in
      let b : u16_at s at / 256 % 256 ≡ get_or s (at + 1) 0 = ap (λ (n : ℕ). n % 256) a.1 ∙ mod-eq_of_lt (small (at + 1)) in
      let i : at + 1 ≡ suc at = omega arith in
      let l : take 2 (drop at s) ≡ get_or s at 0 ∷ get_or s (at + 1) 0 ∷ [] =
      rw (drop-cons s at 0 (omega arith), i, drop-cons s (suc at) 0 (omega arith)) in
      (λ k. a.0 k ∷ b k ∷ []) ∙ sym l

  pub u32-whole : at + 4 ≤ length s → u32_of (u32_at s at) ≡ take 4 (drop at s)
  u32-whole h =
      let n : ℕ = u32_at s at in
      let x : ℕ = get_or s at 0 in
      let y : ℕ = get_or s (at + 1) 0 in
      let z : ℕ = get_or s (at + 2) 0 in
      let w : ℕ = get_or s (at + 3) 0 in
      let e : n ≡ x + 256 * (y + 256 * (z + 256 * w)) = omega arith in
      let a = last_byte x (y + 256 * (z + 256 * w)) (small at) in
      let b = last_byte y (z + 256 * w) (small (at + 1)) in
      let c = last_byte z w (small (at + 2)) in
      let one : n / 256 ≡ y + 256 * (z + 256 * w) = ap (λ (m : ℕ). m / 256) e ∙ a.1 in
      let two : n / 65536 ≡ z + 256 * w =
      sym (div-div-eq-div-mul n 256 256) ∙ ap (λ (m : ℕ). m / 256) one ∙ b.1 in
      let three : n / 16777216 ≡ w = sym (div-div-eq-div-mul n 65536 256) ∙ ap (λ (m : ℕ). m / 256) two ∙ c.1 in
      let p : n % 256 ≡ x = ap (λ (m : ℕ). m % 256) e ∙ a.0 in
      let q : n / 256 % 256 ≡ y = ap (λ (m : ℕ). m % 256) one ∙ b.0 in
      let r : n / 65536 % 256 ≡ z = ap (λ (m : ℕ). m % 256) two ∙ c.0 in
      let t : n / 16777216 % 256 ≡ w = ap (λ (m : ℕ). m % 256) three ∙ mod-eq_of_lt (small (at + 3)) in
      let i : at + 1 ≡ suc at = omega arith in
      let j : at + 2 ≡ suc (suc at) = omega arith in
      let k : at + 3 ≡ suc (suc (suc at)) = omega arith in
      let l : take 4 (drop at s) ≡ x ∷ y ∷ z ∷ w ∷ [] =
      rw (
        drop-cons s at 0 (omega arith),
        i,
        drop-cons s (suc at) 0 (omega arith),
        j,
        drop-cons s (suc (suc at)) 0 (omega arith),
        k,
        drop-cons s (suc (suc (suc at))) 0 (omega arith),
      ) in
      (λ m. p m ∷ q m ∷ r m ∷ t m ∷ []) ∙ sym l
