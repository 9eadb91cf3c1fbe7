-- The hash of a text: how it is made, and that texts which differ in the case of letters alone share one.
use mathlib.Core.Path.{◌≡◌, ◌∙◌, refl, sym, ap}
use mathlib.Core.Bool.{Bool, true, false}
use mathlib.Core.List.{List, [], ◌∷◌}
use Prim.Native.Nat.{ℕ, ◌+◌, ◌-◌, ◌*◌, ◌/◌, ◌%◌, ◌≤◌, ◌<◌}
use native.Mathlib.Omega.{arith}
use native.Mathlib.Numerals.{add-one}
use borrow.Author.Tests.{lt-ltb, le-ltb, leb-true}
use lib.Bits.{bit_and, and_block}
use lib.Dec.{leb}
use lib.ListN.{length, get_or, length-map, get_or-map}
use Rattle.lists.specs.Lists.{pick, both}
use Rattle.endian.specs.Endian.{u32_at}
use Rattle.text.specs.Folded.{lower, folded}
use Rattle.numbers.specs.Chains.{fold_of, mix_of, few_of, size_of, steps_of, bytes_hash, caseless, caseless_of, hash_of}

-- ---- bytes less the bit by which the two cases of a letter differ
letter-case : (x : ℕ) → 65 ≤ x → x ≤ 90 → bit_and (x + 32) 223 ≡ bit_and x 223
letter-case x h l =
    let large : 2 * 32 + (x - 64) ≡ x = omega arith in
    let small : 3 * 32 + (x - 64) ≡ x + 32 = omega arith in
    let r : x - 64 < 32 = omega arith in
    let e : bit_and (2 * 32 + (x - 64)) 223 ≡ 64 + bit_and (x - 64) 31 = and_block 5 2 6 (x - 64) 31 r (omega arith) in
    let f : bit_and (3 * 32 + (x - 64)) 223 ≡ 64 + bit_and (x - 64) 31 = and_block 5 3 6 (x - 64) 31 r (omega arith) in
    ap (λ (y : ℕ). bit_and y 223) (sym small) ∙ f ∙ sym e ∙ ap (λ (y : ℕ). bit_and y 223) large

caseless-lower : (x : ℕ) → caseless (lower x) ≡ caseless x
unfolding caseless lower
caseless-lower x = go (leb 65 x) refl (leb x 90) refl
  where
    go : (p : Bool) → leb 65 x ≡ p → (q : Bool) → leb x 90 ≡ q → bit_and (pick (both p q) (x + 32) x) 223 ≡ bit_and x 223
    go true ep true eq = letter-case x (leb-true _ _ ep) (leb-true _ _ eq)
    go true ep false eq = refl
    go false ep q eq = refl

caseless-folded : (t : List ℕ) → caseless_of (folded t) ≡ caseless_of t
unfolding caseless_of
caseless-folded [] = refl
caseless-folded (x ∷ t) = ap (λ (y : ℕ). y ∷ caseless_of (folded t)) (caseless-lower x) ∙ ap (λ (u : List ℕ). caseless x ∷ u) (caseless-folded t)

pub alike-hash : (a b : List ℕ) → folded a ≡ folded b → hash_of a ≡ hash_of b
unfolding hash_of
alike-hash a b e = ap bytes_hash (sym (caseless-folded a) ∙ ap caseless_of e ∙ caseless-folded b)

-- ---- the same of four bytes in one number, and of three
caseless-four : (a b c d : ℕ) → a < 256 → b < 256 → c < 256
    → bit_and (a + 256 * b + 65536 * c + 16777216 * d) 3755991007 ≡ caseless a + 256 * caseless b + 65536 * caseless c + 16777216 * caseless d
unfolding caseless
caseless-four a b c d ha hb hc =
    let w : a + 256 * b + 65536 * c + 16777216 * d ≡ ((d * 256 + c) * 256 + b) * 256 + a = omega arith in
    let three : bit_and (((d * 256 + c) * 256 + b) * 256 + a) 3755991007 ≡ bit_and ((d * 256 + c) * 256 + b) 14671839 * 256 + bit_and a 223 =
    and_block 8 ((d * 256 + c) * 256 + b) 14671839 a 223 ha (omega arith) in
    let two : bit_and ((d * 256 + c) * 256 + b) 14671839 ≡ bit_and (d * 256 + c) 57311 * 256 + bit_and b 223 = and_block 8 (d * 256 + c) 57311 b 223 hb (omega arith) in
    let one : bit_and (d * 256 + c) 57311 ≡ bit_and d 223 * 256 + bit_and c 223 = and_block 8 d 223 c 223 hc (omega arith) in
    ap (λ (x : ℕ). bit_and x 3755991007) w ∙ omega (arith, three, two, one)

caseless-none : caseless 0 ≡ 0
unfolding caseless
caseless-none = refl

caseless-three : (a b c : ℕ) → a < 256 → b < 256 → c < 256 → bit_and (a + 256 * b + 65536 * c) 3755991007 ≡ caseless a + 256 * caseless b + 65536 * caseless c
caseless-three a b c ha hb hc =
    let w : a + 256 * b + 65536 * c ≡ a + 256 * b + 65536 * c + 16777216 * 0 = omega arith in
    ap (λ (x : ℕ). bit_and x 3755991007) w ∙ omega (arith, caseless-four a b c 0 ha hb hc, caseless-none)

caseless-at : (t : List ℕ) (i : ℕ) → get_or (caseless_of t) i 0 ≡ caseless (get_or t i 0)
unfolding caseless_of caseless
caseless-at t i = get_or-map caseless t i 0

caseless-length : (t : List ℕ) → length (caseless_of t) ≡ length t
unfolding caseless_of
caseless-length t = length-map t caseless

pub word-is : (t : List ℕ) (at w : ℕ) → ((i : ℕ) → get_or t i 0 < 256) → w ≡ u32_at t at → bit_and w 3755991007 ≡ u32_at (caseless_of t) at
word-is t at w h e =
    rw (e, caseless-at t at, caseless-at t (at + 1), caseless-at t (at + 2), caseless-at t (at + 3))
    (caseless-four (get_or t at 0) (get_or t (at + 1) 0) (get_or t (at + 2) 0) (get_or t (at + 3) 0) (h at) (h (at + 1)) (h (at + 2)))

-- ---- a text of at most three bytes
pub few-none : (t : List ℕ) → length t ≡ 0 → 0 ≡ few_of (caseless_of t)
unfolding few_of caseless_of
few-none [] e = refl
few-none (b ∷ t) e = absurd (omega arith)

pub few-some : (t : List ℕ) (a b c : ℕ) → (a ≡ get_or t 0 0) × (a < 256) → (b ≡ get_or t (length t / 2) 0) × (b < 256) → (c ≡ get_or t (length t - 1) 0) × (c < 256)
    → bit_and (a + 256 * b + 65536 * c) 3755991007 ≡ few_of (caseless_of t)
unfolding few_of
few-some t a b c ha hb hc =
    rw (caseless-length t, caseless-at t 0, caseless-at t (length t / 2), caseless-at t (length t - 1), sym ha.0, sym hb.0, sym hc.0)
    (caseless-three a b c ha.1 hb.1 hc.1)

-- ---- bytes mixed into a hash
pub mix-is : (h a b low high : ℕ) → a ≡ low → b ≡ high
    → (((h + a) * 668265263 + b * 1013904223) / 4294967296 + ((h + a) * 668265263 + b * 1013904223)) % 4294967296 ≡ mix_of h low high
unfolding mix_of
mix-is h a b low high ea eb = ap (λ (x : ℕ). fold_of ((h + x) * 668265263 + b * 1013904223)) ea ∙ ap (λ (x : ℕ). fold_of ((h + low) * 668265263 + x * 1013904223)) eb

pub mix-as : {x h a b h₀ a₀ b₀ : ℕ} → x ≡ mix_of h a b → h ≡ h₀ → a ≡ a₀ → b ≡ b₀ → x ≡ mix_of h₀ a₀ b₀
mix-as e eh ea eb = rw (eh, ea, eb) at e

module _ (t : List ℕ) (k h : ℕ) (inv : h ≡ steps_of t k) where
  pub steps-turn : (at a b x : ℕ) → at ≡ 8 * k → a ≡ u32_at t at → b ≡ u32_at t (at + 4) → x ≡ mix_of h a b → x ≡ steps_of t (k + 1)
  unfolding steps_of
  steps-turn at a b x e ea eb ex = rw (add-one k) (ex ∙ ap (λ (y : ℕ). mix_of y a b) inv ∙ rw (ea, eb, e))

pub steps-none : (t : List ℕ) (h : ℕ) → h ≡ size_of t → h ≡ steps_of (caseless_of t) 0
unfolding steps_of
steps-none t h e = rw (caseless-length t) e

pub steps-end : (t : List ℕ) (k n h : ℕ) → h ≡ steps_of t k → k ≤ n → n ≤ k → h ≡ steps_of t n
steps-end t k n h e l m = let q : k ≡ n = omega arith in e ∙ ap (steps_of t) q

module _ (t : List ℕ) (x : ℕ) where
  pub hash-few : length t < 4 → x ≡ mix_of (size_of t) (few_of (caseless_of t)) 0 → x ≡ hash_of t
  unfolding hash_of bytes_hash
  hash-few l e = rw (caseless-length t, lt-ltb (length t) 4 l) e

  pub hash-short : 4 ≤ length t → length t < 8 → x ≡ mix_of (size_of t) (u32_at (caseless_of t) 0) (u32_at (caseless_of t) (length t - 4)) → x ≡ hash_of t
  unfolding hash_of bytes_hash
  hash-short m l e = rw (caseless-length t, le-ltb (length t) 4 m, lt-ltb (length t) 8 l) e

  pub hash-long : 8 ≤ length t → x ≡ mix_of (steps_of (caseless_of t) ((length t - 1) / 8)) (u32_at (caseless_of t) (length t - 8)) (u32_at (caseless_of t) (length t - 4)) → x ≡ hash_of t
  unfolding hash_of bytes_hash
  hash-long l e = let m : 4 ≤ length t = omega arith in rw (caseless-length t, le-ltb (length t) 4 m, le-ltb (length t) 8 l) e
