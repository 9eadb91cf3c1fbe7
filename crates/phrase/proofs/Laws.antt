-- Laws of `Put`: nothing put, one text after another, and what is left to put.
use mathlib.Core.Path.{◌≡◌, refl, sym, ap, ◌∙◌, subst}
use mathlib.Core.Logic.{⊎_elim, ◌⊎◌, inl, inr}
use mathlib.Core.List.{List, [], ◌∷◌, ◌++◌}
use Prim.Native.Nat.{ℕ, zero, suc, ◌+◌, ◌-◌, ◌/◌, ◌%◌, ◌≤◌, ◌<◌, min}
use native.Mathlib.Omega.{arith}
use lib.ListN.{length, set, take, drop, length-append, take-append-drop}
use lib.Seq.{sets, sets-eq, length-sets, length-take-le, take_all}
use borrow.Rule.Slice.PartMut.{put_mid}
use Rattle.std.proofs.lemmas.Slice.{put_mid-paste}
use Rattle.lists.proofs.Tests.{below}
use borrow.Author.Tests.{lt-ltb, le-ltb}
use Rattle.lists.proofs.Laws.{rest-none}
use Rattle.lists.proofs.Stores.{sets-join}
use Rattle.phrase.specs.Phrase.{digits}
use Rattle.phrase.specs.Inner.{Put}

-- ---- stores past the end change nothing
set_past : (l : List ℕ) (i x : ℕ) → length l ≤ i → set l i x ≡ l
set_past [] i x h = refl
set_past (y ∷ l) zero x h = absurd (omega arith)
set_past (y ∷ l) (suc i) x h = ap (λ (m : List ℕ). y ∷ m) (set_past l i x (omega arith))

sets-past : (l : List ℕ) (i : ℕ) (xs : List ℕ) → length l ≤ i → sets l i xs ≡ l
sets-past l i [] h = refl
sets-past l i (x ∷ xs) h = ap (λ (m : List ℕ). sets m (suc i) xs) (set_past l i x h) ∙ sets-past l (suc i) xs
    (omega arith)

-- ---- one text after another
pub put-none : {at : ℕ} {l : List ℕ} → Put [] at l at l
put-none = record { ends = omega arith; buffer = refl }

pub put-join : {xs ys : List ℕ} {at r e : ℕ} {l m o : List ℕ} → Put xs at l r m → Put ys r m e o → Put (xs ++ ys) at l
    e o
put-join {xs} {ys} {at} {r} {e} {l} {m} {o} p q = record {
  ends = omega (arith, length-append xs ys, p.ends, q.ends);
  buffer = q.buffer ∙ rw (sets-join, p.ends, p.buffer);
}

-- the same text by another name
pub put_as : {xs ys : List ℕ} {at r : ℕ} {l m : List ℕ} → xs ≡ ys → Put xs at l r m → Put ys at l r m
put_as {xs} {ys} {at} {r} {l} {m} e p = subst (λ (zs : List ℕ). Put zs at l r m) e p

pub put-length : {xs : List ℕ} {at r : ℕ} {l m : List ℕ} → Put xs at l r m → length m ≡ length l
put-length {xs} {at} {r} {l} {m} p = ap length p.buffer ∙ length-sets l at xs

-- a whole text that has room
pub put_whole : {xs : List ℕ} {r : ℕ} {l m : List ℕ} → Put xs 0 l r m → length xs ≤ length l → m ≡ xs ++ drop
    (length xs) l
put_whole {xs} {r} {l} {m} p h =
    let z : 0 + length xs ≡ length xs = omega arith in
    p.buffer ∙ sets-eq xs l 0 (omega arith) ∙ ap (λ (n : ℕ). xs ++ drop n l) z

-- ---- what is left to put of a text: the rest, from r on
pub record Rest (xs : List ℕ) (at : ℕ) (l : List ℕ) (ys : List ℕ) (r : ℕ) (m : List ℕ) : Type 0 where
  pub ends : r + length ys ≡ at + length xs
  pub buffer : sets m r ys ≡ sets l at xs

pub rest_all : {xs : List ℕ} {at : ℕ} {l : List ℕ} → Rest xs at l xs at l
rest_all = record { ends = refl; buffer = refl }

pub rest_put : {xs ys zs : List ℕ} {at r e : ℕ} {l m o : List ℕ} → Rest xs at l (ys ++ zs) r m → Put ys r m e o → Rest
    xs at l zs e o
rest_put {xs} {ys} {zs} {at} {r} {e} {l} {m} {o} p q = record {
  ends = omega (arith, length-append ys zs, p.ends, q.ends);
  buffer = rw (q.ends, q.buffer) (sym (sets-join m r ys zs)) ∙ p.buffer;
}

pub rest-as : {xs ys zs : List ℕ} {at r : ℕ} {l m : List ℕ} → ys ≡ zs → Rest xs at l ys r m → Rest xs at l zs r m
rest-as {xs} {ys} {zs} {at} {r} {l} {m} e p = subst (λ (vs : List ℕ). Rest xs at l vs r m) e p

pub rest-done : {xs : List ℕ} {at r : ℕ} {l m : List ℕ} → Rest xs at l [] r m → Put xs at l r m
rest-done p = record { ends = omega (arith, p.ends); buffer = p.buffer }

pub rest-length : {xs ys : List ℕ} {at r : ℕ} {l m : List ℕ} → Rest xs at l ys r m → length m ≡ length l
rest-length {xs} {ys} {at} {r} {l} {m} p = sym (length-sets m r ys) ∙ ap length p.buffer ∙ length-sets l at xs

-- ---- copying a piece
-- n bytes of xs are there, and the others have no room
rest_past : (xs : List ℕ) (at n : ℕ) (l : List ℕ) → n ≤ length xs → (length xs ≤ n) ⊎ (length l ≤ at + n)
    → sets l at (take n xs) ≡ sets l at xs
rest_past xs at n l w h =
    let z : length (take n xs) ≡ n = length-take-le n xs w in
    let m = sets l at (take n xs) in
    let e : sets m (at + n) (drop n xs) ≡ sets l at xs =
    ap (λ (i : ℕ). sets m (at + i) (drop n xs)) (sym z) ∙ sym (sets-join l at (take n xs) (drop n xs))
    ∙ ap (sets l at) (take-append-drop n xs) in
    ⊎_elim
    (λ g. sym (ap (sets m (at + n)) (rest-none xs n g)) ∙ e)
    (λ g. sym (sets-past m (at + n) (drop n xs) (omega (arith, length-sets l at (take n xs)))) ∙ e)
    h

-- from place a on, which is `at` or the end, n bytes have room
pub copied : (xs : List ℕ) (at a n k : ℕ) (l ys : List ℕ) → a ≡ min at (length l) → n ≡ min (length xs) (length l - a)
    → k ≡ n → ys ≡ take n xs → put_mid a k l ys ≡ sets l at xs
copied xs at a n k l ys ea en ek ey =
    let z : length (take n xs) ≡ n = length-take-le n xs (omega arith) in
    let p = put_mid-paste a k l ys (take n xs) n ey (sym ek) (sym z) in
    let q : sets l a (take n xs) ≡ sets l at xs = ⊎_elim
    (λ g. let e : a ≡ at = omega arith in rw e (rest_past xs at n l (omega arith) (⊎_elim (λ f. inr (omega arith))
    (λ f. inl (omega arith)) (below n (length xs)))))
    (λ g. let e : n ≡ 0 = omega arith in rw e (sym (sets-past l at xs g)))
    (below at (length l)) in
    p ∙ ap (λ (v : List ℕ). take a l ++ v ++ drop (a + n) l) (take_all n (take n xs) (omega arith))
    ∙ ap (λ (i : ℕ). take a l ++ take n xs ++ drop (a + i) l) (sym z)
    ∙ sym (sets-eq (take n xs) l a (omega arith)) ∙ q

-- ---- digits
pub no-digits : (left n : ℕ) → left ≡ 0 → [] ≡ digits left n
unfolding digits
no-digits left n e = rw e

pub last-digit : (left n : ℕ) → (left ≡ 0 → ⊥) → n < 10 → (48 + n) ∷ [] ≡ digits left n
unfolding digits
last-digit zero n h g = absurd (h refl)
last-digit (suc left) n h g = rw (lt-ltb n 10 g)

pub more_digits : (left n : ℕ) → (left ≡ 0 → ⊥) → 10 ≤ n → digits (left - 1) (n / 10) ++ ((48 + n % 10) ∷ []) ≡ digits
    left n
unfolding digits
more_digits zero n h g = absurd (h refl)
more_digits (suc left) n h g =
    let z : suc left - 1 ≡ left = omega arith in
    rw (z, le-ltb n 10 g)
