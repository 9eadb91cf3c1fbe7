-- What a window from the first item on shows: all items, where they fit.
use mathlib.Core.Path.{◌≡◌, refl, sym, ap, ◌∙◌}
use mathlib.Core.List.{List, [], ◌∷◌, ◌++◌, append_assoc}
use Prim.Native.Nat.{ℕ, suc, ◌+◌, ◌-◌, ◌*◌, ◌/◌, ◌≤◌, ◌<◌}
use native.Mathlib.Omega.{arith}
use lib.ListN.{length, take, drop, length-append, length-drop}
use lib.Seq.{take_at, drop_at, drop-drop}
use Rattle.lists.specs.Lists.{each}
use Rattle.breach.specs.Breach.{Item, numbers}
use Rattle.judge.specs.Window.{put, window}
use Rattle.judge.proofs.Wrote.{put-fits}

pub each-length : (xs : List Item) → length (each numbers xs) ≡ 7 * length xs
unfolding each
each-length [] = refl
each-length (x ∷ xs) = omega (arith, length-append (numbers x) (each numbers xs), each-length xs)

-- the list is p and then q; the n items in p are written, and xs fit in q
window-all : (n : ℕ) (xs : List Item) (l p q : List ℕ) → l ≡ p ++ q → length p ≡ 7 * n → 7 * length xs ≤ length q
    → window 0 n xs l ≡ p ++ (each numbers xs ++ drop (7 * length xs) q)
unfolding window each
window-all n [] l p q e h k = e
window-all n (x ∷ xs) l p q e h k =
    let z : n - 0 ≡ n = omega arith in
    let b : length l ≡ length p + length q = ap length e ∙ length-append p q in
    let m : n - 0 < length l / 7 = omega arith in
    let t : take (7 * n) l ≡ p = ap (take (7 * n)) e ∙ take_at p q (7 * n) h in
    let u : drop (7 * n + 7) l ≡ drop 7 q = sym (drop-drop 7 (7 * n) l) ∙ ap (λ (r : List ℕ). drop 7 (drop (7 * n) r))
    e ∙ ap (drop 7) (drop_at p q (7 * n) h) in
    let s : put 0 n x l ≡ (p ++ numbers x) ++ drop 7 q = put-fits 0 n x l (omega arith) m ∙ rw (z, t, u)
    (sym (append_assoc p (numbers x) (drop 7 q))) in
    window-all (suc n) xs (put 0 n x l) (p ++ numbers x) (drop 7 q) s (omega (arith, length-append p (numbers x)))
    (omega (arith, length-drop 7 q))
    ∙ append_assoc p (numbers x) _
    ∙ ap (λ (r : List ℕ). p ++ (numbers x ++ (each numbers xs ++ r)))
    (drop-drop (7 * length xs) 7 q ∙ ap (λ (m : ℕ). drop m q)
    (let g : 7 + 7 * length xs ≡ 7 * suc (length xs) = omega arith in g))
    ∙ ap (λ (r : List ℕ). p ++ r) (sym (append_assoc (numbers x) (each numbers xs) _))

pub window-whole : (xs : List Item) (l : List ℕ) → length xs ≤ length l / 7 → window 0 0 xs l ≡ each numbers xs
    ++ drop (7 * length xs) l
window-whole xs l h = window-all 0 xs l [] l refl refl (omega arith)
