-- What the counts of pairs say, whatever two names are compared.
use mathlib.Core.Path.{◌≡◌, ◌∙◌, refl, sym, ap}
use mathlib.Core.List.{List, [], ◌∷◌, ◌++◌}
use mathlib.Core.Bool.{Bool, true, false, not}
use mathlib.Core.Logic.{◌⊎◌, inl, inr}
use Prim.Native.Nat.{ℕ, zero, suc, ◌+◌, ◌≤◌, ◌<◌}
use lib.Dec.{eqb}
use lib.ListN.{length, get_or, take, drop, length-append}
use lib.Seq.{take-length, take-append_seam, take-take, get_or-take}
use native.Mathlib.Decide.{dec_lt}
use native.Mathlib.Omega.{arith}
use borrow.Author.Tests.{eqb-true, eqb-false, eq-eqb, ne_eqb}
use Rattle.lists.specs.Lists.{pick}
use Rattle.std.specs.declared.cmp.Ordering.{Ordering}
use Rattle.text.specs.Text.{same_text, order_of}
use Rattle.text.specs.BytePairs.{common_start, order_pairs, same_pairs}
use Rattle.text.specs.Inner.{differ, shorter_of}
use Rattle.text.proofs.Turns.{start-most, start-more, start-apart, start-spent, first-same, pairs-on, pairs-spent, same-order, same-lengths}

-- a common start ends where both names go on, or one of them is spent
abbrev Ends : List ℕ → List ℕ → Type 0
Ends a b = ((common_start a b < length a) × (common_start a b < length b)) ⊎ (shorter_of a b ≤ common_start a b)

where-ends : (a b : List ℕ) → Ends a b
where-ends a b = go (dec_lt (common_start a b) (length a)) (dec_lt (common_start a b) (length b))
  where
    go : Dec (common_start a b < length a) → Dec (common_start a b < length b) → Ends a b
    go (yes p) (yes q) = inl (p, q)
    go (yes p) (no q) = inr (omega arith)
    go (no p) d = inr (omega arith)

-- both names begin with the bytes of the common start
start-taken : (a b : List ℕ) → take (common_start a b) a ≡ take (common_start a b) b
unfolding common_start
start-taken [] b = refl
start-taken (x ∷ a) [] = refl
start-taken (x ∷ a) (y ∷ b) = go (eqb x y) refl (start-taken a b)
  where
    go : (t : Bool) → eqb x y ≡ t → take (common_start a b) a ≡ take (common_start a b) b
        → take (pick t (suc (common_start a b)) 0) (x ∷ a) ≡ take (pick t (suc (common_start a b)) 0) (y ∷ b)
    go true e r = let q : x ≡ y = eqb-true x y e in rw (q, r)
    go false e r = refl

-- the common start is common: it is no longer than either name, and both begin with the same bytes, as many as it has
pub start-common : (a b : List ℕ) → (common_start a b ≤ length a) × (common_start a b ≤ length b)
    × (take (common_start a b) a ≡ take (common_start a b) b)
start-common a b = ((start-most a b).0, (start-most a b).1, start-taken a b)

-- and no longer one is: where both names have n bytes and begin with the same n, it has n or more
pub start-longest : (a b : List ℕ) (n : ℕ) → n ≤ length a → n ≤ length b → take n a ≡ take n b → n ≤ common_start a b
start-longest a b zero p q e = omega arith
start-longest [] b (suc n) p q e = absurd (omega arith)
start-longest (x ∷ a) [] (suc n) p q e = absurd (omega arith)
start-longest (x ∷ a) (y ∷ b) (suc n) p q e =
    let f = first-same x y a b (ap (λ (l : List ℕ). get_or l 0 0) e) in
    let r = start-longest a b n (omega arith) (omega arith) (ap (drop 1) e) in
    omega (arith, f.0)

-- it stops at the first byte that differs: where i bytes are the same and the next two differ, it looks at i + 1 pairs
pub stops-at-first : (a b : List ℕ) (i : ℕ) → i < length a → i < length b → take i a ≡ take i b
    → (get_or a i 0 ≡ get_or b i 0 → ⊥) → order_pairs a b ≡ i + 1
stops-at-first a b i p q e n =
    let r = start-apart a b i (start-longest a b i (omega arith) (omega arith) e) p q n in
    sym (pairs-on a b i r.0 p q)

-- a name that is spent decides with no further pair: where one begins the other, its bytes are all that is looked at
pub spent-decides : (a c : List ℕ) → (order_pairs a (a ++ c) ≡ length a) × (order_pairs (a ++ c) a ≡ length a)
spent-decides a c =
    let l = length-append a c in
    let e = take-length a in
    let f = take-append_seam a c in (
      sym (all a (a ++ c) (start-longest a (a ++ c) (length a) (omega arith) (omega arith) (e ∙ sym f)) (omega arith)),
      sym (all (a ++ c) a (start-longest (a ++ c) a (length a) (omega arith) (omega arith) (f ∙ sym e)) (omega arith)),
    )
  where
    all : (b d : List ℕ) → length a ≤ common_start b d → shorter_of b d ≤ length a → length a ≡ order_pairs b d
    all b d h s = pairs-spent b d (length a) (start-spent b d (length a) h s).0 s

-- lengths that differ decide whether two names are the same, with no pair; else it takes as many as their order
pub lengths-decide : (a b : List ℕ) → (length a ≡ length b → ⊥) → same_pairs a b ≡ 0
lengths-decide a b n = rw (ne_eqb (length a) (length b) n)

pub lengths-leave : (a b : List ℕ) → length a ≡ length b → same_pairs a b ≡ order_pairs a b
lengths-leave a b e = rw (eq-eqb (length a) (length b) e)

-- no more pairs are looked at than the shorter name has bytes
pub order-bound : (a b : List ℕ) → (order_pairs a b ≤ length a) × (order_pairs a b ≤ length b)
order-bound a b = go (where-ends a b)
  where
    go : Ends a b → (order_pairs a b ≤ length a) × (order_pairs a b ≤ length b)
    go (inl h) = let e = pairs-on a b (common_start a b) refl h.0 h.1 in (omega arith, omega arith)
    go (inr s) =
        let e = pairs-spent a b (common_start a b) refl s in
        let m = start-most a b in
        (omega arith, omega arith)

pub same-bound : (a b : List ℕ) → (same_pairs a b ≤ length a) × (same_pairs a b ≤ length b)
same-bound a b = go (eqb (length a) (length b)) (order-bound a b)
  where
    go : (t : Bool) → (order_pairs a b ≤ length a) × (order_pairs a b ≤ length b)
        → (pick t (order_pairs a b) 0 ≤ length a) × (pick t (order_pairs a b) 0 ≤ length b)
    go true h = h
    go false h = (omega arith, omega arith)

-- lists that begin with the same n begin with the same m, where m is no more
shorter-take : (m n : ℕ) (a c : List ℕ) → m ≤ n → take n a ≡ take n c → take m a ≡ take m c
shorter-take m n a c h e = sym (take-take m n a h) ∙ ap (take m) e ∙ take-take m n c h

-- and have the same byte at each place below n
same_byte : (i n : ℕ) (a c : List ℕ) → i < n → take n a ≡ take n c → get_or a i 0 ≡ get_or c i 0
same_byte i n a c h e = sym (get_or-take n a i 0 h) ∙ ap (λ (l : List ℕ). get_or l i 0) e ∙ get_or-take n c i 0 h

-- what is not looked at has no say: names of the same lengths that have the same bytes up to there have the same order
pub order-unread : (a b c d : List ℕ) → length a ≡ length c → length b ≡ length d
    → take (order_pairs a b) a ≡ take (order_pairs a b) c → take (order_pairs a b) b ≡ take (order_pairs a b) d
    → order_of a b ≡ order_of c d
order-unread a b c d p q e f = go (where-ends a b)
  where
    -- as many bytes as the common start has are common to c and d as well
    common : common_start a b ≤ order_pairs a b → common_start a b ≤ length a → common_start a b ≤ length b
        → common_start a b ≤ common_start c d
    common o l m = start-longest c d (common_start a b) (omega arith) (omega arith)
        (sym (shorter-take (common_start a b) (order_pairs a b) a c o e)
        ∙ start-taken a b ∙ shorter-take (common_start a b) (order_pairs a b) b d o f)

    differ-there : common_start a b < length a → common_start a b < length b
        → get_or a (common_start a b) 0 ≡ get_or b (common_start a b) 0 → ⊥
    differ-there l m z = let r = start-more a b (common_start a b) (omega arith) l m z in omega arith

    go : Ends a b → order_of a b ≡ order_of c d
    go (inl h) =
        let o = pairs-on a b (common_start a b) refl h.0 h.1 in
        let x = same_byte (common_start a b) (order_pairs a b) a c (omega arith) e in
        let y = same_byte (common_start a b) (order_pairs a b) b d (omega arith) f in
        let n = differ-there h.0 h.1 in
        let m = common (omega arith) (omega arith) (omega arith) in
        (start-apart a b (common_start a b) (omega arith) h.0 h.1 n).1
        ∙ rw (x, y) (sym (start-apart c d (common_start a b) m (omega arith) (omega arith) (λ z. n (x ∙ z ∙ sym y))).1)
    go (inr s) =
        let m = start-most a b in
        let o = pairs-spent a b (common_start a b) refl s in
        (start-spent a b (common_start a b) (omega arith) s).1
        ∙ rw (p, q) (sym (start-spent c d (common_start a b) (common (omega arith) m.0 m.1) (omega arith)).1)

-- and so it is of whether they are the same
pub same-unread : (a b c d : List ℕ) → length a ≡ length c → length b ≡ length d
    → take (same_pairs a b) a ≡ take (same_pairs a b) c → take (same_pairs a b) b ≡ take (same_pairs a b) d
    → same_text a b ≡ same_text c d
same-unread a b c d p q e f = go (eqb (length a) (length b)) refl
  where
    go : (t : Bool) → eqb (length a) (length b) ≡ t → same_text a b ≡ same_text c d
    go true h =
        let o = lengths-leave a b (eqb-true (length a) (length b) h) in
        let r = order-unread a b c d p q (rw (← o) e) (rw (← o) f) in
        sym (same-order a b) ∙ ap (λ (z : Ordering). not (differ z)) r ∙ same-order c d
    go false h =
        let n = eqb-false (length a) (length b) h in
        sym (same-lengths a b n) ∙ same-lengths c d (λ z. n (p ∙ z ∙ sym q))
