-- `utf8` decides the grammar of RFC 3629.
use mathlib.Core.Path.{◌≡◌, ◌∙◌, sym, refl}
use mathlib.Core.List.{List, [], ◌∷◌}
use mathlib.Core.Bool.{true}
use Prim.Native.Nat.{ℕ, zero, suc, ◌-◌, ◌≤◌, ◌<◌}
use native.Mathlib.Omega.{arith}
use native.Mathlib.Decide.{dec_le}
use lib.ListN.{length}
use borrow.Author.Tests.{ne_eqb, lt-ltb, le-ltb}
use Rattle.lists.proofs.Tests.{never}
use Rattle.utf8.specs.Utf8.{fresh, stuck, tails, lead_of, step_of, goes_on, utf8}
use Rattle.utf8.specs.Grammar.{In, Tail, Octets, no_char, char_1, char_2, char_3a, char_3b, char_3c, char_3d, char_4a, char_4b, char_4c}
use Rattle.utf8.proofs.Rows.{row-1, row-2, row-3a, row-3b, row-3c, row-3d, row-4a, row-4b, row-4c, row_low, row-high}

-- ---- a text of the grammar is accepted
step-tail : (n lo hi b : ℕ) → In lo hi b → step_of (tails (suc n) lo hi) b ≡ tails n 0x80 0xbf
unfolding step_of
step-tail n lo hi b h =
    let e : suc n - 1 ≡ n = omega arith in
    simp (ne_eqb (suc n) 0 (omega arith), le-ltb _ _ h.low, le-ltb _ _ h.high, e)

step-lead : (a : ℕ) → step_of fresh a ≡ lead_of a
unfolding step_of
step-lead a = refl

module _ (s : List ℕ) (p : goes_on fresh s ≡ true) (a lo hi : ℕ) where
  take-1 : lead_of a ≡ fresh → goes_on fresh (a ∷ s) ≡ true
  unfolding goes_on
  take-1 e = rw (step-lead a ∙ e) p

  take-2 : (b : ℕ) → lead_of a ≡ tails 1 lo hi → In lo hi b → goes_on fresh (a ∷ b ∷ s) ≡ true
  unfolding goes_on
  take-2 b e g = rw (step-lead a ∙ e, step-tail 0 lo hi b g) p

  take-3 : (b c : ℕ) → lead_of a ≡ tails 2 lo hi → In lo hi b → Tail c → goes_on fresh (a ∷ b ∷ c ∷ s) ≡ true
  unfolding goes_on
  take-3 b c e g h = rw (step-lead a ∙ e, step-tail 1 lo hi b g, step-tail 0 0x80 0xbf c h) p

  take-4 : (b c d : ℕ) → lead_of a ≡ tails 3 lo hi → In lo hi b → Tail c → Tail d → goes_on fresh (a ∷ b ∷ c ∷ d ∷ s)
      ≡ true
  unfolding goes_on
  take-4 b c d e g h k = rw (
    step-lead a ∙ e,
    step-tail 2 lo hi b g,
    step-tail 1 0x80 0xbf c h,
    step-tail 0 0x80 0xbf
        d k,
  ) p

end-of-text : goes_on fresh [] ≡ true
unfolding goes_on
end-of-text = refl

pub accepted : {s : List ℕ} → Octets s → goes_on fresh s ≡ true
accepted no_char = end-of-text
accepted (char_1 {a = x} h r) = take-1 _ (accepted r) x 0 0 (row-1 x h)
accepted (char_2 {a = x} h b r) = take-2 _ (accepted r) x _ _ _ (row-2 x h) b
accepted (char_3a {a = x} h b c r) = take-3 _ (accepted r) x _ _ _ _ (row-3a x h) b c
accepted (char_3b {a = x} h b c r) = take-3 _ (accepted r) x _ _ _ _ (row-3b x h) b c
accepted (char_3c {a = x} h b c r) = take-3 _ (accepted r) x _ _ _ _ (row-3c x h) b c
accepted (char_3d {a = x} h b c r) = take-3 _ (accepted r) x _ _ _ _ (row-3d x h) b c
accepted (char_4a {a = x} h b c d r) = take-4 _ (accepted r) x _ _ _ _ _ (row-4a x h) b c d
accepted (char_4b {a = x} h b c d r) = take-4 _ (accepted r) x _ _ _ _ _ (row-4b x h) b c d
accepted (char_4c {a = x} h b c d r) = take-4 _ (accepted r) x _ _ _ _ _ (row-4c x h) b c d

-- ---- a text that is accepted is of the grammar
-- the text goes on with a byte from lo to hi, and then as n tails ask
data Goes (n lo hi : ℕ) : List ℕ → Type 0 where
  on : {b : ℕ} {r : List ℕ} → In lo hi b → goes_on (tails n 0x80 0xbf) r ≡ true → Goes n lo hi (b ∷ r)

stuck-stays : (b : ℕ) → step_of stuck b ≡ stuck
unfolding step_of
stuck-stays zero = refl
stuck-stays (suc b) = simp (le-ltb (suc b) 1 (omega arith), lt-ltb 0 (suc b) (omega arith))

stuck-ends : (s : List ℕ) → goes_on stuck s ≡ true → ⊥
unfolding goes_on
stuck-ends [] e = never e
stuck-ends (b ∷ s) e = stuck-ends s (rw (stuck-stays b) at e)

below : (n lo hi b : ℕ) → b < lo → step_of (tails (suc n) lo hi) b ≡ stuck
unfolding step_of
below n lo hi b h = simp (ne_eqb (suc n) 0 (omega arith), lt-ltb _ _ h)

above : (n lo hi b : ℕ) → lo ≤ b → hi < b → step_of (tails (suc n) lo hi) b ≡ stuck
unfolding step_of
above n lo hi b g h = simp (ne_eqb (suc n) 0 (omega arith), le-ltb _ _ g, lt-ltb _ _ h)

goes : (n lo hi : ℕ) (s : List ℕ) → goes_on (tails (suc n) lo hi) s ≡ true → Goes n lo hi s
unfolding goes_on
goes n lo hi [] e = never (sym (ne_eqb (suc n) 0 (omega arith)) ∙ e)
goes n lo hi (b ∷ s) e = low (dec_le lo b) (dec_le b hi)
  where
    low : Dec (lo ≤ b) → Dec (b ≤ hi) → Goes n lo hi (b ∷ s)
    low (yes g) (yes h) = on (record { low = g; high = h })
        (rw (step-tail n lo hi b (record { low = g; high = h })) at e)
    low (yes g) (no h) = absurd (stuck-ends s (rw (above n lo hi b g (omega arith)) at e))
    low (no g) d = absurd (stuck-ends s (rw (below n lo hi b (omega arith)) at e))

one_more_lem : (P : List ℕ → Type 0) (n lo hi : ℕ) → ((b : ℕ) (r : List ℕ) → In lo hi b → goes_on (tails n 0x80 0xbf) r
    ≡ true → P (b ∷ r))
    → (s : List ℕ) → goes_on (tails (suc n) lo hi) s ≡ true → P s
one_more_lem P n lo hi k s e = take s (goes n lo hi s e)
  where
    take : (s : List ℕ) → Goes n lo hi s → P s
    take _ (on {b = b} {r = r} p q) = k b r p q

-- the first byte's row, and the rest of the text by the hypothesis
module _ (n : ℕ) (ih : (r : List ℕ) → length r ≤ n → goes_on fresh r ≡ true → Octets r) (a : ℕ) (s : List ℕ)
    (l : length s ≤ n) (e : goes_on (lead_of a) s ≡ true) where
  by-1 : In 0x00 0x7f a → Octets (a ∷ s)
  by-1 h = char_1 h (ih s l (rw (row-1 a h) at e))

  by_2 : In 0xc2 0xdf a → Octets (a ∷ s)
  by_2 h =
      one_more_lem (λ (t : List ℕ). length t ≤ n → Octets (a ∷ t)) 0 0x80 0xbf
      (λ b r p q m. char_2 h p (ih r (omega arith) q)) s
      (rw (row-2 a h) at e) l

  by-3 : (lo hi : ℕ) → lead_of a ≡ tails 2 lo hi → ((b c : ℕ) (r : List ℕ) → In lo hi b → Tail c → Octets r → Octets
      (a ∷ b ∷ c ∷ r)) → Octets (a ∷ s)
  by-3 lo hi h make =
      one_more_lem (λ (t : List ℕ). length t ≤ n → Octets (a ∷ t)) 1 lo hi
      (λ b r p q m. one_more_lem (λ (t : List ℕ). length t ≤ n → Octets (a ∷ b ∷ t)) 0 0x80 0xbf
      (λ c u v w k. make b c u p v (ih u (omega arith) w)) r q (omega arith))
      s (rw h at e) l

  by_4 : (lo hi : ℕ) → lead_of a ≡ tails 3 lo hi → ((b c d : ℕ) (r : List ℕ) → In lo hi b → Tail c → Tail d → Octets r
      → Octets (a ∷ b ∷ c ∷ d ∷ r)) → Octets (a ∷ s)
  by_4 lo hi h make =
      one_more_lem (λ (t : List ℕ). length t ≤ n → Octets (a ∷ t)) 2 lo hi
      (λ b r p q m. one_more_lem (λ (t : List ℕ). length t ≤ n → Octets (a ∷ b ∷ t)) 1 0x80 0xbf
      (λ c u v w k. one_more_lem (λ (t : List ℕ). length t ≤ n → Octets (a ∷ b ∷ c ∷ t)) 0 0x80 0xbf
      (λ d x y z o. make b c d x p v y (ih x (omega arith) z)) u w (omega arith)) r q (omega arith))
      s (rw h at e) l

  by-none : lead_of a ≡ stuck → Octets (a ∷ s)
  by-none h = absurd (stuck-ends s (rw h at e))

split : (a b : ℕ) (P : Type 0) → (a ≤ b → P) → (b < a → P) → P
split a b P f g = go (dec_le a b)
  where
    go : Dec (a ≤ b) → P
    go (yes h) = f h
    go (no h) = g (omega arith)

unfold-lead : (a : ℕ) (s : List ℕ) → goes_on fresh (a ∷ s) ≡ true → goes_on (lead_of a) s ≡ true
unfolding goes_on step_of
unfold-lead a s e = e

pick-row : (n : ℕ) → ((r : List ℕ) → length r ≤ n → goes_on fresh r ≡ true → Octets r) → (a : ℕ) (s : List ℕ) → length
    s ≤ n → goes_on (lead_of a) s ≡ true → Octets (a ∷ s)
pick-row n ih a s l e =
    split a 0x7f _ (λ h. by-1 n ih a s l e (record { low = omega arith; high = h })) λ g₁.
    split a 0xc1 _ (λ h. by-none n ih a s l e (row_low a g₁ h)) λ g₂.
    split a 0xdf _ (λ h. by_2 n ih a s l e (record { low = g₂; high = h })) λ g₃.
    split a 0xe0 _ (λ h. let i : In 0xe0 0xe0 a = record { low = g₃; high = h } in by-3 n ih a s l e _ _ (row-3a a i)
    (λ b c r p q o. char_3a i p q o)) λ g₄.
    split a 0xec _ (λ h. let i : In 0xe1 0xec a = record { low = g₄; high = h } in by-3 n ih a s l e _ _ (row-3b a i)
    (λ b c r p q o. char_3b i p q o)) λ g₅.
    split a 0xed _ (λ h. let i : In 0xed 0xed a = record { low = g₅; high = h } in by-3 n ih a s l e _ _ (row-3c a i)
    (λ b c r p q o. char_3c i p q o)) λ g₆.
    split a 0xef _ (λ h. let i : In 0xee 0xef a = record { low = g₆; high = h } in by-3 n ih a s l e _ _ (row-3d a i)
    (λ b c r p q o. char_3d i p q o)) λ g₇.
    split a 0xf0 _ (λ h. let i : In 0xf0 0xf0 a = record { low = g₇; high = h } in by_4 n ih a s l e _ _ (row-4a a i)
    (λ b c d r p q u o. char_4a i p q u o)) λ g₈.
    split a 0xf3 _ (λ h. let i : In 0xf1 0xf3 a = record { low = g₈; high = h } in by_4 n ih a s l e _ _ (row-4b a i)
    (λ b c d r p q u o. char_4b i p q u o)) λ g₉.
    split a 0xf4 _ (λ h. let i : In 0xf4 0xf4 a = record { low = g₉; high = h } in by_4 n ih a s l e _ _ (row-4c a i)
    (λ b c d r p q u o. char_4c i p q u o)) λ g.
    by-none n ih a s l e (row-high a g)

grammar : (n : ℕ) (s : List ℕ) → length s ≤ n → goes_on fresh s ≡ true → Octets s
grammar zero [] l e = no_char
grammar zero (a ∷ s) l e = absurd (omega arith)
grammar (suc n) [] l e = no_char
grammar (suc n) (a ∷ s) l e = pick-row n (λ r m q. grammar n r m q) a s (omega arith) (unfold-lead a s e)

pub agree : (s : List ℕ) → (utf8 s ≡ true → Octets s) × (Octets s → utf8 s ≡ true)
unfolding utf8
agree s = (λ e. grammar (length s) s (omega arith) e, λ o. accepted o)
