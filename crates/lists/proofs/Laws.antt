-- Laws of lists by position: one turn of a loop over a list, the entries of a table, and what a function says of the
-- numbers of a range.
use mathlib.Core.Path.{◌≡◌, ◌∙◌, refl, sym, ap, subst}
use mathlib.Core.Bool.{Bool, true, false}
use mathlib.Core.Logic.{⊎_elim, ◌⊎◌, inl, inr}
use mathlib.Core.List.Memᴰ
use mathlib.Core.List.{List, [], ◌∷◌, ◌++◌, append_assoc, append-nil, Memᴰ}
use Prim.Native.Nat.{ℕ, zero, suc, ◌+◌, ◌-◌, ◌≤◌, ◌<◌}
use native.Mathlib.Nat.{zero-add, add-zero, suc-add, add-suc}
use native.Mathlib.Numerals.{add-one}
use native.Mathlib.Omega.{arith}
use lib.ListN.{length, get_or, drop, drop_of_length-le, length-append}
use lib.Seq.{drop-cons}
use Rattle.lists.specs.Lists.{pick, table, each, over}
use Rattle.lists.proofs.Tests.{below}

-- at a position below the length, the rest of a list is the element and the rest after it
pub rest_more : (l : List ℕ) (i : ℕ) → i < length l → drop i l ≡ get_or l i 0 ∷ drop (i + 1) l
rest_more l i h = rw (add-one, drop-cons l i 0)

-- from the length on, there is no rest
pub rest-none : (l : List ℕ) (i : ℕ) → length l ≤ i → drop i l ≡ []
rest-none l i h = drop_of_length-le l h

-- what is left of n at k: one more than is left after k, or nothing
pub left-more : (n k : ℕ) → k < n → n - k ≡ suc (n - (k + 1))
left-more n k h = omega arith

pub left-none : (n k : ℕ) → n ≤ k → n - k ≡ 0
left-none n k h = omega arith

pub table-length : {A : Type 0} (g : ℕ → A) (i n : ℕ) → length (table g i n) ≡ n
unfolding table
table-length g i zero = refl
table-length g i (suc n) = ap suc (table-length g (suc i) n)

table-from : {A : Type 0} (g : ℕ → A) (i n k : ℕ) (d : A) → k < n → get_or (table g i n) k d ≡ g (i + k)
unfolding table
table-from g i zero k d h = absurd (omega arith)
table-from g i (suc n) zero d h = ap g (omega arith)
table-from g i (suc n) (suc k) d h = table-from g (suc i) n k d (omega arith) ∙ ap g (omega arith)

-- entry k of a table from 0 on
pub table_at : {A : Type 0} (g : ℕ → A) (n k : ℕ) (d : A) → k < n → get_or (table g 0 n) k d ≡ g k
table_at g n k d h = table-from g 0 n k d h ∙ ap g (omega arith)

-- ---- what f says of m numbers from a on, and of the numbers from a up to b
abbrev pub each_from : {A : Type 0} → (ℕ → List A) → ℕ → ℕ → List A
each_from f a m = each f (table (λ k. k) a m)

module _ {A : Type 0} (f : ℕ → List A) where
  run-add : (m a k : ℕ) → each_from f a (m + k) ≡ each_from f a m ++ each_from f (a + m) k
  unfolding each table
  run-add zero a k = rw (zero-add, add-zero)
  run-add (suc m) a k = rw (suc-add, run-add m (suc a) k, suc-add a m, ← add-suc a m, append_assoc)

  pub over-more : (a b : ℕ) → a < b → over f a b ≡ f a ++ over f (a + 1) b
  unfolding each table
  over-more a b h = rw (left-more b a h, add-one a)

  pub over_none : (a b : ℕ) → b ≤ a → over f a b ≡ []
  unfolding each table
  over_none a b h = rw (left-none b a h)

  pub over-one : (a : ℕ) → over f a (suc a) ≡ f a
  unfolding each table
  over-one a =
      let e : suc a - a ≡ 1 = omega arith in
      rw (e, append-nil)

  pub over-join : (a b c : ℕ) → a ≤ b → b ≤ c → over f a b ++ over f b c ≡ over f a c
  over-join a b c p q =
      let e : c - a ≡ (b - a) + (c - b) = omega arith in
      let g : a + (b - a) ≡ b = omega arith in
      rw (e, run-add, g)

  -- where f says nothing of any number, it says nothing of all
  run-quiet : (m a : ℕ) → ((j : ℕ) → a ≤ j → j < a + m → f j ≡ []) → each_from f a m ≡ []
  unfolding each table
  run-quiet zero a h = refl
  run-quiet (suc m) a h = rw (h a (omega arith) (omega arith))
      (run-quiet m (suc a) (λ j p q. h j (omega arith) (omega arith)))

  pub over-quiet : (a b : ℕ) → ((j : ℕ) → a ≤ j → j < b → f j ≡ []) → over f a b ≡ []
  over-quiet a b h = run-quiet (b - a) a (λ j p q. h j p (omega arith))

  -- at most one thing of each number
  run-most : (m a : ℕ) → ((j : ℕ) → length (f j) ≤ 1) → length (each_from f a m) ≤ m
  unfolding each table
  run-most zero a h = omega arith
  run-most (suc m) a h = omega (arith, length-append (f a) (each_from f (suc a) m), h a, run-most m (suc a) h)

  pub over-most : (a b : ℕ) → ((j : ℕ) → length (f j) ≤ 1) → length (over f a b) ≤ b - a
  over-most a b h = run-most (b - a) a h

  -- what stands there was said of one of the numbers
  run-mem : {x : A} (m a : ℕ) → Memᴰ x (each_from f a m) → (j : ℕ) × (a ≤ j) × (j < a + m) × Memᴰ x (f j)
  unfolding each table
  run-mem zero a h = absurd (Memᴰ.not-nil h)
  run-mem {x} (suc m) a h = ⊎_elim
      (λ p. (a, omega arith, omega arith, p))
      (λ p. let r : (j : ℕ) × (suc a ≤ j) × (j < suc a + m) × Memᴰ x (f j) = run-mem {x = x} m (suc a) p in
      (r.0, omega arith, omega arith, r.3))
      (Memᴰ.append_cases (f a) h)

  pub over-mem : {x : A} (a b : ℕ) → Memᴰ x (over f a b) → (j : ℕ) × (a ≤ j) × (j < b) × Memᴰ x (f j)
  over-mem {x} a b h =
      let r : (j : ℕ) × (a ≤ j) × (j < a + (b - a)) × Memᴰ x (f j) = run-mem (b - a) a h in
      (r.0, r.1, omega arith, r.3)

  mem-run : {x : A} (m a j : ℕ) → a ≤ j → j < a + m → Memᴰ x (f j) → Memᴰ x (each_from f a m)
  unfolding each table
  mem-run zero a j p q h = absurd (omega arith)
  mem-run {x} (suc m) a j p q h = ⊎_elim
      (λ b. Memᴰ.append_right (f a) (mem-run m (suc a) j b (omega arith) h))
      (λ b. let e : j ≡ a = omega arith in Memᴰ.append_left (each_from f (suc a) m)
      (subst (λ (z : ℕ). Memᴰ x (f z)) e h))
      (below a j)

  pub mem-over : {x : A} (a b j : ℕ) → a ≤ j → j < b → Memᴰ x (f j) → Memᴰ x (over f a b)
  mem-over a b j p q h = mem-run (b - a) a j p (omega arith) h

-- two functions over one range say together what they say one by one
run-lengths : {A : Type 0} (f g : ℕ → List A) (m a : ℕ) → length (each_from f a m) + length (each_from g a m) ≡ length
    (each_from (λ j. f j ++ g j) a m)
unfolding each table
run-lengths f g zero a = refl
run-lengths f g (suc m) a = omega (
  arith,
  length-append (f a) (each_from f (suc a) m),
  length-append (g a) (each_from g (suc a) m),
  length-append (f a ++ g a) (each_from (λ j. f j ++ g j) (suc a) m),
  length-append (f a) (g a),
  run-lengths f g m (suc a),
)

pub over-lengths : {A : Type 0} (f g : ℕ → List A) (a b : ℕ) → length (over f a b) + length (over g a b) ≡ length
    (over (λ j. f j ++ g j) a b)
over-lengths f g a b = run-lengths f g (b - a) a

-- ---- what stands in a list that a test chooses
pub pick-mem : {A : Type 0} {x : A} (b : Bool) (l m : List A) → Memᴰ x (pick b l m)
    → ((b ≡ true) × Memᴰ x l) ⊎ ((b ≡ false) × Memᴰ x m)
pick-mem true l m h = inl (refl, h)
pick-mem false l m h = inr (refl, h)

pub test-mem : {A : Type 0} {x : A} (b : Bool) (l : List A) → Memᴰ x (pick b l []) → (b ≡ true) × Memᴰ x l
test-mem true l h = (refl, h)
test-mem false l h = absurd (Memᴰ.not-nil h)

pub mem-then : {A : Type 0} {x : A} (b : Bool) (l m : List A) → b ≡ true → Memᴰ x l → Memᴰ x (pick b l m)
mem-then {A} {x} b l m e h = subst (λ (z : Bool). Memᴰ x (pick z l m)) (sym e) h

pub mem-else : {A : Type 0} {x : A} (b : Bool) (l m : List A) → b ≡ false → Memᴰ x m → Memᴰ x (pick b l m)
mem-else {A} {x} b l m e h = subst (λ (z : Bool). Memᴰ x (pick z l m)) (sym e) h

-- ---- what is left of a table at its entry k
module _ {A : Type 0} (g : ℕ → A) (i n k : ℕ) where
  pub table_more : k < n → table g (i + k) (n - k) ≡ g (i + k) ∷ table g (i + (k + 1)) (n - (k + 1))
  unfolding table
  table_more h =
      let e : i + (k + 1) ≡ suc (i + k) = omega arith in
      rw (left-more n k h, e)

  pub table_none : n ≤ k → table g (i + k) (n - k) ≡ []
  unfolding table
  table_none h = rw (left-none n k h)

pub table-start : {A : Type 0} (g : ℕ → A) (i n : ℕ) → table g (i + 0) (n - 0) ≡ table g i n
table-start g i n =
    let e : i + 0 ≡ i = omega arith in
    let f : n - 0 ≡ n = omega arith in
    rw (e, f)
