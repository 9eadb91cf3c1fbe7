-- One turn of each of the frame's two loops, and each way that it ends, with the premises as a loop's record has them;
-- and that what is cut out of the text is the name.
use mathlib.Core.Path.{◌≡◌, ◌∙◌, refl, sym, ap}
use mathlib.Core.List.{List}
use mathlib.Core.Logic.{◌⊎◌, inl, inr}
use mathlib.Core.Bool.{Bool, true, false}
use Prim.Native.Nat.{ℕ, zero, suc, ◌+◌, ◌-◌, ◌≤◌, ◌<◌}
use native.Mathlib.Omega.{arith}
use native.Mathlib.Numerals.{add-one}
use borrow.Author.Tests.{lt-ltb, le-ltb}
use lib.ListN.{take, drop}
use Rattle.lists.proofs.Laws.{left-more, left-none}
use Rattle.utf8.specs.Utf8.{utf8}
use Rattle.frame.specs.Sheet.{end_width, text_behind, end_of, start_of, part_of, name_at, end_fault, name_fault, fault}
use Rattle.frame.specs.declared.Sheet.{Sheet}
use Rattle.frame.specs.declared.Fault.{Fault}
use Rattle.std.specs.Prelude.{Option, Some, None}

pub start-next : (s : List ℕ) (f : Sheet) (k e : ℕ) → e ≡ end_of s f k → e ≡ start_of s f (k + 1)
unfolding start_of
start-next s f k e h = rw (add-one) h

pub start-after : (s : List ℕ) (f : Sheet) (k e : ℕ) → (k ≡ 0 → ⊥) → e ≡ end_of s f (k - 1) → e ≡ start_of s f k
unfolding start_of
start-after s f zero e h p = absurd (h refl)
start-after s f (suc k) e h p = p ∙ ap (end_of s f) (omega arith)

pub start_first : (s : List ℕ) (f : Sheet) (k : ℕ) → k ≡ 0 → 0 ≡ start_of s f k
unfolding start_of
start_first s f zero h = refl
start_first s f (suc k) h = absurd (omega arith)

-- name k, with its end e, where the name before it ended at `last`
module _ (s : List ℕ) (f : Sheet) (k e last : ℕ) (x : Option Fault) (ee : e ≡ end_of s f k) (l : last ≡ start_of s f k)
    (p : end_fault s f k (f.names - k) ≡ x) (h : k < f.names) where
  pub end-bad : (e < last) ⊎ ((last ≤ e) × (f.text < e)) → Some (fault 4 k) ≡ x
  unfolding end_fault
  end-bad (inl q) = simp (left-more f.names k h, ← ee, ← l, lt-ltb _ _ q) at p
  end-bad (inr q) = simp (left-more f.names k h, ← ee, ← l, le-ltb _ _ q.0, lt-ltb _ _ q.1) at p

  pub end-turn : last ≤ e → e ≤ f.text → end_fault s f (k + 1) (f.names - (k + 1)) ≡ x
  unfolding end_fault
  end-turn q r = rw (add-one k) (simp (left-more f.names k h, ← ee, ← l, le-ltb _ _ q, le-ltb _ _ r, add-one) at p)

-- after the last name
module _ (s : List ℕ) (f : Sheet) (k last : ℕ) (x : Option Fault) (l : last ≡ start_of s f k)
    (p : end_fault s f k (f.names - k) ≡ x) (h : f.names ≤ k) (g : k ≤ f.names) where
  pub end_short : last < f.text → Some (fault 4 f.names) ≡ x
  unfolding end_fault
  end_short q = ap (λ (n : ℕ). Some (fault 4 n)) (omega arith) ∙ (simp (left-none f.names k h, ← l, lt-ltb _ _ q) at p)

  pub end_none : f.text ≤ last → None ≡ x
  unfolding end_fault
  end_none q = simp (left-none f.names k h, ← l, le-ltb _ _ q) at p

-- name k, which is or is not UTF-8
module _ (s : List ℕ) (f : Sheet) (k : ℕ) (t : List ℕ) (u : Bool) (x : Option Fault) (b : t ≡ name_at s f k) (c : u ≡ utf8 t)
    (p : name_fault s f k (f.names - k) ≡ x) (h : k < f.names) where
  is : utf8 (name_at s f k) ≡ u
  is = sym (c ∙ ap utf8 b)

  pub name-bad : u ≡ false → Some (fault 5 k) ≡ x
  unfolding name_fault
  name-bad q = simp (left-more f.names k h, is, q) at p

  pub name-turn : u ≡ true → name_fault s f (k + 1) (f.names - (k + 1)) ≡ x
  unfolding name_fault
  name-turn q = rw (add-one k) (simp (left-more f.names k h, is, q, add-one) at p)

pub name-none : (s : List ℕ) (f : Sheet) (k : ℕ) (x : Option Fault) → name_fault s f k (f.names - k) ≡ x → f.names ≤ k
    → None ≡ x
unfolding name_fault
name-none s f k x p h = simp (left-none f.names k h) at p

-- what the code cuts out of a text that begins at t is the name
pub cut-is : (s : List ℕ) (f : Sheet) (k t from to : ℕ) → t ≡ text_behind (end_width s) f → from ≡ start_of s f k
    → to ≡ end_of s f k → take ((t + to) - (t + from)) (drop (t + from) s) ≡ name_at s f k
unfolding part_of
cut-is s f k t from to h a b =
    let e : (t + to) - (t + from) ≡ to - from = omega arith in
    rw (e, h, a, b)

pub first-is : (s : List ℕ) (f : Sheet) (k t to : ℕ) → t ≡ text_behind (end_width s) f → k ≡ 0 → to ≡ end_of s f k
    → take ((t + to) - t) (drop t s) ≡ name_at s f k
unfolding start_of
first-is s f zero t to h z b =
    let e : t + 0 ≡ t = omega arith in
    let r : take ((t + to) - (t + 0)) (drop (t + 0) s) ≡ name_at s f 0 = cut-is s f 0 t 0 to h refl b in
    rw e at r
first-is s f (suc k) t to h z b = absurd (omega arith)

-- the part that the code cuts out is the text's
pub part-is : (s : List ℕ) (f : Sheet) (t from to : ℕ) → t ≡ text_behind (end_width s) f → take ((t + to) - (t + from))
    (drop (t + from) s) ≡ part_of s f from to
unfolding part_of
part-is s f t from to h =
    let e : (t + to) - (t + from) ≡ to - from = omega arith in
    rw (e, h)
