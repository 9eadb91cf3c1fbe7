-- Each answer of the frame, from the tests that lead to it. The premises are the facts as a function's record has them.
use mathlib.Core.Path.{◌≡◌, ◌∙◌, sym}
use mathlib.Core.List.{List}
use mathlib.Core.Bool.{Bool, true, false, not}
use Prim.Native.Nat.{ℕ, ◌%◌, ◌≤◌, ◌<◌}
use lib.ListN.{length}
use borrow.Author.Tests.{lt-ltb, le-ltb, eq-eqb, ne_eqb, not-true, not-false}
use Rattle.endian.specs.Endian.{u32_at}
use Rattle.frame.specs.Sheet.{top_bit, end_width, sheet_of, in_range, bytes_by, end_fault, name_fault, sized_fault, frame_fault, fault}
use Rattle.frame.specs.Inner.{Sized, frame_of}
use Rattle.frame.specs.declared.Sheet.{Sheet}
use Rattle.frame.specs.declared.Fault.{Fault}
use Rattle.std.specs.Prelude.{Option, Some, None, Ok, Err, MatchOption}

module _ (s : List ℕ) (f : Sheet) where
  pub answer-2 : (b : Bool) → b ≡ in_range f → not b ≡ true → Some (fault 2 0) ≡ sized_fault s f
  unfolding sized_fault
  answer-2 b e t = simp (← e, not-true b t)

  pub answer-3 : (b : Bool) (n : ℕ) → b ≡ in_range f → not b ≡ false → n ≡ bytes_by (end_width s) f → (length s ≡ n → ⊥) → Some (fault 3 0)
      ≡ sized_fault s f
  unfolding sized_fault
  answer-3 b n e t g h = simp (← e, not-false b t, ← g, ne_eqb _ _ h)

  pub sized : (b : Bool) (n : ℕ) → b ≡ in_range f → not b ≡ false → n ≡ bytes_by (end_width s) f → length s ≡ n → Sized s f
  sized b n e t g h = record { ranges = sym e ∙ not-false b t; size = h ∙ g }

module _ (s : List ℕ) (f : Sheet) (z : Sized s f) where
  -- 4, or 5 where the ends have no fault
  pub or-fault : (q r : Option Fault) {P : Type 0} → q ≡ end_fault s f 0 f.names → (P → r ≡ name_fault s f 0 f.names)
      → MatchOption q P (λ k. r ≡ Some k) → r ≡ sized_fault s f
  unfolding sized_fault
  or-fault None r e g h = simp (z.ranges, eq-eqb _ _ z.size, ← e) (g h)
  or-fault (Some k) r e g h = simp (z.ranges, eq-eqb _ _ z.size, ← e) h

pub answer-1 : (s : List ℕ) → length s < 12 → Err (fault 1 0) ≡ frame_of s
unfolding frame_of frame_fault
answer-1 s h = simp (lt-ltb _ _ h)

-- twelve bytes or more, and what is wrong with a sheet of the sizes read from them
module _ (s : List ℕ) (t m b : ℕ) (q : Option Fault) (h : 12 ≤ length s) (e : t ≡ u32_at s 0 % top_bit) (g : m ≡ u32_at s 4)
    (i : b ≡ u32_at s 8) (p : q ≡ sized_fault s (record { tokens = t; names = m; text = b })) where
  pub answer-fault : (k : Fault) → q ≡ Some k → Err k ≡ frame_of s
  unfolding frame_of frame_fault sheet_of
  answer-fault k u = let v = sym p ∙ u in simp (le-ltb _ _ h, ← e, ← g, ← i, v)

  pub answer-framed : q ≡ None → Ok (record { tokens = t; names = m; text = b }) ≡ frame_of s
  unfolding frame_of frame_fault sheet_of
  answer-framed u = let v = sym p ∙ u in simp (le-ltb _ _ h, ← e, ← g, ← i, v)
