-- The number of a fault lies in a range, and a frame's faults are 1 to 5.
use mathlib.Core.Path.{◌≡◌, refl, ap}
use mathlib.Core.Bool.{Bool, true, false}
use mathlib.Core.List.{List}
use Prim.Native.Nat.{ℕ, zero, suc, ◌≤◌, ◌<◌}
use native.Mathlib.Omega.{arith}
use lib.Dec.{ltb, eqb}
use lib.ListN.{length}
use Rattle.std.proofs.lemmas.Option.{same_Some}
use Rattle.lists.specs.Lists.{pick, either}
use Rattle.utf8.specs.Utf8.{utf8}
use Rattle.frame.specs.Sheet.{sheet_of, in_range, end_width, bytes_by, end_of, start_of, name_at, or_else, end_fault, name_fault, sized_fault, frame_fault, fault}
use Rattle.frame.specs.declared.Sheet.{Sheet}
use Rattle.frame.specs.declared.Fault.{Fault}
use Rattle.std.specs.Prelude.{Option, Some, None}

-- equal faults have one number and one place
pub same_fault : {n p m q : ℕ} → Some (fault n p) ≡ Some (fault m q) → (n ≡ m) × (p ≡ q)
same_fault e =
    let z = same_Some _ _ e in (ap (λ (u : Fault). u.number) z, ap (λ (u : Fault). u.place) z)

-- if it is a fault, its number is one from low to high
abbrev pub NumberedFault : ℕ → ℕ → Option Fault → Type 0
NumberedFault low high x = (n p : ℕ) → x ≡ Some (fault n p) → (low ≤ n) × (n ≤ high)

module _ {low high : ℕ} where
  pub none-numbered : NumberedFault low high None
  none-numbered n p e = let z : ◌≡◌ {A = ℕ} 0 1 = cc in absurd (omega arith)

  pub at-numbered : (m q : ℕ) → low ≤ m → m ≤ high → NumberedFault low high (Some (fault m q))
  at-numbered m q h g n p e = let z = (same_fault e).0 in (omega arith, omega arith)

  pub pick-numbered : (t : Bool) (x y : Option Fault) → NumberedFault low high x → NumberedFault low high y
      → NumberedFault low high (pick t x y)
  pick-numbered true x y a b = a
  pick-numbered false x y a b = b

  pub or-numbered : (x y : Option Fault) → NumberedFault low high x → NumberedFault low high y
      → NumberedFault low high (or_else x y)
  or-numbered None y a b = b
  or-numbered (Some u) y a b = a

  -- what lies in a range lies in a wider one
  pub wider : (x : Option Fault) (a b : ℕ) → a ≤ low → high ≤ b → NumberedFault low high x → NumberedFault a b x
  wider x a b h g r n p e = let z = r n p e in (omega (arith, z.0), omega (arith, z.1))

  -- of two faults in turn: a number above the first one's range is the second one's, and the first is none
  pub past_first : (x y : Option Fault) {n p : ℕ} → NumberedFault low high x → high < n → or_else x y ≡ Some (fault n p)
      → (x ≡ None) × (y ≡ Some (fault n p))
  past_first None y r h e = (refl, e)
  past_first (Some u) y {n} {p} r h e = absurd
      (let z = (same_fault e).0 in omega (arith, (r u.number u.place refl).1))

  -- and a number below the second one's range is the first one's
  pub before-second : (x y : Option Fault) {n p : ℕ} → NumberedFault low high y → n < low → or_else x y ≡ Some (fault n p)
      → x ≡ Some (fault n p)
  before-second None y {n} {p} r h e = absurd (omega (arith, (r n p e).0))
  before-second (Some u) y r h e = e

module _ (s : List ℕ) (f : Sheet) where
  ends-numbered : (k n : ℕ) → NumberedFault 1 5 (end_fault s f k n)
  unfolding end_fault
  ends-numbered k zero = pick-numbered (ltb (start_of s f k) f.text) (Some (fault 4 k)) None
      (at-numbered 4 k (omega arith) (omega arith)) none-numbered
  ends-numbered k (suc n) = pick-numbered
      (either (ltb (end_of s f k) (start_of s f k)) (ltb f.text (end_of s f k))) (Some (fault 4 k)) (end_fault s f (suc k) n)
      (at-numbered 4 k (omega arith) (omega arith)) (ends-numbered (suc k) n)

  names-numbered : (k n : ℕ) → NumberedFault 1 5 (name_fault s f k n)
  unfolding name_fault
  names-numbered k zero = none-numbered
  names-numbered k (suc n) = pick-numbered (utf8 (name_at s f k)) (name_fault s f (suc k) n) (Some (fault 5 k))
      (names-numbered (suc k) n) (at-numbered 5 k (omega arith) (omega arith))

  sized-numbered : NumberedFault 1 5 (sized_fault s f)
  unfolding sized_fault
  sized-numbered =
      let named = or-numbered (end_fault s f 0 f.names) (name_fault s f 0 f.names) (ends-numbered 0 f.names)
      (names-numbered 0 f.names) in
      pick-numbered (in_range f) _ (Some (fault 2 0))
      (pick-numbered (eqb (length s) (bytes_by (end_width s) f)) _ (Some (fault 3 0)) named (at-numbered 3 0 (omega arith) (omega arith)))
      (at-numbered 2 0 (omega arith) (omega arith))

-- Every fault of a frame has a number from 1 to 5
pub frame-numbered : (s : List ℕ) → NumberedFault 1 5 (frame_fault s)
unfolding frame_fault
frame-numbered s = pick-numbered (ltb (length s) 12) (Some (fault 1 0)) _ (at-numbered 1 0 (omega arith) (omega arith))
    (sized-numbered s (sheet_of s))
