-- The faults of a sheet's tokens are 6 to 9.
use mathlib.Core.Path.{◌≡◌, refl, ap}
use mathlib.Core.List.{List, [], ◌∷◌}
use Prim.Native.Nat.{ℕ, zero, suc, ◌+◌, ◌≤◌}
use native.Mathlib.Omega.{arith}
use lib.Dec.{leb, ltb}
use lib.ListN.{length}
use Rattle.frame.specs.Limits.{max_depth}
use Rattle.frame.specs.Doc.{Doc, kind_of, value_of}
use Rattle.frame.specs.declared.Fault.{Fault}
use Rattle.frame.proofs.Numbered.{NumberedFault, none-numbered, at-numbered, pick-numbered}
use Rattle.rules.specs.declared.Place.{Place}
use Rattle.rules.specs.Rules.{opens}
use Rattle.grammar.specs.Machine.{Want, want, opened, allowed, judged, after, run, left_over, grammar_fault}
use Rattle.std.specs.Prelude.{Option, Some, None, Result, Ok, Err}
use Rattle.frame.specs.Sheet.{fault}

-- if reading was refused, its number is one from 6 to 9
abbrev NumberedRead : Result ℕ Fault → Type 0
NumberedRead r = (n p : ℕ) → r ≡ Err (fault n p) → (6 ≤ n) × (n ≤ 9)

abbrev number_of : Result ℕ Fault → ℕ
number_of (Ok i) = 0
number_of (Err u) = u.number

next-numbered : (i : ℕ) → NumberedRead (Ok i)
next-numbered i n p e = let z : ◌≡◌ {A = ℕ} 0 1 = cc in absurd (omega arith)

after-numbered : (x : Option Fault) (r : Result ℕ Fault) → NumberedFault 6 9 x → NumberedRead r → NumberedRead (after x r)
after-numbered None r a b = b
after-numbered (Some u) r a b = λ n p e.
    let h : u.number ≡ n = cc in
    let z = a u.number u.place refl in
    (omega (arith, z.0), omega (arith, z.1))

left-numbered : (k : ℕ) (r : Result ℕ Fault) → NumberedRead r → NumberedFault 6 9 (left_over k r)
left-numbered k (Ok i) a = pick-numbered (ltb i k) (Some (fault 9 i)) None (at-numbered 9 i (omega arith) (omega arith))
    none-numbered
left-numbered k (Err u) a = at-numbered u.number u.place (a u.number u.place refl).0 (a u.number u.place refl).1

module _ (d : Doc) where
  judged-numbered : (w : Want) (i : ℕ) → NumberedFault 6 9 (judged d w i)
  unfolding judged
  judged-numbered w i = pick-numbered (allowed d w.place i) _ (Some (fault 6 i))
      (pick-numbered (leb w.depth max_depth) None (Some (fault 7 i)) none-numbered
      (at-numbered 7 i (omega arith) (omega arith)))
      (at-numbered 6 i (omega arith) (omega arith))

  run-numbered : (left : ℕ) (ws : List Want) (i : ℕ) → NumberedRead (run d left ws i)
  unfolding run
  run-numbered zero [] i = next-numbered i
  run-numbered zero (w ∷ ws) i = λ n p e. let h : 8 ≡ n = ap number_of e in (omega arith, omega arith)
  run-numbered (suc left) [] i = next-numbered i
  run-numbered (suc left) (w ∷ ws) i = after-numbered (judged d w i)
      (run d left (opened (w.depth + 1) (opens (kind_of d i) (value_of d i)) ws) (suc i)) (judged-numbered w i)
      (run-numbered left (opened (w.depth + 1) (opens (kind_of d i) (value_of d i)) ws) (suc i))

-- Every fault of a sheet's tokens has a number from 6 to 9
pub grammar-numbered : (p : Place) (d : Doc) → NumberedFault 6 9 (grammar_fault p d)
unfolding grammar_fault
grammar-numbered p d = left-numbered (length d.tokens) _ (run-numbered d (length d.tokens) (want p 0 ∷ []) 0)
