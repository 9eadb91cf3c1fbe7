-- From header to header: the first that is not UTF-8, and how long all of them are.
use mathlib.Core.Path.{◌≡◌, sym, ap, ◌∙◌}
use mathlib.Core.Bool.{Bool, true, false}
use mathlib.Core.List.{List, ◌∷◌, ◌++◌, map}
use Prim.Native.Nat.{ℕ, ◌+◌, ◌-◌, ◌≤◌, ◌<◌}
use native.Mathlib.Omega.{arith}
use lib.ListN.{length, take, drop, length-append, length-drop}
use lib.Seq.{length-take-le}
use Rattle.lists.specs.Lists.{each}
use Rattle.utf8.specs.Utf8.{utf8}
use Rattle.frame.specs.declared.Fault.{Fault}
use Rattle.cells.specs.Raw.{cell_end}
use Rattle.cells.proofs.Cuts.{end-within}
use Rattle.cells.proofs.Contents.{content-most}
use Rattle.written.specs.Written.{text_in}
use Rattle.row_writer.specs.Writing.{max_number, next_number, name_fault_of}
use Rattle.row_writer.specs.Inner.{content_of, contents_in}
use Rattle.row_writer.proofs.Left.{cells_left, left-all, left-none, left-more}
use Rattle.std.specs.Prelude.{Option, Some, None}
use Rattle.frame.specs.Sheet.{fault}
use Rattle.std.specs.Prelude.{min}
use mathlib.Core.Logic.{⊎_elim}
use native.Mathlib.Nat.{eq-or-lt_of_le}
use borrow.Author.Tests.{le-ltb, lt-ltb}

-- ---- where a raw cell ends
module _ (s : List ℕ) (at end : ℕ) (h : at ≤ length s) (e : end ≡ cell_end s at) where
  pub end-bounds : (at ≤ end) × (end ≤ length s)
  end-bounds = (omega (arith, (end-within s at h).0), omega (arith, (end-within s at h).1))

  pub left_is : cells_left s at ≡ take (end - at) (drop at s) ∷ cells_left s (end + 1)
  left_is = rw e (left-more s at h)

  pub content-bound : length (content_of (take (end - at) (drop at s))) ≤ end - at
  content-bound =
      let l : length (take (end - at) (drop at s)) ≡ end - at =
      length-take-le _ _ (omega (arith, length-drop at s, end-bounds.0, end-bounds.1)) in
      omega (arith, l, content-most (take (end - at) (drop at s)))

-- ---- 5: the first name that is not UTF-8
fault-next : (k : ℕ) (n : List ℕ) (ns : List (List ℕ)) → utf8 n ≡ true
    → name_fault_of k (n ∷ ns) ≡ name_fault_of (next_number k) ns
unfolding name_fault_of
fault-next k n ns h = rw h

fault-here : (k : ℕ) (n : List ℕ) (ns : List (List ℕ)) → utf8 n ≡ false → name_fault_of k (n ∷ ns) ≡ Some (fault 5 k)
unfolding name_fault_of
fault-here k n ns h = rw h

pub label-fault : (label : List ℕ) (ns : List (List ℕ)) (t : Bool) → t ≡ utf8 label → t ≡ false
    → Some (fault 5 0) ≡ name_fault_of 0 (label ∷ ns)
label-fault label ns t e h = sym (fault-here 0 label ns (sym e ∙ h))

pub label-passed : (label : List ℕ) (ns : List (List ℕ)) (t : Bool) → t ≡ utf8 label → t ≡ true
    → name_fault_of 1 ns ≡ name_fault_of 0 (label ∷ ns)
label-passed label ns t e h = sym (fault-next 0 label ns (sym e ∙ h))

-- the number after k, as it is computed
pub next-saturates : (k j : ℕ) → k ≤ max_number → j ≡ min (k + 1) max_number → j ≡ next_number k
next-saturates k j h e = ⊎_elim
    (λ (m : k ≡ max_number). rw (le-ltb k max_number (omega arith)) (omega (arith, e)))
    (λ (l : k < max_number). rw (lt-ltb k max_number l) (omega (arith, e)))
    (eq-or-lt_of_le h)

module _ (s : List ℕ) (at k : ℕ) (x : Option Fault) (p : name_fault_of k (cells_left s at) ≡ x) where
  pub fault-turn : (end j : ℕ) (t : Bool) → at ≤ length s → end ≡ cell_end s at
      → t ≡ utf8 (take (end - at) (drop at s)) → t ≡ true → j ≡ next_number k
      → name_fault_of j (cells_left s (end + 1)) ≡ x
  fault-turn end j t h e u v q =
      rw q (sym (fault-next k (take (end - at) (drop at s)) (cells_left s (end + 1)) (sym u ∙ v))
      ∙ ap (name_fault_of k) (sym (left_is s at end h e)) ∙ p)

  pub fault-stop : (end : ℕ) (t : Bool) → at ≤ length s → end ≡ cell_end s at
      → t ≡ utf8 (take (end - at) (drop at s)) → t ≡ false → Some (fault 5 k) ≡ x
  fault-stop end t h e u v =
      sym (fault-here k (take (end - at) (drop at s)) (cells_left s (end + 1)) (sym u ∙ v))
      ∙ ap (name_fault_of k) (sym (left_is s at end h e)) ∙ p

  pub fault-last : length s < at → None ≡ x
  unfolding name_fault_of
  fault-last h = rw (left-none s at h) at p

-- ---- how many bytes the headers have
module _ (s : List ℕ) (at sum x : ℕ) (p : sum + length (text_in (map content_of (cells_left s at))) ≡ x) where
  pub text-turn : (end n : ℕ) → at ≤ length s → end ≡ cell_end s at
      → n ≡ length (content_of (take (end - at) (drop at s)))
      → sum + n + length (text_in (map content_of (cells_left s (end + 1)))) ≡ x
  unfolding each
  text-turn end n h e q =
      let c : List ℕ = content_of (take (end - at) (drop at s)) in
      let r : List ℕ = text_in (map content_of (cells_left s (end + 1))) in
      let w : sum + length (c ++ r) ≡ x = rw (left_is s at end h e) at p in
      omega (arith, w, length-append c r)

  pub text-last : length s < at → sum ≡ x
  unfolding each
  text-last h = let w : sum + 0 ≡ x = rw (left-none s at h) at p in omega (arith, w)

pub text-start : (s : List ℕ) → 0 + length (text_in (map content_of (cells_left s 0))) ≡ length (text_in (contents_in s))
text-start s =
    let e : text_in (map content_of (cells_left s 0)) ≡ text_in (contents_in s) =
    ap (λ (cs : List (List ℕ)). text_in (map content_of cs)) (left-all s) in
    omega (arith, ap length e)
