-- Declarations that must not repeat, over all tokens at once and kind by kind.
use mathlib.Core.Bool.{Bool, true, false, not}
use mathlib.Core.Logic.{◌⊎◌, inl, inr}
use mathlib.Core.Path.{◌≡◌, refl, sym, ap, ◌∙◌}
use Prim.Native.Nat.{ℕ, ◌≤◌}
use native.Mathlib.Omega.{arith}
use borrow.Author.Tests.{eq-eqb, eqb-true, not-true}
use lib.Dec.{eqb}
use Rattle.lists.specs.Lists.{both, table, first, any_of}
use Rattle.lists.proofs.Ranges.{through-bounds}
use Rattle.lists.proofs.Tests.{never, true-or-false}
use Rattle.frame.specs.Doc.{Doc, kind_of}
use Rattle.frame.specs.Sheet.{or_else}
use Rattle.frame.specs.declared.Fault.{Fault}
use Rattle.grammar.specs.Tree.{Tree, tree_of}
use Rattle.schema.specs.Declarations.{equal_apart, fault_at}
use Rattle.schema.specs.Scanned.{tokens_of, repeats, scanned_fault}
use Rattle.schema.proofs.Named.{not-kind, of-kind}
use Rattle.register.specs.Register.{Exact}
use Rattle.register.proofs.Entries.{in-entered}
use Rattle.opening.specs.Reading.{Single, again_fault, repeated_fault}
use Rattle.std.specs.Prelude.{Option, Some, None, MatchOption}

single-in : (k : ℕ) → Single k → (101 ≤ k) × (k ≤ 103)
single-in k y = through-bounds 101 103 k y

pub in-single : (k : ℕ) → 101 ≤ k → k ≤ 103 → Exact k
in-single k l h = (in-entered k l (omega arith), λ e. omega arith)

-- token j is of kind c
module _ (d : Doc) (j c : ℕ) (ec : c ≡ kind_of d j) where
  pub kind-outside : (101 ≤ c → c ≤ 103 → ⊥) → (k : ℕ) → Single k → both (eqb ((tree_of d).kind j) k) (repeats (tree_of d) k j) ≡ false
  kind-outside h k y = sym
      (not-kind d j c k (repeats (tree_of d) k j) ec (λ q. h (omega (arith, single-in k y)) (omega (arith, single-in k y))))

  pub not-again : (r : Bool) → r ≡ repeats (tree_of d) c j → r ≡ false → (k : ℕ) → Single k
      → both (eqb ((tree_of d).kind j) k) (repeats (tree_of d) k j) ≡ false
  not-again r er h k y = go (true-or-false (eqb c k))
    where
      go : (eqb c k ≡ true) ⊎ (eqb c k ≡ false) → both (eqb ((tree_of d).kind j) k) (repeats (tree_of d) k j) ≡ false
      go (inl q) =
          let e : c ≡ k = eqb-true c k q in
          let o : r ≡ repeats (tree_of d) k j = er ∙ ap (λ (m : ℕ). repeats (tree_of d) m j) e in
          sym (of-kind d j c k (repeats (tree_of d) k j) ec e o) ∙ h
      go (inr q) = sym (not-kind d j c k (repeats (tree_of d) k j) ec (λ e. never (sym q ∙ eq-eqb c k e)))

-- no kind has one that repeats
none-again : (t : Tree) → ((k : ℕ) → Single k → None ≡ first (repeats t k) (tokens_of t k)) → None ≡ repeated_fault t
unfolding repeated_fault any_of table
none-again t h = rw (sym (h 101 refl), sym (h 102 refl), sym (h 103 refl))

pub not-any-again : (t : Tree) (b : Bool) → (b ≡ false → (k : ℕ) → Single k → None ≡ first (repeats t k) (tokens_of t k))
    → not b ≡ true → None ≡ repeated_fault t
not-any-again t b h e = none-again t (h (not-true b e))

-- the first of two, where the second is looked for only if the first is none
pub or-match : (x a b r : Option Fault) {P : Type 0} → x ≡ a → (P → r ≡ b) → MatchOption x P (λ k. r ≡ Some k) → r ≡ or_else a b
or-match None a b r e f h = rw (sym e) (f h)
or-match (Some k) a b r e f h = rw (sym e) h

or-assoc : (a b c : Option Fault) → or_else (or_else a b) c ≡ or_else a (or_else b c)
or-assoc None b c = refl
or-assoc (Some k) b c = refl

-- 10, 11 and 12, each looked for only if none was found before it
pub one-by-one : (t : Tree) (x y r : Option Fault) {P Q : Type 0} → x ≡ again_fault t 10 101
    → (P → y ≡ again_fault t 11 102) → MatchOption x P (λ k. y ≡ Some k)
    → (Q → r ≡ again_fault t 12 103) → MatchOption y Q (λ k. r ≡ Some k) → r ≡ repeated_fault t
unfolding repeated_fault
one-by-one t x y r e f h g i =
    or-match y (or_else (again_fault t 10 101) (again_fault t 11 102)) (again_fault t 12 103) r
    (or-match x (again_fault t 10 101) (again_fault t 11 102) y e f h) g i
    ∙ or-assoc (again_fault t 10 101) (again_fault t 11 102) (again_fault t 12 103)

-- 10 to 12, and then 13
pub in-turn : (t : Tree) {r : Option Fault} → r ≡ or_else (repeated_fault t) (fault_at 13 (first (equal_apart t) (tokens_of t 106)))
    → r ≡ scanned_fault t
unfolding repeated_fault scanned_fault
in-turn t e =
    let x = fault_at 13 (first (equal_apart t) (tokens_of t 106)) in
    e ∙ or-assoc (again_fault t 10 101) (or_else (again_fault t 11 102) (again_fault t 12 103)) x
    ∙ ap (or_else (again_fault t 10 101)) (or-assoc (again_fault t 11 102) (again_fault t 12 103) x)
