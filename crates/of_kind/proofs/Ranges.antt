-- What stands in a range of tokens: one after the other, of a kind.
use mathlib.Core.Path.{◌≡◌, refl, sym, ap, ◌∙◌}
use mathlib.Core.List.{List, [], ◌++◌, append-nil}
use Prim.Native.Nat.{ℕ, ◌+◌, ◌≤◌, ◌<◌}
use native.Mathlib.Omega.{arith}
use native.Mathlib.Numerals.{add-one}
use borrow.Author.Tests.{eq-eqb, ne_eqb}
use lib.ListN.{length, length-append}
use Rattle.lists.specs.Lists.{over, each, first, any_of, table}
use Rattle.lists.proofs.Joins.{each_append}
use Rattle.lists.proofs.Laws.{over_none, over-join, over-one}
use Rattle.frame.specs.Doc.{Doc, kind_of}
use Rattle.rules.specs.Rules.{rules, opens}
use Rattle.grammar.specs.Tree.{Tree, tree_of}
use Rattle.grammar.proofs.Flat.{tree-kind}
use Rattle.schema.specs.Declarations.{of_kind}
use Rattle.schema.specs.Inner.{Named}

-- ---- one after the other
module _ (t : Tree) (k : ℕ) (g : ℕ → List ℕ) where
  pub each_snoc : (a j : ℕ) → a ≤ j → each g (over (of_kind t k) a (j + 1)) ≡ each g (over (of_kind t k) a j) ++ each g
      (of_kind t k j)
  each_snoc a j h =
      ap (each g) (sym (over-join (of_kind t k) a j (j + 1) h (omega arith)) ∙ ap
      (λ (r : List ℕ). over (of_kind t k) a j ++ r)
      (ap (over (of_kind t k) j) (add-one j) ∙ over-one (of_kind t k) j))
      ∙ each_append g (over (of_kind t k) a j) (of_kind t k j)

  -- what is still to come fits as well
  pub each-room : (a j b : ℕ) → a ≤ j → j < b → length (each g (over (of_kind t k) a j)) + length
      (each g (of_kind t k j)) ≤ length (each g (over (of_kind t k) a b))
  each-room a j b h l =
      let e : each g (over (of_kind t k) a b) ≡ each g (over (of_kind t k) a (j + 1)) ++ each g
      (over (of_kind t k) (j + 1) b) =
      ap (each g) (sym (over-join (of_kind t k) a (j + 1) b (omega arith) (omega arith))) ∙ each_append g
      (over (of_kind t k) a (j + 1)) (over (of_kind t k) (j + 1) b) in
      omega (
        arith,
        ap length e,
        length-append (each g (over (of_kind t k) a (j + 1))) (each g (over (of_kind t k) (j + 1) b)),
        ap length (each_snoc a j h),
        length-append (each g (over (of_kind t k) a j)) (each g (of_kind t k j)),
      )

  pub each_start : (a : ℕ) → [] ≡ each g (over (of_kind t k) a a)
  unfolding each
  each_start a = sym (ap (each g) (over_none (of_kind t k) a a (omega arith)))

-- ---- token j, where it is of the kind and where it is not
module _ (d : Doc) (k j c : ℕ) (g : ℕ → List ℕ) (ec : c ≡ kind_of d j) where
  pub not-one : (c ≡ k → ⊥) → each g (of_kind (tree_of d) k j) ≡ []
  unfolding each
  not-one h = rw (tree-kind d j, ← ec, ne_eqb c k h)

  pub is_one : c ≡ k → each g (of_kind (tree_of d) k j) ≡ g j
  unfolding each
  is_one h = rw (tree-kind d j, ← ec, eq-eqb c k h) (append-nil (g j))

-- Start and End begin with a Name
pub start-named : Named 112
unfolding opens rules first any_of table
start-named v = (omega arith, refl)

pub end-named : Named 113
unfolding opens rules first any_of table
end-named v = (omega arith, refl)
