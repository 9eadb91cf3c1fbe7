-- The type of a literal, from the tests that the code makes, and how deep a list it can be.
use mathlib.Core.Path.{◌≡◌, refl, ap}
use mathlib.Core.Bool.{Bool, true, false}
use mathlib.Core.List.{List, [], ◌∷◌}
use Prim.Native.Nat.{ℕ, zero, suc, ◌+◌, ◌-◌, ◌≤◌, ◌<◌}
use native.Mathlib.Omega.{arith}
use native.Mathlib.Numerals.{add-one}
use lib.Dec.{eqb}
use lib.ListN.{length}
use borrow.Author.Tests.{eq-eqb, ne_eqb}
use Rattle.lists.specs.Lists.{pick, any_of, is_one}
use Rattle.lists.proofs.Laws.{left-more, left-none}
use Rattle.lists.proofs.Ranges.{every_from, every-at}
use Rattle.frame.specs.Doc.{Doc, kind_of, value_of}
use Rattle.grammar.specs.Tree.{Tree, tree_of}
use Rattle.types.specs.declared.Ty.{Ty}
use Rattle.types.specs.Types.{ty, deeper, literal_in, literal}
use Rattle.std.specs.Prelude.{Option, Some, None}

-- the kinds that have their own number as their type
abbrev own : List ℕ
own = 1 ∷ 2 ∷ 3 ∷ 4 ∷ 5 ∷ []

module _ (k : ℕ) where
  own_in : 1 ≤ k → k < 6 → is_one own k ≡ true
  unfolding any_of every_from
  own_in h g = every-at (is_one own) 5 1 k refl h g

  not_own : (1 ≤ k → k < 6 → ⊥) → is_one own k ≡ false
  unfolding any_of
  not_own h =
      simp (
        ne_eqb k 1 (λ e. h (omega arith) (omega arith)),
        ne_eqb k 2 (λ e. h (omega arith) (omega arith)),
        ne_eqb k 3 (λ e. h (omega arith) (omega arith)),
        ne_eqb k 4 (λ e. h (omega arith) (omega arith)),
        ne_eqb k 5 (λ e. h (omega arith) (omega arith)),
      )

-- a literal of n tokens is a list of at most depth n
abbrev depth_of : Option Ty → ℕ
depth_of None = 0
depth_of (Some a) = a.depth

depth-pick : (t : Bool) (x y : Option Ty) (n : ℕ) → depth_of x ≤ n → depth_of y ≤ n → depth_of (pick t x y) ≤ n
depth-pick true x y n h g = h
depth-pick false x y n h g = g

depth-deeper : (x : Option Ty) (n : ℕ) → depth_of x ≤ n → depth_of (deeper x) ≤ suc n
depth-deeper None n h = omega arith
depth-deeper (Some a) n h = omega arith

depth-in : (t : Tree) (left i : ℕ) → depth_of (literal_in t left i) ≤ left
unfolding literal_in
depth-in t zero i = omega arith
depth-in t (suc left) i =
    let r : Option Ty = deeper (literal_in t left (suc i)) in
    let d : depth_of r ≤ suc left = depth-deeper (literal_in t left (suc i)) left (depth-in t left (suc i)) in
    depth-pick (is_one own (t.kind i)) (Some (ty (t.kind i) 0)) _ (suc left) (omega arith)
    (depth-pick (eqb (t.kind i) 13) _ None (suc left)
    (depth-pick (eqb (t.value i) 0) (Some (ty 0 1)) r (suc left) (omega arith) d) (omega arith))

-- token i of a document of n tokens
module _ (d : Doc) (i n : ℕ) (z : length d.tokens ≡ n) where
  pub no-token : n ≤ i → None ≡ literal (tree_of d) i
  unfolding tree_of literal_in
  no-token h = simp (z, left-none n i h)

  pub shallow : (a : Ty) → Some a ≡ literal (tree_of d) i → a.depth ≤ n - i
  unfolding tree_of
  shallow a e =
      let h = depth-in (tree_of d) (length d.tokens - i) i in
      let g = ap depth_of e in
      omega arith

  module _ (l : i < n) (k : ℕ) (ek : k ≡ kind_of d i) where
    pub scalar : 1 ≤ k → k < 6 → Some (ty k 0) ≡ literal (tree_of d) i
    unfolding tree_of literal_in
    scalar h g = simp (z, left-more n i l, ← ek, own_in k h g)

    module _ (v : ℕ) (e : k ≡ 13) (ev : v ≡ value_of d i) where
      pub empty : v ≡ 0 → Some (ty 0 1) ≡ literal (tree_of d) i
      unfolding tree_of literal_in
      empty g =
          simp (
            z,
            left-more n i l,
            ← ek,
            not_own k (λ a b. omega arith),
            eq-eqb k 13 e,
            ne_eqb k 50 (λ f. omega arith),
            ← ev,
            eq-eqb v 0 g,
          )

      module _ (g : v ≡ 0 → ⊥) where
        pub list : (item : Option Ty) → item ≡ literal (tree_of d) (i + 1) → deeper item ≡ literal (tree_of d) i
        unfolding tree_of literal_in
        list item h =
            simp (
              h,
              z,
              left-more n i l,
              add-one,
              ← ek,
              not_own k (λ a b. omega arith),
              eq-eqb k 13 e,
              ne_eqb k 50 (λ f. omega arith),
              ← ev,
              ne_eqb v 0 g,
            )

        pub list-item : (a : Ty) → Some a ≡ literal (tree_of d) (i + 1) → Some (ty a.base (a.depth + 1))
            ≡ literal (tree_of d) i
        list-item a h = rw add-one (list (Some a) h)

    pub no-literal : (1 ≤ k → k < 6 → ⊥) → (k ≡ 13 → ⊥) → None ≡ literal (tree_of d) i
    unfolding tree_of literal_in
    no-literal o g = simp (z, left-more n i l, ← ek, not_own k o, ne_eqb k 13 g)
