-- The Aparts of a schema, one after the other.
use mathlib.Core.Path.{◌≡◌, ◌∙◌, refl, sym, subst}
use mathlib.Core.Bool.{Bool, true, false}
use mathlib.Core.Logic.{⊎_elim}
use mathlib.Core.List.Memᴰ
use mathlib.Core.List.{List, [], ◌∷◌, Memᴰ}
use Prim.Native.Nat.{ℕ, zero, suc, ◌≤◌, ◌<◌}
use native.Mathlib.Omega.{arith}
use borrow.Author.Tests.{eqb-true}
use lib.Dec.{eqb}
use lib.ListN.{length, get_or}
use Rattle.lists.specs.Lists.{pick}
use Rattle.lists.proofs.Tests.{below}
use Rattle.lists.proofs.Laws.{over-mem, over-most, test-mem}
use Rattle.frame.specs.Doc.{doc_of, kind_of}
use Rattle.frame.specs.declared.Sheet.{Sheet}
use Rattle.grammar.specs.Tree.{tree_of}
use Rattle.grammar.proofs.Flat.{tree-kind}
use Rattle.grammar.proofs.Skipping.{size_is}
use Rattle.schema.specs.Declarations.{of_kind}
use Rattle.schema.specs.Scanned.{tokens_of}
use Rattle.schema.specs.Inner.{Declared}
use Rattle.schema.proofs.Standing.{after_first}
use Rattle.register.proofs.Listed.{none-behind}

one-most : (b : Bool) (j : ℕ) → length (pick {A = List ℕ} b (j ∷ []) []) ≤ 1
one-most true j = omega arith
one-most false j = omega arith

pub mem-at : (l : List ℕ) (k : ℕ) → k < length l → Memᴰ (get_or l k 0) l
mem-at [] k h = absurd (omega arith)
mem-at (x ∷ l) zero h = Memᴰ.head refl
mem-at (x ∷ l) (suc k) h = Memᴰ.tail (mem-at l k (omega arith))

module _ (d : List ℕ) (g : Sheet) (z : Declared d g) where
  pub apart-mem : (j : ℕ) → Memᴰ j (tokens_of (tree_of (doc_of d)) 106) → (j < g.tokens) × (kind_of (doc_of d) j ≡ 106) × (0 < j)
  unfolding tokens_of
  apart-mem j o =
      let t = tree_of (doc_of d) in
      let r = over-mem (of_kind t 106) 0 t.size o in
      let q = test-mem (eqb (t.kind r.0) 106) (r.0 ∷ []) r.3 in
      let e : j ≡ r.0 = Memᴰ.eq_of_singleton q.1 in
      let h : j < g.tokens = omega (arith, r.2, size_is d g z.sheet) in
      let k : kind_of (doc_of d) j ≡ 106 = rw e (sym (tree-kind (doc_of d) r.0) ∙ eqb-true _ _ q.0) in
      (h, k, after_first (doc_of d) z.read j (omega (arith, z.sheet.tokens)) (λ o. omega arith))

  pub apart-few : length (tokens_of (tree_of (doc_of d)) 106) ≤ g.tokens
  unfolding tokens_of
  apart-few = omega (arith, over-most (of_kind (tree_of (doc_of d)) 106) 0 (tree_of (doc_of d)).size (λ j. one-most (eqb ((tree_of (doc_of d)).kind j) 106) j), size_is d g z.sheet)

  module _ (k j : ℕ) (ej : j ≡ get_or (tokens_of (tree_of (doc_of d)) 106) k 0) where
    -- the token of an Apart is not 0, so 0 says that there are no more
    pub apart-there : (j ≡ 0 → ⊥) → k < length (tokens_of (tree_of (doc_of d)) 106)
    apart-there n = ⊎_elim
        (λ b. b)
        (λ b. absurd (n (ej ∙ none-behind (tokens_of (tree_of (doc_of d)) 106) k b)))
        (below k (length (tokens_of (tree_of (doc_of d)) 106)))

    pub apart-is-one : (j ≡ 0 → ⊥) → (j < g.tokens) × (kind_of (doc_of d) j ≡ 106)
    apart-is-one n =
        let m = apart-mem j (subst (λ (i : ℕ). Memᴰ i (tokens_of (tree_of (doc_of d)) 106)) (sym ej) (mem-at _ k (apart-there n))) in
        (m.0, m.1)

    pub apart-no-more : j ≡ 0 → length (tokens_of (tree_of (doc_of d)) 106) ≤ k
    apart-no-more n = ⊎_elim
        (λ b. let m = apart-mem j (subst (λ (i : ℕ). Memᴰ i (tokens_of (tree_of (doc_of d)) 106)) (sym ej) (mem-at _ k b)) in
        absurd (omega (arith, m.2)))
        (λ b. b)
        (below k (length (tokens_of (tree_of (doc_of d)) 106)))
