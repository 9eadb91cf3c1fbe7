-- The grammar accepts the documents that are well formed, and no others: `accepted`.
use mathlib.Core.Logic.{⊎_elim, ◌↔◌}
use mathlib.Core.Path.{◌≡◌, refl, sym, ap, ◌∙◌, subst}
use mathlib.Core.List.{List, [], ◌∷◌, ◌++◌}
use Prim.Native.Nat.{ℕ, zero, suc, ◌+◌, ◌≤◌, ◌<◌}
use native.Mathlib.Nat.{zero-add}
use native.Mathlib.Omega.{arith}
use borrow.Author.Tests.{le-leb, leb-true, le-ltb}
use lib.ListN.{length}
use lib.Dec.{leb}
use Rattle.lists.proofs.Tests.{below}
use Rattle.frame.specs.Limits.{max_depth}
use Rattle.frame.specs.Doc.{Doc, kind_of, value_of}
use Rattle.rules.specs.declared.Place.{Place}
use Rattle.rules.specs.Rules.{opens, arity}
use Rattle.grammar.specs.Machine.{Want, want, opened, allowed, judged, run, grammar_fault}
use Rattle.grammar.specs.Tree.{Tree, tree_of, end, child}
use Rattle.grammar.proofs.Laws.{passed-7}
use Rattle.grammar.proofs.Formed.{arity-at, went_on}
use Rattle.grammar.proofs.Places.{past-none, past-suc, past-ge, end-node, parent-child}
use Rattle.well_formed.specs.WellFormed.{Fills, none, tree, depth_of, WellFormed}
use Rattle.well_formed.proofs.Depths.{depth-first, depth_below}
use Rattle.std.specs.Prelude.{None, Ok}

-- ---- the depths of the places that wait
-- the trees from i on stand as deep as the places that they are to fill
abbrev Deep : Tree → List Want → ℕ → Type 0
Deep t [] i = Unit {0}
Deep t (w ∷ ws) i = (i < t.size → depth_of t i ≡ w.depth) × Deep t ws (end t i)

-- where that holds after the tree at i, it holds with the places for the children of i, from child c on, in front
deep-children : (t : Tree) (i c n : ℕ) (ps : List Place) (ws : List Want) → i < t.size → depth_of t i ≡ n
    → c + length ps ≡ arity (t.kind i) (t.value i) → Deep t ws (end t i)
    → Deep t (opened (n + 1) ps ws) (child t i c)
unfolding opened
deep-children t i c n [] ws h e a g =
    let z : arity (t.kind i) (t.value i) ≡ c = omega arith in
    subst (λ (j : ℕ). Deep t ws j) (end-node t i h ∙ ap (child t i) z) g
deep-children t i c n (p ∷ ps) ws h e a g = (
  (λ b. let o : 0 < child t i c = omega (arith, past-ge t c (suc i)) in
      depth_below t (child t i c) o
      ∙ ap (λ (j : ℕ). depth_of t j + 1) (parent-child t i c h (omega arith) b)
      ∙ ap (λ (m : ℕ). m + 1) e),
  subst (λ (j : ℕ). Deep t (opened (n + 1) ps ws) j) (past-suc t c (suc i))
      (deep-children t i (suc c) n ps ws h e (omega arith) g),
)

-- ---- trees that fill places
-- the places of those that wait, without the depths
abbrev places_of : List Want → List Place
places_of [] = []
places_of (w ∷ ws) = w.place ∷ places_of ws

places-opened : (n : ℕ) (ps : List Place) (ws : List Want) → places_of (opened n ps ws) ≡ ps ++ places_of ws
unfolding opened
places-opened n [] ws = refl
places-opened n (p ∷ ps) ws = ap (λ (qs : List Place). p ∷ qs) (places-opened n ps ws)

module _ (d : Doc) where
  -- places in front of others
  fills-split : (ps qs : List Place) {i j : ℕ} → Fills d (ps ++ qs) i j
      → (k : ℕ) × Fills d ps i k × Fills d qs k j
  fills-split [] qs {i} f = (i, none {i = i} {j = i} (omega arith), f)
  fills-split (p ∷ ps) qs (tree k b a f g) =
      let r = fills-split ps qs g in
      (r.0, tree k b a f r.1, r.2)

  fills-join : (ps qs : List Place) {i k j : ℕ} → Fills d ps i k → Fills d qs k j → Fills d (ps ++ qs) i j
  fills-join [] qs {i} {k} {j} (none e) g =
      let z : k ≡ i = omega arith in
      subst (λ (m : ℕ). Fills d qs m j) z g
  fills-join (p ∷ ps) qs (tree m b a f h) g = tree m b a f (fills-join ps qs h g)

  -- ---- the token at i fills the place that waits first
  size_is : (tree_of d).size ≡ length d.tokens
  unfolding tree_of
  size_is = refl

  module _ (w : Want) (ws : List Want) (i : ℕ) (b : i < length d.tokens) (g : Deep (tree_of d) (w ∷ ws) i) where
    next-deep : Deep (tree_of d) (opened (w.depth + 1) (opens (kind_of d i) (value_of d i)) ws) (suc i)
    next-deep =
        let h : i < (tree_of d).size = omega (arith, size_is) in
        subst (λ (j : ℕ). Deep (tree_of d) (opened (w.depth + 1) (opens (kind_of d i) (value_of d i)) ws) j)
        (past-none (tree_of d) (suc i))
        (deep-children (tree_of d) i 0 w.depth (opens (kind_of d i) (value_of d i)) ws h (g.0 h)
        (omega (arith, arity-at d i)) g.1)

    depth-here : depth_of (tree_of d) i ≡ w.depth
    depth-here = g.0 (omega (arith, size_is))

  -- a run that ends at k: the trees up to k fill the places, and no token in them stands too deep
  run-fills : (left : ℕ) (ws : List Want) (i k : ℕ) → i + left ≡ length d.tokens → Deep (tree_of d) ws i
      → run d left ws i ≡ Ok k
      → Fills d (places_of ws) i k × ((j : ℕ) → i ≤ j → j < k → depth_of (tree_of d) j ≤ max_depth)
  unfolding run judged
  run-fills zero [] i k e g h =
      let z : i ≡ k = cc in
      (none {i = i} {j = k} (omega arith), λ j p q. absurd (omega arith))
  run-fills zero (w ∷ ws) i k e g h = absurd (let z : ◌≡◌ {A = ℕ} 0 1 = cc in omega arith)
  run-fills (suc left) [] i k e g h =
      let z : i ≡ k = cc in
      (none {i = i} {j = k} (omega arith), λ j p q. absurd (omega arith))
  run-fills (suc left) (w ∷ ws) i k e g h =
      let b : i < length d.tokens = omega arith in
      let r = went_on (judged d w i) _ k h in
      let a = passed-7 (allowed d w.place i) (leb w.depth max_depth) i r.0 in
      let f = run-fills left (opened (w.depth + 1) (opens (kind_of d i) (value_of d i)) ws) (suc i) k (omega arith)
      (next-deep w ws i b g) r.1 in
      let s = fills-split (opens (kind_of d i) (value_of d i)) (places_of ws) (subst (λ (ps : List Place). Fills d ps
      (suc i) k) (places-opened (w.depth + 1) (opens (kind_of d i) (value_of d i)) ws) f.0) in (
        tree s.0 b a.0 s.1 s.2,
        λ j p q. ⊎_elim
            (λ l. f.1 j l q)
            (λ l. let z : i ≡ j = omega arith in subst (λ (m : ℕ). depth_of (tree_of d) m ≤ max_depth) z
            (omega (arith, depth-here w ws i b g, leb-true w.depth max_depth a.1)))
            (below i j),
      )

  -- trees that fill the places, no token too deep: the run ends where they do
  fills-run : (left : ℕ) (ws : List Want) (i k : ℕ) → i + left ≡ length d.tokens → Deep (tree_of d) ws i
      → Fills d (places_of ws) i k → ((j : ℕ) → j < length d.tokens → depth_of (tree_of d) j ≤ max_depth)
      → run d left ws i ≡ Ok k
  unfolding run judged
  fills-run zero [] i k e g (none h) s = let z : i ≡ k = omega arith in ap Ok z
  fills-run zero (w ∷ ws) i k e g (tree m b a f h) s = absurd (omega arith)
  fills-run (suc left) [] i k e g (none h) s = let z : i ≡ k = omega arith in ap Ok z
  fills-run (suc left) (w ∷ ws) i k e g (tree m b a f h) s =
      let c = le-leb w.depth max_depth (omega (arith, depth-here w ws i b g, s i b)) in
      simp (a, c)
      (fills-run left (opened (w.depth + 1) (opens (kind_of d i) (value_of d i)) ws) (suc i) k (omega arith)
      (next-deep w ws i b g)
      (subst (λ (ps : List Place). Fills d ps (suc i) k)
      (sym (places-opened (w.depth + 1) (opens (kind_of d i) (value_of d i)) ws))
      (fills-join (opens (kind_of d i) (value_of d i)) (places_of ws) f h)) s)

-- A document is accepted exactly when it is well formed: its tokens form one tree that fills every place with a token
-- that the place takes, and each token is at most 64 deep
pub accepted : (p : Place) (d : Doc) → (grammar_fault p d ≡ None) ↔ WellFormed p d
unfolding grammar_fault
accepted p d = (to, from)
  where
    n : ℕ
    n = length d.tokens

    deep : Deep (tree_of d) (want p 0 ∷ []) 0
    deep = ((λ b. depth-first (tree_of d)), tt)

    to : grammar_fault p d ≡ None → WellFormed p d
    to h =
        let r = run-fills d n (want p 0 ∷ []) 0 n (zero-add n) deep (Rattle.grammar.proofs.Formed.accepted d p h) in
        record { filled = r.0; shallow = λ i b. omega (arith, r.1 i (omega arith) b) }

    from : WellFormed p d → grammar_fault p d ≡ None
    from w =
        let r = fills-run d n (want p 0 ∷ []) 0 n (zero-add n) deep w.filled
        (λ j b. omega (arith, w.shallow j b)) in
        rw (r, le-ltb n n (omega arith))
