-- Whole trees, and trees that stand elsewhere: where the tokens of a range stand in another tree, their ends, children
-- and parents stand there too.
use mathlib.Core.Path.{◌≡◌, refl, ◌∙◌, subst}
use mathlib.Core.Logic.{⊎_elim}
use Prim.Native.Nat.{ℕ, zero, suc, ◌+◌, ◌-◌, ◌≤◌, ◌<◌}
use native.Mathlib.Nat.{zero-add}
use native.Mathlib.Omega.{arith}
use borrow.Author.Tests.{lt-ltb, le-ltb}
use Rattle.lists.proofs.Tests.{pick_true, pick-false, below}
use Rattle.rules.specs.Rules.{arity}
use Rattle.grammar.specs.Tree.{Tree, past, end, child, enclosing, parent}
use Rattle.grammar.proofs.Places.{past-none, past-node}

-- m trees from i on end at k, and each of their tokens is there
pub data Ends (t : Tree) : ℕ → ℕ → ℕ → Type 0 where
  none : {i : ℕ} → Ends t 0 i i
  more : {m i k : ℕ} → i < t.size → Ends t (m + arity (t.kind i) (t.value i)) (suc i) k → Ends t (suc m) i k

module _ {t : Tree} where
  -- they end where `past` says
  pub ends-past : {m i k : ℕ} → Ends t m i k → past t m i ≡ k
  ends-past (none {i}) = past-none t i
  ends-past (more {m} {i} h e) = past-node t m i h ∙ ends-past e

  -- each tree has a token
  pub ends-room : {m i k : ℕ} → Ends t m i k → i + m ≤ k
  ends-room none = omega arith
  ends-room (more {m} {i} {k} h e) = omega (arith, ends-room e)

  -- they end no later than the tree
  pub ends-inside : {m i k : ℕ} → Ends t m i k → i ≤ t.size → k ≤ t.size
  ends-inside none h = h
  ends-inside (more h e) g = ends-inside e h

  -- by an equal number
  as_many : {m m' i k : ℕ} → m ≡ m' → Ends t m i k → Ends t m' i k
  as_many {m} {m'} {i} {k} e d = subst (λ (z : ℕ). Ends t z i k) e d

  -- the first c of them, and the others
  pub ends-split : {m i k : ℕ} → Ends t m i k → (c r : ℕ) → m ≡ c + r
      → Ends t c i (past t c i) × Ends t r (past t c i) k
  ends-split (none {i}) c r e =
      let a : c ≡ 0 = omega arith in
      let b : r ≡ 0 = omega arith in
      rw (a, b, past-none t i) (none, none)
  ends-split (more {m} {i} h d) zero r e = rw (past-none t i) (none, as_many (e ∙ zero-add r) (more h d))
  ends-split (more {m} {i} {k} h d) (suc c) r e =
      let g : past t (suc c) i ≡ past t (c + arity (t.kind i) (t.value i)) (suc i) = past-node t c i h in
      let p = ends-split d (c + arity (t.kind i) (t.value i)) r (omega arith) in
      rw g (more h p.0, p.1)

  -- each token among them begins a whole tree that ends among them
  pub ends-tree : {m i k : ℕ} → Ends t m i k → (j : ℕ) → i ≤ j → j < k → Ends t 1 j (end t j) × (end t j ≤ k)
  ends-tree none j p q = absurd (omega arith)
  ends-tree (more {m} {i} {k} h d) j p q = ⊎_elim
      (λ b. ends-tree d j b q)
      (λ b. let e : i ≡ j = omega arith in
      let s = ends-split (more h d) 1 m (omega arith) in
      subst (λ (z : ℕ). Ends t 1 z (end t z) × (end t z ≤ k)) e (s.0, omega (arith, ends-room s.1)))
      (below i j)

  -- the first token is there
  ends-first : {m i k : ℕ} → Ends t m i k → 0 < m → i < t.size
  ends-first none e = absurd (omega arith)
  ends-first (more h d) e = h

  -- what stands below a token
  ends-below : {m i k : ℕ} → Ends t m i k → m ≡ 1 → Ends t (arity (t.kind i) (t.value i)) (suc i) k
  ends-below none e = absurd (omega arith)
  ends-below (more {m} {i} h d) e = as_many (let z : m ≡ 0 = omega arith in rw z (zero-add _)) d

-- the tokens from lo up to hi of the one tree stand in the other from `at` on: i of the one is j of the other where
-- at + i ≡ lo + j
pub record Same (t u : Tree) (lo hi at : ℕ) : Type 0 where
  pub kind : (i j : ℕ) → at + i ≡ lo + j → lo ≤ i → i < hi → u.kind j ≡ t.kind i
  pub value : (i j : ℕ) → at + i ≡ lo + j → lo ≤ i → i < hi → u.value j ≡ t.value i
  pub text : (i j : ℕ) → at + i ≡ lo + j → lo ≤ i → i < hi → u.text j ≡ t.text i
  pub inside : at + hi ≤ lo + u.size

-- a part of the range
pub narrower : {t u : Tree} {lo hi at : ℕ} (lo' hi' at' : ℕ) → Same t u lo hi at → lo ≤ lo' → hi' ≤ hi
    → at + lo' ≡ lo + at' → Same t u lo' hi' at'
narrower lo' hi' at' s p q e = record {
  kind = λ i j d a b. s.kind i j (omega arith) (omega arith) (omega arith);
  value = λ i j d a b. s.value i j (omega arith) (omega arith) (omega arith);
  text = λ i j d a b. s.text i j (omega arith) (omega arith) (omega arith);
  inside = omega (arith, s.inside);
}

-- whole trees stay whole
pub ends-moved : {t u : Tree} {lo hi at m i k : ℕ} → Same t u lo hi at → Ends t m i k → (j l : ℕ) → at + i ≡ lo + j
    → at + k ≡ lo + l → lo ≤ i → k ≤ hi → Ends u m j l
ends-moved {u = u} s none j l d e p q = let z : j ≡ l = omega arith in subst (λ (x : ℕ). Ends u 0 j x) z none
ends-moved {t} {u} {lo} {hi} {at} s (more {m} {i} {k} h x) j l d e p q =
    let b : i < hi = omega (arith, ends-room x) in
    let r : Ends u (m + arity (t.kind i) (t.value i)) (suc j) l =
    ends-moved s x (suc j) l (omega arith) e (omega arith) q in
    let g : j < u.size = omega (arith, s.inside) in
    let v : Ends u (m + arity (u.kind j) (u.value j)) (suc j) l = rw (s.kind i j d p b, s.value i j d p b) r in
    more g v

-- ---- m whole trees from lo up to hi
module _ {t : Tree} {m lo hi : ℕ} (w : Ends t m lo hi) (i : ℕ) (p : lo ≤ i) (q : i < hi) where
  -- what stands below token i
  tree-below : Ends t (arity (t.kind i) (t.value i)) (suc i) (end t i)
  tree-below = ends-below (ends-tree w i p q).0 refl

  -- all are tokens of the tree
  pub all_there : hi ≤ t.size
  all_there = ends-inside w (omega (arith, ends-first (ends-tree w i p q).0 (omega arith)))

  -- the tree at i ends among them
  pub end-in : end t i ≤ hi
  end-in = (ends-tree w i p q).1

  -- child c is there, and so are c tokens before it
  pub child-in : (c : ℕ) → c < arity (t.kind i) (t.value i) → (i + 1 + c ≤ child t i c) × (child t i c < hi)
  child-in c h =
      let s = ends-split tree-below c (arity (t.kind i) (t.value i) - c) (omega arith) in
      (omega (arith, ends-room s.0), omega (arith, ends-room s.1, end-in))

  -- as many tokens follow as belong to it
  pub room : (c : ℕ) → c < arity (t.kind i) (t.value i) → i + 1 + c < hi
  room c h = omega (arith, (child-in c h).0, (child-in c h).1)

module _ {t u : Tree} {m lo hi at : ℕ} (w : Ends t m lo hi) (s : Same t u lo hi at) where
  -- the first c of them end there too
  pub past-moved : (c : ℕ) → c ≤ m → lo + past u c at ≡ at + past t c lo
  past-moved c h =
      let r = ends-split w c (m - c) (omega arith) in
      let g = ends-room r.0 in
      let z = ends-past (ends-moved s r.0 at (at + past t c lo - lo) (omega arith) (omega arith) (omega arith)
      (omega (arith, ends-room r.1))) in
      omega (arith, z)

  -- and the tree at i
  pub end_moved : (i j : ℕ) → at + i ≡ lo + j → lo ≤ i → i < hi → lo + end u j ≡ at + end t i
  end_moved i j d p q =
      let r = ends-tree w i p q in
      let g = ends-room r.0 in
      let z = ends-past (ends-moved s r.0 j (at + end t i - lo) d (omega arith) p r.1) in
      omega (arith, z)

  -- and its children begin there
  pub child-moved : (i j c : ℕ) → at + i ≡ lo + j → lo ≤ i → i < hi → c ≤ arity (t.kind i) (t.value i)
      → lo + child u j c ≡ at + child t i c
  child-moved i j c d p q h =
      let r = ends-split (tree-below w i p q) c (arity (t.kind i) (t.value i) - c) (omega arith) in
      let g = ends-room r.0 in
      let z = ends-past (ends-moved s r.0 (suc j) (at + child t i c - lo) (omega arith) (omega arith) (omega arith)
      (omega (arith, ends-room r.1, end-in w i p q))) in
      omega (arith, z)

  -- the search upwards, where it finds something among them
  enclosing-moved : (r i j p q : ℕ) → at + i ≡ lo + j → at + p ≡ lo + q → lo ≤ r → r < p → p ≤ hi → i < end t r
      → lo + enclosing u j q ≡ at + enclosing t i p
  unfolding enclosing
  enclosing-moved r i j zero q d e a b c x = absurd (omega arith)
  enclosing-moved r i j (suc p) zero d e a b c x = absurd (omega arith)
  enclosing-moved r i j (suc p) (suc q) d e a b c x =
      let g : lo + end u q ≡ at + end t p = end_moved p q (omega arith) (omega arith) (omega arith) in
      ⊎_elim
      (λ h. let y = pick_true q (enclosing u j q) (lt-ltb j (end u q) (omega arith)) in
      let z = pick_true p (enclosing t i p) (lt-ltb i (end t p) h) in
      omega (arith, y, z))
      (λ h. let l : r < p = ⊎_elim (λ o. o) (λ o. absurd
      (let z : p ≡ r = omega arith in let y : end t r ≤ i = subst (λ (v : ℕ). end t v ≤ i) z h in omega arith))
      (below r p) in
      let y = pick-false q (enclosing u j q) (le-ltb j (end u q) (omega arith)) in
      let z = pick-false p (enclosing t i p) (le-ltb i (end t p) h) in
      omega (arith, y, z, enclosing-moved r i j p q d (omega arith) a l (omega arith) x))
      (below i (end t p))

  -- a token in the tree at r, other than r
  pub parent-moved : (r i j : ℕ) → at + i ≡ lo + j → lo ≤ r → r < i → i < end t r → i < hi
      → lo + parent u j ≡ at + parent t i
  parent-moved r i j e a b c d = enclosing-moved r i j i j e e a b (omega arith) c
