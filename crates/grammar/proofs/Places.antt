-- Laws of positions: where trees end, that they nest, and which token a child belongs to.
use mathlib.Core.Path.{◌≡◌, refl, sym, ◌∙◌, subst}
use mathlib.Core.Logic.{⊎_elim}
use Prim.Native.Nat.{ℕ, zero, suc, ◌+◌, ◌-◌, ◌≤◌, ◌<◌}
use native.Mathlib.Nat.{zero-add, suc-add, add_right_comm}
use native.Mathlib.Omega.{arith}
use borrow.Author.Tests.{lt-ltb, le-ltb}
use Rattle.lists.proofs.Tests.{pick_true, pick-false, below}
use Rattle.rules.specs.Rules.{arity}
use Rattle.grammar.specs.Tree.{Tree, pass, past, end, child, enclosing, parent}

module _ (t : Tree) where
  pub past-none : (i : ℕ) → past t 0 i ≡ i
  unfolding past pass
  past-none i = go (t.size - i)
    where
      go : (l : ℕ) → pass (λ j. arity (t.kind j) (t.value j)) l 0 i ≡ i
      go zero = refl
      go (suc l) = refl

  pub past-out : (n i : ℕ) → t.size ≤ i → past t n i ≡ i
  unfolding past pass
  past-out n i h =
      let e : t.size - i ≡ 0 = omega arith in
      rw e

  pub past-node : (n i : ℕ) → i < t.size → past t (suc n) i ≡ past t (n + arity (t.kind i) (t.value i)) (suc i)
  unfolding past pass
  past-node n i h =
      let e : t.size - i ≡ suc (t.size - suc i) = omega arith in
      rw e

  -- the tree at i ends where its children do
  pub end-node : (i : ℕ) → i < t.size → end t i ≡ child t i (arity (t.kind i) (t.value i))
  end-node i h = past-node 0 i h ∙ rw zero-add

  -- by the number l of tokens from i on
  add-by : (l n m i : ℕ) → l + i ≡ t.size → past t (n + m) i ≡ past t m (past t n i)
  add-by zero n m i e = rw (past-out (n + m) i (omega arith), past-out n i (omega arith), past-out m i (omega arith))
  add-by (suc l) zero m i e = rw (zero-add, past-none)
  add-by (suc l) (suc n) m i e =
      rw (
        suc-add,
        past-node (n + m) i (omega arith),
        past-node n i (omega arith),
        add_right_comm n m
            (arity (t.kind i) (t.value i)),
      )
      (add-by l (n + arity (t.kind i) (t.value i)) m (suc i) (omega arith))

  pub past-add : (n m i : ℕ) → past t (n + m) i ≡ past t m (past t n i)
  past-add n m i = ⊎_elim
      (λ h. add-by (t.size - i) n m i (omega arith))
      (λ h. rw (past-out (n + m) i h, past-out n i h, past-out m i h))
      (below i t.size)

  pub past-suc : (n i : ℕ) → past t (suc n) i ≡ end t (past t n i)
  past-suc n i =
      let e : suc n ≡ n + 1 = omega arith in
      rw e (past-add n 1 i)

  ge-by : (l n i : ℕ) → l + i ≡ t.size → i ≤ past t n i
  ge-by zero n i e = rw (past-out n i (omega arith)) (omega arith)
  ge-by (suc l) zero i e = rw past-none (omega arith)
  ge-by (suc l) (suc n) i e =
      rw (past-node n i (omega arith))
      (omega (arith, ge-by l (n + arity (t.kind i) (t.value i)) (suc i) (omega arith)))

  pub past-ge : (n i : ℕ) → i ≤ past t n i
  past-ge n i = ⊎_elim (λ h. ge-by (t.size - i) n i (omega arith)) (λ h. rw (past-out n i h) (omega arith))
      (below i t.size)

  pub end-gt : (i : ℕ) → i < t.size → i < end t i
  end-gt i h = rw (past-node 0 i h) (past-ge _ (suc i))

  le-by : (l n i : ℕ) → l + i ≡ t.size → past t n i ≤ t.size
  le-by zero n i e = rw (past-out n i (omega arith)) (omega arith)
  le-by (suc l) zero i e = rw past-none (omega arith)
  le-by (suc l) (suc n) i e = rw (past-node n i (omega arith))
      (le-by l (n + arity (t.kind i) (t.value i)) (suc i) (omega arith))

  pub past-le : (n i : ℕ) → i ≤ t.size → past t n i ≤ t.size
  past-le n i h = le-by (t.size - i) n i (omega arith)

  -- more trees end no sooner
  pub past-mono : (n m i : ℕ) → n ≤ m → past t n i ≤ past t m i
  past-mono n m i h =
      let e : m ≡ n + (m - n) = omega arith in
      rw (e, past-add n (m - n) i) (past-ge (m - n) (past t n i))

  -- a tree that starts inside n trees ends inside them
  nest-by : (l n i j : ℕ) → l + i ≡ t.size → i ≤ j → j < past t n i → end t j ≤ past t n i
  nest-by zero n i j e p q = absurd (let h : past t n i ≡ i = past-out n i (omega arith) in omega arith)
  nest-by (suc l) zero i j e p q = absurd (omega (arith, past-none i))
  nest-by (suc l) (suc n) i j e p q = ⊎_elim
      (λ h. subst (λ (k : ℕ). end t j ≤ k) (sym (past-node n i (omega arith)))
      (nest-by l (n + arity (t.kind i) (t.value i)) (suc i) j (omega arith) h
      (subst (λ (k : ℕ). j < k) (past-node n i (omega arith)) q)))
      (λ h. let g : j ≡ i = omega arith in subst (λ (k : ℕ). end t k ≤ past t (suc n) i) (sym g)
      (past-mono 1 (suc n) i (omega arith)))
      (below i j)

  pub nest : (n i j : ℕ) → i ≤ j → j < past t n i → end t j ≤ past t n i
  nest n i j p q = ⊎_elim
      (λ h. nest-by (t.size - i) n i j (omega arith) p q)
      (λ h. absurd (omega (arith, past-out n i h)))
      (below i t.size)

  -- the search upwards from j: what it finds where every token between i and j ends by j
  above-is : (i j p : ℕ) → i < p → j < end t i → ((q : ℕ) → i < q → q < p → end t q ≤ j) → enclosing t j p ≡ i
  unfolding enclosing
  above-is i j zero h k g = absurd (omega arith)
  above-is i j (suc p) h k g = ⊎_elim
      (λ b. pick-false p (enclosing t j p) (le-ltb j (end t p) (g p b (omega arith))) ∙ above-is i j p b k
      (λ q x y. g q x (omega arith)))
      (λ b. let e : p ≡ i = omega arith in
      pick_true p (enclosing t j p) (lt-ltb j (end t p) (subst (λ (z : ℕ). j < end t z) (sym e) k)) ∙ e)
      (below i p)

  pub parent-child : (i c : ℕ) → i < t.size → c < arity (t.kind i) (t.value i) → child t i c < t.size → parent t
      (child t i c) ≡ i
  parent-child i c h k b =
      above-is i (child t i c) (child t i c) (past-ge c (suc i))
      (let e : end t i ≡ child t i (arity (t.kind i) (t.value i)) = end-node i h in
      let g : end t (child t i c) ≤ child t i (arity (t.kind i) (t.value i)) = rw (← past-suc c (suc i))
      (past-mono (suc c) _ (suc i) k) in
      let o : child t i c < end t (child t i c) = end-gt (child t i c) b in
      omega arith)
      (λ q x y. nest c (suc i) q x y)

  -- the search finds something from i up, where j is in the tree at i
  above-ge : (i j p : ℕ) → i < p → j < end t i → (i ≤ enclosing t j p) × (enclosing t j p < p)
      × (j < end t (enclosing t j p))
  unfolding enclosing
  above-ge i j zero h k = absurd (omega arith)
  above-ge i j (suc p) h k = ⊎_elim
      (λ b. let e : enclosing t j (suc p) ≡ p = pick_true p (enclosing t j p) (lt-ltb j (end t p) b) in
      subst (λ (z : ℕ). (i ≤ z) × (z < suc p) × (j < end t z)) (sym e) (omega arith, omega arith, b))
      (λ b. let e : enclosing t j (suc p) ≡ enclosing t j p = pick-false p (enclosing t j p) (le-ltb j (end t p) b) in
      let d : i < p = ⊎_elim (λ x. x) (λ x. absurd (let g : p ≡ i = omega arith in let y : end t i ≤ j = subst
      (λ (z : ℕ). end t z ≤ j) g b in omega arith)) (below i p) in
      let r : (i ≤ enclosing t j p) × (enclosing t j p < p) × (j < end t (enclosing t j p)) = above-ge i j p d k in
      subst (λ (z : ℕ). (i ≤ z) × (z < suc p) × (j < end t z)) (sym e) (r.0, omega arith, r.2))
      (below j (end t p))

  -- a token in the tree at i, other than i, belongs to i or to a token after i
  pub parent_in : (i j : ℕ) → i < j → j < end t i → (i ≤ parent t j) × (parent t j < j) × (j < end t (parent t j))
  parent_in i j h k = above-ge i j j h k

  -- a place inside n trees is inside one of them
  pub locate : (n i j : ℕ) → i ≤ j → j < past t n i → (c : ℕ) × (c < n) × (past t c i ≤ j) × (j < end t (past t c i))
  locate zero i j p q = absurd (omega (arith, past-none i))
  locate (suc n) i j p q = ⊎_elim
      (λ b. let r : (c : ℕ) × (c < n) × (past t c i ≤ j) × (j < end t (past t c i)) = locate n i j p b in
      (r.0, omega arith, r.2, r.3))
      (λ b. (n, omega arith, b, subst (λ (z : ℕ). j < z) (past-suc n i) q))
      (below j (past t n i))
