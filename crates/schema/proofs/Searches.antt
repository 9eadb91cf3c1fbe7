-- One turn of a search among the tokens of a kind, and each way that it ends. The premises are the facts as a loop's
-- record has them.
use mathlib.Core.Bool.{Bool, true, false}
use mathlib.Core.Path.{◌≡◌, refl, sym, ap, ◌∙◌, subst}
use mathlib.Core.List.Memᴰ
use mathlib.Core.List.{List, [], ◌∷◌, ◌++◌, map, Memᴰ}
use mathlib.Core.Logic.{⊎_elim}
use Prim.Native.Nat.{ℕ, zero, suc, ◌+◌, ◌-◌, ◌≤◌, ◌<◌}
use native.Mathlib.Omega.{arith}
use borrow.Author.Tests.{eq-eqb, eqb-true}
use Rattle.lists.proofs.Tests.{never, both_true, below, true-or-false}
use lib.Dec.{eqb}
use Rattle.lists.specs.Lists.{pick, both, either, over, first, any_of}
use Rattle.lists.proofs.Laws.{over-more, over_none, over-mem, mem-over, test-mem, mem-then}
use Rattle.grammar.specs.Tree.{Tree}
use Rattle.schema.specs.Declarations.{of_kind}
use Rattle.schema.specs.Scanned.{tokens_of}
use Rattle.schema.specs.Inner.{searched}
use Rattle.std.specs.Prelude.{Some, None, Option}

first_one : (p : ℕ → Bool) (i : ℕ) (xs : List ℕ) → first p (i ∷ xs) ≡ pick (p i) (Some i) (first p xs)
unfolding first
first_one p i xs = refl

pub first_kind : (t : Tree) (k i : ℕ) (p : ℕ → Bool) (xs : List ℕ) → first p (of_kind t k i ++ xs) ≡ pick
    (both (eqb (t.kind i) k) (p i)) (Some i) (first p xs)
first_kind t k i p xs = go (eqb (t.kind i) k)
  where
    go : (b : Bool) → first p (pick b (i ∷ []) [] ++ xs) ≡ pick (both b (p i)) (Some i) (first p xs)
    go true = first_one p i xs
    go false = refl

-- token j, of those up to `to`, where b says whether it is one that is searched for
module _ (t : Tree) (k : ℕ) (p : ℕ → Bool) (j to : ℕ) (b : Bool) (x : Option ℕ)
    (e : b ≡ both (eqb (t.kind j) k) (p j)) (i : searched p t k j to ≡ x) (h : j < to) where
  turn : pick b (Some j) (first p (over (of_kind t k) (j + 1) to)) ≡ x
  unfolding searched
  turn = rw e (sym (first_kind t k j p (over (of_kind t k) (j + 1) to)) ∙ ap (first p)
      (sym (over-more (of_kind t k) j to h)) ∙ i)

  pub search-hit : b ≡ true → Some j ≡ x
  search-hit g = rw g at turn

  pub search-on : b ≡ false → searched p t k (j + 1) to ≡ x
  unfolding searched
  search-on g = rw g at turn

pub search-end : (t : Tree) (k : ℕ) (p : ℕ → Bool) (j to : ℕ) (x : Option ℕ) → searched p t k j to ≡ x → to ≤ j → None
    ≡ x
unfolding searched first
search-end t k p j to x i h = rw (over_none (of_kind t k) j to h) at i

-- ---- what was found
pub record Hit (p : ℕ → Bool) (t : Tree) (k a b i : ℕ) : Type 0 where
  pub low : a ≤ i
  pub high : i < b
  pub kind : t.kind i ≡ k
  pub passes : p i ≡ true

hit-by : (p : ℕ → Bool) (t : Tree) (k m a b i : ℕ) → m + a ≡ b → searched p t k a b ≡ Some i → Hit p t k a b i
hit-by p t k zero a b i e h = absurd (let z = search-end t k p a b (Some i) h (omega arith) in let o : ◌≡◌ {A = ℕ} 0
    1 = cc in omega arith)
hit-by p t k (suc m) a b i e h = ⊎_elim
    (λ g. let z : Some a ≡ Some i = search-hit t k p a b _ (Some i) refl h (omega arith) g in
    let y : a ≡ i = cc in
    let c = both_true (eqb (t.kind a) k) (p a) g in
    subst (λ (j : ℕ). Hit p t k a b j) y (record {
      low = omega arith;
      high = omega arith;
      kind = eqb-true (t.kind a)
          k c.0;
      passes = c.1;
    }))
    (λ g. let r = hit-by p t k m (a + 1) b i (omega arith) (search-on t k p a b _ (Some i) refl h (omega arith) g) in
    record { low = omega (arith, r.low); high = r.high; kind = r.kind; passes = r.passes })
    (true-or-false (both (eqb (t.kind a) k) (p a)))

pub hit : (p : ℕ → Bool) (t : Tree) (k a b i : ℕ) → searched p t k a b ≡ Some i → Hit p t k a b i
hit p t k a b i h = ⊎_elim
    (λ g. hit-by p t k (b - a) a b i (omega arith) h)
    (λ g. absurd (let z = search-end t k p a b (Some i) h g in let o : ◌≡◌ {A = ℕ} 0 1 = cc in omega arith))
    (below a b)

-- and none before it passes
before-by : (p : ℕ → Bool) (t : Tree) (k m a b i j : ℕ) → m + a ≡ b → searched p t k a b ≡ Some i → a ≤ j → j < i
    → t.kind j ≡ k → p j ≡ false
before-by p t k zero a b i j e h g l c = absurd (let z = search-end t k p a b (Some i) h (omega arith) in let o : ◌≡◌
    {A = ℕ} 0 1 = cc in omega arith)
before-by p t k (suc m) a b i j e h g l c = ⊎_elim
    (λ y. let z : Some a ≡ Some i = search-hit t k p a b _ (Some i) refl h (omega arith) y in
    let o : a ≡ i = cc in absurd (omega arith))
    (λ y. ⊎_elim
    (λ o. before-by p t k m (a + 1) b i j (omega arith) (search-on t k p a b _ (Some i) refl h (omega arith) y)
    (omega arith) l c)
    (λ o. let z : j ≡ a = omega arith in
    let u : eqb (t.kind a) k ≡ true = eq-eqb (t.kind a) k (ap t.kind (sym z) ∙ c) in
    ap p z ∙ (rw u at y))
    (below a j))
    (true-or-false (both (eqb (t.kind a) k) (p a)))

pub hit-first : (p : ℕ → Bool) (t : Tree) (k a b i j : ℕ) → searched p t k a b ≡ Some i → a ≤ j → j < i → t.kind j ≡ k
    → p j ≡ false
hit-first p t k a b i j h g l c = ⊎_elim
    (λ o. before-by p t k (b - a) a b i j (omega arith) h g l c)
    (λ o. absurd (let z = search-end t k p a b (Some i) h o in let y : ◌≡◌ {A = ℕ} 0 1 = cc in omega arith))
    (below a b)

-- a search among all tokens is one among those of the kind
pub searched-all : (p : ℕ → Bool) (t : Tree) (k n : ℕ) → t.size ≡ n → searched p t k 0 n ≡ first p (tokens_of t k)
unfolding searched tokens_of
searched-all p t k n e = rw (← e)

-- ---- what was answered
pub there-is : {q : Option ℕ} (x : Option ℕ) (i : ℕ) → q ≡ x → q ≡ Some i → x ≡ Some i
there-is None i e h = absurd (let z : None ≡ Some i = sym e ∙ h in let o : ◌≡◌ {A = ℕ} 0 1 = cc in omega arith)
there-is (Some j) i e h = let z : Some j ≡ Some i = sym e ∙ h in let y : j ≡ i = cc in ap Some y

pub absent-is : {q : Option ℕ} (x : Option ℕ) → q ≡ x → q ≡ None → x ≡ None
absent-is None e h = refl
absent-is (Some j) e h = absurd (let z : Some j ≡ None = sym e ∙ h in let o : ◌≡◌ {A = ℕ} 0 1 = cc in omega arith)

-- ---- a test over what is made of tokens is one over the tokens
pub any-map : {A : Type 0} (g : ℕ → A) (p : A → Bool) (is : List ℕ) → any_of p (map g is) ≡ any_of (λ i. p (g i)) is
unfolding any_of
any-map g p [] = refl
any-map g p (i ∷ is) = ap (either (p (g i))) (any-map g p is)

-- one passes exactly when there is a first that does
abbrev pub is_there : {A : Type 0} → Option A → Bool
is_there None = false
is_there (Some a) = true

pub any-first : (p : ℕ → Bool) (is : List ℕ) → any_of p is ≡ is_there (first p is)
unfolding any_of first
any-first p [] = refl
any-first p (i ∷ is) = rw (any-first p is) (go (p i))
  where
    go : (b : Bool) → either b (is_there (first p is)) ≡ is_there (pick b (Some i) (first p is))
    go true = refl
    go false = refl

-- the first of what is made of tokens
abbrev pub mapped : {A B : Type 0} → (A → B) → Option A → Option B
mapped g None = None
mapped g (Some a) = Some (g a)

pub first-map : {A : Type 0} (g : ℕ → A) (p : A → Bool) (is : List ℕ) → first p (map g is) ≡ mapped g
    (first (λ i. p (g i)) is)
unfolding first
first-map g p [] = refl
first-map g p (i ∷ is) = rw (first-map g p is) (go (p (g i)))
  where
    go : (b : Bool) → pick b (Some (g i)) (mapped g (first (λ i. p (g i)) is)) ≡ mapped g
        (pick b (Some i) (first (λ i. p (g i)) is))
    go true = refl
    go false = refl

-- ---- members of a list: none passes, where no first is there, or no one passes
pub none-mem : {A : Type 0} {x : A} (p : A → Bool) (l : List A) → first p l ≡ None → Memᴰ x l → p x ≡ false
unfolding first
none-mem p [] e m = absurd (Memᴰ.not-nil m)
none-mem {A} {x} p (y ∷ ys) e m = go (p y) refl e (none-mem p ys)
  where
    go : (b : Bool) → p y ≡ b → pick b (Some y) (first p ys) ≡ None
        → (first p ys ≡ None → Memᴰ x ys → p x ≡ false) → p x ≡ false
    go true g h r = absurd (let z : ◌≡◌ {A = ℕ} 0 1 = cc in omega arith)
    go false g h r = ⊎_elim (λ i. subst (λ (z : A). p z ≡ false) (sym i) g) (λ i. r h i) (Memᴰ.cases_cons m)

pub not-any : {A : Type 0} {x : A} (p : A → Bool) (l : List A) → any_of p l ≡ false → Memᴰ x l → p x ≡ false
unfolding any_of
not-any p [] e m = absurd (Memᴰ.not-nil m)
not-any {A} {x} p (y ∷ ys) e m = go (p y) refl e (not-any p ys)
  where
    go : (b : Bool) → p y ≡ b → either b (any_of p ys) ≡ false → (any_of p ys ≡ false → Memᴰ x ys → p x ≡ false)
        → p x ≡ false
    go true g h r = never (sym h)
    go false g h r = ⊎_elim (λ i. subst (λ (z : A). p z ≡ false) (sym i) g) (λ i. r h i) (Memᴰ.cases_cons m)

-- ---- the tokens of a kind: those that stand there
module _ (t : Tree) (k : ℕ) where
  pub kind-mem : (a b j : ℕ) → a ≤ j → j < b → t.kind j ≡ k → Memᴰ j (over (of_kind t k) a b)
  kind-mem a b j h g e = mem-over (of_kind t k) a b j h g
      (mem-then (eqb (t.kind j) k) (j ∷ []) [] (eq-eqb (t.kind j) k e) (Memᴰ.head refl))

  pub mem-kind : {i : ℕ} (a b : ℕ) → Memᴰ i (over (of_kind t k) a b) → (a ≤ i) × (i < b) × (t.kind i ≡ k)
  mem-kind {i} a b m =
      let r = over-mem (of_kind t k) a b m in
      let j = r.0 in
      let u = test-mem (eqb (t.kind j) k) (j ∷ []) r.3 in
      let e : i ≡ j = Memᴰ.eq_of_singleton u.1 in
      (omega (arith, r.1), omega (arith, r.2), ap t.kind e ∙ eqb-true (t.kind j) k u.0)
