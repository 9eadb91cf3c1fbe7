-- The list of an accepted statement has every breach, each once, in order, and no others.
use mathlib.Core.Bool.{true}
use mathlib.Core.Logic.{⊎_elim, inl, inr, ◌↔◌}
use mathlib.Core.Path.{◌≡◌, refl, sym, ◌∙◌, subst}
use mathlib.Core.List.{List, [], ◌∷◌, Memᴰ}
use Prim.Native.Nat.{ℕ, zero, suc, ◌≤◌, ◌<◌}
use native.Mathlib.Omega.{arith}
use borrow.Author.Tests.{le-leb, lt-leb}
use Rattle.lists.proofs.Tests.{below}
use Rattle.lists.proofs.Laws.{over-mem, mem-over}
use Rattle.grammar.specs.Tree.{Tree, past, end, child}
use Rattle.grammar.proofs.Places.{past-suc, past-mono, locate}
use Rattle.grammar.proofs.Formed.{Rooted}
use Rattle.provider.specs.Schema.{Schema}
use Rattle.breach.specs.Breach.{Item, clause_among, clause_of, is_element, Breach, unknown_label, unknown_rel_type, unknown_function, function_arity, unknown_procedure, procedure_arity, apart_node, apart_set, undeclared_key, wrong_type, unbacked}
use Rattle.breach.specs.Listing.{clause_items, listed}
use Rattle.breach.specs.Order.{key, whole_key, Ascending, AllBreaches}
use Rattle.breach.proofs.Exact.{element-cases, clause-exact}
use Rattle.breach.proofs.Ascending.{asc-over, clause-ascending}

-- ---- the clause of a token: one that stands between the places where clause c and the next begin has clause c
module _ (t : Tree) where
  clause-is : (i c n : ℕ) → c < n → past t c 1 ≤ i → i < past t (suc c) 1 → clause_among t i n ≡ c
  unfolding clause_among
  clause-is i c zero b p q = absurd (omega arith)
  clause-is i c (suc n) b p q = ⊎_elim
      (λ h. rw (lt-leb (past t n 1) i (omega (arith, past-mono t (suc c) n 1 h))) (clause-is i c n h p q))
      (λ h. let e : c ≡ n = omega arith in let g : past t n 1 ≤ i = subst (λ (z : ℕ). past t z 1 ≤ i) e p in rw
      (le-leb (past t n 1) i g) (sym e))
      (below c n)

-- token i stands in clause c: among the tokens of the tree that is that child of the Statement
abbrev pub StandsIn : Tree → ℕ → ℕ → Type 0
StandsIn t i c = (c < t.value 0) × (child t 0 c ≤ i) × (i < end t (child t 0 c))

-- A token that stands in clause c has the clause number c
pub stands-clause : (t : Tree) (i c : ℕ) → StandsIn t i c → clause_of t i ≡ c
stands-clause t i c h = clause-is t i c (t.value 0) h.0 h.1 (rw (past-suc t c 1) h.2)

-- ---- the owner of a breach is its token, its clause is the owner's, and the token is neither the Statement nor past
-- the end
module _ (t : Tree) (s : Schema) (i : ℕ) where
  pub breach-owner : {x : Item} → Breach t s i x → x.owner ≡ i
  breach-owner (unknown_label j k b d) = refl
  breach-owner (unknown_rel_type j k b d) = refl
  breach-owner (unknown_function k f) = refl
  breach-owner (function_arity g k f c) = refl
  breach-owner (unknown_procedure k f) = refl
  breach-owner (procedure_arity g k f c) = refl
  breach-owner (apart_node k h n a) = refl
  breach-owner (apart_set k n a) = refl
  breach-owner (undeclared_key j e n m b p) = refl
  breach-owner (wrong_type j p a e n m b q l c) = refl
  breach-owner (unbacked e h n m u b) = refl

  pub breach-clause : {x : Item} → Breach t s i x → x.clause ≡ clause_of t x.owner
  breach-clause (unknown_label j k b d) = refl
  breach-clause (unknown_rel_type j k b d) = refl
  breach-clause (unknown_function k f) = refl
  breach-clause (function_arity g k f c) = refl
  breach-clause (unknown_procedure k f) = refl
  breach-clause (procedure_arity g k f c) = refl
  breach-clause (apart_node k h n a) = refl
  breach-clause (apart_set k n a) = refl
  breach-clause (undeclared_key j e n m b p) = refl
  breach-clause (wrong_type j p a e n m b q l c) = refl
  breach-clause (unbacked e h n m u b) = refl

  element-kind : is_element (t.kind i) ≡ true → (1 ≤ t.kind i) × (t.kind i < 90)
  element-kind e = ⊎_elim (λ k. (omega arith, omega arith)) (λ k. (omega arith, omega arith))
      (element-cases (t.kind i) e)

  breach-kind : {x : Item} → Breach t s i x → (1 ≤ t.kind i) × (t.kind i < 90)
  breach-kind (unknown_label j k b d) = (omega arith, omega arith)
  breach-kind (unknown_rel_type j k b d) = (omega arith, omega arith)
  breach-kind (unknown_function k f) = (omega arith, omega arith)
  breach-kind (function_arity g k f c) = (omega arith, omega arith)
  breach-kind (unknown_procedure k f) = (omega arith, omega arith)
  breach-kind (procedure_arity g k f c) = (omega arith, omega arith)
  breach-kind (apart_node k h n a) = (omega arith, omega arith)
  breach-kind (apart_set k n a) = (omega arith, omega arith)
  breach-kind (undeclared_key j e n m b p) = element-kind e
  breach-kind (wrong_type j p a e n m b q l c) = element-kind e
  breach-kind (unbacked e h n m u b) = element-kind e

-- ---- ascending within one clause is ascending over all
lifted : (c : ℕ) (xs : List Item) → ((x : Item) → Memᴰ x xs → x.clause ≡ c) → Ascending key xs
    → Ascending whole_key xs
lifted c [] f a = tt
lifted c (x ∷ xs) f a = (
  (λ y m. inr (f x (Memᴰ.head refl) ∙ sym (f y (Memᴰ.tail m)), a.0 y m)),
  lifted c xs (λ y m. f y (Memᴰ.tail m)) a.1,
)

module _ (t : Tree) (s : Schema) (ok : Rooted 90 t) where
  -- an item is in the list exactly when it is a breach of some token
  pub list-exact : (x : Item) → Memᴰ x (listed t s) ↔ ((i : ℕ) × Breach t s i x)
  unfolding listed
  list-exact x = (
    (λ h. let r = over-mem (λ c. clause_items t s (child t 0 c)) 0 (t.value 0) h in
        let q = (clause-exact t s (child t 0 r.0) x).0 r.3 in (q.0, q.3)),
    λ r. let k = breach-kind t s r.0 r.1 in
        let low : 1 ≤ r.0 = ⊎_elim (λ p. p) (λ p. absurd
        (let e : r.0 ≡ 0 = omega arith in let g : t.kind r.0 ≡ 90 = rw e ok.root in omega (arith, k.1)))
        (below 0 r.0) in
        let high : r.0 < t.size = ⊎_elim (λ p. p) (λ p. absurd (omega (arith, k.0, ok.outside r.0 p)))
        (below r.0 t.size) in
        let l = locate t (t.value 0) 1 r.0 low (rw ok.covers high) in
        mem-over (λ c. clause_items t s (child t 0 c)) 0 (t.value 0) l.0 (omega arith) l.1
        ((clause-exact t s (child t 0 l.0) x).1 (r.0, l.2, l.3, r.1)),
  )

  -- the items of clause c have its number
  pub in-clause : (c : ℕ) → c < t.value 0 → (x : Item) → Memᴰ x (clause_items t s (child t 0 c)) → x.clause ≡ c
  in-clause c b x m =
      let q = (clause-exact t s (child t 0 c) x).0 m in
      breach-clause t s q.0 q.3 ∙ rw (breach-owner t s q.0 q.3)
      (stands-clause t q.0 c (b, q.1, q.2))

  -- the clause of an item is its owner's
  pub owner-clause : (x : Item) → Memᴰ x (listed t s) → x.clause ≡ clause_of t x.owner
  owner-clause x m = let b = (list-exact x).0 m in breach-clause t s b.0 b.1

  -- the owner of an item stands in the item's clause
  stands-as : (i j c d : ℕ) → j ≡ i → d ≡ c → StandsIn t i c → StandsIn t j d
  stands-as i j c d e f h = rw (e, f) h

  pub owner-stands : (x : Item) → Memᴰ x (listed t s) → StandsIn t x.owner x.clause
  unfolding listed
  owner-stands x m =
      let r = over-mem (λ c. clause_items t s (child t 0 c)) 0 (t.value 0) m in
      let q = (clause-exact t s (child t 0 r.0) x).0 r.3 in
      stands-as q.0 x.owner r.0 x.clause (breach-owner t s q.0 q.3) (in-clause r.0 r.2 x r.3)
      (r.2, q.1, q.2)

  -- strictly ascending by clause; within it every E3009 last; then owner, stage, ordinal
  list-ascending : Ascending whole_key (listed t s)
  unfolding listed
  list-ascending = asc-over whole_key (λ c. clause_items t s (child t 0 c)) 0 (t.value 0)
      (λ c p q. lifted c _ (in-clause c q) (clause-ascending t s (child t 0 c)))
      (λ b c x y p q r m n. inl (let e = in-clause b (omega arith) x m in let f = in-clause c r y n in omega
      (arith, e, f)))

  -- the list has all breaches, in order
  pub all-breaches : AllBreaches t s (listed t s)
  all-breaches = record { exact = list-exact; ascending = list-ascending }
