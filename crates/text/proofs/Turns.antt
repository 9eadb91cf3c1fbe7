-- The common start of two texts, and what is known where it ends.
use mathlib.Core.Path.{◌≡◌, ◌∙◌, refl, sym, ap, subst}
use mathlib.Core.List.{List, [], ◌∷◌}
use mathlib.Core.Bool.{Bool, true, false, not}
use mathlib.Core.Logic.{◌⊎◌, inl, inr}
use Prim.Native.Nat.{ℕ, zero, suc, ◌+◌, ◌≤◌, ◌<◌}
use lib.Dec.{eqb, ltb}
use lib.ListN.{length, get_or}
use native.Mathlib.Decide.{dec_lt}
use native.Mathlib.Omega.{arith}
use borrow.Author.Tests.{eqb-true, eqb-false, eq-eqb, ne_eqb, lt-ltb, le-ltb}
use Rattle.lists.specs.Lists.{pick, both}
use Rattle.lists.proofs.Tests.{true-or-false}
use Rattle.std.specs.declared.cmp.Ordering.{Ordering}
use Rattle.std.specs.declared.cmp.Ordering.TheVariants.{Less, Equal, Greater}
use Rattle.std.specs.Ordering.{nat_cmp, is_eq}
use Rattle.text.specs.Text.{same_text, order_of}
use Rattle.text.specs.BytePairs.{common_start, order_pairs}
use Rattle.text.specs.Inner.{number_order, differ, shorter_of, Told}
use Rattle.text.proofs.Laws.{same-is}

-- how one number stands to another
module _ (x y : ℕ) where
  pub one-equal : x ≡ y → Equal ≡ number_order x y
  unfolding order_of
  one-equal e = rw (le-ltb x y (omega arith), le-ltb y x (omega arith))

  pub one_less : x < y → Less ≡ number_order x y
  unfolding order_of
  one_less l = rw (lt-ltb x y l)

  pub one_more_lem : y < x → Greater ≡ number_order x y
  unfolding order_of
  one_more_lem l = rw (le-ltb x y (omega arith), lt-ltb y x l)

  -- it is one of the three
  one_of : (P : Ordering → Type 0) → (x ≡ y → P Equal) → (x < y → P Less) → (y < x → P Greater)
      → P (number_order x y)
  one_of P e l g = go (dec_lt x y) (dec_lt y x)
    where
      go : Dec (x < y) → Dec (y < x) → P (number_order x y)
      go (yes h) d = subst P (one_less h) (l h)
      go (no h) (yes k) = subst P (one_more_lem k) (g k)
      go (no h) (no k) = subst P (one-equal (omega arith)) (e (omega arith))

-- the library's `cmp` of two numbers answers so
pub order-cmp : (x y : ℕ) → nat_cmp x y ≡ number_order x y
order-cmp x y = one_of x y (λ (o : Ordering). nat_cmp x y ≡ o)
    (λ e. rw (le-ltb x y (omega arith), eq-eqb x y e))
    (λ l. rw (lt-ltb x y l))
    (λ g. rw (le-ltb x y (omega arith), ne_eqb x y (λ e. omega arith)))

-- and it stays where each is made one greater
suc-order : (x y : ℕ) → number_order x y ≡ number_order (suc x) (suc y)
suc-order x y = one_of x y (λ (o : Ordering). o ≡ number_order (suc x) (suc y))
    (λ e. one-equal (suc x) (suc y) (ap suc e))
    (λ l. one_less (suc x) (suc y) (omega arith))
    (λ g. one_more_lem (suc x) (suc y) (omega arith))

-- two numbers differ as their order says
one-differ : (x y : ℕ) → eqb x y ≡ not (differ (number_order x y))
one-differ x y = one_of x y (λ (o : Ordering). eqb x y ≡ not (differ o))
    (λ e. eq-eqb x y e) (λ l. ne_eqb x y (λ e. omega arith)) (λ g. ne_eqb x y (λ e. omega arith))

-- the common start is as long as either text at most
pub start-most : (a b : List ℕ) → (common_start a b ≤ length a) × (common_start a b ≤ length b)
unfolding common_start
start-most [] b = (omega arith, omega arith)
start-most (x ∷ a) [] = (omega arith, omega arith)
start-most (x ∷ a) (y ∷ b) = go (eqb x y) (start-most a b)
  where
    go : (t : Bool) → (common_start a b ≤ length a) × (common_start a b ≤ length b)
        → (pick t (suc (common_start a b)) 0 ≤ suc (length a)) × (pick t (suc (common_start a b)) 0 ≤ suc (length b))
    go true r = (omega arith, omega arith)
    go false r = (omega arith, omega arith)

-- first bytes that differ have the order of the texts, which have no start in common
first-apart : (x y : ℕ) (a b : List ℕ) → (x ≡ y → ⊥)
    → (common_start (x ∷ a) (y ∷ b) ≡ 0) × (order_of (x ∷ a) (y ∷ b) ≡ number_order x y)
unfolding common_start order_of
first-apart x y a b n = (rw (ne_eqb x y n), go (dec_lt x y))
  where
    go : Dec (x < y) → pick (ltb x y) Less (pick (ltb y x) Greater (order_of a b))
        ≡ pick (ltb x y) Less (pick (ltb y x) Greater Equal)
    go (yes l) = rw (lt-ltb x y l)
    go (no l) = rw (lt-ltb y x (omega arith))

-- first bytes that are equal are of the common start, and leave the order to the others
pub first-same : (x y : ℕ) (a b : List ℕ) → x ≡ y
    → (common_start (x ∷ a) (y ∷ b) ≡ suc (common_start a b)) × (order_of (x ∷ a) (y ∷ b) ≡ order_of a b)
unfolding common_start order_of
first-same x y a b e = (rw (eq-eqb x y e), rw (le-ltb x y (omega arith), le-ltb y x (omega arith)))

-- the first bytes of a common start that has any are equal
start_first : (x y : ℕ) (a b : List ℕ) (i : ℕ) → suc i ≤ common_start (x ∷ a) (y ∷ b) → x ≡ y
unfolding common_start
start_first x y a b i h = go (eqb x y) refl h
  where
    go : (t : Bool) → eqb x y ≡ t → suc i ≤ pick t (suc (common_start a b)) 0 → x ≡ y
    go true e g = eqb-true x y e
    go false e g = absurd (omega arith)

-- a pair that is equal after i of the common start is of it too
pub start-more : (a b : List ℕ) (i : ℕ) → i ≤ common_start a b → i < length a → i < length b
    → get_or a i 0 ≡ get_or b i 0 → i + 1 ≤ common_start a b
start-more [] b i h p q e = absurd (omega arith)
start-more (x ∷ a) [] i h p q e = absurd (omega arith)
start-more (x ∷ a) (y ∷ b) zero h p q e = omega (arith, (first-same x y a b e).0)
start-more (x ∷ a) (y ∷ b) (suc i) h p q e =
    let f = (first-same x y a b (start_first x y a b i h)).0 in
    omega (arith, start-more a b i (omega arith) (omega arith) (omega arith) e)

-- a pair that differs after i of the common start ends it, and has the order of the texts
pub start-apart : (a b : List ℕ) (i : ℕ) → i ≤ common_start a b → i < length a → i < length b
    → (get_or a i 0 ≡ get_or b i 0 → ⊥)
    → (common_start a b ≡ i) × (order_of a b ≡ number_order (get_or a i 0) (get_or b i 0))
start-apart [] b i h p q n = absurd (omega arith)
start-apart (x ∷ a) [] i h p q n = absurd (omega arith)
start-apart (x ∷ a) (y ∷ b) zero h p q n = first-apart x y a b n
start-apart (x ∷ a) (y ∷ b) (suc i) h p q n =
    let f = first-same x y a b (start_first x y a b i h) in
    let r = start-apart a b i (omega (arith, f.0)) (omega arith) (omega arith) n in
    (f.0 ∙ ap suc r.0, f.1 ∙ r.1)

-- where a text is spent within the common start, that ends, and the lengths have the order of the texts
pub start-spent : (a b : List ℕ) (i : ℕ) → i ≤ common_start a b → shorter_of a b ≤ i
    → (common_start a b ≡ i) × (order_of a b ≡ number_order (length a) (length b))
unfolding common_start order_of
start-spent [] [] i h s = (omega arith, one-equal 0 0 refl)
start-spent [] (y ∷ b) i h s = (omega arith, one_less 0 (length (y ∷ b)) (omega arith))
start-spent (x ∷ a) [] i h s = (omega arith, one_more_lem (length (x ∷ a)) 0 (omega arith))
start-spent (x ∷ a) (y ∷ b) zero h s = absurd (omega arith)
start-spent (x ∷ a) (y ∷ b) (suc i) h s =
    let f = first-same x y a b (start_first x y a b i h) in
    let r = start-spent a b i (omega (arith, f.0)) (omega arith) in
    (f.0 ∙ ap suc r.0, f.1 ∙ r.1 ∙ suc-order (length a) (length b))

-- both go on at i, where the common start ends: the pair there is looked at too; one of them is spent: it is not
pub pairs-on : (a b : List ℕ) (i : ℕ) → common_start a b ≡ i → i < length a → i < length b → i + 1 ≡ order_pairs a b
pairs-on a b i e p q = rw (e, lt-ltb i (length a) p, lt-ltb i (length b) q)

pub pairs-spent : (a b : List ℕ) (i : ℕ) → common_start a b ≡ i → shorter_of a b ≤ i → i ≡ order_pairs a b
pairs-spent a b i e s = go (dec_lt i (length a))
  where
    go : Dec (i < length a) → i ≡ order_pairs a b
    go (yes p) = rw (e, lt-ltb i (length a) p, le-ltb i (length b) (omega arith)) (omega arith)
    go (no p) = rw (e, le-ltb i (length a) (omega arith)) (omega arith)

-- what looking at the pair after i of the common start tells
pub told-pair : (a b : List ℕ) (i : ℕ) (o : Ordering) (n : ℕ) → i ≤ common_start a b → i < length a → i < length b
    → o ≡ number_order (get_or a i 0) (get_or b i 0) → n ≡ i + 1 → Told a b o n
told-pair a b i o n h p q e k =
    let t : eqb (get_or a i 0) (get_or b i 0) ≡ not (differ o) = rw e (one-differ (get_or a i 0) (get_or b i 0)) in (
      λ f. omega (arith, start-more a b i h p q (eqb-true _ _ (t ∙ ap not f))),
      λ f. let r = start-apart a b i h p q (eqb-false _ _ (t ∙ ap not f)) in
          (e ∙ sym r.1, k ∙ pairs-on a b i r.0 p q),
    )

-- two texts are the same where their order is Equal, and never where their lengths differ
pub same-order : (a b : List ℕ) → not (differ (order_of a b)) ≡ same_text a b
unfolding order_of same_text
same-order [] [] = refl
same-order [] (y ∷ b) = refl
same-order (x ∷ a) [] = refl
same-order (x ∷ a) (y ∷ b) = go (eqb x y) refl (same-order a b)
  where
    go : (t : Bool) → eqb x y ≡ t → not (differ (order_of a b)) ≡ same_text a b
        → not (differ (order_of (x ∷ a) (y ∷ b))) ≡ both (eqb x y) (same_text a b)
    go true e r = rw ((first-same x y a b (eqb-true x y e)).1, r, e)
    go false e r = rw ((first-apart x y a b (eqb-false x y e)).1, ← one-differ x y, e)

pub same-eq : (a b : List ℕ) (o : Ordering) (t : Bool) → t ≡ is_eq o → o ≡ order_of a b → t ≡ same_text a b
same-eq a b o t e h = e ∙ go o ∙ ap (λ (p : Ordering). not (differ p)) h ∙ same-order a b
  where
    go : (p : Ordering) → is_eq p ≡ not (differ p)
    go Less = refl
    go Equal = refl
    go Greater = refl

pub same-lengths : (a b : List ℕ) → (length a ≡ length b → ⊥) → false ≡ same_text a b
same-lengths a b h = go (true-or-false (same_text a b))
  where
    go : (same_text a b ≡ true) ⊎ (same_text a b ≡ false) → false ≡ same_text a b
    go (inl e) = absurd (h (ap length (same-is a b e)))
    go (inr e) = sym e
