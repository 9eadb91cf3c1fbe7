-- The margin list of the check's list ascends strictly: by span start, and where starts are equal as the check's list.
use mathlib.Core.Path.{◌≡◌, refl, sym, ◌∙◌, subst}
use mathlib.Core.Bool.{Bool, true, false}
use mathlib.Core.Logic.{◌⊎◌, ⊎_elim, inl, inr}
use mathlib.Core.List.Memᴰ
use mathlib.Core.List.{List, [], ◌∷◌, ◌++◌, Memᴰ}
use Prim.Native.Nat.{ℕ}
use native.Mathlib.Omega.{arith}
use lib.ListN.{length}
use Rattle.lists.specs.Lists.{pick}
use Rattle.lists.proofs.Tests.{never, below}
use Rattle.lists.proofs.Joins.{perm-mem}
use Rattle.in_order.specs.InOrder.{before, insert, sorted}
use Rattle.in_order.proofs.Before.{before-empty, before_more, before_same, before-neither}
use Rattle.in_order.proofs.Sorting.{inserted, rearranged}
use Rattle.breach.specs.Breach.{Item}
use Rattle.breach.specs.Order.{Precedes, Ascending}

-- ---- keys
precedes-trans : (as' bs cs : List ℕ) → Precedes as' bs → Precedes bs cs → Precedes as' cs
precedes-trans [] bs cs p q = p
precedes-trans (a ∷ as') [] cs p q = absurd p
precedes-trans (a ∷ as') (b ∷ bs) [] p q = q
precedes-trans (a ∷ as') (b ∷ bs) (c ∷ cs) p q = ⊎_elim
    (λ h. ⊎_elim (λ g. inl (omega arith)) (λ g. inl (omega (arith, g.0))) q)
    (λ h. ⊎_elim
    (λ g. inl (omega (arith, h.0)))
    (λ g. inr (h.0 ∙ g.0, precedes-trans as' bs cs h.1 g.1))
    q)
    p

-- what is less among the first keys, of equal number, comes first, whatever keys are behind; equal keys leave it to
-- those
less-first : (as' bs p q : List ℕ) → length as' ≡ length bs → before as' bs ≡ true → Precedes (as' ++ p) (bs ++ q)
less-first as' [] p q n e = never (sym (before-empty as') ∙ e)
less-first [] (b ∷ bs) p q n e = absurd (omega arith)
less-first (a ∷ as') (b ∷ bs) p q n e = ⊎_elim
    (λ h. inl h)
    (λ h. ⊎_elim
    (λ g. never (sym (before_more a b as' bs g) ∙ e))
    (λ g. let s : a ≡ b = omega arith in inr
    (s, less-first as' bs p q (omega arith) (sym (before_same a b as' bs s) ∙ e)))
    (below b a))
    (below a b)

same_first : (as' p q : List ℕ) → Precedes p q → Precedes (as' ++ p) (as' ++ q)
same_first [] p q h = h
same_first (a ∷ as') p q h = inr (refl, same_first as' p q h)

-- ---- a list that ascends by one order, sorted by some keys, ascends by the keys and then by that order
module _ (keys order : Item → List ℕ) (even : (x y : Item) → length (keys x) ≡ length (keys y)) where
  abbrev both : Item → List ℕ
  both x = keys x ++ order x

  insert-mem : (x : Item) (ys : List Item) (z : Item) → Memᴰ z (insert keys x ys) → (z ≡ x) ⊎ Memᴰ z ys
  insert-mem x ys z m = Memᴰ.cases_cons (perm-mem (inserted keys x ys) m)

  -- the first of two that are in order comes first where the keys do not say otherwise
  not_behind : (x y : Item) → before (keys y) (keys x) ≡ false → Precedes (order x) (order y) → Precedes (both x) (both y)
  not_behind x y e o = go (before (keys x) (keys y)) refl
    where
      go : (b : Bool) → before (keys x) (keys y) ≡ b → Precedes (both x) (both y)
      go true f = less-first (keys x) (keys y) (order x) (order y) (even x y) f
      go false f = subst (λ (k : List ℕ). Precedes (keys x ++ order x) (k ++ order y))
          (before-neither (keys x) (keys y) f e) (same_first (keys x) (order x) (order y) o)

  insert-ascends : (x : Item) (ys : List Item) → ((y : Item) → Memᴰ y ys → Precedes (order x) (order y))
      → Ascending both ys → Ascending both (insert keys x ys)
  unfolding insert
  insert-ascends x [] f a = ((λ y m. absurd (Memᴰ.not-nil m)), tt)
  insert-ascends x (y ∷ ys) f a =
      go (before (keys y) (keys x)) refl (insert-ascends x ys (λ z m. f z (Memᴰ.tail m)) a.1)
    where
      go : (b : Bool) → before (keys y) (keys x) ≡ b → Ascending both (insert keys x ys)
          → Ascending both (pick b (y ∷ insert keys x ys) (x ∷ y ∷ ys))
      go true e h = (
        (λ z m. ⊎_elim
            (λ g. subst (λ (w : Item). Precedes (both y) (both w)) (sym g)
            (less-first (keys y) (keys x) (order y) (order x) (even y x) e))
            (λ n. a.0 z n)
            (insert-mem x ys z m)),
        h,
      )
      go false e h =
          let p = not_behind x y e (f y (Memᴰ.head refl)) in (
            (λ z m. ⊎_elim
                (λ g. subst (λ (w : Item). Precedes (both x) (both w)) (sym g) p)
                (λ n. precedes-trans (both x) (both y) (both z) p (a.0 z n))
                (Memᴰ.cases_cons m)),
            a,
          )

  pub sorted-ascends : (xs : List Item) → Ascending order xs → Ascending both (sorted keys xs)
  unfolding sorted
  sorted-ascends [] a = tt
  sorted-ascends (x ∷ xs) a =
      insert-ascends x (sorted keys xs) (λ y m. a.0 y (perm-mem (rearranged keys xs) m)) (sorted-ascends xs a.1)
