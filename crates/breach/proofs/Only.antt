-- The list of all breaches is determined by what a breach is and by the order: there is no other.
use mathlib.Core.Logic.{⊎_elim}
use mathlib.Core.Path.{◌≡◌, refl, sym, ◌∙◌, subst}
use mathlib.Core.List.Memᴰ
use mathlib.Core.List.{List, [], ◌∷◌, ◌++◌, Memᴰ}
use Prim.Native.Nat.{ℕ}
use native.Mathlib.Omega.{arith}
use Rattle.grammar.specs.Tree.{Tree}
use Rattle.provider.specs.Schema.{Schema}
use Rattle.breach.specs.Breach.{Item}
use Rattle.breach.specs.Order.{whole_key, Precedes, Ascending, AllBreaches}

-- of two keys not each is less than the other
pub not-both : (ks ls : List ℕ) → Precedes ks ls → Precedes ls ks → ⊥
not-both [] ls h g = h
not-both (k ∷ ks) [] h g = h
not-both (k ∷ ks) (l ∷ ls) h g = ⊎_elim
    (λ a. ⊎_elim (λ b. omega arith) (λ b. omega (arith, b.0)) g)
    (λ a. ⊎_elim (λ b. omega (arith, a.0)) (λ b. not-both ks ls a.1 b.1) g)
    h

-- ---- two strictly ascending lists, by any order, that have the same members
module _ (by : Item → List ℕ) where
  first-same : (x y : Item) (xs ys : List Item) → Ascending by (x ∷ xs) → Ascending by (y ∷ ys)
      → Memᴰ x (y ∷ ys) → Memᴰ y (x ∷ xs) → x ≡ y
  first-same x y xs ys a b p q = ⊎_elim
      (λ e. e)
      (λ m. ⊎_elim (λ e. sym e) (λ n. absurd (not-both (by y) (by x) (b.0 x m) (a.0 y n))) (Memᴰ.cases_cons q))
      (Memᴰ.cases_cons p)

  rest_in : (x y : Item) (xs ys : List Item) → Ascending by (x ∷ xs) → x ≡ y
      → ((z : Item) → Memᴰ z (x ∷ xs) → Memᴰ z (y ∷ ys)) → (z : Item) → Memᴰ z xs → Memᴰ z ys
  rest_in x y xs ys a e f z m = ⊎_elim
      (λ g. let l : Precedes (by x) (by x) = subst (λ (w : Item). Precedes (by x) (by w)) (g ∙ sym e)
      (a.0 z m) in absurd
      (not-both (by x) (by x) l l))
      (λ n. n)
      (Memᴰ.cases_cons (f z (Memᴰ.tail m)))

  -- No two items are alike: one that stands in an ascending list stands neither in front of there nor behind
  pub none_alike : (xs : List Item) (x : Item) (ys : List Item) → Ascending by (xs ++ x ∷ ys)
      → (Memᴰ x xs → ⊥) × (Memᴰ x ys → ⊥)
  none_alike [] x ys a = (Memᴰ.not-nil, λ m. not-both (by x) (by x) (a.0 x m) (a.0 x m))
  none_alike (z ∷ xs) x ys a =
      let r = none_alike xs x ys a.1 in
      let p : Precedes (by z) (by x) = a.0 x (Memᴰ.append_right xs (Memᴰ.head refl)) in (
        (λ m. ⊎_elim
            (λ e. let q : Precedes (by x) (by x) = subst (λ (w : Item). Precedes (by w) (by x)) (sym e) p in
            not-both (by x) (by x) q q)
            r.0
            (Memᴰ.cases_cons m)),
        r.1,
      )

  pub same-list : (xs ys : List Item) → Ascending by xs → Ascending by ys
      → ((z : Item) → Memᴰ z xs → Memᴰ z ys) → ((z : Item) → Memᴰ z ys → Memᴰ z xs) → xs ≡ ys
  same-list [] [] a b f g = refl
  same-list [] (y ∷ ys) a b f g = absurd (Memᴰ.not-nil (g y (Memᴰ.head refl)))
  same-list (x ∷ xs) [] a b f g = absurd (Memᴰ.not-nil (f x (Memᴰ.head refl)))
  same-list (x ∷ xs) (y ∷ ys) a b f g =
      let e : x ≡ y = first-same x y xs ys a b (f x (Memᴰ.head refl)) (g y (Memᴰ.head refl)) in
      let r : xs ≡ ys = same-list xs ys a.1 b.1 (rest_in x y xs ys a e f) (rest_in y x ys xs b (sym e) g) in
      rw (e, r)

-- Two lists of all breaches of a statement against a schema are one and the same
pub only-list : (t : Tree) (s : Schema) (xs ys : List Item) → AllBreaches t s xs → AllBreaches t s ys → xs ≡ ys
only-list t s xs ys a b = same-list whole_key xs ys a.ascending b.ascending
    (λ z m. (b.exact z).1 ((a.exact z).0 m)) (λ z m. (a.exact z).1 ((b.exact z).0 m))
