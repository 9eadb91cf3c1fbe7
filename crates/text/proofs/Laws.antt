-- What the comparisons of texts mean: `same_text` is equality.
use mathlib.Core.Path.{◌≡◌, refl, subst}
use mathlib.Core.List.{List, [], ◌∷◌}
use mathlib.Core.Bool.{true}
use mathlib.Core.Logic.{◌↔◌}
use Prim.Native.Nat.{ℕ}
use lib.Dec.{eqb}
use borrow.Author.Tests.{eqb-true, eq-eqb}
use Rattle.lists.proofs.Tests.{never, both_true}
use Rattle.text.specs.Text.{same_text}

pub same_refl : (a : List ℕ) → same_text a a ≡ true
unfolding same_text
same_refl [] = refl
same_refl (x ∷ a) = simp (eq-eqb x x refl, same_refl a)

pub same-is : (a b : List ℕ) → same_text a b ≡ true → a ≡ b
unfolding same_text
same-is [] [] e = refl
same-is [] (y ∷ b) e = never e
same-is (x ∷ a) [] e = never e
same-is (x ∷ a) (y ∷ b) e =
    let p = both_true (eqb x y) (same_text a b) e in
    let h : x ≡ y = eqb-true x y p.0 in
    let t : a ≡ b = same-is a b p.1 in
    cc

pub same-equal : (a b : List ℕ) → (same_text a b ≡ true) ↔ (a ≡ b)
same-equal a b = (same-is a b, λ e. subst (λ (c : List ℕ). same_text a c ≡ true) e (same_refl a))
