-- The first function of a name: at the place behind all whose name is less, or none.
use mathlib.Core.Path.{◌≡◌, refl, sym, ap, ◌∙◌, subst}
use mathlib.Core.Bool.{Bool, true, false}
use mathlib.Core.List.{List, [], ◌∷◌}
use Prim.Native.Nat.{ℕ, ◌≤◌, ◌<◌}
use lib.ListN.{length, get_or}
use Rattle.lists.specs.Lists.{first}
use Rattle.lists.proofs.Tests.{never}
use Rattle.std.specs.declared.cmp.Ordering.{Ordering}
use Rattle.std.specs.Ordering.{is_lt}
use Rattle.std.specs.Bool.{then_some}
use Rattle.text.specs.Text.{same_text, order_of}
use Rattle.text.specs.Folded.{folded, same_folded}
use Rattle.text.proofs.Laws.{same-is, same_refl}
use Rattle.grammar.specs.Tree.{Tree}
use Rattle.schema.specs.Declarations.{name_below}
use Rattle.in_order.specs.InOrder.{before, Rises}
use Rattle.in_order.proofs.Named.{compared}
use Rattle.functions.specs.Functions.{folded_below}
use Rattle.functions.specs.Inner.{Parted}
use Rattle.functions.proofs.Halving.{none_before, one-there, none-there}
use Rattle.std.specs.Prelude.{Some, None}

-- how the name of a function stands to another, as it was read and compared
pub less-read : (t : Tree) (i : ℕ) (n : List ℕ) {x : List ℕ} {q : Ordering} {r : Bool} → x ≡ name_below t i
    → q ≡ order_of (folded x) (folded n) → r ≡ is_lt q → r ≡ before (folded_below t i) (folded n)
less-read t i n {x} ex eq h =
    compared (folded x) (folded n) eq h ∙ ap (λ (y : List ℕ). before (folded y) (folded n)) ex

-- whether two texts are the same does not ask for their order
same-turned : (a b : List ℕ) → same_text a b ≡ same_text b a
same-turned a b = go (same_text a b) refl (same_text b a) refl
  where
    turned : (x y : List ℕ) → same_text x y ≡ true → same_text y x ≡ true
    turned x y e = subst (λ (z : List ℕ). same_text z x ≡ true) (same-is x y e) (same_refl x)

    go : (p : Bool) → same_text a b ≡ p → (q : Bool) → same_text b a ≡ q → same_text a b ≡ same_text b a
    go true e q f = e ∙ sym (turned a b e)
    go false e true f = never (sym e ∙ turned b a f)
    go false e false f = e ∙ sym f

-- the first of a name, by the list's own test
pub first-turned : (t : Tree) (n fs : List ℕ) → first (λ i. same_folded n (name_below t i)) fs
    ≡ first (λ i. same_text (folded_below t i) (folded n)) fs
unfolding first
first-turned t n [] = refl
first-turned t n (x ∷ fs) = rw (same-turned (folded n) (folded_below t x), first-turned t n fs)

module _ (t : Tree) (n fs : List ℕ) (r : ℕ) (p : Parted (folded_below t) (folded n) fs r r) where
  -- a function of the name, as the list is searched for it and as it is asked for
  abbrev has : ℕ → Bool
  has i = same_text (folded_below t i) (folded n)

  abbrev named : ℕ → Bool
  named i = same_folded n (name_below t i)

  pub find_none : length fs ≤ r → None ≡ first named fs
  find_none h = sym (first-turned t n fs ∙ none_before (folded_below t) (folded n) fs r p h)

  module _ (h : r < length fs) {i : ℕ} (ei : i ≡ get_or fs r 0) {x : List ℕ} (ex : x ≡ name_below t i) where
    at_place : (b : Bool) → b ≡ same_folded n x → has (get_or fs r 0) ≡ b
    at_place b e = same-turned (folded_below t (get_or fs r 0)) (folded n)
        ∙ ap (λ (j : ℕ). same_folded n (name_below t j)) (sym ei) ∙ ap (same_folded n) (sym ex) ∙ sym e

    pub find_one : Rises (folded_below t) fs → {b : Bool} → b ≡ same_folded n x → then_some b i ≡ first named fs
    find_one up {b} e = go b (at_place b e)
      where
        go : (b : Bool) → has (get_or fs r 0) ≡ b → then_some b i ≡ first named fs
        go true f = ap Some ei
            ∙ sym (first-turned t n fs ∙ one-there (folded_below t) (folded n) fs r p h f)
        go false f = sym (first-turned t n fs ∙ none-there (folded_below t) (folded n) fs r p up h f)
