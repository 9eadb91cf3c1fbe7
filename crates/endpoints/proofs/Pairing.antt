-- A pair, and how many there are.
use mathlib.Core.Path.{◌≡◌, refl, sym, ap, ◌∙◌}
use mathlib.Core.List.{List, [], ◌∷◌}
use Prim.Native.Nat.{ℕ, ◌+◌, ◌*◌}
use native.Mathlib.Nat.{add-mul, mul_comm, mul_assoc}
use native.Mathlib.Omega.{arith}
use native.Mathlib.Numerals.{add-one}
use lib.ListN.{length, length-append, set}
use Rattle.lists.specs.Lists.{over, each}
use Rattle.frame.specs.Doc.{Doc, value_of}
use Rattle.grammar.specs.Tree.{tree_of}
use Rattle.schema.specs.Declarations.{of_kind}
use Rattle.of_kind.specs.Numbers.{number_below}
use Rattle.of_kind.specs.Written.{WroteNumbers}
use Rattle.endpoints.specs.Inner.{pair_of, pairs_over}

pub pair-wrote : (d : Doc) (start j v n : ℕ) (l : List ℕ) → v ≡ value_of d (j + 1) → WroteNumbers n (pair_of d start j) l
    (n + 2) (set (set l n start) (n + 1) v)
pair-wrote d start j v n l e = record {
  next = refl;
  list = ap (λ (x : ℕ). set (set l n start) (n + 1) x) e ∙ ap
      (λ (m : ℕ). set (set l n start) m (number_below d j)) (add-one n);
}

-- ---- how many there are
each_same : {A : Type 0} (g : A → List ℕ) (m : ℕ) (xs : List A) → ((x : A) → length (g x) ≡ m) → length (each g xs)
    ≡ length xs * m
unfolding each
each_same g m [] h = omega arith
each_same g m (x ∷ xs) h = omega (
  arith,
  length-append (g x) (each g xs),
  h x,
  each_same g m xs h,
  add-mul 1
      (length xs) m,
)

pub pairs-length : (d : Doc) (a b : ℕ)
    → length (each (pairs_over d a b) (over (of_kind (tree_of d) 112) a b)) ≡ 2 *
    (length (over (of_kind (tree_of d) 112) a b) * length (over (of_kind (tree_of d) 113) a b))
pairs-length d a b =
    let starts = over (of_kind (tree_of d) 112) a b in
    let ends = over (of_kind (tree_of d) 113) a b in
    each_same (pairs_over d a b) (length ends * 2) starts
    (λ i. each_same (pair_of d (number_below d i)) 2 ends (λ e. refl))
    ∙ sym (mul_assoc (length starts) (length ends) 2)
    ∙ mul_comm (length starts * length ends) 2

-- the ends of the Start at token j, whose number was read
pub start-same : (d : Doc) (a b v j : ℕ) → v ≡ value_of d (j + 1) → each (pair_of d v)
    (over (of_kind (tree_of d) 113) a b) ≡ pairs_over d a b j
start-same d a b v j e = ap (λ (n : ℕ). each (pair_of d n) (over (of_kind (tree_of d) 113) a b)) e
