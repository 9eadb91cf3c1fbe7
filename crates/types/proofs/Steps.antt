-- The type of a literal without a number of steps.
use mathlib.Core.Path.{◌≡◌, refl}
use mathlib.Core.List.{[], ◌∷◌}
use mathlib.Core.Logic.{⊎_elim}
use Prim.Native.Nat.{ℕ, suc, ◌-◌, ◌≤◌, ◌<◌}
use native.Mathlib.Omega.{arith}
use lib.Dec.{eqb}
use lib.ListN.{length, get_or-eq_default}
use Rattle.lists.specs.Lists.{pick, any_of, is_one}
use Rattle.lists.proofs.Tests.{below}
use Rattle.lists.proofs.Laws.{left-none}
use Rattle.frame.specs.Doc.{Doc}
use Rattle.rules.specs.Kinds as Kind
use Rattle.grammar.specs.Tree.{Tree, tree_of}
use Rattle.types.specs.InferredTypes as Inferred
use Rattle.types.specs.Types.{ty, deeper, literal_in, literal}
use Rattle.std.specs.Prelude.{Option, Some, None}
use Rattle.types.specs.declared.Ty.{Ty}

-- what `literal_in` says of token i, where `item` is the type of the token after it
abbrev pub literal_at : Tree → ℕ → Option Ty → Option Ty
literal_at t i item =
    pick (is_one (Kind.Null ∷ Kind.Bool ∷ Kind.Int ∷ Kind.Float ∷ Kind.String ∷ []) (t.kind i)) (Some (ty (t.kind i) 0))
    (pick (eqb (t.kind i) Kind.List) (pick (eqb (t.value i) 0) (Some (ty Inferred.Any 1)) (deeper item)) None)

inside : (t : Tree) (i : ℕ) → i < t.size → literal t i ≡ literal_at t i (literal t (suc i))
unfolding literal_in
inside t i h =
    let e : t.size - i ≡ suc (t.size - suc i) = omega arith in
    rw e

-- past the end the kind is 0, which has no type
outside : (d : Doc) (i : ℕ) → length d.tokens ≤ i → literal (tree_of d) i ≡ literal_at (tree_of d) i
    (literal (tree_of d) (suc i))
unfolding tree_of literal_in any_of
outside d i h =
    let e = get_or-eq_default d.tokens (record { kind = 0; value = 0 }) {n = i} h in
    rw (left-none (length d.tokens) i h, e)

tree-size : (d : Doc) → (tree_of d).size ≡ length d.tokens
unfolding tree_of
tree-size d = refl

-- of every token of every document, and past the last: its type by its kind, and a list's by the token after it
pub literal-step : (d : Doc) (i : ℕ) → literal (tree_of d) i ≡ literal_at (tree_of d) i (literal (tree_of d) (suc i))
literal-step d i = ⊎_elim
    (λ h. inside (tree_of d) i (omega (arith, tree-size d)))
    (λ h. outside d i h)
    (below i (length d.tokens))
