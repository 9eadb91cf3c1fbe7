-- A leaf has no items, and nothing below it.
use mathlib.Core.Bool.{true, false}
use mathlib.Core.Logic.{⊎_elim}
use mathlib.Core.Path.{◌≡◌, refl, sym, ap, ◌∙◌}
use mathlib.Core.List.{List, []}
use Prim.Native.Nat.{ℕ}
use native.Mathlib.Omega.{arith}
use borrow.Author.Tests.{ltb-true, eqb-true, ne_eqb}
use lib.Dec.{eqb}
use lib.ListN.{length}
use Rattle.lists.specs.Lists.{any_of, table, first}
use Rattle.lists.proofs.Tests.{never, either_true}
use Rattle.frame.specs.Doc.{doc_of, kind_of}
use Rattle.rules.specs.Rules.{rules, opens, arity}
use Rattle.grammar.specs.Tree.{Tree}
use Rattle.grammar.proofs.Below.{small-opens}
use Rattle.grammar.proofs.Flat.{tree-kind}
use Rattle.provider.specs.Schema.{Schema}
use Rattle.breach.specs.Breach.{is_element, statement_in}
use Rattle.breach.specs.Listing.{early}
use Rattle.judge.specs.declared.Tally.{Tally}
use Rattle.judge.proofs.Wrote.{wrote_none, wrote_as}
use Rattle.walk.specs.Walk.{is_leaf, said, OpenedAt}

leaf-opens : (k v : ℕ) → is_leaf k ≡ true → opens k v ≡ []
unfolding is_leaf opens rules first any_of table
leaf-opens k v h =
    ⊎_elim (λ a. small-opens k v (ltb-true k 10 a))
    (λ a. ⊎_elim (λ e. ap (λ (n : ℕ). opens n v) (eqb-true k 50 e)) (λ e. ap (λ (n : ℕ). opens n v) (eqb-true k 51 e))
    (either_true (eqb k 50) _ a))
    (either_true _ _ h)

-- a kind that is no leaf's is another one
other : (k n : ℕ) → is_leaf k ≡ true → is_leaf n ≡ false → eqb k n ≡ false
other k n h g = ne_eqb k n (λ e. never (sym g ∙ ap is_leaf (sym e) ∙ h))

no_element : (k : ℕ) → is_leaf k ≡ true → is_element k ≡ false
unfolding is_leaf any_of
no_element k h = rw (other k 62 h refl) (rw (other k 63 h refl) refl)

silent : (t : Tree) (sc : Schema) (i : ℕ) → is_leaf (t.kind i) ≡ true → [] ≡ said false t sc i
unfolding is_leaf said early
silent t sc i h =
    rw (no_element (t.kind i) h) (rw (other (t.kind i) 16 h refl)
    (rw (other (t.kind i) 85 h refl) (rw (other (t.kind i) 82 h refl) refl)))

pub leaf-opened : (s : List ℕ) (sc : Schema) (i : ℕ) (n : Tally) (l : List ℕ) → is_leaf (kind_of (doc_of s) i) ≡ true
    → OpenedAt (statement_in s) sc i n l (record { trees = 0; tally = n }) l
unfolding arity
leaf-opened s sc i n l h =
    let k : is_leaf ((statement_in s).kind i) ≡ true = ap is_leaf (tree-kind (doc_of s) i) ∙ h in
    record {
      trees = sym (ap length (leaf-opens ((statement_in s).kind i) ((statement_in s).value i) k));
      few = omega arith;
      wrote = wrote_as (silent (statement_in s) sc i k) wrote_none;
    }
