-- The order of the breaches, and the list that has every breach, each once, in order, and no others.
use Rattle.std.specs.Prelude.{ℕ, ◌<◌, ◌⊎◌, ◌↔◌, ◌≡◌, eqb}
use mathlib.Core.List.{List, [], ◌∷◌, Memᴰ}
use Rattle.lists.specs.Lists.{pick}
use Rattle.grammar.specs.Tree.{Tree}
use Rattle.provider.specs.Schema.{Schema}
use Rattle.breach.specs.Breach.{Item, Breach}

-- within a clause every E3009 last, which are those of stage 3; then owner, stage, ordinal
abbrev pub key : Item → List ℕ
key x = pick (eqb x.stage 3) 1 0 ∷ x.owner ∷ x.stage ∷ x.ordinal ∷ []

-- Order: clause; then as within it; at the first number that differs
abbrev pub whole_key : Item → List ℕ
whole_key x = x.clause ∷ key x

abbrev pub Precedes : List ℕ → List ℕ → Type 0
Precedes [] bs = ⊥
Precedes (a ∷ as') [] = ⊥
Precedes (a ∷ as') (b ∷ bs) = (a < b) ⊎ ((a ≡ b) × Precedes as' bs)

-- strictly ascending, so that each item stands once
abbrev pub Ascending : (Item → List ℕ) → List Item → Type 0
Ascending by [] = Unit {0}
Ascending by (x ∷ xs) = ((y : Item) → Memᴰ y xs → Precedes (by x) (by y)) × Ascending by xs

-- All breaches in order, a list of which nothing else need be known: an item is in it exactly when it is a breach of
-- a token, and it ascends. `only-list` of the proofs: there is no other such list; `all-breaches`: of an accepted
-- statement `listed` is it
pub record AllBreaches (t : Tree) (s : Schema) (xs : List Item) : Type 0 where
  pub exact : (x : Item) → Memᴰ x xs ↔ ((i : ℕ) × Breach t s i x)
  pub ascending : Ascending whole_key xs
