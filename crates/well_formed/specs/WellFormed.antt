-- What a document that the grammar accepts is, without a machine that reads it: its tokens form one tree that fills
-- every place with a token that the place takes, and no token stands too deep. `accepted` of the proofs says that the
-- grammar accepts these documents and no others.
use Rattle.std.specs.Prelude.{ℕ, zero, suc, ◌+◌, ◌≤◌, ◌<◌, ◌≡◌, true, List, [], ◌∷◌, length, eqb}
use Rattle.lists.specs.Lists.{pick}
use Rattle.frame.specs.Limits.{max_depth}
use Rattle.frame.specs.Doc.{Doc, kind_of, value_of}
use Rattle.rules.specs.declared.Place.{Place}
use Rattle.rules.specs.Rules.{opens}
use Rattle.grammar.specs.Machine.{allowed}
use Rattle.grammar.specs.Tree.{Tree, tree_of, parent}

-- the tokens from i up to j, without j, are trees that fill the places, one for each, in turn
pub data Fills (d : Doc) : List Place → ℕ → ℕ → Type 0 where
  -- no place: no tokens
  none : {i j : ℕ} → i ≡ j → Fills d [] i j
  -- a place and others: token i is there, and the place takes it; the tokens after it up to k fill the places that it
  -- opens, and those from k on the others
  tree : {p : Place} {ps : List Place} {i j : ℕ} (k : ℕ) → i < length d.tokens → allowed d p i ≡ true
      → Fills d (opens (kind_of d i) (value_of d i)) (suc i) k → Fills d ps k j → Fills d (p ∷ ps) i j

-- token 0 has depth 0, any other one more than the token that it belongs to. That one stands before it, so i steps up
-- from token i are enough (`depth-first` and `depth_below` of the proofs say it without the steps)
unfoldable pub climb : Tree → ℕ → ℕ → ℕ
climb t zero i = 0
climb t (suc steps) i = let r : ℕ = climb t steps (parent t i) + 1 in pick (eqb i 0) 0 r

abbrev pub depth_of : Tree → ℕ → ℕ
depth_of t i = climb t i i

-- one tree of all tokens fills the place, and each token is at most 64 deep
pub record WellFormed (p : Place) (d : Doc) : Type 0 where
  pub filled : Fills d (p ∷ []) 0 (length d.tokens)
  pub shallow : (i : ℕ) → i < length d.tokens → depth_of (tree_of d) i ≤ max_depth
