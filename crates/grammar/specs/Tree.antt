-- The tokens of a document as a tree, with names as texts, and where each token stands in it.
use Rattle.std.specs.Prelude.{ℕ, zero, suc, ◌+◌, ◌-◌, List, [], length, eqb, ltb}
use Rattle.lists.specs.Lists.{pick, table}
use Rattle.frame.specs.Doc.{Doc, kind_of, value_of, name_of}
use Rattle.rules.specs.Kinds as Kind
use Rattle.rules.specs.Rules.{arity}

-- a tree: how many tokens it has, and of each token its kind, its value and its text
pub record Tree : Type 0 where
  pub size : ℕ
  pub kind : ℕ → ℕ
  pub value : ℕ → ℕ
  pub text : ℕ → List ℕ

-- a Name token has its text and the value 0, any other no text; past the end the kind is 0
unfoldable pub tree_of : Doc → Tree
tree_of d = record {
  size = length d.tokens;
  kind = λ i. kind_of d i;
  value = λ i. pick (eqb (kind_of d i) Kind.Name) 0 (value_of d i);
  text = λ i. pick (eqb (kind_of d i) Kind.Name) (name_of d (value_of d i)) [];
}

-- where n trees end that start at i, of `left` tokens from i on, where a gives the number of children. Each step takes
-- one token, so that `past` has its steps: `past-none`, `past-node` and `past-out` of the proofs are its equations
-- without them
unfoldable pub pass : (ℕ → ℕ) → ℕ → ℕ → ℕ → ℕ
pass a zero n i = i
pass a (suc left) zero i = i
pass a (suc left) (suc n) i = pass a left (n + a i) (suc i)

unfoldable pub past : Tree → ℕ → ℕ → ℕ
past t n i = pass (λ j. arity (t.kind j) (t.value j)) (t.size - i) n i

-- the first token after the tree at i; its child c, from 0; its n children from c on
abbrev pub end : Tree → ℕ → ℕ
end t i = past t 1 i

abbrev pub child : Tree → ℕ → ℕ → ℕ
child t i c = past t c (suc i)

abbrev pub children : Tree → ℕ → ℕ → ℕ → List ℕ
children t i c n = table (child t i) c n

-- the token that i belongs to: the greatest below i whose tree i is in (0 where there is none)
unfoldable pub enclosing : Tree → ℕ → ℕ → ℕ
enclosing t i zero = 0
enclosing t i (suc p) = let r : ℕ = enclosing t i p in pick (ltb i (end t p)) p r

abbrev pub parent : Tree → ℕ → ℕ
parent t i = enclosing t i i

-- the texts of n Name tokens from i on
abbrev pub texts : Tree → ℕ → ℕ → List (List ℕ)
texts t i n = table (λ j. t.text j) i n
