-- Aparts of equal texts: one, and one turn of the loop over them, and each way that it ends.
use mathlib.Core.Bool.{Bool, true, false}
use mathlib.Core.Path.{◌≡◌}
use mathlib.Core.List.{List}
use Prim.Native.Nat.{ℕ, ◌+◌, ◌≤◌, ◌<◌}
use native.Mathlib.Omega.{arith}
use lib.Dec.{eqb}
use lib.ListN.{length, get_or, drop}
use Rattle.lists.specs.Lists.{pick, first}
use Rattle.lists.proofs.Laws.{rest_more, rest-none}
use Rattle.frame.specs.Doc.{doc_of, kind_of}
use Rattle.frame.specs.declared.Sheet.{Sheet}
use Rattle.frame.specs.declared.Sizes.{Sizes}
use Rattle.grammar.specs.Tree.{tree_of}
use Rattle.grammar.specs.Inner.{NameAt}
use Rattle.schema.specs.Declarations.{equal_apart}
use Rattle.schema.specs.Scanned.{tokens_of}
use Rattle.schema.specs.Inner.{Declared}
use Rattle.schema.proofs.Named.{named-below, other-below, apart-named}
use Rattle.numbers.specs.Least.{texts_of, place_of}
use Rattle.register.specs.Register.{Registered}
use Rattle.register.proofs.Names.{schema-same}
use Rattle.register.proofs.Aparts.{apart-few, apart-there, apart-no-more}
use Rattle.std.specs.Prelude.{Option, Some, None}

module _ (s d : List ℕ) (sizes : Sizes) (reg : List ℕ) (z : Registered s d sizes reg) (j : ℕ) (h : j < sizes.schema.tokens)
    (e : kind_of (doc_of d) j ≡ 106) where
  pub one_name : NameAt (doc_of d) (j + 1)
  one_name = named-below d sizes.schema j 106 z.schema h e apart-named

  pub other_name : NameAt (doc_of d) (j + 2)
  other_name = other-below d sizes.schema j z.schema h e

  pub equal_is : (a b : ℕ) → a ≡ place_of (texts_of d s) ((tree_of (doc_of d)).text (j + 1))
      → b ≡ place_of (texts_of d s) ((tree_of (doc_of d)).text (j + 2)) → eqb a b ≡ equal_apart (tree_of (doc_of d)) j
  unfolding equal_apart
  equal_is a b ea eb = rw (ea, eb) (schema-same s d sizes reg z (j + 1) (j + 2) one_name other_name)

module _ (d : List ℕ) (g : Sheet) (z : Declared d g) (p : ℕ → Bool) (x : Option ℕ) (k : ℕ)
    (inv : first p (drop k (tokens_of (tree_of (doc_of d)) 106)) ≡ x) where
  none_left : length (tokens_of (tree_of (doc_of d)) 106) ≤ k → None ≡ x
  unfolding first
  none_left h = rw (rest-none (tokens_of (tree_of (doc_of d)) 106) k h) at inv

  pub aparts-end : g.tokens ≤ k → None ≡ x
  aparts-end h = none_left (omega (arith, apart-few d g z))

  module _ (j : ℕ) (ej : j ≡ get_or (tokens_of (tree_of (doc_of d)) 106) k 0) where
    pub aparts-stop : j ≡ 0 → None ≡ x
    aparts-stop n = none_left (apart-no-more d g z k j ej n)

    module _ (n : j ≡ 0 → ⊥) (b : Bool) (eb : b ≡ p j) where
      turn : pick b (Some j) (first p (drop (k + 1) (tokens_of (tree_of (doc_of d)) 106))) ≡ x
      unfolding first
      turn = rw (eb, ej) (rw (rest_more (tokens_of (tree_of (doc_of d)) 106) k (apart-there d g z k j ej n)) at inv)

      pub aparts-hit : b ≡ true → Some j ≡ x
      aparts-hit h = rw h at turn

      pub aparts-on : b ≡ false → first p (drop (k + 1) (tokens_of (tree_of (doc_of d)) 106)) ≡ x
      aparts-on h = rw h at turn
