-- The Parts of a Pattern and the elements of a Part, one by one, and what their pattern stands in.
use mathlib.Core.Bool.{Bool, true, false}
use mathlib.Core.Logic.{⊎_elim}
use mathlib.Core.Path.{◌≡◌, sym, ap, ◌∙◌, subst}
use mathlib.Core.List.{List}
use Prim.Native.Nat.{ℕ, suc, ◌-◌, ◌<◌}
use native.Mathlib.Omega.{arith}
use lib.ListN.{length}
use Rattle.lists.specs.Lists.{any_of}
use Rattle.frame.specs.Doc.{doc_of, kind_of}
use Rattle.frame.specs.declared.Sizes.{Sizes}
use Rattle.rules.specs.Rules.{arity}
use Rattle.grammar.specs.Tree.{tree_of, past, parent}
use Rattle.breach.specs.Breach.{is_element, holder, statement_in, schema_in}
use Rattle.breach.proofs.Exact.{element-cases}
use Rattle.judge.specs.Judging.{Lent}
use Rattle.judge.specs.declared.Tally.{Tally}
use Rattle.walk.specs.declared.Step.{Step}
use Rattle.walk.specs.Walk.{holds_elements, TreeReady, BelowReady, Own, WroteBelow, Walked}
use Rattle.walk.proofs.Patterns.{pattern-after, part-elements, pattern-parts}
use Rattle.walk.proofs.Steps.{parent_is, room-below, whole-tree}

module _ {s d : List ℕ} {sizes : Sizes} {reg : List ℕ} (z : Lent s d sizes reg) (i : ℕ)
    (h : i < sizes.statement.tokens) where
  there : i < length (doc_of s).tokens
  there = omega (arith, z.sheet.tokens)

  -- a Pattern stands behind what it belongs to
  pub pattern-first : kind_of (doc_of s) i ≡ 60 → 0 < i
  pattern-first e = (pattern-after (doc_of s) z.read i there e).0

  -- child k of token i, at `at`
  module _ (k at : ℕ) (l : k < arity ((statement_in s).kind i) ((statement_in s).value i))
      (e : at ≡ past (statement_in s) k (suc i)) where
    pub element-at : kind_of (doc_of s) i ≡ 61 → is_element (kind_of (doc_of s) at) ≡ true
    element-at g =
        ap (λ (j : ℕ). is_element (kind_of (doc_of s) j)) e ∙ (part-elements (doc_of s) z.read i k there l g).0

    pub part_at : kind_of (doc_of s) i ≡ 60 → kind_of (doc_of s) at ≡ 61
    part_at g = ap (kind_of (doc_of s)) e ∙ (pattern-parts (doc_of s) z.read i k there l g).0

    pub element-held : {x : ℕ} → x ≡ kind_of (doc_of s) (parent (statement_in s) (parent (statement_in s) i))
        → x ≡ holder (statement_in s) at
    unfolding holder tree_of
    element-held g =
        g ∙ ap (λ (j : ℕ). kind_of (doc_of s) (parent (statement_in s) (parent (statement_in s) j)))
        (sym (parent_is z i k at h l e))

    pub part_held : kind_of (doc_of s) i ≡ 60 → {x : ℕ} → x ≡ kind_of (doc_of s) (i - 1)
        → x ≡ kind_of (doc_of s) (parent (statement_in s) (parent (statement_in s) at))
    part_held g f =
        let o : i - 1 ≡ parent (statement_in s) i = omega (arith, (pattern-after (doc_of s) z.read i there g).1) in
        f ∙ ap (kind_of (doc_of s)) o
        ∙ ap (λ (j : ℕ). kind_of (doc_of s) (parent (statement_in s) j)) (sym (parent_is z i k at h l e))

-- an element opens no place of a Part or of an element
pub element-holds : (k : ℕ) → is_element k ≡ true → holds_elements k ≡ false
unfolding any_of
element-holds k e = ⊎_elim (λ g. rw g) (λ g. rw g) (element-cases k e)

-- the first pass over an element
module _ (m : Bool) (s d : List ℕ) (sizes : Sizes) {reg : List ℕ} (i : ℕ) (n : Tally) (l : List ℕ) (h : m ≡ false)
    (y : TreeReady m s d sizes reg i n) {c : Tally} {l₁ : List ℕ}
    (w : Own m (statement_in s) (schema_in d) i n l c l₁) where
  pub early-below : BelowReady false s d sizes reg i c
  early-below = subst (λ (b : Bool). BelowReady b s d sizes reg i c) h (room-below m s d sizes i n l y w)

  pub early-whole : {r : Step} {l₂ : List ℕ} → WroteBelow false (statement_in s) (schema_in d) i c l₁ r l₂
      → Walked m (statement_in s) (schema_in d) i n l r l₂
  early-whole {r} {l₂} q = whole-tree m s d sizes i n l y w
      (subst (λ (b : Bool). WroteBelow b (statement_in s) (schema_in d) i c l₁ r l₂) (sym h) q)
