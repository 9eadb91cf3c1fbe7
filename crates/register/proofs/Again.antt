-- A declaration repeats an earlier one exactly where the entry of its name and kind is another's.
use mathlib.Core.Path.{◌≡◌, ◌∙◌, refl, sym, ap}
use mathlib.Core.Bool.{Bool, true, false, not}
use mathlib.Core.List.{List}
use Prim.Native.Nat.{ℕ, ◌+◌, ◌<◌}
use native.Mathlib.Omega.{arith}
use borrow.Author.Tests.{eq-eqb, eqb-true, eqb-false}
use lib.Dec.{eqb}
use lib.ListN.{length, get_or}
use Rattle.lists.specs.Lists.{over, first}
use Rattle.lists.proofs.Laws.{over-more, over-join}
use Rattle.lists.proofs.Joins.{or_first, first-append}
use Rattle.text.specs.Text.{same_text}
use Rattle.text.proofs.Laws.{same_refl}
use Rattle.frame.specs.Doc.{doc_of, kind_of, value_of}
use Rattle.frame.specs.declared.Sizes.{Sizes}
use Rattle.grammar.specs.Tree.{Tree, tree_of}
use Rattle.grammar.specs.Inner.{NameAt}
use Rattle.grammar.proofs.Flat.{tree-kind}
use Rattle.schema.specs.Declarations.{of_kind, name_below}
use Rattle.schema.specs.Scanned.{repeats}
use Rattle.schema.specs.Inner.{searched, first_named}
use Rattle.schema.proofs.Searches.{first_kind, hit, is_there, any-first}
use Rattle.schema.proofs.Named.{named-below}
use Rattle.numbers.specs.Least.{all_names, texts_of, text_at, place_of}
use Rattle.register.specs.Register.{Exact, entry_at, entry_of, Registered}
use Rattle.register.proofs.Names.{schema-text, schema-inside}
use Rattle.register.proofs.Entries.{entered-named}
use Rattle.register.proofs.Filled.{entry-inside, entry_found_lem}
use Rattle.std.specs.Prelude.{Option, Some, None}

module _ (t : Tree) (k j b : ℕ) (h : j < b) (e : t.kind j ≡ k) where
  abbrev named : ℕ → Bool
  named i = same_text (name_below t j) (name_below t i)

  -- from j on it is j itself
  itself : first named (over (of_kind t k) j b) ≡ Some j
  itself =
      ap (first named) (over-more (of_kind t k) j b h) ∙ first_kind t k j named (over (of_kind t k) (j + 1) b)
      ∙ rw (eq-eqb (t.kind j) k e, same_refl (name_below t j))

  split : first_named t k (name_below t j) 0 b ≡ or_first (first_named t k (name_below t j) 0 j) (Some j)
  unfolding searched
  split =
      ap (first named) (sym (over-join (of_kind t k) 0 j b (omega arith) (omega arith)))
      ∙ first-append named (over (of_kind t k) 0 j) (over (of_kind t k) j b)
      ∙ ap (or_first (first named (over (of_kind t k) 0 j))) itself

  -- where none before j has its name, it is the first of that name
  pub first-own : first_named t k (name_below t j) 0 j ≡ None → first_named t k (name_below t j) 0 b ≡ Some j
  first-own n = split ∙ ap (λ (y : Option ℕ). or_first y (Some j)) n

  repeats-is : repeats t k j ≡ is_there (first_named t k (name_below t j) 0 j)
  unfolding repeats searched
  repeats-is = any-first named (over (of_kind t k) 0 j)

  module _ (w : ℕ) (ew : w ≡ entry_of (first_named t k (name_below t j) 0 b)) where
    entry-own : w ≡ j + 1 → false ≡ repeats t k j
    entry-own q = go (first_named t k (name_below t j) 0 j) refl
      where
        go : (x : Option ℕ) → first_named t k (name_below t j) 0 j ≡ x → false ≡ repeats t k j
        go None o = sym (repeats-is ∙ ap is_there o)
        go (Some i) o =
            let n : w ≡ i + 1 = ew ∙ ap entry_of (split ∙ ap (λ (y : Option ℕ). or_first y (Some j)) o) in
            let l = hit named t k 0 j i o in
            absurd (omega (arith, l.high))

    entry_other : (w ≡ j + 1 → ⊥) → true ≡ repeats t k j
    entry_other q = go (first_named t k (name_below t j) 0 j) refl
      where
        go : (x : Option ℕ) → first_named t k (name_below t j) 0 j ≡ x → true ≡ repeats t k j
        go None o = absurd (q (ew ∙ ap entry_of (split ∙ ap (λ (y : Option ℕ). or_first y (Some j)) o)))
        go (Some i) o = sym (repeats-is ∙ ap is_there o)

-- ---- the entry of the name and the kind of the declaration at token j
module _ (s d : List ℕ) (sizes : Sizes) (reg : List ℕ) (z : Registered s d sizes reg) (k j : ℕ) (e : Exact k)
    (h : j < sizes.schema.tokens) (ek : kind_of (doc_of d) j ≡ k) where
  pub again-name : NameAt (doc_of d) (j + 1)
  again-name = named-below d sizes.schema j k z.schema h ek (entered-named k e.0)

  module _ (x : ℕ) (ex : x ≡ place_of (texts_of d s) ((tree_of (doc_of d)).text (j + 1))) (lx : x < all_names sizes) (at : ℕ)
      (ea : at ≡ entry_at (all_names sizes) x k) where
    inside : value_of (doc_of d) (j + 1) < all_names sizes
    inside = schema-inside s d sizes reg z (j + 1) again-name

    text-is : text_at (texts_of d s) (value_of (doc_of d) (j + 1)) ≡ (tree_of (doc_of d)).text (j + 1)
    text-is = schema-text s d sizes reg z (j + 1) again-name

    pub again-inside : at < length reg
    again-inside = entry-inside s d sizes reg z _ inside _ text-is x ex lx k e.0 at ea

    found : get_or reg at 0 ≡ entry_of (first_named (tree_of (doc_of d)) k (name_below (tree_of (doc_of d)) j) 0 sizes.schema.tokens)
    found = entry_found_lem s d sizes reg z _ inside _ text-is x ex lx k e at ea

    pub again-not : get_or reg at 0 ≡ j + 1 → false ≡ repeats (tree_of (doc_of d)) k j
    again-not = entry-own (tree_of (doc_of d)) k j sizes.schema.tokens h (tree-kind (doc_of d) j ∙ ek) (get_or reg at 0) found

    pub again-is : (get_or reg at 0 ≡ j + 1 → ⊥) → true ≡ repeats (tree_of (doc_of d)) k j
    again-is = entry_other (tree_of (doc_of d)) k j sizes.schema.tokens h (tree-kind (doc_of d) j ∙ ek) (get_or reg at 0) found

    -- it is again where the entry is another's
    pub again-tested : not (eqb (get_or reg at 0) (j + 1)) ≡ repeats (tree_of (doc_of d)) k j
    again-tested = go (eqb (get_or reg at 0) (j + 1)) refl
      where
        go : (b : Bool) → eqb (get_or reg at 0) (j + 1) ≡ b → not b ≡ repeats (tree_of (doc_of d)) k j
        go true f = again-not (eqb-true _ _ f)
        go false f = again-is (eqb-false _ _ f)
