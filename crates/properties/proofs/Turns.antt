-- One token more, and one declaration more.
use mathlib.Core.Path.{◌≡◌, ◌∙◌, sym, ap}
use mathlib.Core.List.{List, ◌++◌}
use Prim.Native.Nat.{ℕ, suc, ◌+◌, ◌≤◌}
use native.Mathlib.Omega.{arith}
use native.Mathlib.Numerals.{add-one}
use borrow.Author.Tests.{eq-eqb, ne_eqb}
use lib.ListN.{get_or, set}
use Rattle.lists.specs.Lists.{over}
use Rattle.lists.proofs.Laws.{over-one, over-join, over_none}
use Rattle.frame.specs.Doc.{doc_of, kind_of}
use Rattle.rules.specs.Kinds as Kind
use Rattle.grammar.specs.Tree.{Tree, tree_of}
use Rattle.schema.specs.Declarations.{of_kind, name_below}
use Rattle.schema.specs.Inner.{first_named}
use Rattle.schema.proofs.Searches.{there-is, absent-is}
use Rattle.provider.specs.Schema.{items_of}
use Rattle.numbers.specs.Least.{place_of}
use Rattle.properties.specs.Entering.{entered_at, entered_each, properties_at, property_tokens}
use Rattle.properties.proofs.Entered.{each_append}
use Rattle.std.specs.Prelude.{Option, Some, None}

module _ (ts : List (List ℕ)) (t : Tree) (j : ℕ) (l : List ℕ) (at : ℕ) (ea : at ≡ place_of ts (name_below t j)) where
  pub property-kept : (get_or l at 0 ≡ 0 → ⊥) → l ≡ entered_at ts t j l
  unfolding entered_at
  property-kept h = rw (← ea, ne_eqb (get_or l at 0) 0 h)

  pub property-put : get_or l at 0 ≡ 0 → set l at (j + 1) ≡ entered_at ts t j l
  unfolding entered_at
  property-put h = rw (← ea, eq-eqb (get_or l at 0) 0 h)

module _ (ts : List (List ℕ)) (d : List ℕ) (j : ℕ) (l : List ℕ) (c : ℕ) (ec : c ≡ kind_of (doc_of d) j) where
  pub item-other : (c ≡ Kind.Property → ⊥) → l ≡ entered_each ts (tree_of (doc_of d)) (of_kind (tree_of (doc_of d)) Kind.Property j) l
  unfolding entered_each tree_of
  item-other h = rw (ne_eqb (kind_of (doc_of d) j) Kind.Property (λ e. h (ec ∙ e)))

  pub item-one : (l' : List ℕ) → c ≡ Kind.Property → l' ≡ entered_at ts (tree_of (doc_of d)) j l
      → l' ≡ entered_each ts (tree_of (doc_of d)) (of_kind (tree_of (doc_of d)) Kind.Property j) l
  unfolding entered_each tree_of
  item-one l' h e = rw (eq-eqb (kind_of (doc_of d) j) Kind.Property (sym ec ∙ h)) e

module _ (ts : List (List ℕ)) (t : Tree) (a : ℕ) (l₀ : List ℕ) where
  pub items-start : l₀ ≡ entered_each ts t (over (of_kind t Kind.Property) a a) l₀
  unfolding entered_each
  items-start = rw (over_none (of_kind t Kind.Property) a a (omega arith))

  pub items_more : (j : ℕ) (l l' : List ℕ) → a ≤ j → l ≡ entered_each ts t (over (of_kind t Kind.Property) a j) l₀
      → l' ≡ entered_each ts t (of_kind t Kind.Property j) l → l' ≡ entered_each ts t (over (of_kind t Kind.Property) a (j + 1)) l₀
  items_more j l l' h e g =
      let o : over (of_kind t Kind.Property) a (j + 1) ≡ over (of_kind t Kind.Property) a j ++ of_kind t Kind.Property j =
      rw (add-one j) (sym (over-join (of_kind t Kind.Property) a j (suc j) h (omega arith))
      ∙ ap (λ (m : List ℕ). over (of_kind t Kind.Property) a j ++ m) (over-one (of_kind t Kind.Property) j)) in
      g ∙ ap (entered_each ts t (of_kind t Kind.Property j)) e
      ∙ sym (each_append ts t (over (of_kind t Kind.Property) a j) (of_kind t Kind.Property j) l₀)
      ∙ ap (λ (ps : List ℕ). entered_each ts t ps l₀) (sym o)

  pub items-all : (b j : ℕ) (l : List ℕ) → j ≤ b → b ≤ j → l ≡ entered_each ts t (over (of_kind t Kind.Property) a j) l₀
      → l ≡ entered_each ts t (over (of_kind t Kind.Property) a b) l₀
  items-all b j l h g e = let q : j ≡ b = omega arith in e ∙ ap (λ (m : ℕ). entered_each ts t (over (of_kind t Kind.Property) a m) l₀) q

-- the declaration of a name: none, or the one found
module _ (ts : List (List ℕ)) (t : Tree) (k m : ℕ) (n : List ℕ) {q : Option ℕ} (e : q ≡ first_named t k n 0 m) (l : List ℕ) where
  pub none-declared : q ≡ None → l ≡ entered_each ts t (property_tokens t k m n) l
  unfolding entered_each
  none-declared h = rw (absent-is (first_named t k n 0 m) e h)

  pub one-declared : (i b : ℕ) (l' : List ℕ) → q ≡ Some i → over (of_kind t Kind.Property) (i + 1) b ≡ items_of t i Kind.Property
      → l' ≡ entered_each ts t (over (of_kind t Kind.Property) (i + 1) b) l → l' ≡ entered_each ts t (property_tokens t k m n) l
  one-declared i b l' h o g =
      g ∙ ap (λ (ps : List ℕ). entered_each ts t ps l)
      (o ∙ ap (properties_at t) (sym (there-is (first_named t k n 0 m) i e h)))
