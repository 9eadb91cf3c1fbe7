-- Names by their numbers: the text of a Name token of either sheet has the number that the register has for it.
use mathlib.Core.Path.{◌≡◌, ◌∙◌, sym, ap}
use mathlib.Core.List.{List}
use Prim.Native.Nat.{ℕ, ◌+◌, ◌-◌, ◌<◌}
use native.Mathlib.Omega.{arith}
use lib.Dec.{eqb}
use lib.ListN.{get_or}
use Rattle.text.specs.Text.{same_text}
use Rattle.frame.specs.Doc.{doc_of, value_of, name_of}
use Rattle.frame.specs.Inner.{Sound}
use Rattle.frame.specs.declared.Sizes.{Sizes}
use Rattle.grammar.specs.Tree.{tree_of}
use Rattle.grammar.specs.Inner.{NameAt}
use Rattle.grammar.proofs.Flat.{tree-text}
use Rattle.schema.specs.Inner.{Declared}
use Rattle.numbers.specs.Least.{all_names, texts_of, text_at, place_of, least_same}
use Rattle.numbers.proofs.Laws.{numbers-low, least-equal, same_test}
use Rattle.numbers.proofs.Texts.{texts-length, in-texts, text-first, text-second}
use Rattle.register.specs.Register.{Registered}

pub least-place : (ts : List (List ℕ)) (i : ℕ) → least_same ts i ≡ place_of ts (text_at ts i)
unfolding least_same
least-place ts i = cc

-- of two sheets alone: the text of the schema's Name at token i is text m of the two sheets' names
module _ (s d : List ℕ) (sizes : Sizes) (zd : Declared d sizes.schema) (zs : Sound s sizes.statement) where
  pub text-below : (i : ℕ) → NameAt (doc_of d) i → text_at (texts_of d s) (value_of (doc_of d) i) ≡ (tree_of (doc_of d)).text i
  text-below i n =
      sym (text-first s d sizes zd.sheet zs (value_of (doc_of d) i) (name_of (doc_of d) (value_of (doc_of d) i)) (omega (arith, n.below, zd.sheet.names)) cc)
      ∙ sym (tree-text (doc_of d) i n.kind)

  pub inside-below : (i : ℕ) → NameAt (doc_of d) i → value_of (doc_of d) i < all_names sizes
  inside-below i n = omega (arith, n.below, zd.sheet.names)

module _ (s d : List ℕ) (sizes : Sizes) (reg : List ℕ) (z : Registered s d sizes reg) where
  -- the text of the Name at token i is text m of the two sheets' names
  pub statement-text : (i : ℕ) → NameAt (doc_of s) i → text_at (texts_of d s) (sizes.schema.names + value_of (doc_of s) i) ≡ (tree_of (doc_of s)).text i
  statement-text i n =
      let v = value_of (doc_of s) i in
      let e : sizes.schema.names + v - sizes.schema.names ≡ v = omega arith in
      sym (text-second s d sizes z.schema.sheet z.statement (sizes.schema.names + v) (name_of (doc_of s) (sizes.schema.names + v - sizes.schema.names)) (omega arith) cc)
      ∙ ap (name_of (doc_of s)) e ∙ sym (tree-text (doc_of s) i n.kind)

  pub schema-text : (i : ℕ) → NameAt (doc_of d) i → text_at (texts_of d s) (value_of (doc_of d) i) ≡ (tree_of (doc_of d)).text i
  schema-text = text-below s d sizes z.schema z.statement

  pub statement-inside : (i : ℕ) → NameAt (doc_of s) i → sizes.schema.names + value_of (doc_of s) i < all_names sizes
  statement-inside i n = omega (arith, n.below, z.statement.names)

  pub schema-inside : (i : ℕ) → NameAt (doc_of d) i → value_of (doc_of d) i < all_names sizes
  schema-inside = inside-below s d sizes z.schema z.statement

  -- two Names of the schema have one number exactly where they have one text
  pub schema-same : (i j : ℕ) → NameAt (doc_of d) i → NameAt (doc_of d) j
      → eqb (place_of (texts_of d s) ((tree_of (doc_of d)).text i)) (place_of (texts_of d s) ((tree_of (doc_of d)).text j))
      ≡ same_text ((tree_of (doc_of d)).text i) ((tree_of (doc_of d)).text j)
  schema-same i j a b =
      let u = least-equal (texts_of d s) (value_of (doc_of d) i) (value_of (doc_of d) j)
      (in-texts s d sizes z.schema.sheet z.statement _ (schema-inside i a))
      (in-texts s d sizes z.schema.sheet z.statement _ (schema-inside j b)) in
      same_test _ _ _ _
      (λ o. sym (schema-text i a) ∙ u.0 (by-text i a ∙ o ∙ sym (by-text j b)) ∙ schema-text j b)
      (λ o. ap (place_of (texts_of d s)) o)
    where
      by-text : (i : ℕ) → NameAt (doc_of d) i
          → least_same (texts_of d s) (value_of (doc_of d) i) ≡ place_of (texts_of d s) ((tree_of (doc_of d)).text i)
      by-text i a = least-place (texts_of d s) (value_of (doc_of d) i) ∙ ap (place_of (texts_of d s)) (schema-text i a)

  -- the number at place m of the register, where text m is x
  module _ (m : ℕ) (h : m < all_names sizes) (x : List ℕ) (e : text_at (texts_of d s) m ≡ x) where
    pub number_is : get_or reg m 0 ≡ place_of (texts_of d s) x
    number_is = z.numbers.each m h ∙ least-place (texts_of d s) m ∙ ap (place_of (texts_of d s)) e

    pub number-low : get_or reg m 0 < all_names sizes
    number-low = omega (arith, numbers-low (texts_of d s) (all_names sizes) reg z.numbers (omega (arith, texts-length s d sizes z.schema.sheet z.statement)) m h)

    pub number-inside : place_of (texts_of d s) x < all_names sizes
    number-inside = omega (arith, number_is, number-low)

    -- read at that place
    pub number_at : (at : ℕ) → at ≡ m → (get_or reg at 0 ≡ place_of (texts_of d s) x) × (get_or reg at 0 < all_names sizes)
    number_at at ea = rw ea (number_is, number-low)
