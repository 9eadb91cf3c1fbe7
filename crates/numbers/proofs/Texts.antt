-- The names of two sheets by their numbers.
use mathlib.Core.Path.{◌≡◌, ◌∙◌, sym, ap}
use mathlib.Core.List.{List, []}
use Prim.Native.Nat.{ℕ, ◌+◌, ◌-◌, ◌≤◌, ◌<◌}
use native.Mathlib.Omega.{arith}
use lib.ListN.{length, length-append, get_or-append}
use lib.Seq.{get_or-append-add}
use Rattle.frame.specs.Doc.{doc_of, name_of}
use Rattle.frame.specs.Inner.{Sound}
use Rattle.frame.specs.declared.Sizes.{Sizes}
use Rattle.numbers.specs.Least.{all_names, texts_of, text_at}

module _ (s d : List ℕ) (sizes : Sizes) (zd : Sound d sizes.schema) (zs : Sound s sizes.statement) where
  pub texts-length : length (texts_of d s) ≡ all_names sizes
  texts-length = omega (arith, length-append (doc_of d).names (doc_of s).names, zd.names, zs.names)

  pub in-texts : (i : ℕ) → i < all_names sizes → i < length (texts_of d s)
  in-texts i h = omega (arith, texts-length)

  -- a text that is a name of the one sheet, or of the other
  pub text-first : (i : ℕ) (t : List ℕ) → i < sizes.schema.names → t ≡ name_of (doc_of d) i → t ≡ text_at (texts_of d s) i
  text-first i t h e = e ∙ sym (get_or-append (doc_of d).names (doc_of s).names [] i (omega (arith, zd.names)))

  pub text-second : (i : ℕ) (t : List ℕ) → sizes.schema.names ≤ i → t ≡ name_of (doc_of s) (i - sizes.schema.names) → t ≡ text_at (texts_of d s) i
  text-second i t h e =
      let k : length (doc_of d).names + (i - sizes.schema.names) ≡ i = omega (arith, zd.names) in
      let r : text_at (texts_of d s) (length (doc_of d).names + (i - sizes.schema.names)) ≡ name_of (doc_of s) (i - sizes.schema.names) = get_or-append-add (doc_of d).names (doc_of s).names (i - sizes.schema.names) [] in
      e ∙ sym r ∙ ap (text_at (texts_of d s)) k
