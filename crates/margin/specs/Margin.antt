-- The margin list: the check's list by span start.
use Rattle.std.specs.Prelude.{◌≡◌, ℕ}
use mathlib.Core.List.{List, [], ◌∷◌, Permᴰ}
use Rattle.lists.specs.Lists.{those}
use Rattle.text.specs.Text.{same_text}
use Rattle.in_order.specs.InOrder.{Rises, sorted}
use Rattle.schema.specs.Effect.{Effect, after_both}
use Rattle.breach.specs.Breach.{Item, statement_in, schema_in}
use Rattle.breach.specs.Listing.{listed}
use Rattle.schema_aware.specs.Check.{items_effect}

-- by span start: the keys of an item, of which the first that differs decides
abbrev pub margin_keys : Item → List ℕ
margin_keys x = x.start ∷ []

-- ys is the margin list of the list xs. `margin-of` of the proofs: `margin_of xs` is one; `only-margin`: there is no
-- other
pub record Margin (xs ys : List Item) : Type 0 where
  -- a rearrangement: every item is there as often
  pub rearranged : Permᴰ ys xs
  -- by span start: none has lesser keys than one that stands in front of it
  pub rises : Rises margin_keys ys
  -- equal starts in list order: those of the same keys stand as they stand in xs
  pub stable : (ks : List ℕ) → those (λ x. same_text (margin_keys x) ks) ys ≡ those (λ x. same_text (margin_keys x) ks) xs

-- what computes it
abbrev pub margin_of : List Item → List Item
margin_of xs = sorted margin_keys xs

-- margin_list: the statement's refusals, the schema's, then 14; else all items
unfoldable pub margin_effect : List ℕ → List ℕ → List ℕ → Effect
margin_effect st sc list = after_both st sc (items_effect (margin_of (listed (statement_in st) (schema_in sc))) list)
