-- The margin list of a list: `margin_of` is it, and there is no other.
use mathlib.Core.Path.{◌≡◌, sym, ◌∙◌}
use mathlib.Core.List.{List}
use Rattle.in_order.proofs.Sorting.{rearranged}
use Rattle.in_order.proofs.Merging.{sorted_rises}
use Rattle.in_order.proofs.Stable.{stable, sorted-only}
use Rattle.breach.specs.Breach.{Item}
use Rattle.margin.specs.Margin.{margin_keys, Margin, margin_of}

-- What is computed has every item as often as the list, rises by span start, and has equal starts in list order
pub margin-of : (xs : List Item) → Margin xs (margin_of xs)
margin-of xs = record {
  rearranged = rearranged margin_keys xs;
  rises = sorted_rises margin_keys xs;
  stable = λ ks. stable margin_keys ks xs;
}

-- These three determine it: there is one margin list of a list
pub only-margin : (xs ys zs : List Item) → Margin xs ys → Margin xs zs → ys ≡ zs
only-margin xs ys zs a b =
    sorted-only margin_keys xs ys a.rises a.stable ∙ sym (sorted-only margin_keys xs zs b.rises b.stable)

-- so it is the computed one
pub computed : (xs ys : List Item) → Margin xs ys → ys ≡ margin_of xs
computed xs ys m = only-margin xs ys (margin_of xs) m (margin-of xs)
