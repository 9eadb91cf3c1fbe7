-- The raw cells of a row, from a place on: the one that begins there, and those after it.
use mathlib.Core.Path.{◌≡◌, refl, ap, ◌∙◌, sym}
use mathlib.Core.Bool.{Bool, true, false}
use mathlib.Core.List.{List, [], ◌∷◌}
use Prim.Native.Nat.{ℕ, suc, ◌+◌, ◌-◌, ◌≤◌, ◌<◌}
use native.Mathlib.Omega.{arith}
use lib.ListN.{length, take, drop, length-drop}
use lib.Seq.{drop-drop}
use Rattle.lists.specs.Lists.{pick}
use Rattle.cells.specs.Raw.{ends_cell, turned, first_cell, later_cells, raw_cells, cell_end}

-- ---- the first raw cell of a text
pub first-within : (s : List ℕ) (q : Bool) → length (first_cell s q) ≤ length s
unfolding first_cell
first-within [] q = omega arith
first-within (b ∷ s) q = go (ends_cell q b) (first-within s (turned q b))
  where
    go : (t : Bool) → length (first_cell s (turned q b)) ≤ length s
        → length (pick t [] (b ∷ first_cell s (turned q b))) ≤ length (b ∷ s)
    go true h = omega arith
    go false h = omega arith

first-take : (s : List ℕ) (q : Bool) → take (length (first_cell s q)) s ≡ first_cell s q
unfolding first_cell
first-take [] q = refl
first-take (b ∷ s) q = go (ends_cell q b) (first-take s (turned q b))
  where
    go : (t : Bool) → take (length (first_cell s (turned q b))) s ≡ first_cell s (turned q b)
        → take (length (pick t [] (b ∷ first_cell s (turned q b)))) (b ∷ s) ≡ pick t [] (b ∷ first_cell s (turned q b))
    go true e = refl
    go false e = ap (λ (l : List ℕ). b ∷ l) e

-- it takes the whole text: none follows
later-none : (s : List ℕ) (q : Bool) → length s ≤ length (first_cell s q) → later_cells s q ≡ []
unfolding first_cell later_cells
later-none [] q h = refl
later-none (b ∷ s) q h = go (ends_cell q b) h (later-none s (turned q b))
  where
    go : (t : Bool) → length (b ∷ s) ≤ length (pick t [] (b ∷ first_cell s (turned q b)))
        → (length s ≤ length (first_cell s (turned q b)) → later_cells s (turned q b) ≡ [])
        → pick t (raw_cells s) (later_cells s (turned q b)) ≡ []
    go true k r = absurd (omega arith)
    go false k r = r (omega arith)

-- it does not: the raw cells of what follows its comma do
later_more : (s : List ℕ) (q : Bool) → length (first_cell s q) < length s
    → later_cells s q ≡ raw_cells (drop (suc (length (first_cell s q))) s)
unfolding first_cell later_cells
later_more [] q h = absurd (omega arith)
later_more (b ∷ s) q h = go (ends_cell q b) h (later_more s (turned q b))
  where
    go : (t : Bool) → length (pick t [] (b ∷ first_cell s (turned q b))) < length (b ∷ s)
        → (length (first_cell s (turned q b)) < length s
        → later_cells s (turned q b) ≡ raw_cells (drop (suc (length (first_cell s (turned q b)))) s))
        → pick t (raw_cells s) (later_cells s (turned q b))
        ≡ raw_cells (drop (suc (length (pick t [] (b ∷ first_cell s (turned q b))))) (b ∷ s))
    go true k r = refl
    go false k r = r (omega arith)

-- ---- by place in a row
module _ (s : List ℕ) (at : ℕ) (h : at ≤ length s) where
  pub end-within : (at ≤ cell_end s at) × (cell_end s at ≤ length s)
  unfolding cell_end
  end-within = (omega arith, omega (arith, first-within (drop at s) false, length-drop at s))

  first_part : first_cell (drop at s) false ≡ take (cell_end s at - at) (drop at s)
  unfolding cell_end
  first_part =
      let n : (at + length (first_cell (drop at s) false)) - at ≡ length (first_cell (drop at s) false) = omega arith in
      rw n (sym (first-take (drop at s) false))

  pub last-cell : cell_end s at ≡ length s → raw_cells (drop at s) ≡ take (cell_end s at - at) (drop at s) ∷ []
  unfolding cell_end
  last-cell e =
      let l : later_cells (drop at s) false ≡ [] =
      later-none (drop at s) false (omega (arith, length-drop at s)) in
      let f : first_cell (drop at s) false ≡ take (cell_end s at - at) (drop at s) = first_part in
      cc

  pub next-cell : cell_end s at < length s
      → raw_cells (drop at s) ≡ take (cell_end s at - at) (drop at s) ∷ raw_cells (drop (cell_end s at + 1) s)
  unfolding cell_end
  next-cell e =
      let n : ℕ = length (first_cell (drop at s) false) in
      let k : at + suc n ≡ at + n + 1 = omega arith in
      let d : drop (suc n) (drop at s) ≡ drop (at + n + 1) s = drop-drop (suc n) at s ∙ ap (λ (m : ℕ). drop m s) k in
      let l : later_cells (drop at s) false ≡ raw_cells (drop (at + n + 1) s) =
      later_more (drop at s) false (omega (arith, length-drop at s)) ∙ ap (λ (r : List ℕ). raw_cells r) d in
      let f : first_cell (drop at s) false ≡ take (cell_end s at - at) (drop at s) = first_part in
      cc
