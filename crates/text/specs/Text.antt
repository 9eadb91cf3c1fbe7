-- Names are compared by text and ordered by bytes. A text is the list of its bytes.
use Rattle.std.specs.Prelude.{ℕ, List, [], ◌∷◌, Bool, true, false, ltb, eqb}
use Prim.Native.Char.{code}
use Prim.Native.String.{String, [] as []ˢ, ◌∷◌ as ◌∷ˢ◌}
use Rattle.lists.specs.Lists.{pick, both, any_of}
use Rattle.std.specs.declared.cmp.Ordering.{Ordering}
use Rattle.std.specs.declared.cmp.Ordering.TheVariants.{Less, Equal, Greater}

-- the same text. `same-equal` of the proofs says that this is equality
unfoldable pub same_text : List ℕ → List ℕ → Bool
same_text [] [] = true
same_text [] (y ∷ b) = false
same_text (x ∷ a) [] = false
same_text (x ∷ a) (y ∷ b) = let r : Bool = same_text a b in both (eqb x y) r

-- a text is one of several
abbrev pub is_text : List (List ℕ) → List ℕ → Bool
is_text ns n = any_of (same_text n) ns

-- the order of two texts by their bytes: at the first byte that differs, and where one of them ends there, it is the
-- lesser
unfoldable pub order_of : List ℕ → List ℕ → Ordering
order_of [] [] = Equal
order_of [] (y ∷ b) = Less
order_of (x ∷ a) [] = Greater
order_of (x ∷ a) (y ∷ b) =
    let r : Ordering = order_of a b in pick (ltb x y) Less (pick (ltb y x) Greater r)

-- an order is Less
abbrev pub is_less : Ordering → Bool
is_less Less = true
is_less Equal = false
is_less Greater = false

-- the bytes of a text that is written out, which is ASCII
unfoldable pub bytes : String → List ℕ
bytes []ˢ = []
bytes (c ∷ˢ s) = code c ∷ bytes s
