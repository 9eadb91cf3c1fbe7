-- Sheets for examples: a sheet's bytes, of tokens and names.
use Prim.Native.Nat.{ℕ, ◌+◌, ◌/◌, ◌%◌}
use Prim.Native.String.{String}
use mathlib.Core.List.{List, [], ◌∷◌, ◌++◌, map}
use lib.ListN.{length}
use Rattle.lists.specs.Lists.{each}
use Rattle.text.specs.Text.{bytes}
use Rattle.frame.specs.Doc.{Token}
use Rattle.frame.proofs.Tokens.{◌of◌}

-- ---- a sheet's bytes, of tokens and names
abbrev pub word : ℕ → List ℕ
word n = n % 256 ∷ n / 256 % 256 ∷ n / 65536 % 256 ∷ n / 16777216 % 256 ∷ []

unfoldable pub ends : ℕ → List (List ℕ) → List ℕ
ends at [] = []
ends at (n ∷ ns) = word (at + length n) ++ ends (at + length n) ns

abbrev pub laid : List Token → List (List ℕ) → List ℕ
laid ts ns =
    word (length ts) ++ word (length ns) ++ word (length (each (λ (n : List ℕ). n) ns)) ++ map (λ t. t.kind) ts
    ++ each (λ (t : Token). word t.value) ts ++ ends 0 ns ++ each (λ (n : List ℕ). n) ns

abbrev pub sheet : List Token → List String → List ℕ
sheet ts ns = laid ts (map bytes ns)

-- ---- the sheets
-- a schema with no declaration
abbrev pub empty : List ℕ
empty = sheet (100 of 0 ∷ []) []

-- Labels A and B are declared, and Apart
abbrev pub apart : List ℕ
apart = sheet (100 of 3 ∷ 101 of 0 ∷ 50 of 0 ∷ 101 of 0 ∷ 50 of 1 ∷ 106 of 0 ∷ 50 of 0 ∷ 50 of 1 ∷ []) ("A" ∷ "B" ∷ [])

-- a clause of kind k with a pattern (:A:B), from 3 to 9. B is name 0 here, and name 1 in the schema
abbrev pub two_labels : ℕ → List ℕ
two_labels k =
    sheet (90 of 1 ∷ k of 0 ∷ 60 of 1 ∷ 61 of 1 ∷ 62 of 4 ∷ 51 of 3 ∷ 51 of 9 ∷ 50 of 1 ∷ 50 of 0 ∷ []) ("B" ∷ "A" ∷ [])

-- the same Node, created in two clauses, the later one standing first in the source text
abbrev pub backwards : List ℕ
backwards =
    sheet (90 of 2 ∷ 71 of 0 ∷ 60 of 1 ∷ 61 of 1 ∷ 62 of 4 ∷ 51 of 23 ∷ 51 of 29 ∷ 50 of 1 ∷ 50 of 0
    ∷ 71 of 0 ∷ 60 of 1 ∷ 61 of 1 ∷ 62 of 4 ∷ 51 of 3 ∷ 51 of 9 ∷ 50 of 1 ∷ 50 of 0 ∷ [])
    ("B" ∷ "A" ∷ [])

-- Label A with the items given, where site is name 1; MERGE (:A {..}) with the map given, from 6 to 37, where site is
-- name 0
abbrev pub label_a : ℕ → List Token → List ℕ
label_a n items = sheet (100 of 1 ∷ 101 of n ∷ 50 of 0 ∷ items) ("A" ∷ "site" ∷ [])

abbrev pub merge_a : List Token → List ℕ
merge_a properties =
    sheet (90 of 1 ∷ 72 of 0 ∷ 60 of 1 ∷ 61 of 1 ∷ 62 of 3 ∷ 51 of 6 ∷ 51 of 37 ∷ 50 of 1 ∷ properties)
    ("site" ∷ "A" ∷ [])

-- site is declared of a type, and merged with a value; no tuple is declared
abbrev pub site_is : Token → List ℕ
site_is ty = label_a 1 (110 of 0 ∷ 50 of 1 ∷ ty ∷ [])

abbrev pub site_of : List Token → List ℕ
site_of value = merge_a (14 of 1 ∷ 50 of 0 ∷ value)

-- Labels A, with site Any and Tuple (site), and B; Apart
abbrev pub keyed_apart : List ℕ
keyed_apart =
    sheet (100 of 3 ∷ 101 of 2 ∷ 50 of 0 ∷ 110 of 0 ∷ 50 of 2 ∷ 128 of 0 ∷ 111 of 1 ∷ 50 of 2 ∷ 101 of 0 ∷ 50 of 1
    ∷ 106 of 0 ∷ 50 of 0 ∷ 50 of 1 ∷ [])
    ("A" ∷ "B" ∷ "site" ∷ [])

-- Merge (:A {site: [(:A:B:Zzz {}) | 1]}), where the nested Node is judged, but not as one that is created or merged
abbrev pub nested : List ℕ
nested =
    sheet (90 of 1 ∷ 72 of 0 ∷ 60 of 1 ∷ 61 of 1 ∷ 62 of 3 ∷ 51 of 6 ∷ 51 of 37 ∷ 50 of 0 ∷ 14 of 1 ∷ 50 of 2 ∷ 23 of 0
    ∷ 60 of 1 ∷ 61 of 1 ∷ 62 of 7 ∷ 51 of 12 ∷ 51 of 20 ∷ 50 of 0 ∷ 50 of 1 ∷ 50 of 3 ∷ 14 of 0 ∷ 3 of 0 ∷ [])
    ("A" ∷ "B" ∷ "site" ∷ "Zzz" ∷ [])

-- Merge (:A {site: "7", site: 1, site: "7"})
abbrev pub repeated : List ℕ
repeated = merge_a (14 of 3 ∷ 50 of 0 ∷ 5 of 0 ∷ 50 of 0 ∷ 3 of 0 ∷ 50 of 0 ∷ 5 of 0 ∷ [])
