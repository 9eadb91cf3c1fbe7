-- The names of types, by tables of them.
use mathlib.Core.Path.{◌≡◌, refl}
use mathlib.Core.List.{List, [], ◌∷◌, map}
use mathlib.Core.Bool.{Bool, true, false}
use Prim.Native.Nat.{ℕ, zero, suc, ◌+◌, ◌≤◌, ◌<◌}
use Prim.Native.String.{String}
use native.Mathlib.Omega.{arith}
use lib.ListN.{length, get_or}
use lib.Dec.{eqb, leb}
use borrow.Author.Tests.{ne_eqb, leb-true}
use Rattle.lists.specs.Lists.{pick, all_of}
use Rattle.lists.proofs.Tests.{both_true}
use Rattle.lists.proofs.Ranges.{every_from, every-at}
use Rattle.text.specs.Text.{same_text, bytes}
use Rattle.types.specs.Types.{ty, type_name, property_type_name}
use Rattle.phrase.specs.Inner.{Put}
use Rattle.phrase.proofs.Laws.{put_as}

-- the constants of the code
abbrev pub inferred : List String
inferred =
    "Any" ∷ "Null" ∷ "Bool" ∷ "Int" ∷ "Float" ∷ "String" ∷ "Num" ∷ "Date" ∷ "Datetime" ∷ "Map" ∷ "Node"
    ∷ "Relationship" ∷ "Path" ∷ "Union" ∷ "Unknown" ∷ []

abbrev pub declared : List String
declared = "String" ∷ "Int" ∷ "Float" ∷ "Bool" ∷ "Date" ∷ "Datetime" ∷ "Enum" ∷ "Opaque" ∷ "Any" ∷ []

-- ---- each of them is its type's name
pub row_same : (b : ℕ) → b < 15 → same_text (bytes (get_or inferred b "")) (bytes (type_name (ty b 0))) ≡ true
unfolding every_from bytes same_text type_name
row_same b h = every-at (λ k. same_text (bytes (get_or inferred k "")) (bytes (type_name (ty k 0)))) 15 0 b refl
    (omega arith) h

pub declared_same : (b : ℕ) → b < 9 → same_text (bytes (get_or declared b "")) (bytes (property_type_name (ty b 0)))
    ≡ true
unfolding every_from bytes same_text property_type_name
declared_same b h = every-at (λ k. same_text (bytes (get_or declared k "")) (bytes (property_type_name (ty k 0)))) 9 0 b
    refl (omega arith) h

-- ---- a list is just List
pub named_list : (d : ℕ) (x : List ℕ) → (d ≡ 0 → ⊥) → bytes "List" ≡ pick (eqb d 0) x (bytes "List")
named_list d x h = rw (ne_eqb d 0 h)

-- ---- the bytes of a name of a table
entry : (ss : List String) (k : ℕ) → get_or (map bytes ss) k [] ≡ bytes (get_or ss k "")
unfolding bytes
entry [] k = refl
entry (s ∷ ss) zero = refl
entry (s ∷ ss) (suc k) = entry ss k

named : (b : Bool) (ss : List String) (k : ℕ) → pick b (get_or (map bytes ss) k []) (bytes "List")
    ≡ bytes (pick b (get_or ss k "") "List")
named true ss k = entry ss k
named false ss k = refl

-- ---- none is longer than Relationship
abbrev pub is_short : String → Bool
is_short s = leb (length (bytes s)) 12

short : (ss : List String) (k : ℕ) → all_of is_short ss ≡ true → length (bytes (get_or ss k "")) ≤ 12
unfolding all_of bytes
short [] k e = omega arith
short (s ∷ ss) zero e = leb-true _ _ (both_true (is_short s) (all_of is_short ss) e).0
short (s ∷ ss) (suc k) e = short ss k (both_true (is_short s) (all_of is_short ss) e).1

short_named : (b : Bool) (ss : List String) (k : ℕ) → all_of is_short ss ≡ true
    → length (bytes (pick b (get_or ss k "") "List")) ≤ 12
unfolding bytes
short_named true ss k e = short ss k e
short_named false ss k e = omega arith

pub put-named : (ss : List String) (b : Bool) (k : ℕ) {at r : ℕ} {l m : List ℕ} → all_of is_short ss ≡ true
    → Put (pick b (get_or (map bytes ss) k []) (bytes "List")) at l r m
    → Put (bytes (pick b (get_or ss k "") "List")) at l r m × (r ≤ at + 12)
put-named ss b k {at} {r} {l} {m} e p =
    let q : Put (bytes (pick b (get_or ss k "") "List")) at l r m = put_as (named b ss k) p in
    (q, omega (arith, q.ends, short_named b ss k e))
