-- Literal types, and which of them a declared type takes.
use Rattle.std.specs.Prelude.{ℕ, zero, suc, ◌+◌, ◌-◌, Bool, List, [], ◌∷◌, get_or, eqb, Option, Some, None}
use Prim.Native.String.{String}
use Rattle.lists.specs.Lists.{pick, both, either, any_of, is_one}
use Rattle.rules.specs.Kinds as Kind
use Rattle.grammar.specs.Tree.{Tree}
use Rattle.types.specs.InferredTypes as Inferred
use Rattle.types.specs.declared.Ty.{Ty}

-- A type is one of the inferred types, or one of the declared ones, which has its kind less that of the first; and a
-- list depth
abbrev pub ty : ℕ → ℕ → Ty
ty b d = record { base = b; depth = d }

-- one list deeper
abbrev pub deeper : Option Ty → Option Ty
deeper None = None
deeper (Some a) = Some (ty a.base (suc a.depth))

-- Kinds 1 to 5 have their own type, which is the kind's number. A nonempty list takes the type of its first item, one
-- list deeper; an empty one is List(Any); another kind has none, nor has a list beginning with it. `left` tokens stand
-- from i on, and a list's first item is the token after it, so that they suffice: `literal-step` of the proofs is the
-- equation of `literal` without them
unfoldable pub literal_in : Tree → ℕ → ℕ → Option Ty
literal_in t zero i = None
literal_in t (suc left) i =
    let r : Option Ty = deeper (literal_in t left (suc i)) in
    pick (is_one (Kind.Null ∷ Kind.Bool ∷ Kind.Int ∷ Kind.Float ∷ Kind.String ∷ []) (t.kind i)) (Some (ty (t.kind i) 0))
    (pick (eqb (t.kind i) Kind.List) (pick (eqb (t.value i) 0) (Some (ty Inferred.Any 1)) r) None)

abbrev pub literal : Tree → ℕ → Option Ty
literal t i = literal_in t (t.size - i) i

-- inferred is Any, Unknown or Null; declared is Any, Opaque or Enum. Here and below a declared type is its kind
abbrev pub loose : ℕ → Bool
loose a = is_one (Inferred.Any ∷ Inferred.Unknown ∷ Kind.Null ∷ []) a

abbrev pub wide : ℕ → Bool
wide b = is_one (Kind.AnyType ∷ Kind.OpaqueType ∷ Kind.EnumType ∷ []) b

-- equal scalars, and Num against Int or Float: an inferred type, and a declared one that takes it
unfoldable pub scalars : ℕ → ℕ → Bool
scalars a b =
    any_of (λ (p : ℕ × ℕ). both (eqb a p.0) (eqb b p.1))
    ((Kind.String, Kind.StringType) ∷ (Kind.Int, Kind.IntType) ∷ (Inferred.Num, Kind.IntType)
    ∷ (Kind.Float, Kind.FloatType) ∷ (Inferred.Num, Kind.FloatType) ∷ (Kind.Bool, Kind.BoolType)
    ∷ (Inferred.Date, Kind.DateType) ∷ (Inferred.Datetime, Kind.DatetimeType) ∷ [])

-- the rule of the table of 15 by 9, outside lists
unfoldable pub compatible : ℕ → ℕ → Bool
compatible a b = either (loose a) (either (wide b) (scalars a b))

-- strip lists from both while both are lists; a list against no list passes by the other side alone
unfoldable pub compatible_at : ℕ → ℕ → ℕ → ℕ → Bool
compatible_at a zero b zero = compatible a b
compatible_at a zero b (suc n) = loose a
compatible_at a (suc m) b zero = wide b
compatible_at a (suc m) b (suc n) = compatible_at a m b n

-- of an inferred type and a declared one
abbrev pub types_compatible : Ty → Ty → Bool
types_compatible a b = compatible_at a.base a.depth (Kind.FirstType + b.base) b.depth

-- the names of the inferred types, and those of the declared ones, by their numbers from 0 on
abbrev pub inferred_names : List String
inferred_names =
    "Any" ∷ "Null" ∷ "Bool" ∷ "Int" ∷ "Float" ∷ "String" ∷ "Num" ∷ "Date" ∷ "Datetime" ∷ "Map" ∷ "Node"
    ∷ "Relationship" ∷ "Path" ∷ "Union" ∷ "Unknown" ∷ []

abbrev pub declared_names : List String
declared_names = "String" ∷ "Int" ∷ "Float" ∷ "Bool" ∷ "Date" ∷ "Datetime" ∷ "Enum" ∷ "Opaque" ∷ "Any" ∷ []

-- the name of a type; a list is just List
unfoldable pub type_name : Ty → String
type_name a = pick (eqb a.depth 0) (get_or inferred_names a.base "") "List"

unfoldable pub property_type_name : Ty → String
property_type_name b = pick (eqb b.depth 0) (get_or declared_names b.base "") "List"
