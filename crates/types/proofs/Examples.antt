-- The type cases of document 01, by computation against the definitions: the starred four, those with a list on one
-- side only, and how many entries of the table pass.
use mathlib.Core.Path.{◌≡◌, refl}
use mathlib.Core.Bool.{Bool, true, false}
use mathlib.Core.List.{List, [], ◌∷◌, map}
use Prim.Native.Nat.{◌-◌}
use lib.ListN.{length}
use Rattle.lists.specs.Lists.{pick, table, each, any_of, through}
use Rattle.frame.specs.Doc.{Token}
use Rattle.frame.proofs.Tokens.{◌of◌}
use Rattle.rules.specs.Kinds as Kind
use Rattle.grammar.specs.Tree.{tree_of}
use Rattle.types.specs.declared.Ty.{Ty}
use Rattle.types.specs.InferredTypes as Inferred
use Rattle.types.specs.Types.{ty, literal_in, literal, scalars, compatible, compatible_at, types_compatible, type_name, property_type_name}
use Rattle.std.specs.Prelude.{Some, None, Option}

-- whether an expression's literal type passes for a declared one, if it has a type
abbrev said : Option Ty → Ty → Option Bool
said None b = None
said (Some a) b = Some (types_compatible a b)

abbrev passes : List Token → Ty → Option Bool
passes ts b = said (literal (tree_of (record { tokens = ts; names = [] })) 0) b

-- the declared types Int and List(Int)
abbrev int : Ty
int = ty 1 0

abbrev ints : Ty
ints = ty 1 1

pub int-for-float : passes (3 of 0 ∷ []) (ty 2 0) ≡ Some false
unfolding tree_of literal_in any_of scalars compatible compatible_at
int-for-float = refl

pub empty-for-ints : passes (13 of 0 ∷ []) ints ≡ Some true
unfolding tree_of literal_in any_of scalars compatible compatible_at
empty-for-ints = refl

-- [[1]]
pub nested-for-ints : passes (13 of 1 ∷ 13 of 1 ∷ 3 of 0 ∷ []) ints ≡ Some false
unfolding tree_of literal_in any_of scalars compatible compatible_at
nested-for-ints = refl

-- [v, 1], v a Var
pub variable-first : passes (13 of 2 ∷ 6 of 0 ∷ 3 of 0 ∷ []) int ≡ None
unfolding tree_of literal_in any_of
variable-first = refl

-- [] and [1] for Int, 1 for List(Int): a list on one side only
pub one_side : passes (13 of 0 ∷ []) int ∷ passes (13 of 1 ∷ 3 of 0 ∷ []) int ∷ passes (3 of 0 ∷ []) ints ∷ []
    ≡ Some false ∷ Some false ∷ Some false ∷ []
unfolding tree_of literal_in any_of scalars compatible compatible_at
one_side = refl

-- null for List(Int), [1] for Any, [] for List(List(Int)), [[1]] for List(Any), [null] for List(Int)
pub free-side : passes (1 of 0 ∷ []) ints ∷ passes (13 of 1 ∷ 3 of 0 ∷ []) (ty 8 0) ∷ passes (13 of 0 ∷ []) (ty 1 2)
    ∷ passes (13 of 1 ∷ 13 of 1 ∷ 3 of 0 ∷ []) (ty 8 1) ∷ passes (13 of 1 ∷ 1 of 0 ∷ []) ints ∷ []
    ≡ Some true ∷ Some true ∷ Some true ∷ Some true ∷ Some true ∷ []
unfolding tree_of literal_in any_of scalars compatible compatible_at
free-side = refl

-- of the 15 by 9 entries, 71 pass
pub passing : length (each (λ a. each (λ b. pick (compatible a b) (b ∷ []) []) (through 120 128)) (through 0 14)) ≡ 71
unfolding table each any_of scalars compatible
passing = refl

-- the names of String and of a list, on either side
pub names : type_name (ty 5 0) ∷ type_name (ty 3 2) ∷ property_type_name (ty 0 0) ∷ property_type_name (ty 1 1) ∷ []
    ≡ "String" ∷ "List" ∷ "String" ∷ "List" ∷ []
unfolding type_name property_type_name
names = refl

-- each type by its name: the inferred ones that a rule speaks of, and the declared ones
pub inferred-named : map (λ a. type_name (ty a 0)) (Inferred.Any ∷ Kind.Null ∷ Kind.Bool ∷ Kind.Int ∷ Kind.Float
    ∷ Kind.String ∷ Inferred.Num ∷ Inferred.Date ∷ Inferred.Datetime ∷ Inferred.Unknown ∷ [])
    ≡ "Any" ∷ "Null" ∷ "Bool" ∷ "Int" ∷ "Float" ∷ "String" ∷ "Num" ∷ "Date" ∷ "Datetime" ∷ "Unknown" ∷ []
unfolding type_name
inferred-named = refl

pub declared-named : map (λ k. property_type_name (ty (k - Kind.FirstType) 0)) (Kind.StringType ∷ Kind.IntType
    ∷ Kind.FloatType ∷ Kind.BoolType ∷ Kind.DateType ∷ Kind.DatetimeType ∷ Kind.EnumType ∷ Kind.OpaqueType
    ∷ Kind.AnyType ∷ [])
    ≡ "String" ∷ "Int" ∷ "Float" ∷ "Bool" ∷ "Date" ∷ "Datetime" ∷ "Enum" ∷ "Opaque" ∷ "Any" ∷ []
unfolding property_type_name
declared-named = refl
