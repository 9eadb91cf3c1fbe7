-- The schema: what its declarations say, and the store's answers.
use Rattle.std.specs.Prelude.{ℕ, ◌+◌, ◌-◌, ◌/◌, ◌%◌, Bool, false, List, [], ◌∷◌, map, eqb, Option, Some, None}
use Rattle.lists.specs.Lists.{pick, both, each, first, any_of}
use Rattle.text.specs.Text.{same_text, is_text}
use Rattle.text.specs.Folded.{same_folded}
use Rattle.rules.specs.Kinds as Kind
use Rattle.grammar.specs.Tree.{Tree, children, texts}
use Rattle.types.specs.declared.Ty.{Ty}
use Rattle.types.specs.Types.{ty}
use Rattle.schema.specs.Declarations.{of_kind, decls_of, name_below}

-- 110 Property: value required flag; Name, Type
pub record Property : Type 0 where
  pub name : List ℕ
  pub type : Ty
  pub required : Bool

-- 101 Label, 102 RelType: its name and its items of each sort, in turn
pub record Owner : Type 0 where
  pub name : List ℕ
  pub properties : List Property
  pub tuples : List (List (List ℕ))
  pub starts : List (List ℕ)
  pub ends : List (List ℕ)

-- 103 Parameter, with its default, if any
pub record Parameter : Type 0 where
  pub name : List ℕ
  pub default : Option (List ℕ)

-- 104 Function, 105 Procedure: a signature
pub record Signature : Type 0 where
  pub name : List ℕ
  pub parameters : ℕ
  pub variadic : Bool

-- 106 Apart: two Names, labels that can't share a node
pub record Apart : Type 0 where
  pub one : List ℕ
  pub other : List ℕ

-- the declarations of each sort, in turn. Nothing that is said of a schema's content depends on the order between the
-- sorts
pub record Schema : Type 0 where
  pub labels : List Owner
  pub rel_types : List Owner
  pub parameters : List Parameter
  pub functions : List Signature
  pub procedures : List Signature
  pub aparts : List Apart

-- the items of kind k of the declaration i: its children, after its Name, that are of that kind
unfoldable pub items_of : Tree → ℕ → ℕ → List ℕ
items_of t i k = each (of_kind t k) (children t i 1 (t.value i))

-- the property at token i, the tuple, and the Label or RelType with its items
abbrev pub property_at : Tree → ℕ → Property
property_at t i = record {
  name = name_below t i;
  type = ty (t.kind (i + 2) - Kind.FirstType) (t.value (i + 2));
  required = eqb (t.value i) 1;
}

abbrev pub tuple_at : Tree → ℕ → List (List ℕ)
tuple_at t i = texts t (i + 1) (t.value i)

abbrev pub owner_at : Tree → ℕ → Owner
owner_at t i = record {
  name = name_below t i;
  properties = map (property_at t) (items_of t i Kind.Property);
  tuples = map (tuple_at t) (items_of t i Kind.Tuple);
  starts = map (name_below t) (items_of t i Kind.Start);
  ends = map (name_below t) (items_of t i Kind.End);
}

-- the parameter at token i, with its default where it has one
abbrev pub parameter_at : Tree → ℕ → Parameter
parameter_at t i = record { name = name_below t i; default = pick (eqb (t.value i) 1) (Some (t.text (i + 3))) None }

-- a Function's value is 2·parameters + variadic flag, a Procedure's its parameters
abbrev pub function_at : Tree → ℕ → Signature
function_at t i = record { name = name_below t i; parameters = t.value i / 2; variadic = eqb (t.value i % 2) 1 }

abbrev pub procedure_at : Tree → ℕ → Signature
procedure_at t i = record { name = name_below t i; parameters = t.value i; variadic = false }

-- the Apart at token i
abbrev pub apart_at : Tree → ℕ → Apart
apart_at t i = record { one = t.text (i + 1); other = t.text (i + 2) }

-- all declarations, sort by sort
unfoldable pub schema_of : Tree → Schema
schema_of t = record {
  labels = map (owner_at t) (decls_of t Kind.Label);
  rel_types = map (owner_at t) (decls_of t Kind.RelType);
  parameters = map (parameter_at t) (decls_of t Kind.Parameter);
  functions = map (function_at t) (decls_of t Kind.Function);
  procedures = map (procedure_at t) (decls_of t Kind.Procedure);
  aparts = map (apart_at t) (decls_of t Kind.Apart);
}

-- The store's answers, for Labels or RelTypes: a name is declared; the declaration of a name; its properties and
-- tuples, none if it is unknown
abbrev pub is_declared : List Owner → List ℕ → Bool
is_declared os n = any_of (λ o. same_text n o.name) os

abbrev pub owner_of : List Owner → List ℕ → Option Owner
owner_of os n = first (λ o. same_text n o.name) os

abbrev pub properties_in : Option Owner → List Property
properties_in None = []
properties_in (Some o) = o.properties

abbrev pub tuples_in : Option Owner → List (List (List ℕ))
tuples_in None = []
tuples_in (Some o) = o.tuples

-- the first property of a key in the declaration of a name
abbrev pub property_in : List Owner → List ℕ → List ℕ → Option Property
property_in os n key = first (λ p. same_text key p.name) (properties_in (owner_of os n))

-- the first property of a key in the first of an element's names that has one
abbrev pub or_next : Option Property → Option Property → Option Property
or_next None r = r
or_next (Some p) r = Some p

unfoldable pub property_of : List Owner → List (List ℕ) → List ℕ → Option Property
property_of os [] key = None
property_of os (n ∷ ns) key =
    let r : Option Property = property_of os ns key in
    or_next (property_in os n key) r

-- the tuples declared for any of an element's names
abbrev pub tuples_of : List Owner → List (List ℕ) → List (List (List ℕ))
tuples_of os ns = each (λ n. tuples_in (owner_of os n)) ns

-- the first function of a name counts, and so does the first procedure: a function's name with A to Z as a to z, a
-- procedure's by its bytes
abbrev pub function_of : Schema → List ℕ → Option Signature
function_of s n = first (λ f. same_folded n f.name) s.functions

abbrev pub procedure_of : Schema → List ℕ → Option Signature
procedure_of s n = first (λ f. same_text n f.name) s.procedures

-- labels_compatible is Some(false) exactly when two labels given form an Apart pair, in either order
unfoldable pub apart_among : Schema → List (List ℕ) → Bool
apart_among s ns = any_of (λ p. both (is_text ns p.one) (is_text ns p.other)) s.aparts
