-- What the lookups answer and ask, in the terms of the definitions.
use Rattle.std.specs.Prelude.{ℕ, ◌+◌, ◌*◌, ◌<◌, ◌≤◌, length, Bool, List, map, Option, Some, None}
use Rattle.lists.specs.Lists.{pick, both, table, over, any_of, all_of, is_empty}
use Rattle.text.specs.Text.{is_text}
use Rattle.frame.specs.Doc.{Doc, doc_of, kind_of}
use Rattle.frame.specs.declared.Sizes.{Sizes}
use Rattle.rules.specs.Kinds as Kind
use Rattle.grammar.specs.Tree.{Tree, tree_of, child}
use Rattle.provider.specs.declared.Callee.{Callee}
use Rattle.provider.specs.declared.Backing.{Backing}
use Rattle.provider.specs.declared.Backing.TheVariants.{NoTuple, Unbacked, Backed}
use Rattle.schema.specs.Declarations.{of_kind, decls_of}
use Rattle.provider.specs.Schema.{Owner, Property, Signature, owner_at, tuple_at, owner_of, tuples_in}
use Rattle.numbers.specs.Least.{all_names, texts_of, place_of}
use Rattle.register.specs.Register.{Registered}
use Rattle.marks.specs.Marks.{NamesAt, is_marked, MarksOf}
use Rattle.types.specs.declared.Ty.{Ty}

-- the Labels (kind 101) or the RelTypes (102) of a schema
abbrev pub owners_of : Tree → ℕ → List Owner
owners_of t k = map (owner_at t) (decls_of t k)

-- the answer to a property's lookup
abbrev pub property_found : Option Property → Option Ty
property_found None = None
property_found (Some p) = Some p.type

-- how many parameters, and whether more may follow
abbrev pub callee_of : ℕ → Bool → Callee
callee_of parameters variadic = record { parameters = parameters; variadic = variadic }

-- the answer to a function's or a procedure's lookup
abbrev pub callee : Option Signature → Option Callee
callee None = None
callee (Some g) = Some (callee_of g.parameters g.variadic)

-- token i states a type
pub record TypeAt (d : Doc) (i : ℕ) : Type 0 where
  pub inside : i < length d.tokens
  pub low : Kind.FirstType ≤ kind_of d i
  pub high : kind_of d i ≤ Kind.LastType

-- the keys of the Map at token m
abbrev pub map_keys : Tree → ℕ → List (List ℕ)
map_keys t m = table (λ k. t.text (child t m (2 * k))) 0 (t.value m)

-- a schema and a statement, their register, and marks of the keys of the statement's Map at token m
pub record Keyed (s d : List ℕ) (sizes : Sizes) (reg : List ℕ) (m : ℕ) (l : List ℕ) : Type 0 where
  pub register : Registered s d sizes reg
  pub marks : MarksOf (texts_of d s) (map_keys (tree_of (doc_of s)) m) l
  pub room : all_names sizes ≤ length l

-- a schema and a statement, their register, and n Name tokens of the statement from `at` on
pub record Labelled (s d : List ℕ) (sizes : Sizes) (reg : List ℕ) (at n : ℕ) : Type 0 where
  pub register : Registered s d sizes reg
  pub names : NamesAt (doc_of s) at n

-- the tuples from token a up to token b
abbrev pub tuples_over : Tree → ℕ → ℕ → List (List (List ℕ))
tuples_over t a b = map (tuple_at t) (over (of_kind t Kind.Tuple) a b)

-- there is no tuple; one lies wholly among the keys; none does
unfoldable pub backing_of : List (List (List ℕ)) → List (List ℕ) → Backing
backing_of us ks = pick (is_empty us) NoTuple (pick (any_of (λ u. all_of (is_text ks) u) us) Backed Unbacked)

-- the Apart at token j is of two of these labels
unfoldable pub apart_in : Tree → List (List ℕ) → ℕ → Bool
apart_in t ns j = both (is_text ns (t.text (j + 1))) (is_text ns (t.text (j + 2)))

-- both Names of the Apart at token j are marked, at the number that they have among the texts ts
unfoldable pub apart_marked : Tree → List (List ℕ) → List ℕ → ℕ → Bool
apart_marked t ts l j = both (is_marked l (place_of ts (t.text (j + 1)))) (is_marked l (place_of ts (t.text (j + 2))))

-- the tuples of the declaration of kind k that the statement's Name at token i names, against the keys of its Map m
abbrev pub backing_for : List ℕ → List ℕ → ℕ → ℕ → ℕ → Backing
backing_for s d k i m =
    backing_of (tuples_in (owner_of (owners_of (tree_of (doc_of d)) k) ((tree_of (doc_of s)).text i)))
    (map_keys (tree_of (doc_of s)) m)
