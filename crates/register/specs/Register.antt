-- The register of a schema and a statement, a list in three parts: the number of each name, the schema's names before
-- the statement's; by number and kind the first declaration of that name; and the Aparts.
use Rattle.std.specs.Prelude.{ℕ, ◌+◌, ◌-◌, ◌*◌, ◌<◌, ◌≡◌, true, List, eqb, length, get_or, Option, Some, None}
use Rattle.lists.specs.Lists.{over, first, through, is_one}
use Rattle.frame.specs.Doc.{Doc, doc_of, value_of}
use Rattle.frame.specs.Inner.{Sound}
use Rattle.frame.specs.declared.Sizes.{Sizes}
use Rattle.rules.specs.Kinds as Kind
use Rattle.grammar.specs.Tree.{tree_of}
use Rattle.schema.specs.Declarations.{of_kind}
use Rattle.schema.specs.Scanned.{tokens_of}
use Rattle.schema.specs.Inner.{Declared, first_function}
use Rattle.numbers.specs.Least.{all_names, texts_of, text_at, least_same, Numbered, place_of}

-- the number of the statement's Name at token i, and of the schema's
abbrev pub number_of : List ℕ → List ℕ → ℕ → ℕ
number_of s d i = place_of (texts_of d s) ((tree_of (doc_of s)).text i)

abbrev pub number_in : List ℕ → List ℕ → ℕ → ℕ
number_in s d i = place_of (texts_of d s) ((tree_of (doc_of d)).text i)

-- the kinds of declarations that are found by name: 101 to 105
abbrev pub Entered : ℕ → Type 0
Entered k = is_one (through Kind.Label Kind.Procedure) k ≡ true

-- and of these the kinds whose names are exact: a Function's is found in any case
abbrev pub Exact : ℕ → Type 0
Exact k = Entered k × (k ≡ Kind.Function → ⊥)

-- of n names: where the entry of number x and kind k stands, and where the Aparts stand
abbrev pub entry_at : ℕ → ℕ → ℕ → ℕ
entry_at n x k = n + 5 * x + (k - Kind.Label)

abbrev pub aparts_at : ℕ → ℕ
aparts_at n = 6 * n

-- room for 256 names and 1,024 tokens
abbrev pub few_room : ℕ
few_room = 2561

-- a token found, as its place and 1; 0 where there is none
abbrev pub entry_of : Option ℕ → ℕ
entry_of None = 0
entry_of (Some j) = j + 1

-- of the first n tokens of a schema, the first of kind k whose name has the number x among the texts
unfoldable pub first_with : Doc → List (List ℕ) → ℕ → ℕ → ℕ → ℕ
first_with d ts k n x =
    entry_of (first (λ j. eqb (least_same ts (value_of d (j + 1))) x) (over (of_kind (tree_of d) k) 0 n))

-- a register of the statement s and the schema d, which have these sizes
pub record Registered (s d : List ℕ) (sizes : Sizes) (reg : List ℕ) : Type 0 where
  pub schema : Declared d sizes.schema
  pub statement : Sound s sizes.statement
  pub room : aparts_at (all_names sizes) + sizes.schema.tokens < length reg
  pub numbers : Numbered (texts_of d s) (all_names sizes) reg
  pub firsts : (k x : ℕ) → Exact k → x < all_names sizes
      → get_or reg (entry_at (all_names sizes) x k) 0 ≡ first_with (doc_of d) (texts_of d s) k sizes.schema.tokens x
  pub functions : (i : ℕ) → i < all_names sizes
      → get_or reg (entry_at (all_names sizes) (least_same (texts_of d s) i) Kind.Function) 0
      ≡ entry_of (first_function (tree_of (doc_of d)) (text_at (texts_of d s) i) 0 sizes.schema.tokens)
  pub aparts : (i : ℕ)
      → get_or reg (aparts_at (all_names sizes) + i) 0 ≡ get_or (tokens_of (tree_of (doc_of d)) Kind.Apart) i 0
