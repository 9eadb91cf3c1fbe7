-- A register while it is filled, and what an entry says.
use Rattle.std.specs.Prelude.{ℕ, zero, suc, ◌+◌, ◌≤◌, ◌<◌, ◌≡◌, Bool, true, false, List, eqb, length, get_or, take, Option, Some, None}
use Rattle.lists.specs.Lists.{both, over, those}
use Rattle.frame.specs.Doc.{doc_of, value_of}
use Rattle.frame.specs.Inner.{Sound}
use Rattle.frame.specs.declared.Sizes.{Sizes}
use Rattle.rules.specs.Kinds as Kind
use Rattle.grammar.specs.Tree.{tree_of}
use Rattle.schema.specs.Declarations.{of_kind}
use Rattle.schema.specs.Scanned.{tokens_of}
use Rattle.schema.specs.Inner.{Declared, first_function}
use Rattle.in_order.specs.InOrder.{sorted}
use Rattle.functions.specs.Functions.{folded_below}
use Rattle.numbers.specs.Least.{all_names, texts_of, text_at, least_same, Numbered}
use Rattle.register.specs.Register.{Entered, Exact, entry_at, aparts_at, entry_of, first_with}

-- what an entry says, the other way round than `entry_of`: a token, as its place and 1, or none, as 0
unfoldable pub entry_found : ℕ → Option ℕ
entry_found zero = None
entry_found (suc i) = Some i

-- all names have their numbers, the first a tokens are entered where they are declarations, and of the first b the
-- Aparts, m in all, are listed
pub record Registering (s d : List ℕ) (sizes : Sizes) (a b m : ℕ) (reg : List ℕ) : Type 0 where
  pub schema : Declared d sizes.schema
  pub statement : Sound s sizes.statement
  pub room : aparts_at (all_names sizes) + sizes.schema.tokens < length reg
  pub numbers : Numbered (texts_of d s) (all_names sizes) reg
  pub firsts : (k x : ℕ) → Entered k → x < all_names sizes
      → get_or reg (entry_at (all_names sizes) x k) 0 ≡ first_with (doc_of d) (texts_of d s) k a x
  pub count : m ≡ length (over (of_kind (tree_of (doc_of d)) Kind.Apart) 0 b)
  pub few : m ≤ b
  pub aparts : (i : ℕ)
      → get_or reg (aparts_at (all_names sizes) + i) 0 ≡ get_or (over (of_kind (tree_of (doc_of d)) Kind.Apart) 0 b) i 0

-- the declarations are entered by their exact names, and the Functions of all names whose number is below x in any case
pub record Folding (s d : List ℕ) (sizes : Sizes) (x : ℕ) (reg : List ℕ) : Type 0 where
  pub schema : Declared d sizes.schema
  pub statement : Sound s sizes.statement
  pub room : aparts_at (all_names sizes) + sizes.schema.tokens < length reg
  pub numbers : Numbered (texts_of d s) (all_names sizes) reg
  pub firsts : (k y : ℕ) → Exact k → y < all_names sizes
      → get_or reg (entry_at (all_names sizes) y k) 0 ≡ first_with (doc_of d) (texts_of d s) k sizes.schema.tokens y
  pub done : (i : ℕ) → i < all_names sizes → least_same (texts_of d s) i < x
      → get_or reg (entry_at (all_names sizes) (least_same (texts_of d s) i) Kind.Function) 0
      ≡ entry_of (first_function (tree_of (doc_of d)) (text_at (texts_of d s) i) 0 sizes.schema.tokens)
  pub left : (y : ℕ) → x ≤ y → y < all_names sizes
      → get_or reg (entry_at (all_names sizes) y Kind.Function) 0
      ≡ first_with (doc_of d) (texts_of d s) Kind.Function sizes.schema.tokens y
  pub aparts : (i : ℕ)
      → get_or reg (aparts_at (all_names sizes) + i) 0 ≡ get_or (tokens_of (tree_of (doc_of d)) Kind.Apart) i 0

-- of all names' numbers those below n that are marked are no Function's by exact name
abbrev pub NoneMarked : ℕ → List Bool → List ℕ → ℕ → Type 0
NoneMarked names marks reg n = (x : ℕ) → x < n → get_or marks x false ≡ true → get_or reg (entry_at names x Kind.Function) 0 ≡ 0

-- whether the function at token j is sought: its name's number is marked, and it is the first of that exact name
abbrev pub is_sought : List ℕ → List ℕ → Sizes → List Bool → ℕ → Bool
is_sought s d sizes marks j =
    let x : ℕ = least_same (texts_of d s) (value_of (doc_of d) (j + 1)) in
    both (get_or marks x false)
    (eqb (first_with (doc_of d) (texts_of d s) Kind.Function sizes.schema.tokens x) (j + 1))

-- those of the first n tokens that are sought
abbrev pub sought_before : List ℕ → List ℕ → Sizes → List Bool → ℕ → List ℕ
sought_before s d sizes marks n = those (is_sought s d sizes marks) (over (of_kind (tree_of (doc_of d)) Kind.Function) 0 n)

-- the first r of a list are those of the first n tokens
pub record Seeking (s d : List ℕ) (sizes : Sizes) (marks : List Bool) (n r : ℕ) (list : List ℕ) : Type 0 where
  pub few : r ≤ n
  pub room : r ≤ length list
  pub are : take r list ≡ sought_before s d sizes marks n

-- all of them by name, A to Z as a to z
unfoldable pub sought_by_name : List ℕ → List ℕ → Sizes → List Bool → List ℕ
sought_by_name s d sizes marks =
    sorted (folded_below (tree_of (doc_of d))) (sought_before s d sizes marks sizes.schema.tokens)
