-- The declarations of a schema sheet, and what turns a sheet down.
use Rattle.std.specs.Prelude.{ℕ, ◌+◌, Bool, List, [], ◌∷◌, eqb, ltb, Option, Some, None}
use Rattle.lists.specs.Lists.{pick, both, each, first, any_of}
use Rattle.text.specs.Text.{same_text}
use Rattle.frame.specs.Sheet.{or_else, frame_fault, fault}
use Rattle.frame.specs.Doc.{doc_of}
use Rattle.frame.specs.declared.Fault.{Fault}
use Rattle.rules.specs.Kinds as Kind
use Rattle.rules.specs.declared.Place.TheVariants.{WholeStatement, WholeSchema}
use Rattle.grammar.specs.Machine.{grammar_fault}
use Rattle.grammar.specs.Tree.{Tree, tree_of, children}

-- the token i, where it is of kind k
abbrev pub of_kind : Tree → ℕ → ℕ → List ℕ
of_kind t k i = pick (eqb (t.kind i) k) (i ∷ []) []

-- the declarations of kind k: the children of the first token that are of that kind
unfoldable pub decls_of : Tree → ℕ → List ℕ
decls_of t k = each (of_kind t k) (children t 0 0 (t.value 0))

-- the first Name of a declaration or an item
abbrev pub name_below : Tree → ℕ → List ℕ
name_below t i = t.text (i + 1)

-- a declaration of kind k before i has i's name
unfoldable pub again : Tree → ℕ → ℕ → Bool
again t k i = any_of (λ j. both (ltb j i) (same_text (name_below t i) (name_below t j))) (decls_of t k)

-- an Apart of equal texts
unfoldable pub equal_apart : Tree → ℕ → Bool
equal_apart t i = same_text (t.text (i + 1)) (t.text (i + 2))

-- refused with a number at the token found
abbrev pub fault_at : ℕ → Option ℕ → Option Fault
fault_at number None = None
fault_at number (Some i) = Some (fault number i)

-- 10, 11, 12 a label, RelType, parameter declared again, at the first declaration that repeats an earlier one; 13
-- Apart of equal texts, at the first such Apart; in that order
unfoldable pub declared_fault : Tree → Option Fault
declared_fault t =
    or_else (fault_at 10 (first (again t Kind.Label) (decls_of t Kind.Label)))
    (or_else (fault_at 11 (first (again t Kind.RelType) (decls_of t Kind.RelType)))
    (or_else (fault_at 12 (first (again t Kind.Parameter) (decls_of t Kind.Parameter)))
    (fault_at 13 (first (equal_apart t) (decls_of t Kind.Apart)))))

-- what turns a statement sheet down, and what turns a schema sheet down
unfoldable pub statement_fault : List ℕ → Option Fault
statement_fault s = or_else (frame_fault s) (grammar_fault WholeStatement (doc_of s))

unfoldable pub schema_fault : List ℕ → Option Fault
schema_fault s = or_else (frame_fault s) (or_else (grammar_fault WholeSchema (doc_of s)) (declared_fault (tree_of (doc_of s))))
