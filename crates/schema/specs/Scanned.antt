-- The declarations as the code finds them: it goes over all tokens. That these are the children of the first token is
-- the theorem decls-scanned.
use Rattle.std.specs.Prelude.{ℕ, Bool, List, Option}
use Rattle.lists.specs.Lists.{over, first, any_of}
use Rattle.text.specs.Text.{same_text}
use Rattle.frame.specs.Sheet.{or_else}
use Rattle.frame.specs.declared.Fault.{Fault}
use Rattle.rules.specs.Kinds as Kind
use Rattle.grammar.specs.Tree.{Tree}
use Rattle.schema.specs.Declarations.{of_kind, name_below, equal_apart, fault_at}

-- all tokens of kind k
unfoldable pub tokens_of : Tree → ℕ → List ℕ
tokens_of t k = over (of_kind t k) 0 t.size

-- a token of kind k before i has i's name
unfoldable pub repeats : Tree → ℕ → ℕ → Bool
repeats t k i = any_of (λ j. same_text (name_below t i) (name_below t j)) (over (of_kind t k) 0 i)

-- what is wrong with the tokens of the kinds of declarations: 10 to 13, in turn
unfoldable pub scanned_fault : Tree → Option Fault
scanned_fault t =
    or_else (fault_at 10 (first (repeats t Kind.Label) (tokens_of t Kind.Label)))
    (or_else (fault_at 11 (first (repeats t Kind.RelType) (tokens_of t Kind.RelType)))
    (or_else (fault_at 12 (first (repeats t Kind.Parameter) (tokens_of t Kind.Parameter)))
    (fault_at 13 (first (equal_apart t) (tokens_of t Kind.Apart)))))
