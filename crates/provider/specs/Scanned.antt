-- The items of a declaration as the code finds them: it goes over the tokens up to the next declaration. That these are
-- the declaration's children is the theorem items-scanned.
use Rattle.std.specs.Prelude.{ℕ, zero, suc, ◌-◌, List, leb}
use Rattle.lists.specs.Lists.{pick, both, over}
use Rattle.rules.specs.Kinds as Kind
use Rattle.grammar.specs.Tree.{Tree}
use Rattle.schema.specs.Declarations.{of_kind}

-- the first declaration, of any kind, of the `left` tokens from i on; where there is none, the end of the tokens. Each
-- step takes one token, so that the tokens left are steps enough; `ends-before` of the proofs says where it is
unfoldable pub next_decl : Tree → ℕ → ℕ → ℕ
next_decl t zero i = i
next_decl t (suc left) i =
    let r : ℕ = next_decl t left (suc i) in pick (both (leb Kind.Label (t.kind i)) (leb (t.kind i) Kind.Apart)) i r

-- the first declaration after token i; the tokens of kind k before it
abbrev pub decl_end : Tree → ℕ → ℕ
decl_end t i = next_decl t (t.size - suc i) (suc i)

unfoldable pub tokens_after : Tree → ℕ → ℕ → List ℕ
tokens_after t i k = over (of_kind t k) (suc i) (decl_end t i)
