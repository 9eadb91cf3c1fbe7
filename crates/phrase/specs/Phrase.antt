-- Texts as lists of bytes: fixed phrases, numbers, lists.
use Rattle.std.specs.Prelude.{ℕ, zero, suc, ◌+◌, ◌/◌, ◌%◌, List, [], ◌∷◌, ◌++◌, map, ltb, eqb}
use Rattle.lists.specs.Lists.{pick, each}
use Rattle.text.specs.Text.{bytes}
use Rattle.rules.specs.Kinds as Kind
use Rattle.grammar.specs.Tree.{Tree}
use Rattle.breach.specs.Breach.{names_of}

-- a number in base ten, without leading zeros, where it has at most `left` digits: those of n / 10, and then the last
unfoldable pub digits : ℕ → ℕ → List ℕ
digits zero n = []
digits (suc left) n = pick (ltb n 10) ((48 + n) ∷ []) (digits left (n / 10) ++ ((48 + n % 10) ∷ []))

-- a u32 has at most ten digits. `decimal-more`, `decimal-read` and `decimal-leads` of the proofs say it of numbers
-- below 10,000,000,000: more steps change nothing, read back they are n, and the first is 0 only where n is
abbrev pub decimal : ℕ → List ℕ
decimal n = digits 10 n

-- texts one after the other, with something between two of them
unfoldable pub joined : List ℕ → List (List ℕ) → List ℕ
joined between [] = []
joined between (x ∷ xs) = x ++ each (λ y. between ++ y) xs

-- :A, :B
abbrev pub colons : List ℕ → List (List ℕ) → List ℕ
colons between names = joined between (map (λ n. bytes ":" ++ n) names)

-- label(s) :A, :B of a Node, or relationship type(s) :A, :B of a Rel
unfoldable pub on_names : Tree → ℕ → List ℕ
on_names t i = pick (eqb (t.kind i) Kind.Node) (bytes "label(s) ") (bytes "relationship type(s) ")
    ++ colons (bytes ", ") (names_of t i)
