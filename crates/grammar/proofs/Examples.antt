-- What the definitions give for the sheets of document 01 and for the edges of its refusals, computed.
use mathlib.Core.Path.{◌≡◌, refl}
use mathlib.Core.List.{List, [], ◌∷◌}
use Prim.Native.Nat.{ℕ, zero, suc, ◌≤◌, ◌<◌}
use native.Mathlib.Omega.{arith}
use lib.ListN.{replicate}
use borrow.Author.Tests.{le-leb}
use Rattle.lists.specs.Lists.{table, first, any_of}
use Rattle.frame.specs.Doc.{Token, Doc}
use Rattle.frame.proofs.Tokens.{◌of◌}
use Rattle.rules.specs.declared.Place.TheVariants.{WholeStatement, WholeSchema}
use Rattle.rules.specs.Rules.{takes, many, pairs, rules, most_of, opens, any}
use Rattle.grammar.specs.Machine.{opened, bounded, allowed, judged, run, grammar_fault}
use Rattle.std.specs.Prelude.{Some, None}
use Rattle.frame.specs.Sheet.{fault}

-- these tokens, and so many names; the grammar asks for no text
abbrev doc : List Token → ℕ → Doc
doc ts n = record { tokens = ts; names = replicate n [] }

-- MERGE (:Phase {stage: 1, green: "7"}), element 6 to 37: 13 tokens, 3 names
abbrev merge-phase : Doc
merge-phase = doc (90 of 1 ∷ 72 of 0 ∷ 60 of 1 ∷ 61 of 1 ∷ 62 of 3 ∷ 51 of 6 ∷ 51 of 37 ∷ 50 of 0 ∷ 14 of 2 ∷ 50 of 1
    ∷ 3 of 0 ∷ 50 of 2 ∷ 5 of 0 ∷ []) 3

-- Phase has stage Int, green Int, Tuple (site, stage): 12 tokens, 4 names
abbrev phase-schema : Doc
phase-schema = doc (100 of 1 ∷ 101 of 3 ∷ 50 of 0 ∷ 110 of 0 ∷ 50 of 1 ∷ 121 of 0 ∷ 110 of 0 ∷ 50 of 2 ∷ 121 of 0
    ∷ 111 of 2 ∷ 50 of 3 ∷ 50 of 1 ∷ []) 4

statement-reads : grammar_fault WholeStatement merge-phase ≡ None
unfolding grammar_fault run opened judged allowed bounded takes many pairs rules most_of opens first any_of table
statement-reads = refl

schema-reads : grammar_fault WholeSchema phase-schema ≡ None
unfolding grammar_fault run opened judged allowed bounded takes many pairs rules most_of opens first any_of table
schema-reads = refl

-- each is refused as the other
statement-as-schema : grammar_fault WholeSchema merge-phase ≡ Some (fault 6 0)
unfolding grammar_fault run opened judged allowed bounded takes many pairs rules most_of opens first any_of table
statement-as-schema = refl

schema-as-statement : grammar_fault WholeStatement phase-schema ≡ Some (fault 6 0)
unfolding grammar_fault run opened judged allowed bounded takes many pairs rules most_of opens first any_of table
schema-as-statement = refl

-- a Where that holds n UnaryOps, each under the one before it, and tokens below the last: these have the depth n + 2
unfoldable unary : ℕ → List Token → List Token
unary zero ts = ts
unary (suc n) ts = let r : List Token = unary n ts in 18 of 0 ∷ r

abbrev nested : ℕ → List Token → Doc
nested n ts = doc (90 of 1 ∷ 73 of 0 ∷ unary n ts) 0

-- depth 64 reads, 65: 7
depth-64 : grammar_fault WholeStatement (nested 62 (1 of 0 ∷ [])) ≡ None
unfolding grammar_fault run opened judged allowed bounded takes many pairs rules most_of opens first any_of table unary
depth-64 = refl

depth-65 : grammar_fault WholeStatement (nested 63 (1 of 0 ∷ [])) ≡ Some (fault 7 65)
unfolding grammar_fault run opened judged allowed bounded takes many pairs rules most_of opens first any_of table unary
depth-65 = refl

-- at one token 6 comes before 7, for a kind and for a value
kind-before-depth : grammar_fault WholeStatement (nested 63 (0 of 0 ∷ [])) ≡ Some (fault 6 65)
unfolding grammar_fault run opened judged allowed bounded takes many pairs rules most_of opens first any_of table unary
kind-before-depth = refl

value-before-depth : grammar_fault WholeStatement (nested 63 (1 of 1 ∷ [])) ≡ Some (fault 6 65)
unfolding grammar_fault run opened judged allowed bounded takes many pairs rules most_of opens first any_of table unary
value-before-depth = refl

-- a Node from s to e
abbrev spanned : ℕ → ℕ → Doc
spanned s e = doc (90 of 1 ∷ 70 of 0 ∷ 60 of 1 ∷ 61 of 1 ∷ 62 of 0 ∷ 51 of s ∷ 51 of e ∷ []) 0

-- an end below its start, and one equal to it
end-below-start : grammar_fault WholeStatement (spanned 7 6) ≡ Some (fault 6 6)
unfolding grammar_fault run opened judged allowed bounded takes many pairs rules most_of opens first any_of table
end-below-start = refl

end-at-start : grammar_fault WholeStatement (spanned 7 7) ≡ None
unfolding grammar_fault run opened judged allowed bounded takes many pairs rules most_of opens first any_of table
end-at-start = refl

-- a start below the value of the token before it
start-below-before : grammar_fault WholeStatement (doc (90 of 1 ∷ 70 of 0 ∷ 60 of 1 ∷ 61 of 1 ∷ 62 of 2 ∷ 51 of 0
    ∷ 51 of 0 ∷ 50 of 0 ∷ []) 1) ≡ None
unfolding grammar_fault run opened judged allowed bounded takes many pairs rules most_of opens first any_of table
start-below-before = refl

-- tokens run out: 8 at T. A kind or value not allowed on the way comes first
run_out : grammar_fault WholeStatement (doc (90 of 1 ∷ 75 of 2 ∷ 1 of 0 ∷ []) 0) ≡ Some (fault 8 3)
unfolding grammar_fault run opened judged allowed bounded takes many pairs rules most_of opens first any_of table
run_out = refl

wrong-on-the-way : grammar_fault WholeStatement (doc (90 of 3 ∷ 75 of 2 ∷ 1 of 0 ∷ 1 of 1 ∷ []) 0) ≡ Some (fault 6 3)
unfolding grammar_fault run opened judged allowed bounded takes many pairs rules most_of opens first any_of table
wrong-on-the-way = refl

-- tokens left over: 9 at the first, whatever it is
left_over : grammar_fault WholeStatement (doc (90 of 1 ∷ 75 of 1 ∷ 1 of 0 ∷ 255 of 9 ∷ 1 of 0 ∷ []) 0) ≡ Some (fault 9 3)
unfolding grammar_fault run opened judged allowed bounded takes many pairs rules most_of opens first any_of table
left_over = refl

-- a Name of M, and one below it
abbrev labels-of : ℕ → Doc
labels-of n = doc (90 of 1 ∷ 78 of 1 ∷ 84 of 1 ∷ 50 of n ∷ []) 2

name-of-m : grammar_fault WholeStatement (labels-of 2) ≡ Some (fault 6 3)
unfolding grammar_fault run opened judged allowed bounded takes many pairs rules most_of opens first any_of table
name-of-m = refl

name-below-m : grammar_fault WholeStatement (labels-of 1) ≡ None
unfolding grammar_fault run opened judged allowed bounded takes many pairs rules most_of opens first any_of table
name-below-m = refl

-- a Start stands under a RelType and not under a Label
abbrev start_under : ℕ → Doc
start_under k = doc (100 of 1 ∷ k of 1 ∷ 50 of 0 ∷ 112 of 0 ∷ 50 of 0 ∷ []) 1

start-under-label : grammar_fault WholeSchema (start_under 101) ≡ Some (fault 6 3)
unfolding grammar_fault run opened judged allowed bounded takes many pairs rules most_of opens first any_of table
start-under-label = refl

start-under-reltype : grammar_fault WholeSchema (start_under 102) ≡ None
unfolding grammar_fault run opened judged allowed bounded takes many pairs rules most_of opens first any_of table
start-under-reltype = refl

-- a Parameter of a default flag and a type's list depth: the flag is at most 1, the list depth at most 63
abbrev parameter : ℕ → ℕ → Doc
parameter flag lists = doc (100 of 1 ∷ 103 of flag ∷ 50 of 0 ∷ 120 of lists ∷ 50 of 0 ∷ []) 1

lists-63 : grammar_fault WholeSchema (parameter 1 63) ≡ None
unfolding grammar_fault run opened judged allowed bounded takes many pairs rules most_of opens first any_of table
lists-63 = refl

lists-64 : grammar_fault WholeSchema (parameter 1 64) ≡ Some (fault 6 3)
unfolding grammar_fault run opened judged allowed bounded takes many pairs rules most_of opens first any_of table
lists-64 = refl

flag-2 : grammar_fault WholeSchema (parameter 2 0) ≡ Some (fault 6 1)
unfolding grammar_fault run opened judged allowed bounded takes many pairs rules most_of opens first any_of table
flag-2 = refl

-- a count of any size, by a law: a statement of n clauses that holds none of them
clauses-missing : (n : ℕ) → 0 < n → n ≤ any → grammar_fault WholeStatement (doc (90 of n ∷ []) 0) ≡ Some (fault 8 1)
unfolding grammar_fault run opened judged allowed bounded takes many rules most_of opens first any_of table
clauses-missing zero h k = absurd (omega arith)
clauses-missing (suc n) h k = rw (le-leb (suc n) any k)

most-clauses-missing : grammar_fault WholeStatement (doc (90 of 4294967295 ∷ []) 0) ≡ Some (fault 8 1)
most-clauses-missing = clauses-missing 4294967295 (omega arith) (omega arith)
