-- Two statements joined, and the operation `join_statements`: for any two sheets and lent buffer, the answer, and what
-- then stands in the buffer.
use Rattle.std.specs.Prelude.{ℕ, ◌+◌, List, ◌∷◌, ◌++◌, map, length, drop, eqb}
use Rattle.lists.specs.Lists.{pick}
use Rattle.frame.specs.Doc.{Doc, Token, doc_of, value_of}
use Rattle.rules.specs.Kinds as Kind
use Rattle.schema.specs.Declarations.{statement_fault}
use Rattle.schema.specs.Effect.{Effect, refusal, unless_refused, fitted}
use Rattle.written.specs.Written.{written, within_limits}

-- a token of a sheet whose names are numbered after m others: a Name has another number, all else is unchanged
abbrev pub numbered_after : ℕ → Token → Token
numbered_after m t = record { kind = t.kind; value = pick (eqb t.kind Kind.Name) (m + t.value) t.value }

-- the clauses of the first, then those of the second, spans unchanged, the second's names numbered after the first's
unfoldable pub joined : Doc → Doc → Doc
joined a b = record {
  tokens = record { kind = Kind.Statement; value = value_of a 0 + value_of b 0 }
      ∷ (drop 1 a.tokens ++ map (numbered_after (length a.names)) (drop 1 b.tokens));
  names = a.names ++ b.names;
}

-- 20, sheet and place 0, when the joined sheet would pass a size limit; 16; else its bytes
unfoldable pub join_effect : Doc → List ℕ → Effect
join_effect d out = pick (within_limits d) (fitted (length (written d)) (written d) out) (refusal 20 0 0)

-- join_statements: the refusals of the first and then of the second sheet, which are sheets 1 and 2 here; 20; 16; the
-- answer is the number of bytes written
unfoldable pub join_statements : List ℕ → List ℕ → List ℕ → Effect
join_statements first second out =
    unless_refused 1 (statement_fault first)
    (unless_refused 2 (statement_fault second) (join_effect (joined (doc_of first) (doc_of second)) out))
