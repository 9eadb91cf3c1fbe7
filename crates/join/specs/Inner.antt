-- What the functions that join two sheets ask and ensure.
use Rattle.std.specs.Prelude.{ℕ, ◌+◌, ◌-◌, ◌≤◌, ◌≡◌, List, length}
use Rattle.frame.specs.Limits.{max_tokens, max_names, max_text}
use Rattle.frame.specs.Doc.{doc_of}
use Rattle.frame.specs.Inner.{Sound}
use Rattle.frame.specs.declared.Sheet.{Sheet}
use Rattle.rules.specs.declared.Place.TheVariants.{WholeStatement}
use Rattle.grammar.specs.Machine.{grammar_fault}
use Rattle.written.specs.Written.{text_in}
use Rattle.std.specs.Prelude.{None}

-- sizes within the limits
pub record Few (f : Sheet) : Type 0 where
  pub tokens : f.tokens ≤ max_tokens
  pub names : f.names ≤ max_names
  pub text : f.text ≤ max_text

-- the bytes are a sheet of these sizes whose tokens read as a statement's
pub record Stated (s : List ℕ) (f : Sheet) : Type 0 where
  pub sheet : Sound s f
  pub read : grammar_fault WholeStatement (doc_of s) ≡ None
  pub within : Few f
  pub text : length (text_in (doc_of s).names) ≡ f.text

-- the sizes of the joined sheet: T1 + T2 - 1 tokens, M1 + M2 names, B1 + B2 bytes of text
abbrev pub joined_sizes : Sheet → Sheet → Sheet
joined_sizes f g = record { tokens = f.tokens + g.tokens - 1; names = f.names + g.names; text = f.text + g.text }

-- a sheet of sizes h has room, behind a statement of sizes `before`, for the clauses of one of sizes f
pub record Follows (h before f : Sheet) : Type 0 where
  pub tokens : before.tokens + f.tokens ≤ 1 + h.tokens
  pub names : before.names + f.names ≤ h.names
  pub text : before.text + f.text ≤ h.text

-- the sizes of a statement without clauses and names
abbrev pub alone : Sheet
alone = record { tokens = 1; names = 0; text = 0 }
