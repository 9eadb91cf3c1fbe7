-- What a token reader finds at a position of a document, and where it stands afterwards.
use Rattle.std.specs.Prelude.{ℕ, ◌+◌, length, leb, Option, Some, None}
use Rattle.lists.specs.Lists.{pick}
use Rattle.frame.specs.Doc.{Doc, kind_of, value_of}
use Rattle.token_reader.specs.declared.TokenReader.{TokenReader}
use Rattle.token_reader.specs.declared.Token.{Token}

-- a token of a kind and a value
abbrev pub token : ℕ → ℕ → Token
token kind value = record { kind = kind; value = value }

-- the kind and the value of the token there; past the last one, none
unfoldable pub step_at : Doc → ℕ → Option Token
step_at d at = pick (leb (length d.tokens) at) None (Some (token (kind_of d at) (value_of d at)))

-- the next position, of n tokens; the end is not passed
unfoldable pub following : ℕ → ℕ → ℕ
following at n = pick (leb n at) at (at + 1)

-- the reader after a step
abbrev pub moved : TokenReader → TokenReader
moved r = record { sheet = r.sheet; sizes = r.sizes; at = following r.at r.sizes.tokens }
