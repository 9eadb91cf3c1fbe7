-- What a sheet says: its tokens and its names, as lists. A definition above the frame goes by `frame_fault` and `doc_of`
-- alone and names no place of a byte, so two sheets without fault whose documents are equal are alike to it; but for
-- those of `written` and `thinned`, which are about bytes.
use Rattle.std.specs.Prelude.{ℕ, ◌+◌, ◌*◌, List, [], get_or}
use Rattle.lists.specs.Lists.{table}
use Rattle.endian.specs.Endian.{u32_at}
use Rattle.frame.specs.Sheet.{sheet_of, kinds_at, values_at, name_at}
use Rattle.frame.specs.declared.Sheet.{Sheet}

-- a token: its kind and its value
pub record Token : Type 0 where
  pub kind : ℕ
  pub value : ℕ

-- a document: its tokens in order, and its names as texts
pub record Doc : Type 0 where
  pub tokens : List Token
  pub names : List (List ℕ)

-- two parallel arrays: kind i is byte i of the kinds, value i is u32 i of the values
abbrev pub token_at : List ℕ → Sheet → ℕ → Token
token_at s f i = record { kind = get_or s (kinds_at f + i) 0; value = u32_at s (values_at f + 4 * i) }

unfoldable pub doc_as : List ℕ → Sheet → Doc
doc_as s f = record { tokens = table (token_at s f) 0 f.tokens; names = table (name_at s f) 0 f.names }

-- the document that a sheet's bytes hold
unfoldable pub doc_of : List ℕ → Doc
doc_of s = doc_as s (sheet_of s)

-- the kind and the value of token i, name k
abbrev pub kind_of : Doc → ℕ → ℕ
kind_of d i = (get_or d.tokens i (record { kind = 0; value = 0 })).kind

abbrev pub value_of : Doc → ℕ → ℕ
value_of d i = (get_or d.tokens i (record { kind = 0; value = 0 })).value

abbrev pub name_of : Doc → ℕ → List ℕ
name_of d k = get_or d.names k []
