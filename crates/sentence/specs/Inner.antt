-- What the functions that write a message ask of a token, and parts of a message by the code's answers.
use Rattle.std.specs.Prelude.{◌≡◌, List, [], ℕ, ◌+◌, ◌/◌, ◌<◌, length}
use Rattle.rules.specs.Kinds as Kind
use Rattle.frame.specs.Doc.{Doc, kind_of, value_of}
use Rattle.provider.specs.declared.Callee.{Callee}
use Rattle.marks.specs.Marks.{NamesAt}
use Rattle.phrase.specs.Inner.{ElementAt}
use Rattle.sentence.specs.Sentence.{count_phrase}
use Rattle.std.specs.Prelude.{Option, Some, None}

-- the element i has a Map as properties
pub record MapAt (d : Doc) (i : ℕ) : Type 0 where
  pub element : ElementAt d i
  pub inside : i + 3 + value_of d i / 2 < length d.tokens
  pub map : kind_of d (i + 3 + value_of d i / 2) ≡ Kind.Map

-- token i is a Node with its labels, or a Set's Labels with its own
pub record LabelsAt (d : Doc) (i : ℕ) : Type 0 where
  pub inside : i < length d.tokens
  pub no_name : kind_of d i ≡ Kind.Name → ⊥
  pub node : kind_of d i ≡ Kind.Node → NamesAt d (i + 3) (value_of d i / 2)
  pub other : (kind_of d i ≡ Kind.Node → ⊥) → NamesAt d (i + 1) (value_of d i)

-- exactly 2 argument(s) but got 3, by the answer of a lookup
abbrev pub counted : Option Callee → ℕ → List ℕ
counted None n = []
counted (Some f) n = count_phrase f.parameters f.variadic n
