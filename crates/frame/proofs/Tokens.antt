-- Tokens as examples write them.
use Prim.Native.Nat.{ℕ}
use Rattle.frame.specs.Doc.{Token}

-- a token of kind k and value v
infix 95 ◌of◌
abbrev pub ◌of◌ : ℕ → ℕ → Token
k of v = record { kind = k; value = v }
