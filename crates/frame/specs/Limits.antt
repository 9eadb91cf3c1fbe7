-- The limits of a sheet. `Sheet::limits` says that the code's are these.
use Rattle.std.specs.Prelude.{ℕ}

-- T is at most 4,096, M at most 1,024, B at most 32,768
abbrev pub max_tokens : ℕ
max_tokens = 4096

abbrev pub max_names : ℕ
max_names = 1024

abbrev pub max_text : ℕ
max_text = 32768

-- a token's depth is at most 64
abbrev pub max_depth : ℕ
max_depth = 64
