-- Statements and schemas with the case of their functions' names changed.
use Rattle.std.specs.Prelude.{ℕ, suc, ◌<◌, ◌≡◌, List, ◌++◌, map}
use Rattle.text.specs.Folded.{folded}
use Rattle.rules.specs.Kinds as Kind
use Rattle.grammar.specs.Tree.{Tree}
use Rattle.provider.specs.Schema.{Schema, Signature}

-- Two statements that are the same but for the case of their functions' names: the Name right behind an expression's
-- Call is one. Labels, relationship types, keys and procedures keep exact bytes
pub record Recased (t u : Tree) : Type 0 where
  -- as many tokens, each of the same kind and the same value
  pub size : u.size ≡ t.size
  pub kind : (i : ℕ) → i < t.size → u.kind i ≡ t.kind i
  pub value : (i : ℕ) → i < t.size → u.value i ≡ t.value i
  -- behind every other token the same text, and behind an expression's Call the same but for the 26 letters' case
  pub text : (i : ℕ) → suc i < t.size → (t.kind i ≡ Kind.FunctionCall → ⊥) → u.text (suc i) ≡ t.text (suc i)
  pub function : (i : ℕ) → suc i < t.size → t.kind i ≡ Kind.FunctionCall
      → folded (u.text (suc i)) ≡ folded (t.text (suc i))

-- a function with its name in lower case: all else is as it was
abbrev pub lowered : Signature → Signature
lowered f = record { name = folded f.name; parameters = f.parameters; variadic = f.variadic }

-- Two schemas that are the same but for the case of their functions' names: as many functions, in turn of the same
-- parameters and alike variadic, with names that are the same in lower case; and all other declarations the same
pub record RecasedSchema (s r : Schema) : Type 0 where
  pub labels : r.labels ≡ s.labels
  pub rel_types : r.rel_types ≡ s.rel_types
  pub parameters : r.parameters ≡ s.parameters
  pub functions : map lowered r.functions ≡ map lowered s.functions
  pub procedures : r.procedures ≡ s.procedures
  pub aparts : r.aparts ≡ s.aparts

-- Two messages that show a name as it is written: the same words stand in front of it and behind it, and between them
-- the one message has the one name, and the other the other
pub record AsWritten (m n a b : List ℕ) : Type 0 where
  pub before : List ℕ
  pub behind : List ℕ
  pub one : m ≡ before ++ a ++ behind
  pub other : n ≡ before ++ b ++ behind
