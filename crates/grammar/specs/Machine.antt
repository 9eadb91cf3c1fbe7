-- Reading the tokens in order, against the places that wait: 8 tokens run out, 6 a kind or value not allowed here, 7
-- depth over 64, lastly 9 tokens left over.
use Rattle.std.specs.Prelude.{ℕ, zero, suc, ◌+◌, ◌-◌, Bool, List, [], ◌∷◌, length, leb, ltb, Option, Some, None, Result, Ok, Err}
use Rattle.lists.specs.Lists.{pick, both, is_one}
use Rattle.frame.specs.Limits.{max_depth}
use Rattle.frame.specs.Doc.{Doc, kind_of, value_of}
use Rattle.frame.specs.declared.Fault.{Fault}
use Rattle.rules.specs.declared.Place.{Place}
use Rattle.rules.specs.Rules.{asks, takes, valued, opens}
use Rattle.frame.specs.Sheet.{fault}

-- a place that waits to be filled, and its depth
pub record Want : Type 0 where
  pub place : Place
  pub depth : ℕ

abbrev pub want : Place → ℕ → Want
want p d = record { place = p; depth = d }

-- the places that a token opens, in front of those that wait
unfoldable pub opened : ℕ → List Place → List Want → List Want
opened d [] ws = ws
opened d (p ∷ ps) ws = let r : List Want = opened d ps ws in want p d ∷ r

-- the value of token i fits a place
unfoldable pub bounded : Doc → Place → ℕ → Bool
bounded d p i = (asks p).fits (length d.names) (value_of d (i - 1)) (value_of d i)

-- a kind and value allowed here
unfoldable pub allowed : Doc → Place → ℕ → Bool
allowed d p i = both (is_one (takes p) (kind_of d i)) (both (valued (kind_of d i) (value_of d i)) (bounded d p i))

-- At one token 6 comes before 7
unfoldable pub judged : Doc → Want → ℕ → Option Fault
judged d w i = pick (allowed d w.place i) (pick (leb w.depth max_depth) None (Some (fault 7 i))) (Some (fault 6 i))

-- what comes after a token without fault
abbrev pub after : Option Fault → Result ℕ Fault → Result ℕ Fault
after None next = next
after (Some k) next = Err k

-- the `left` tokens from i on, against the places that wait: where those are filled, the next token, or the refusal's
-- number and place. Each step takes one token, so that the tokens left are steps enough: `from-nil`, `from_step` and
-- `from_out` of the proofs are the equations without them, of the run from a token on
unfoldable pub run : Doc → ℕ → List Want → ℕ → Result ℕ Fault
run d zero [] i = Ok i
run d zero (w ∷ ws) i = Err (fault 8 i)
run d (suc left) [] i = Ok i
run d (suc left) (w ∷ ws) i =
    let r : Result ℕ Fault = run d left (opened (w.depth + 1) (opens (kind_of d i) (value_of d i)) ws) (suc i) in
    after (judged d w i) r

-- 9 at the first token left over, of n in all
abbrev pub left_over : ℕ → Result ℕ Fault → Option Fault
left_over n (Ok i) = pick (ltb i n) (Some (fault 9 i)) None
left_over n (Err k) = Some k

-- token 0 has depth 0, any other one more than the token it belongs to
unfoldable pub grammar_fault : Place → Doc → Option Fault
grammar_fault p d = left_over (length d.tokens) (run d (length d.tokens) (want p 0 ∷ []) 0)
