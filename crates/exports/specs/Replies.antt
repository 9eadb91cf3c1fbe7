-- What an exported function answers: its operation's answer, in four numbers.
use Rattle.std.specs.Prelude.{◌≡◌, List, ℕ}
use Rattle.schema.specs.Effect.{Effect, answer_of, exit}
use Rattle.rfc4180.specs.declared.Line.{Line}
use Rattle.rfc4180.specs.declared.Line.TheVariants.{Whole, End, Broken}
use Rattle.exports.specs.declared.Reply.{Reply}
use Rattle.exports.specs.declared.RowAt.{RowAt}
use Rattle.std.specs.Prelude.{Result, Ok, Err}
use Rattle.schema.specs.declared.Refusal.{Refusal}

-- Accepted, number is 0, and count is what was written. Refused, number, sheet and place are the refusal's
abbrev pub replied : Result ℕ Refusal → Reply
replied (Ok n) = record { number = 0; sheet = 0; place = 0; count = n }
replied (Err r) = record { number = r.number; sheet = r.sheet; place = r.place; count = 0 }

-- an exported function's answer and its buffer afterwards are those of an effect
pub record Replies (a : Effect) (lent : List ℕ) (r : Reply) (left : List ℕ) : Type 0 where
  pub answer : r ≡ replied (answer_of a)
  pub buffer : left ≡ exit a lent

-- the row that begins at a place: 0 and its end, and where the next begins; 18 where there is none; 17 and where the
-- text breaks RFC 4180
abbrev pub row_told : ℕ → Line → RowAt
row_told at (Whole s) = record { number = 0; start = at; stop = s.stop; next = s.next }
row_told at End = record { number = 18; start = at; stop = at; next = at }
row_told at (Broken p) = record { number = 17; start = at; stop = p; next = p }
