-- From what an operation ensures to what is answered for it.
use mathlib.Core.Path.{◌≡◌, ap, ◌∙◌}
use mathlib.Core.List.{List}
use Prim.Native.Nat.{ℕ}
use Rattle.schema.specs.Effect.{Effect, Done}
use Rattle.exports.specs.declared.Reply.{Reply}
use Rattle.exports.specs.Replies.{replied, Replies}
use Rattle.std.specs.Prelude.{Result}
use Rattle.schema.specs.declared.Refusal.{Refusal}

pub replies : (a : Effect) → (lent : List ℕ) → (o : Result ℕ Refusal) → (left : List ℕ) → (r : Reply) → Done a lent o left → r
    ≡ replied o → Replies a lent r left
replies a lent o left r done told = record { answer = told ∙ ap replied done.answer; buffer = done.buffer }
