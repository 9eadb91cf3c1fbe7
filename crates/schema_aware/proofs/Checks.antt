-- The check's answers, from what was counted and written.
use mathlib.Core.Path.{◌≡◌, sym, ap, ◌∙◌}
use mathlib.Core.List.{List, ◌++◌}
use Prim.Native.Nat.{ℕ, ◌/◌, ◌≤◌}
use native.Mathlib.Omega.{arith}
use borrow.Author.Tests.{le-leb, leb-true, not-true, not-false}
use mathlib.Core.Bool.{Bool, true, false, not}
use lib.Dec.{leb}
use Rattle.breach.specs.Breach.{Item, numbers, statement_in, schema_in}
use Rattle.breach.specs.Listing.{listed}
use lib.ListN.{length, drop}
use Rattle.lists.specs.Lists.{each}
use Rattle.frame.specs.declared.Sizes.{Sizes}
use Rattle.judge.specs.Window.{ToldItems}
use Rattle.judge.specs.Judging.{Lent}
use Rattle.schema.specs.Effect.{refusal, answer_of, exit, Done}
use Rattle.schema.proofs.Effects.{refuses}
use Rattle.schema_aware.specs.Check.{items_effect}
use Rattle.walk.proofs.Clauses.{few}
use Rattle.schema_aware.proofs.Windows.{each-length, window-whole}
use Rattle.std.specs.Prelude.{Result, Ok}
use Rattle.schema.specs.declared.Refusal.{Refusal}

-- ---- whether all items fit, and then all of them written
module _ (s d : List ℕ) (sizes : Sizes) {reg : List ℕ} (z : Lent s d sizes reg) where
  pub all_fit : {room : ℕ} → sizes.statement.tokens ≤ room → true ≡ leb (length (listed (statement_in s) (schema_in d))) room
  all_fit {room} h = sym (le-leb (length (listed (statement_in s) (schema_in d))) room (omega (arith, few z)))

  pub counted : (room : ℕ) {c : ℕ} {l l₁ : List ℕ} → ToldItems (listed (statement_in s) (schema_in d)) 0 l c l₁
      → leb c room ≡ leb (length (listed (statement_in s) (schema_in d))) room
  counted room w = ap (λ (n : ℕ). leb n room) w.count

module _ (xs : List Item) (l : List ℕ) {b : Bool} (eb : b ≡ leb (length xs) (length l / 7)) where
  pub too_short : {o : Result ℕ Refusal} → not b ≡ true → o ≡ answer_of (refusal 14 0 0) → Done (items_effect xs l) l o l
  unfolding items_effect
  too_short h e =
      let m : leb (length xs) (length l / 7) ≡ false = sym eb ∙ not-true b h in
      rw m (refuses 14 0 0 l e)

  pub all-written : {n : ℕ} {l₂ : List ℕ} → not b ≡ false → ToldItems xs 0 l n l₂ → Done (items_effect xs l) l
      (Ok n) l₂
  unfolding items_effect exit
  all-written {n} {l₂} h v =
      let m : leb (length xs) (length l / 7) ≡ true = sym eb ∙ not-false b h in
      rw m (record {
        answer = ap Ok v.count;
        buffer = v.list ∙ window-whole xs l (leb-true (length xs) (length l / 7) m) ∙ ap
            (λ (k : ℕ). each numbers xs ++ drop k l) (sym (each-length xs));
      })
