-- The operation's answers, from what was found, measured and written.
use mathlib.Core.Path.{◌≡◌, ap}
use mathlib.Core.List.{List}
use Prim.Native.Nat.{ℕ, ◌≤◌, ◌<◌}
use native.Mathlib.Omega.{arith}
use borrow.Author.Tests.{lt-leb, le-leb}
use lib.ListN.{length}
use Rattle.lists.specs.Lists.{nth}
use Rattle.grammar.specs.Tree.{Tree}
use Rattle.provider.specs.Schema.{Schema}
use Rattle.schema.specs.Effect.{refusal, answer_of, exit, Done, fitted}
use Rattle.schema.proofs.Effects.{refuses}
use Rattle.breach.specs.Breach.{Item}
use Rattle.judge.specs.Window.{ToldItems}
use Rattle.phrase.specs.Inner.{Put}
use Rattle.phrase.proofs.Laws.{put_whole}
use Rattle.message.specs.Message.{message_of}
use Rattle.message.specs.Said.{item_effect}
use Rattle.message.proofs.Shown.{item-none, Shown}
use Rattle.std.specs.Prelude.{Result, Ok}
use Rattle.schema.specs.declared.Refusal.{Refusal}

-- ---- measured, and then written
module _ {xs : List ℕ} {size : ℕ} {n n' : List ℕ} (w : Put xs 0 n size n') (l : List ℕ) where
  pub too_long : {o : Result ℕ Refusal} → length l < size → o ≡ answer_of (refusal 16 0 0) → Done (fitted (length xs) xs l) l o l
  unfolding fitted
  too_long h e =
      rw (lt-leb (length xs) (length l) (omega (arith, w.ends))) (refuses 16 0 0 l e)

  pub all_said : {r : ℕ} {l' : List ℕ} → size ≤ length l → Put xs 0 l r l' → Done (fitted (length xs) xs l) l
      (Ok r) l'
  unfolding fitted exit
  all_said {r} {l'} h v =
      let k : length xs ≤ length l = omega (arith, w.ends) in
      let e : r ≡ length xs = omega (arith, v.ends) in
      rw (le-leb (length xs) (length l) k) (record { answer = ap Ok e; buffer = put_whole v k })

-- ---- item k
module _ (t : Tree) (s : Schema) (xs : List Item) (k : ℕ) (l : List ℕ) where
  pub no_item : {n : ℕ} {i m : List ℕ} {o : Result ℕ Refusal} → ToldItems xs k i n m → n ≤ k → o ≡ answer_of (refusal 15 0 0)
      → Done (item_effect t s (nth xs k) l) l o l
  no_item w h e = rw (item-none xs k (omega (arith, w.count))) (refuses 15 0 0 l e)

  pub item-said : {m : List ℕ} (r : Shown xs k m) (x : Item) {o : Result ℕ Refusal} {l' : List ℕ} → x ≡ r.item → Done
      (fitted (length (message_of t s x)) (message_of t s x) l) l o l' → Done (item_effect t s (nth xs k) l) l o l'
  item-said r x e w = rw (r.here, ← e) w
