-- A text among others.
use mathlib.Core.Path.{◌≡◌, refl}
use mathlib.Core.Bool.{Bool, true, false}
use mathlib.Core.List.{List, [], ◌∷◌, Memᴰ}
use Prim.Native.Nat.{ℕ}
use Rattle.lists.specs.Lists.{either, any_of}
use Rattle.lists.proofs.Tests.{never}
use Rattle.text.specs.Text.{same_text, is_text}
use Rattle.text.proofs.Laws.{same-is}

-- a text that is one of several stands among them
pub text-mem : (ns : List (List ℕ)) (n : List ℕ) → is_text ns n ≡ true → Memᴰ n ns
unfolding any_of
text-mem [] n e = never e
text-mem (x ∷ ns) n e = go (same_text n x) refl e (text-mem ns n)
  where
    go : (b : Bool) → same_text n x ≡ b → either b (is_text ns n) ≡ true → (is_text ns n ≡ true → Memᴰ n ns)
        → Memᴰ n (x ∷ ns)
    go true h g r = Memᴰ.head (same-is n x h)
    go false h g r = Memᴰ.tail (r g)
