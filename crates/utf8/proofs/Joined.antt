-- UTF-8 piece by piece: two texts of the grammar one after the other are one, and so is a text of ASCII.
use mathlib.Core.Path.{◌≡◌}
use mathlib.Core.List.{List, [], ◌∷◌, ◌++◌}
use mathlib.Core.Bool.{true}
use Prim.Native.Nat.{ℕ}
use native.Mathlib.Omega.{arith}
use lib.Dec.{leb}
use borrow.Author.Tests.{leb-true}
use Rattle.lists.specs.Lists.{all_of}
use Rattle.lists.proofs.Tests.{both_true}
use Rattle.utf8.specs.Grammar.{Octets, no_char, char_1, char_2, char_3a, char_3b, char_3c, char_3d, char_4a, char_4b, char_4c}

-- a text of UTF-8 with another one behind it is UTF-8
pub joined-octets : {a b : List ℕ} → Octets a → Octets b → Octets (a ++ b)
joined-octets no_char q = q
joined-octets (char_1 x r) q = char_1 x (joined-octets r q)
joined-octets (char_2 x y r) q = char_2 x y (joined-octets r q)
joined-octets (char_3a x y z r) q = char_3a x y z (joined-octets r q)
joined-octets (char_3b x y z r) q = char_3b x y z (joined-octets r q)
joined-octets (char_3c x y z r) q = char_3c x y z (joined-octets r q)
joined-octets (char_3d x y z r) q = char_3d x y z (joined-octets r q)
joined-octets (char_4a x y z w r) q = char_4a x y z w (joined-octets r q)
joined-octets (char_4b x y z w r) q = char_4b x y z w (joined-octets r q)
joined-octets (char_4c x y z w r) q = char_4c x y z w (joined-octets r q)

-- a text whose bytes are ASCII is UTF-8
pub ascii-octets : (s : List ℕ) → all_of (λ b. leb b 0x7f) s ≡ true → Octets s
unfolding all_of
ascii-octets [] e = no_char
ascii-octets (a ∷ s) e =
    let p = both_true (leb a 0x7f) (all_of (λ b. leb b 0x7f) s) e in
    char_1 {a = a} (record { low = omega arith; high = leb-true _ _ p.0 }) (ascii-octets s p.1)
