-- Texts alike but for the case of the 26 ASCII letters.
use Rattle.std.specs.Prelude.{ℕ, ◌+◌, List, map, Bool, leb}
use Rattle.lists.specs.Lists.{pick, both}
use Rattle.text.specs.Text.{same_text}

-- A to Z, which are 65 to 90, as a to z, which stand 32 above; every other byte itself
unfoldable pub lower : ℕ → ℕ
lower x = pick (both (leb 65 x) (leb x 90)) (x + 32) x

-- a text with each byte so
abbrev pub folded : List ℕ → List ℕ
folded a = map lower a

-- two texts that are the same so
abbrev pub same_folded : List ℕ → List ℕ → Bool
same_folded a b = same_text (folded a) (folded b)
