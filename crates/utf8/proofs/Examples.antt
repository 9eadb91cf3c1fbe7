-- Rows of the ABNF at their edges, computed by the definition.
use mathlib.Core.Path.{◌≡◌, refl}
use mathlib.Core.List.{[], ◌∷◌}
use mathlib.Core.Bool.{true, false}
use Rattle.utf8.specs.Utf8.{lead_of, step_of, goes_on, utf8}

-- no character at all
no_byte : utf8 [] ≡ true
unfolding utf8 goes_on
no_byte = refl

-- U+007F, U+0080, U+D7FF, U+10FFFF
last-of-one : utf8 (0x7f ∷ []) ≡ true
unfolding utf8 goes_on step_of lead_of
last-of-one = refl

first-of-two : utf8 (0xc2 ∷ 0x80 ∷ []) ≡ true
unfolding utf8 goes_on step_of lead_of
first-of-two = refl

before-surrogates : utf8 (0xed ∷ 0x9f ∷ 0xbf ∷ []) ≡ true
unfolding utf8 goes_on step_of lead_of
before-surrogates = refl

last-of-four : utf8 (0xf4 ∷ 0x8f ∷ 0xbf ∷ 0xbf ∷ []) ≡ true
unfolding utf8 goes_on step_of lead_of
last-of-four = refl

-- an overlong form, a surrogate, past U+10FFFF, a lone tail, a character cut short
overlong : utf8 (0xc1 ∷ 0xbf ∷ []) ≡ false
unfolding utf8 goes_on step_of lead_of
overlong = refl

surrogate : utf8 (0xed ∷ 0xa0 ∷ 0x80 ∷ []) ≡ false
unfolding utf8 goes_on step_of lead_of
surrogate = refl

past-the-last : utf8 (0xf4 ∷ 0x90 ∷ 0x80 ∷ 0x80 ∷ []) ≡ false
unfolding utf8 goes_on step_of lead_of
past-the-last = refl

lone-tail : utf8 (0x80 ∷ []) ≡ false
unfolding utf8 goes_on step_of lead_of
lone-tail = refl

cut_short : utf8 (0xe1 ∷ 0x80 ∷ []) ≡ false
unfolding utf8 goes_on step_of lead_of
cut_short = refl
