-- Names of a plan graph and of functions compared, with the pairs of bytes that are looked at, computed by the
-- definitions.
use mathlib.Core.Path.{◌≡◌, refl}
use mathlib.Core.Bool.{true, false}
use mathlib.Core.List.{[], ◌∷◌}
use Rattle.text.specs.Text.{same_text, order_of, is_less, bytes}
use Rattle.text.specs.Folded.{lower, folded, same_folded}
use Rattle.text.specs.BytePairs.{common_start, order_pairs, same_pairs}

-- Phase and Plans: the first pair is common, the second differs
differ-at-the-second : same_pairs (bytes "Phase") (bytes "Plans") ≡ 2
unfolding common_start bytes
differ-at-the-second = refl

differ-at-the-first : order_pairs (bytes "phase") (bytes "Phase") ≡ 1
unfolding common_start bytes
differ-at-the-first = refl

differ-at-the-last : same_pairs (bytes "Phase1") (bytes "Phase2") ≡ 6
unfolding common_start bytes
differ-at-the-last = refl

-- a name begins the other: all of it for the order, and nothing for whether they are the same
begins-the-other : order_pairs (bytes "Plan") (bytes "Planned") ≡ 4
unfolding common_start bytes
begins-the-other = refl

other-begins : order_pairs (bytes "Planned") (bytes "Plan") ≡ 4
unfolding common_start bytes
other-begins = refl

lengths-tell : same_pairs (bytes "Plan") (bytes "Planned") ≡ 0
unfolding common_start bytes
lengths-tell = refl

-- lengths and bytes that differ: the bytes have the order, the lengths that they are not the same
bytes-order : order_pairs (bytes "Phases") (bytes "Plan") ≡ 2
unfolding common_start bytes
bytes-order = refl

lengths-before-bytes : same_pairs (bytes "Phases") (bytes "Plan") ≡ 0
unfolding common_start bytes
lengths-before-bytes = refl

-- the same name twice, and no name
the_same : same_pairs (bytes "Plan") (bytes "Plan") ≡ 4
unfolding common_start bytes
the_same = refl

empty_name : order_pairs (bytes "") (bytes "Plan") ≡ 0
unfolding common_start bytes
empty_name = refl

no_bytes : same_pairs (bytes "") (bytes "") ≡ 0
unfolding common_start bytes
no_bytes = refl

-- a name of a function in either case
capitals-are-alike : same_folded (bytes "COUNT") (bytes "count") ≡ true
unfolding same_text lower bytes
capitals-are-alike = refl

-- the first and the last letter
ends-of-the-letters : same_folded (bytes "AZ") (bytes "az") ≡ true
unfolding same_text lower bytes
ends-of-the-letters = refl

-- what stands 32 apart and is no letter: the bytes above Z and z, those below A and a, and É and é in UTF-8
brackets-differ : same_folded (bytes "[") (bytes "{") ≡ false
unfolding same_text lower bytes
brackets-differ = refl

at-sign-differs : same_folded (bytes "@") (bytes "`") ≡ false
unfolding same_text lower bytes
at-sign-differs = refl

accents-differ : same_folded (0xc3 ∷ 0x89 ∷ []) (0xc3 ∷ 0xa9 ∷ []) ≡ false
unfolding same_text lower
accents-differ = refl

-- Ab and aC: the first pair is common but for case, the second differs
differ-at-the-second-folded : same_pairs (folded (bytes "Ab")) (folded (bytes "aC")) ≡ 2
unfolding common_start lower bytes
differ-at-the-second-folded = refl

-- an underscore stands between the capital letters and the small ones, and below both when folded
underscore-below : is_less (order_of (folded (bytes "_")) (folded (bytes "A"))) ≡ true
unfolding order_of lower bytes
underscore-below = refl
