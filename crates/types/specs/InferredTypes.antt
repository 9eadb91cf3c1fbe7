-- The inferred types outside lists that are no literal's kind, by name; a literal of the kinds 1 to 5 has its kind as
-- its type. Imported as `Inferred`: Inferred.Num is 6. No rule speaks of those from 9 to 13, Map, Node, Relationship,
-- Path and Union: `inferred_names` has all 15 by their numbers.
use Rattle.std.specs.Prelude.{ℕ}

abbrev pub Any : ℕ
Any = 0

abbrev pub Num : ℕ
Num = 6

abbrev pub Date : ℕ
Date = 7

abbrev pub Datetime : ℕ
Datetime = 8

abbrev pub Unknown : ℕ
Unknown = 14
