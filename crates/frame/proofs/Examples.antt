-- Sheets of document 01, computed from their bytes by the definitions.
use mathlib.Core.Path.{◌≡◌, refl}
use mathlib.Core.List.{List, [], ◌∷◌}
use Prim.Native.Nat.{ℕ}
use Rattle.lists.specs.Lists.{table}
use Rattle.utf8.specs.Utf8.{lead_of, step_of, goes_on, utf8}
use Rattle.frame.specs.Sheet.{sheet_of, in_range, end_of, start_of, part_of, end_fault, name_fault, sized_fault, frame_fault, fault}
use Rattle.frame.specs.Inner.{frame_of}
use Rattle.frame.specs.Doc.{doc_as, doc_of}
use Rattle.std.specs.Prelude.{Ok, Err}

-- 11 bytes: 1
eleven-bytes : frame_of (1 ∷ 0 ∷ 0 ∷ 0 ∷ 0 ∷ 0 ∷ 0 ∷ 0 ∷ 0 ∷ 0 ∷ 0 ∷ []) ≡ Err (fault 1 0)
unfolding frame_of frame_fault
eleven-bytes = refl

-- T = 0: 2
no-token : frame_of (0 ∷ 0 ∷ 0 ∷ 0 ∷ 0 ∷ 0 ∷ 0 ∷ 0 ∷ 0 ∷ 0 ∷ 0 ∷ 0 ∷ []) ≡ Err (fault 2 0)
unfolding frame_of frame_fault sheet_of sized_fault in_range
no-token = refl

-- T = 4,097: 2. At T = 4,096 the same twelve bytes get as far as 3
token-too-many : frame_of (1 ∷ 16 ∷ 0 ∷ 0 ∷ 0 ∷ 0 ∷ 0 ∷ 0 ∷ 0 ∷ 0 ∷ 0 ∷ 0 ∷ []) ≡ Err (fault 2 0)
unfolding frame_of frame_fault sheet_of sized_fault in_range
token-too-many = refl

most-tokens : frame_of (0 ∷ 16 ∷ 0 ∷ 0 ∷ 0 ∷ 0 ∷ 0 ∷ 0 ∷ 0 ∷ 0 ∷ 0 ∷ 0 ∷ []) ≡ Err (fault 3 0)
unfolding frame_of frame_fault sheet_of sized_fault in_range
most-tokens = refl

-- a statement with no clause, 17 bytes: it is framed, and its one token is 90 with value 0
abbrev no-clause : List ℕ
no-clause = 1 ∷ 0 ∷ 0 ∷ 0 ∷ 0 ∷ 0 ∷ 0 ∷ 0 ∷ 0 ∷ 0 ∷ 0 ∷ 0 ∷ 90 ∷ 0 ∷ 0 ∷ 0 ∷ 0 ∷ []

no-clause-framed : frame_of no-clause ≡ Ok (record { tokens = 1; names = 0; text = 0 })
unfolding frame_of frame_fault sheet_of sized_fault in_range end_fault start_of name_fault
no-clause-framed = refl

no-clause-doc : doc_of no-clause ≡ record { tokens = record { kind = 90; value = 0 } ∷ []; names = [] }
unfolding doc_of doc_as table sheet_of
no-clause-doc = refl

-- one token and two names, of these ends, in a text of four bytes
abbrev two-names : ℕ → ℕ → List ℕ → List ℕ
two-names e f text =
    1 ∷ 0 ∷ 0 ∷ 0 ∷ 2 ∷ 0 ∷ 0 ∷ 0 ∷ 4 ∷ 0 ∷ 0 ∷ 0 ∷ 90 ∷ 0 ∷ 0 ∷ 0 ∷ 0 ∷ e ∷ 0 ∷ 0 ∷ 0 ∷ f ∷ 0 ∷ 0 ∷ 0 ∷ text

-- the ends fall at name 1; pass the text at name 0; stop short of it: M. A bad byte in the text comes after all of
-- these
ends-fall : frame_of (two-names 3 2 (0x80 ∷ 97 ∷ 98 ∷ 99 ∷ [])) ≡ Err (fault 4 1)
unfolding frame_of frame_fault sheet_of sized_fault in_range end_fault start_of end_of
ends-fall = refl

ends-pass : frame_of (two-names 5 4 (0x80 ∷ 97 ∷ 98 ∷ 99 ∷ [])) ≡ Err (fault 4 0)
unfolding frame_of frame_fault sheet_of sized_fault in_range end_fault start_of end_of
ends-pass = refl

ends-short : frame_of (two-names 2 3 (0x80 ∷ 97 ∷ 98 ∷ 99 ∷ [])) ≡ Err (fault 4 2)
unfolding frame_of frame_fault sheet_of sized_fault in_range end_fault start_of end_of
ends-short = refl

-- no name, and a text
text-of-none : frame_of (1 ∷ 0 ∷ 0 ∷ 0 ∷ 0 ∷ 0 ∷ 0 ∷ 0 ∷ 1 ∷ 0 ∷ 0 ∷ 0 ∷ 90 ∷ 0 ∷ 0 ∷ 0 ∷ 0 ∷ 97 ∷ []) ≡ Err (fault 4 0)
unfolding frame_of frame_fault sheet_of sized_fault in_range end_fault start_of
text-of-none = refl

-- name 1 is an overlong form, C0 80; and with C3 80 the sheet holds the names C3 A9 and C3 80
second-name-bad : frame_of (two-names 2 4 (0xc3 ∷ 0xa9 ∷ 0xc0 ∷ 0x80 ∷ [])) ≡ Err (fault 5 1)
unfolding frame_of frame_fault sheet_of sized_fault in_range end_fault start_of end_of name_fault part_of utf8 goes_on step_of lead_of
second-name-bad = refl

both-names-good : frame_of (two-names 2 4 (0xc3 ∷ 0xa9 ∷ 0xc3 ∷ 0x80 ∷ [])) ≡ Ok
    (record { tokens = 1; names = 2; text = 4 })
unfolding frame_of frame_fault sheet_of sized_fault in_range end_fault start_of end_of name_fault part_of utf8 goes_on step_of lead_of
both-names-good = refl

both-names-doc : doc_of (two-names 2 4 (0xc3 ∷ 0xa9 ∷ 0xc3 ∷ 0x80 ∷ [])) ≡ record
    { tokens = record { kind = 90; value = 0 } ∷ []; names = (0xc3 ∷ 0xa9 ∷ []) ∷ (0xc3 ∷ 0x80 ∷ []) ∷ [] }
unfolding doc_of doc_as table sheet_of start_of end_of part_of
both-names-doc = refl

-- a character split over two names is in neither
split-over-names : frame_of (two-names 1 4 (0xc3 ∷ 0xa9 ∷ 97 ∷ 98 ∷ [])) ≡ Err (fault 5 0)
unfolding frame_of frame_fault sheet_of sized_fault in_range end_fault start_of end_of name_fault part_of utf8 goes_on step_of lead_of
split-over-names = refl

-- ---- thin sheets: the top bit of the token count, 128 in its last byte
-- T = 0 and T = 4,097 with the bit: 2. At T = 4,096 the same twelve bytes get as far as 3
no-token-thin : frame_of (0 ∷ 0 ∷ 0 ∷ 128 ∷ 0 ∷ 0 ∷ 0 ∷ 0 ∷ 0 ∷ 0 ∷ 0 ∷ 0 ∷ []) ≡ Err (fault 2 0)
unfolding frame_of frame_fault sheet_of sized_fault in_range
no-token-thin = refl

token-too-many-thin : frame_of (1 ∷ 16 ∷ 0 ∷ 128 ∷ 0 ∷ 0 ∷ 0 ∷ 0 ∷ 0 ∷ 0 ∷ 0 ∷ 0 ∷ []) ≡ Err (fault 2 0)
unfolding frame_of frame_fault sheet_of sized_fault in_range
token-too-many-thin = refl

most-tokens-thin : frame_of (0 ∷ 16 ∷ 0 ∷ 128 ∷ 0 ∷ 0 ∷ 0 ∷ 0 ∷ 0 ∷ 0 ∷ 0 ∷ 0 ∷ []) ≡ Err (fault 3 0)
unfolding frame_of frame_fault sheet_of sized_fault in_range
most-tokens-thin = refl

-- one token and two names, of these ends, in a text of four bytes
abbrev two-names-thin : ℕ → ℕ → List ℕ → List ℕ
two-names-thin e f text =
    1 ∷ 0 ∷ 0 ∷ 128 ∷ 2 ∷ 0 ∷ 0 ∷ 0 ∷ 4 ∷ 0 ∷ 0 ∷ 0 ∷ 90 ∷ 0 ∷ 0 ∷ 0 ∷ 0 ∷ e ∷ 0 ∷ f ∷ 0 ∷ text

-- the same sizes and the same document as with ends of four bytes
thin-names-good : frame_of (two-names-thin 2 4 (0xc3 ∷ 0xa9 ∷ 0xc3 ∷ 0x80 ∷ [])) ≡ Ok
    (record { tokens = 1; names = 2; text = 4 })
unfolding frame_of frame_fault sheet_of sized_fault in_range end_fault start_of end_of name_fault part_of utf8 goes_on step_of lead_of
thin-names-good = refl

thin-names-doc : doc_of (two-names-thin 2 4 (0xc3 ∷ 0xa9 ∷ 0xc3 ∷ 0x80 ∷ [])) ≡ doc_of
    (two-names 2 4 (0xc3 ∷ 0xa9 ∷ 0xc3 ∷ 0x80 ∷ []))
unfolding doc_of doc_as table sheet_of start_of end_of part_of
thin-names-doc = refl

-- an end of 256, in its second byte, passes a text of four bytes; the place is the name's
thin-ends-pass : frame_of (1 ∷ 0 ∷ 0 ∷ 128 ∷ 1 ∷ 0 ∷ 0 ∷ 0 ∷ 4 ∷ 0 ∷ 0 ∷ 0 ∷ 90 ∷ 0 ∷ 0 ∷ 0 ∷ 0 ∷ 0 ∷ 1 ∷ 97 ∷ 98 ∷ 99
    ∷ 100 ∷ []) ≡ Err (fault 4 0)
unfolding frame_of frame_fault sheet_of sized_fault in_range end_fault start_of end_of
thin-ends-pass = refl

-- the bit on a sheet whose ends have four bytes, and a thin sheet without it: 3
marked-only : frame_of (1 ∷ 0 ∷ 0 ∷ 128 ∷ 1 ∷ 0 ∷ 0 ∷ 0 ∷ 1 ∷ 0 ∷ 0 ∷ 0 ∷ 90 ∷ 0 ∷ 0 ∷ 0 ∷ 0 ∷ 1 ∷ 0 ∷ 0 ∷ 0 ∷ 97 ∷ []) ≡ Err
    (fault 3 0)
unfolding frame_of frame_fault sheet_of sized_fault in_range
marked-only = refl

unmarked-only : frame_of (1 ∷ 0 ∷ 0 ∷ 0 ∷ 1 ∷ 0 ∷ 0 ∷ 0 ∷ 1 ∷ 0 ∷ 0 ∷ 0 ∷ 90 ∷ 0 ∷ 0 ∷ 0 ∷ 0 ∷ 1 ∷ 0 ∷ 97 ∷ []) ≡ Err (fault 3 0)
unfolding frame_of frame_fault sheet_of sized_fault in_range
unmarked-only = refl
