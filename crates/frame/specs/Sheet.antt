-- The sheet: its sizes, its names, and what turns it down before a token is looked at, 1 to 5.
use Rattle.std.specs.Prelude.{ℕ, zero, suc, ◌+◌, ◌-◌, ◌*◌, ◌%◌, Bool, List, length, take, drop, ltb, leb, eqb, Option, Some, None}
use Rattle.lists.specs.Lists.{pick, both, either}
use Rattle.endian.specs.Endian.{u32_at, u16_at}
use Rattle.utf8.specs.Utf8.{utf8}
use Rattle.frame.specs.Limits.{max_tokens, max_names, max_text}
use Rattle.frame.specs.declared.Sheet.{Sheet}
use Rattle.frame.specs.declared.Fault.{Fault}

-- The top bit of the token count marks a thin sheet, whose name ends are u16; T is the other 31 bits
abbrev pub top_bit : ℕ
top_bit = 2147483648

abbrev pub is_thin : List ℕ → Bool
is_thin s = leb top_bit (u32_at s 0)

-- Sizes: u32 T tokens, u32 M names, u32 B bytes of text
unfoldable pub sheet_of : List ℕ → Sheet
sheet_of s = record { tokens = u32_at s 0 % top_bit; names = u32_at s 4; text = u32_at s 8 }

-- T is 1 to 4,096, M is 0 to 1,024, B is 0 to 32,768
unfoldable pub in_range : Sheet → Bool
in_range f =
    both (leb 1 f.tokens)
    (both (leb f.tokens max_tokens) (both (leb f.names max_names) (leb f.text max_text)))

-- the bytes of a name end
abbrev pub end_width : List ℕ → ℕ
end_width s = pick (is_thin s) 2 4

-- Then T kinds (one byte), T values (u32), M name ends, the text: 12 + 5T + 4M + B bytes, or 12 + 5T + 2M + B
abbrev pub kinds_at : Sheet → ℕ
kinds_at f = 12

abbrev pub values_at : Sheet → ℕ
values_at f = 12 + f.tokens

abbrev pub ends_at : Sheet → ℕ
ends_at f = 12 + 5 * f.tokens

-- where the text begins, and how long the sheet is, by the bytes w of an end
abbrev pub text_behind : ℕ → Sheet → ℕ
text_behind w f = ends_at f + w * f.names

abbrev pub bytes_by : ℕ → Sheet → ℕ
bytes_by w f = text_behind w f + f.text

-- the same of a sheet whose ends are u32
abbrev pub text_at : Sheet → ℕ
text_at f = text_behind 4 f

abbrev pub bytes_of : Sheet → ℕ
bytes_of f = bytes_by 4 f

-- Name k runs from end k-1 (0 for k = 0) to end k
unfoldable pub end_of : List ℕ → Sheet → ℕ → ℕ
end_of s f k = pick (is_thin s) (u16_at s (ends_at f + 2 * k)) (u32_at s (ends_at f + 4 * k))

unfoldable pub start_of : List ℕ → Sheet → ℕ → ℕ
start_of s f zero = 0
start_of s f (suc k) = end_of s f k

-- the text's bytes from one place up to another
unfoldable pub part_of : List ℕ → Sheet → ℕ → ℕ → List ℕ
part_of s f from to = take (to - from) (drop (text_behind (end_width s) f + from) s)

abbrev pub name_at : List ℕ → Sheet → ℕ → List ℕ
name_at s f k = part_of s f (start_of s f k) (end_of s f k)

-- A fault is a refusal's number and place
abbrev pub fault : ℕ → ℕ → Fault
fault number place = record { number = number; place = place }

-- The first of two faults
abbrev pub or_else : Option Fault → Option Fault → Option Fault
or_else None next = next
or_else (Some k) next = Some k

-- 4, of the n names from k on: ends fall or pass B (the name's number), or stop short of it (M)
unfoldable pub end_fault : List ℕ → Sheet → ℕ → ℕ → Option Fault
end_fault s f k zero = pick (ltb (start_of s f k) f.text) (Some (fault 4 k)) None
end_fault s f k (suc n) =
    let r : Option Fault = end_fault s f (suc k) n in
    pick (either (ltb (end_of s f k) (start_of s f k)) (ltb f.text (end_of s f k))) (Some (fault 4 k)) r

-- 5, of the n names from k on: a name not UTF-8
unfoldable pub name_fault : List ℕ → Sheet → ℕ → ℕ → Option Fault
name_fault s f k zero = None
name_fault s f k (suc n) = let r : Option Fault = name_fault s f (suc k) n in pick (utf8 (name_at s f k)) r (Some (fault 5 k))

-- 1 under 12 bytes; 2 a size outside its range; 3 a length that sizes and kind do not make; 4; 5. Each over all of the sheet
unfoldable pub sized_fault : List ℕ → Sheet → Option Fault
sized_fault s f =
    pick (in_range f)
    (pick (eqb (length s) (bytes_by (end_width s) f)) (or_else (end_fault s f 0 f.names) (name_fault s f 0 f.names)) (Some (fault 3 0)))
    (Some (fault 2 0))

unfoldable pub frame_fault : List ℕ → Option Fault
frame_fault s = pick (ltb (length s) 12) (Some (fault 1 0)) (sized_fault s (sheet_of s))
