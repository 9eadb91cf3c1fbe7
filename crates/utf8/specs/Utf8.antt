-- UTF-8 as a test, one byte after the other.
use Rattle.std.specs.Prelude.{ℕ, ◌-◌, List, [], ◌∷◌, Bool, ltb, leb, eqb}
use Rattle.lists.specs.Lists.{pick, either}
use Rattle.utf8.specs.declared.State.{State}

-- `more` bytes of a character are to come, the next of them from low to high
abbrev pub tails : ℕ → ℕ → ℕ → State
tails n lo hi = record { more = n; low = lo; high = hi }

-- between two characters
abbrev pub fresh : State
fresh = tails 0 0x80 0xbf

-- no byte may follow, and the text may not end
abbrev pub stuck : State
stuck = tails 1 1 0

-- what the first byte of a character asks of those after it
unfoldable pub lead_of : ℕ → State
lead_of b =
    pick (leb b 0x7f) fresh  -- UTF8-1 = %x00-7F
    (pick (leb b 0xc1) stuck
    (pick (leb b 0xdf) (tails 1 0x80 0xbf)  -- UTF8-2 = %xC2-DF UTF8-tail
    (pick (leb b 0xe0) (tails 2 0xa0 0xbf)  -- UTF8-3 = %xE0 %xA0-BF UTF8-tail
    (pick (leb b 0xec) (tails 2 0x80 0xbf)  -- / %xE1-EC 2( UTF8-tail )
    (pick (leb b 0xed) (tails 2 0x80 0x9f)  -- / %xED %x80-9F UTF8-tail
    (pick (leb b 0xef) (tails 2 0x80 0xbf)  -- / %xEE-EF 2( UTF8-tail )
    (pick (leb b 0xf0) (tails 3 0x90 0xbf)  -- UTF8-4 = %xF0 %x90-BF 2( UTF8-tail )
    (pick (leb b 0xf3) (tails 3 0x80 0xbf)  -- / %xF1-F3 3( UTF8-tail )
    (pick (leb b 0xf4) (tails 3 0x80 0x8f)  -- / %xF4 %x80-8F 2( UTF8-tail )
    stuck)))))))))

-- the state after one more byte
unfoldable pub step_of : State → ℕ → State
step_of st b =
    pick (eqb st.more 0) (lead_of b)
    (pick (either (ltb b st.low) (ltb st.high b)) stuck (tails (st.more - 1) 0x80 0xbf))

-- whether a text may go on so from a state
unfoldable pub goes_on : State → List ℕ → Bool
goes_on st [] = eqb st.more 0
goes_on st (b ∷ s) = goes_on (step_of st b) s

-- a text that is UTF-8
unfoldable pub utf8 : List ℕ → Bool
utf8 s = goes_on fresh s
