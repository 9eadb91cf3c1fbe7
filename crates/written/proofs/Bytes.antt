-- Lengths: of several u32, and of each part of a document's sheet.
use mathlib.Core.Path.{◌≡◌, refl, sym, ap, ◌∙◌}
use mathlib.Core.List.{List, [], ◌∷◌, ◌++◌}
use Prim.Native.Nat.{ℕ, suc, ◌+◌, ◌*◌}
use native.Mathlib.Nat.{add-zero}
use native.Mathlib.Omega.{arith}
use lib.ListN.{length, length-append, length-map}
use Rattle.lists.specs.Lists.{each}
use Rattle.endian.specs.Endian.{u32_of}
use Rattle.frame.specs.Sheet.{bytes_of}
use Rattle.frame.specs.Doc.{Doc, Token}
use Rattle.frame.specs.declared.Sheet.{Sheet}
use Rattle.written.specs.Written.{u32s, text_in, ends_from, sizes_in, size_bytes, kind_bytes, value_bytes, written}
use Rattle.written.proofs.Numbers.{numbers-length}

pub u32s-length : (ns : List ℕ) → length (u32s ns) ≡ 4 * length ns
u32s-length = numbers-length 4 u32_of (λ n. refl)

pub sizes-length : (f : Sheet) → length (size_bytes f) ≡ 12
unfolding each
sizes-length f = refl

pub kinds-length : (ts : List Token) → length (kind_bytes ts) ≡ length ts
kinds-length ts = length-map ts (λ (t : Token). t.kind)

pub values_length : (ts : List Token) → length (value_bytes ts) ≡ 4 * length ts
values_length ts = u32s-length _ ∙ ap (λ (n : ℕ). 4 * n) (length-map ts (λ (t : Token). t.value))

pub ends-length : (at : ℕ) (ns : List (List ℕ)) → length (ends_from at ns) ≡ length ns
unfolding ends_from
ends-length at [] = refl
ends-length at (n ∷ ns) = ap suc (ends-length (at + length n) ns)

pub ends-bytes : (at : ℕ) (ns : List (List ℕ)) → length (u32s (ends_from at ns)) ≡ 4 * length ns
ends-bytes at ns = u32s-length (ends_from at ns) ∙ ap (λ (n : ℕ). 4 * n) (ends-length at ns)

-- the ends of names behind others
pub ends-append : (at : ℕ) (ns ms : List (List ℕ))
    → ends_from at (ns ++ ms) ≡ ends_from at ns ++ ends_from (at + length (text_in ns)) ms
unfolding ends_from each
ends-append at [] ms = ap (λ (k : ℕ). ends_from k ms) (sym (add-zero at))
ends-append at (n ∷ ns) ms =
    let e : at + length n + length (text_in ns) ≡ at + length (n ++ text_in ns) =
    omega (arith, length-append n (text_in ns)) in
    ap (λ (es : List ℕ). (at + length n) ∷ es)
    (ends-append (at + length n) ns ms
    ∙ ap (λ (k : ℕ). ends_from (at + length n) ns ++ ends_from k ms) e)

-- a sheet by its parts: the bytes of its sizes, its tokens, the bytes of its ends, its text
abbrev pub parts_of : List ℕ → List Token → List ℕ → List ℕ → List ℕ
parts_of sizes ts ends text = sizes ++ (kind_bytes ts ++ (value_bytes ts ++ (ends ++ text)))

pub parts-length : (sizes : List ℕ) (ts : List Token) (ends text : List ℕ)
    → length (parts_of sizes ts ends text) ≡ length sizes + 5 * length ts + length ends + length text
parts-length sizes ts ends text = omega (
  arith,
  length-append sizes (kind_bytes ts ++ (value_bytes ts ++ (ends ++ text))),
  length-append (kind_bytes ts) (value_bytes ts ++ (ends ++ text)),
  length-append (value_bytes ts) (ends ++ text),
  length-append ends text,
  kinds-length ts,
  values_length ts,
)

-- a document's sheet is as long as its sizes make it
pub written-length : (d : Doc) → length (written d) ≡ bytes_of (sizes_in d)
unfolding written
written-length d = omega (
  arith,
  parts-length (size_bytes (sizes_in d)) d.tokens (u32s (ends_from 0 d.names)) (text_in d.names),
  sizes-length (sizes_in d),
  ends-bytes 0 d.names,
)
