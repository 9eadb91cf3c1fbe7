-- The ends of the names, their text, and the whole of a thin sheet.
use mathlib.Core.Path.{◌≡◌, refl, sym, ap, ◌∙◌, subst}
use mathlib.Core.List.{List, [], ◌∷◌, ◌++◌}
use mathlib.Core.Bool.{Bool, true, false}
use Prim.Native.Nat.{ℕ, suc, ◌+◌, ◌*◌, ◌/◌, ◌%◌, ◌≤◌, ◌<◌}
use native.Mathlib.Numerals.{add-one}
use native.Mathlib.Omega.{arith}
use lib.ListN.{length, get_or, take, drop, length-append}
use lib.Seq.{sets, sets-eq, drop-append-add, length-take-le}
use Rattle.lists.specs.Lists.{each}
use Rattle.endian.specs.Endian.{u32_of, u16_of}
use Rattle.frame.specs.Limits.{max_names, max_text}
use Rattle.frame.specs.Sheet.{top_bit, is_thin, bytes_by, bytes_of}
use Rattle.frame.specs.Doc.{Doc, doc_of}
use Rattle.frame.specs.Inner.{Sound}
use Rattle.frame.specs.declared.Sheet.{Sheet}
use Rattle.frame.proofs.Laws.{ranges, sound-sized}
use Rattle.written.specs.Written.{text_in, ends_from, sizes_in, size_bytes}
use Rattle.written.specs.Inner.{Begun, TokensPut, TextPut}
use Rattle.written.proofs.Begun.{text-join, whole}
use Rattle.written.proofs.Bytes.{ends-length}
use Rattle.written.proofs.Names.{reach, ends-at, reach-more, reach-most}
use Rattle.written.proofs.Numbers.{numbers-length}
use Rattle.thinned.specs.Inner.{layout_of}
use Rattle.thinned.specs.Thinned.{u16s, thin_sizes, thinned, thin_of}
use Rattle.thinned.proofs.Back.{thin-length, copied, converted, sizes-in}
use Rattle.thinned.proofs.Pieces.{Pieces, pieces-start, pieces-turn, pieces-last}

-- a sheet's text is within the limit
pub short_text : (s : List ℕ) (f : Sheet) → Sound s f → f.text ≤ max_text
short_text s f z = (ranges f (sound-sized s f z).ranges).short_text

-- the layout is as long as the thin sheet
pub layout-length : (h f : Sheet) (b : ℕ) → h ≡ layout_of f → b ≡ bytes_of h → b ≡ bytes_by 2 f
layout-length h f b e q =
    let z : bytes_of h ≡ bytes_of (layout_of f) = ap bytes_of e in
    omega (arith, z)

pub layout-room : {h : Sheet} {n : ℕ} (f : Sheet) → h ≡ layout_of f → bytes_by 2 f ≤ n → bytes_of h ≤ n
layout-room {h} f e r = omega (arith, layout-length h f (bytes_of h) e refl)

-- what is put from the first byte on, and what stands behind it
pub put_first : (xs lent out : List ℕ) → length xs ≤ length lent → out ≡ sets lent 0 xs
    → out ≡ xs ++ drop (length xs) lent
put_first xs lent out h e =
    let z : 0 + length xs ≡ length xs = omega arith in
    e ∙ sets-eq xs lent 0 (omega arith) ∙ ap (λ (n : ℕ). xs ++ drop n lent) z

-- ---- the sizes
pub sizes-put : (f : Sheet) (l a b o : List ℕ) → a ≡ sets l 0 (u32_of (top_bit + f.tokens)) → b ≡ sets a 4 (u32_of f.names)
    → o ≡ sets b 8 (u32_of f.text) → o ≡ sets l 0 (thin_sizes f)
unfolding each
sizes-put f l a b o p q r = rw (r, q, p)

-- ---- an end in two bytes
pub end-put : (h : Sheet) (k end : ℕ) (l m o : List ℕ) → TextPut h (2 * k) (end % 256 ∷ []) l m
    → TextPut h (2 * k + 1) (end / 256 % 256 ∷ []) m o → TextPut h (2 * k) (u16_of end) l o
end-put h k end l m o p q = text-join p (omega arith) q

-- ---- the ends of the first k names are put; `end` is the last of them
pub record Ends (ns : List (List ℕ)) (h : Sheet) (k end : ℕ) (l out : List ℕ) : Type 0 where
  pub pieces : Pieces u16_of (ends_from 0 ns) h 0 k l out
  pub last : end ≡ reach ns k

module _ (ns : List (List ℕ)) (h : Sheet) (l : List ℕ) where
  pub ends-start : Ends ns h 0 0 l l
  unfolding each
  ends-start = record { pieces = pieces-start u16_of (ends_from 0 ns) h 0 l; last = refl }

  module _ {k end : ℕ} {out : List ℕ} (p : Ends ns h k end l out) (b : k < length ns) where
    -- the next end
    pub next-end : (n : List ℕ) → n ≡ get_or ns k [] → end + length n ≡ reach ns (k + 1)
    next-end n e = rw (add-one k) (omega (arith, p.last, reach-more ns k b, ap length e))

    pub ends-turn : (n : List ℕ) (end' : ℕ) (out' : List ℕ) → n ≡ get_or ns k [] → end' ≡ end + length n
        → TextPut h (2 * k) (u16_of end') out out' → length out' ≡ length out → Ends ns h (k + 1) end' l out'
    ends-turn n end' out' e g q z =
        let a : end' ≡ reach ns (k + 1) = g ∙ next-end n e in
        let w : end' ≡ get_or (ends_from 0 ns) k 0 = a ∙ ap (reach ns) (add-one k) ∙ omega (arith, ends-at ns 0 k b) in
        let c : k < length (ends_from 0 ns) = omega (arith, ends-length 0 ns) in
        let o : 2 * k ≡ 0 + length (u16s (take k (ends_from 0 ns))) =
        omega (
          arith,
          numbers-length 2 u16_of (λ m. refl) (take k (ends_from 0 ns)),
          length-take-le k (ends_from 0 ns) (omega arith),
        ) in
        record {
          pieces = pieces-turn u16_of (ends_from 0 ns) h 0 l p.pieces 0 (2 * k) out' c o
              (subst (λ (x : ℕ). TextPut h (2 * k) (u16_of x) out out') w q) z;
          last = a;
        }

  pub ends_last : {k end : ℕ} {out : List ℕ} → Ends ns h k end l out → length ns ≤ k → TextPut h 0 (u16s (ends_from 0 ns)) l out
  ends_last p b = pieces-last u16_of (ends_from 0 ns) h 0 l p.pieces (omega (arith, ends-length 0 ns))

-- ---- the text of the first k names is put, from place `from` on; the next begins at `at`
pub record Texts (ns : List (List ℕ)) (h : Sheet) (from k at : ℕ) (l out : List ℕ) : Type 0 where
  pub pieces : Pieces (λ n. n) ns h from k l out
  pub place : at ≡ from + reach ns k

module _ (ns : List (List ℕ)) (h : Sheet) (from : ℕ) (l : List ℕ) where
  pub texts-start : Texts ns h from 0 from l l
  unfolding each
  texts-start = record { pieces = pieces-start (λ n. n) ns h from l; place = omega arith }

  module _ {k at : ℕ} {out : List ℕ} (p : Texts ns h from k at l out) where
    -- the next name ends in the text
    pub texts-room : k < length ns → (n : List ℕ) → n ≡ get_or ns k [] → at + length n ≤ from + length (text_in ns)
    texts-room b n e = omega (arith, p.place, reach-more ns k b, ap length e, reach-most ns (suc k))

    pub texts-turn : k < length ns → (n : List ℕ) (at' : ℕ) (out' : List ℕ) → n ≡ get_or ns k [] → at' ≡ at + length n
        → TextPut h at n out out' → length out' ≡ length out → Texts ns h from (k + 1) at' l out'
    texts-turn b n at' out' e g q z = record {
      pieces = pieces-turn (λ m. m) ns h from l p.pieces [] at out' b p.place
          (subst (λ (m : List ℕ). TextPut h at m out out') e q) z;
      place = rw (add-one k) (omega (arith, g, p.place, reach-more ns k b, ap length e));
    }

    pub texts-last : length ns ≤ k → TextPut h from (text_in ns) l out
    texts-last b = pieces-last (λ n. n) ns h from l p.pieces b

-- ---- the names of a sheet: an end is no more than its text is long
module _ (s : List ℕ) (f : Sheet) (z : Sound s f) where
  text-size : length (text_in (doc_of s).names) ≡ f.text
  text-size = ap (λ (g : Sheet). g.text) (sizes-in s f z)

  pub end-few : {h : Sheet} {k end : ℕ} {l out : List ℕ} → Ends (doc_of s).names h k end l out → k < f.names
      → (n : List ℕ) → n ≡ get_or (doc_of s).names k [] → end + length n ≤ max_text
  end-few {k = k} p b n e = omega (
    arith,
    next-end (doc_of s).names _ _ p (omega (arith, z.names)) n e,
    reach-most (doc_of s).names (k + 1),
    text-size,
    short_text s f z,
  )

  pub text-few : {h : Sheet} {k at : ℕ} {l out : List ℕ} → Texts (doc_of s).names h (2 * f.names) k at l out
      → k < f.names → (n : List ℕ) → n ≡ get_or (doc_of s).names k []
      → (at + length n ≤ 2 * f.names + f.text) × (at + length n ≤ 2 * max_names + max_text)
  text-few p b n e =
      let r = texts-room (doc_of s).names _ _ _ p (omega (arith, z.names)) n e in
      (omega (arith, r, text-size), omega (arith, r, text-size, short_text s f z, z.few_names))

-- ---- the whole
-- other bytes over the first ones
over_first : (x y rest : List ℕ) → length x ≡ length y → sets (x ++ rest) 0 y ≡ y ++ rest
over_first x y rest e =
    let z : 0 + length y ≡ length x + 0 = omega (arith, e) in
    sets-eq y (x ++ rest) 0 (omega (arith, e, length-append x rest))
    ∙ ap (λ (n : ℕ). y ++ drop n (x ++ rest)) z
    ∙ ap (λ (q : List ℕ). y ++ q) (drop-append-add x rest 0)

module _ (s : List ℕ) (f h : Sheet) (z : Sound s f) (e : h ≡ layout_of f) where
  abbrev d : Doc
  d = doc_of s

  pub whole-put : {l m₁ m₂ m₃ m₄ o : List ℕ} → Begun h [] [] [] l m₁ → TokensPut h 0 d.tokens m₁ m₂
      → TextPut h 0 (u16s (ends_from 0 d.names)) m₂ m₃ → TextPut h (2 * f.names) (text_in d.names) m₃ m₄
      → o ≡ sets m₄ 0 (thin_sizes f) → o ≡ thinned d ++ drop (length (thinned d)) l
  unfolding thinned each
  whole-put {l} {m₁} {m₂} {m₃} {m₄} {o} b ts es xs q =
      let ends : List ℕ = u16s (ends_from 0 d.names) in
      let n : length ends ≡ 2 * f.names =
      omega (arith, numbers-length 2 u16_of (λ m. refl) (ends_from 0 d.names), ends-length 0 d.names, z.names) in
      let f' : sizes_in d ≡ f = sizes-in s f z in
      let t : length d.tokens ≡ h.tokens = z.tokens ∙ sym (ap (λ (g : Sheet). g.tokens) e) in
      let k : 0 ≡ h.names = sym (ap (λ (g : Sheet). g.names) e) in
      let c = xs.adds (es.adds (ts.adds b refl) refl) (sym n) in
      let x : length (ends ++ text_in d.names) ≡ h.text =
      omega (arith, length-append ends (text_in d.names), n, ap (λ (g : Sheet). g.text) f', ap (λ (g : Sheet). g.text) e) in
      let w = whole h d.tokens [] (ends ++ text_in d.names) l t k x c in
      let y : bytes_of h ≡ length (thinned d) =
      omega (arith, thin-length d, ap (bytes_by 2) f', ap bytes_of e) in
      q ∙ ap (λ (r : List ℕ). sets r 0 (thin_sizes f)) w
      ∙ over_first (size_bytes h) (thin_sizes f) _ refl
      ∙ rw (y, ← f')

-- ---- copied, or converted
module _ (s : List ℕ) (b : Bool) (e : b ≡ is_thin s) (l : List ℕ) {o : List ℕ} where
  pub copied-put : b ≡ true → o ≡ s ++ drop (length s) l → o ≡ thin_of s ++ drop (length (thin_of s)) l
  copied-put h q = rw (copied s (sym e ∙ h)) q

  pub converted-put : b ≡ false → o ≡ thinned (doc_of s) ++ drop (length (thinned (doc_of s))) l
      → o ≡ thin_of s ++ drop (length (thin_of s)) l
  converted-put h q = rw (converted s (sym e ∙ h)) q
