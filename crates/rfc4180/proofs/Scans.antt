-- Laws of the parts that find a row: one for each way out of each of them.
use mathlib.Core.Path.{◌≡◌, ◌∙◌, refl, sym}
use mathlib.Core.List.{List, [], ◌∷◌}
use mathlib.Core.Bool.{Bool, true, false, not}
use mathlib.Core.Logic.{⊎_elim}
use Prim.Native.Nat.{ℕ, zero, suc, ◌+◌, ◌-◌, ◌≤◌, ◌<◌}
use native.Mathlib.Omega.{arith}
use native.Mathlib.Numerals.{add-one}
use lib.Dec.{eqb}
use lib.ListN.{length, drop, get_or}
use borrow.Author.Tests.{eqb-true, eqb-false, not-true, le-leb, lt-leb}
use lib.Dec.{leb}
use Rattle.lists.proofs.Laws.{rest_more, rest-none}
use Rattle.lists.proofs.Tests.{never, below}
use Rattle.rfc4180.specs.Grammar.{COMMA, CR, DQUOTE, LF, TEXTDATA, x20_21, x23_2b, x2d_7e, x80_ff}
use Rattle.rfc4180.specs.Csv.{Class, dquote, comma, cr, lf, text, other, class_of, Mode, fresh, plain, quotes, closing, return, turn_of, keep}
use Rattle.rfc4180.specs.Line.{last_line, line_by, line_from}
use Rattle.rfc4180.specs.Scan.{starts, is_text, starts_text, Texts, TextTo, after_by, after_cell}
use Rattle.rfc4180.specs.declared.Line.TheVariants.{Broken}
use Rattle.rfc4180.proofs.Bytes.{Seen, is_dquote, is_comma, is_cr, is_lf, is_plain_text, is_other, seen, class-text}

-- ---- the byte at a place
module _ (s : List ℕ) (i b : ℕ) where
  pub starts_none : length s ≤ i → starts b (drop i s) ≡ false
  unfolding starts
  starts_none h = rw (rest-none s i h)

  pub starts-here : i < length s → starts b (drop i s) ≡ eqb (get_or s i 0) b
  unfolding starts
  starts-here h = rw (rest_more s i h)

  pub starts-below : starts b (drop i s) ≡ true → i < length s
  starts-below e = ⊎_elim (λ l. l) (λ l. never (sym (starts_none l) ∙ e)) (below i (length s))

  pub starts-rest : starts b (drop i s) ≡ true → drop i s ≡ b ∷ drop (i + 1) s
  starts-rest e =
      let l : i < length s = starts-below e in
      let k : get_or s i 0 ≡ b = eqb-true (get_or s i 0) b (sym (starts-here l) ∙ e) in
      rw (rest_more s i l, k)

  pub starts_other : i < length s → starts b (drop i s) ≡ false → get_or s i 0 ≡ b → ⊥
  starts_other l e = eqb-false (get_or s i 0) b (sym (starts-here l) ∙ e)

-- ---- classes
seen_low : {b : ℕ} {k : Class} → Seen b k → (TEXTDATA b → ⊥) → is_text k ≡ false
unfolding is_text
seen_low is_dquote n = refl
seen_low is_comma n = refl
seen_low is_cr n = refl
seen_low is_lf n = refl
seen_low (is_plain_text h) n = absurd (n h)
seen_low is_other n = refl

-- a byte below SPACE, a quote, a comma and DELETE are no TEXTDATA; each other byte is
module _ (b : ℕ) where
  not-text : (TEXTDATA b → ⊥) → false ≡ is_text (class_of b)
  not-text n = sym (seen_low (seen b) n)

  pub low_byte : b < 0x20 → false ≡ is_text (class_of b)
  low_byte h = not-text go
    where
      go : TEXTDATA b → ⊥
      go (x20_21 k) = omega arith
      go (x23_2b k) = omega arith
      go (x2d_7e k) = omega arith
      go (x80_ff k) = omega arith

  pub quote-byte : b ≡ 0x22 → false ≡ is_text (class_of b)
  unfolding is_text class_of
  quote-byte e = rw e

  pub comma-byte : b ≡ 0x2c → false ≡ is_text (class_of b)
  unfolding is_text class_of
  comma-byte e = rw e

  pub delete-byte : b ≡ 0x7f → false ≡ is_text (class_of b)
  unfolding is_text class_of
  delete-byte e = rw e

  textdata : 0x20 ≤ b → (b ≡ 0x22 → ⊥) → (b ≡ 0x2c → ⊥) → (b ≡ 0x7f → ⊥) → b < 256 → TEXTDATA b
  textdata h p q k m =
      ⊎_elim (λ (l : b < 0x22). x20_21 (record { low = h; high = omega arith })) (λ (g : 0x22 ≤ b).
      ⊎_elim (λ (l : b < 0x2c). x23_2b (record { low = omega arith; high = omega arith })) (λ (d : 0x2c ≤ b).
      ⊎_elim (λ (l : b < 0x7f). x2d_7e (record { low = omega arith; high = omega arith })) (λ (e : 0x7f ≤ b).
      x80_ff (record { low = omega arith; high = omega arith }))
      (below b 0x7f)) (below b 0x2c)) (below b 0x22)

  text-is : TEXTDATA b → true ≡ is_text (class_of b)
  unfolding is_text
  text-is h = rw (class-text h)

  pub text-byte : 0x20 ≤ b → (b ≡ 0x22 → ⊥) → (b ≡ 0x2c → ⊥) → (b ≡ 0x7f → ⊥) → b < 256 → true ≡ is_text (class_of b)
  text-byte h p q k m = text-is (textdata h p q k m)

  -- neither a quote nor a comma nor 7F: it is TEXTDATA from 20 up
  pub from-space : (b ≡ 0x22 → ⊥) → (b ≡ 0x2c → ⊥) → (b ≡ 0x7f → ⊥) → b < 256 → leb 0x20 b ≡ is_text (class_of b)
  from-space p q k m = ⊎_elim
      (λ (l : b < 0x20). lt-leb 0x20 b l ∙ low_byte l)
      (λ (g : 0x20 ≤ b). le-leb 0x20 b g ∙ text-byte g p q k m)
      (below b 0x20)

class-is-text : (k : Class) → is_text k ≡ true → k ≡ text
unfolding is_text
class-is-text dquote e = never e
class-is-text comma e = never e
class-is-text cr e = never e
class-is-text lf e = never e
class-is-text text e = refl
class-is-text other e = never e

-- ---- a run of TEXTDATA
module _ (s : List ℕ) (a : ℕ) where
  pub texts-none : a ≤ length s → Texts s a a
  texts-none h = record { onward = omega arith; inside = h; all = λ i p q. absurd (omega arith) }

  pub texts-more : (i : ℕ) (t : Bool) → i < length s → t ≡ is_text (class_of (get_or s i 0)) → not t ≡ false → Texts s a i
      → Texts s a (i + 1)
  texts-more i t l e k h = record {
    onward = omega (arith, h.onward);
    inside = omega arith;
    all = λ j p q. ⊎_elim
        (λ (g : j < i). h.all j p g)
        (λ (g : i ≤ j). let z : j ≡ i = omega arith in rw z (sym e ∙ flag t k))
        (below j i);
  }
    where
      flag : (t : Bool) → not t ≡ false → t ≡ true
      flag true k = refl
      flag false k = never (sym k)

  pub text-stops : (i : ℕ) (t : Bool) → i < length s → t ≡ is_text (class_of (get_or s i 0)) → not t ≡ true → Texts s a i
      → TextTo s a i
  unfolding starts_text
  text-stops i t l e k h = record { run = h; stops = rw (rest_more s i l) (sym e ∙ not-true t k) }

  pub text-over : (i : ℕ) → length s ≤ i → Texts s a i → TextTo s a (length s)
  unfolding starts_text
  text-over i l h =
      let e : i ≡ length s = omega (arith, h.inside) in
      record { run = rw e at h; stops = rw (rest-none s (length s) (omega arith)) }

module _ (s : List ℕ) (m : Mode) (keeps : turn_of m text ≡ keep m) (n : ℕ) where
  keep_one : (b p : ℕ) (l : List ℕ) → is_text (class_of b) ≡ true → line_from (b ∷ l) m n p ≡ line_from l m n (suc p)
  unfolding line_from line_by
  keep_one b p l e = rw (class-is-text (class_of b) e, keeps)

  keep_all : (k a : ℕ) → a + k ≤ length s → ((i : ℕ) → a ≤ i → i < a + k → is_text (class_of (get_or s i 0)) ≡ true)
      → line_from (drop a s) m n a ≡ line_from (drop (a + k) s) m n (a + k)
  keep_all zero a h t =
      let e : a + 0 ≡ a = omega arith in
      rw e
  keep_all (suc k) a h t =
      let l : a < length s = omega arith in
      let e : a + suc k ≡ (a + 1) + k = omega arith in
      let f : a + 1 ≡ suc a = add-one a in
      let g : line_from (drop (a + 1) s) m n (a + 1) ≡ line_from (drop ((a + 1) + k) s) m n ((a + 1) + k)
      = keep_all k (a + 1) (omega arith) (λ i p q. t i (omega arith) (omega arith)) in
      rw (e, ← g, rest_more s a l, keep_one (get_or s a 0) a (drop (a + 1) s) (t a (omega arith) (omega arith)), f)

  -- where TEXTDATA is content, a run of it changes nothing
  texts-on : (a b : ℕ) → Texts s a b → line_from (drop a s) m n a ≡ line_from (drop b s) m n b
  texts-on a b h =
      let e : a + (b - a) ≡ b = omega (arith, h.onward) in
      let g : line_from (drop a s) m n a ≡ line_from (drop (a + (b - a)) s) m n (a + (b - a))
      = keep_all (b - a) a (omega (arith, h.inside)) (λ i p q. h.all i p (omega arith)) in
      rw e at g

pub plain-on : {s : List ℕ} {a b : ℕ} → Texts s a b → (n : ℕ)
    → line_from (drop a s) plain n a ≡ line_from (drop b s) plain n b
unfolding turn_of
plain-on {s} {a} {b} h n = texts-on s plain refl n a b h

pub quotes-on : {s : List ℕ} {a b : ℕ} → Texts s a b → (n : ℕ)
    → line_from (drop a s) quotes n a ≡ line_from (drop b s) quotes n b
unfolding turn_of
quotes-on {s} {a} {b} h n = texts-on s quotes refl n a b h

-- ---- where a cell may end
module _ (n p : ℕ) (l : List ℕ) where
  closing-by : {b : ℕ} {k : Class} → Seen b k → (b ≡ DQUOTE → ⊥)
      → line_by (turn_of closing k) n p (λ m j. line_from l m j (suc p)) ≡ after_by k l (suc n) p
  unfolding turn_of line_by after_by
  closing-by is_dquote e = absurd (e refl)
  closing-by is_comma e = refl
  closing-by is_cr e = refl
  closing-by is_lf e = refl
  closing-by (is_plain_text h) e = refl
  closing-by is_other e = refl

  plain_by : (k : Class) → is_text k ≡ false
      → line_by (turn_of plain k) n p (λ m j. line_from l m j (suc p)) ≡ after_by k l (suc n) p
  unfolding turn_of line_by after_by is_text
  plain_by dquote e = refl
  plain_by comma e = refl
  plain_by cr e = refl
  plain_by lf e = refl
  plain_by text e = never (sym e)
  plain_by other e = refl

  pub quotes-by : {b : ℕ} {k : Class} → Seen b k → (b ≡ DQUOTE → ⊥) → (b ≡ COMMA → ⊥) → (b ≡ CR → ⊥) → (b ≡ LF → ⊥)
      → is_text k ≡ false
      → line_by (turn_of quotes k) n p (λ m j. line_from l m j (suc p)) ≡ Broken p
  unfolding turn_of line_by is_text
  quotes-by is_dquote q c r f e = absurd (q refl)
  quotes-by is_comma q c r f e = absurd (c refl)
  quotes-by is_cr q c r f e = absurd (r refl)
  quotes-by is_lf q c r f e = absurd (f refl)
  quotes-by (is_plain_text h) q c r f e = never (sym e)
  quotes-by is_other q c r f e = refl

  pub return-by : {b : ℕ} {k : Class} → Seen b k → (b ≡ LF → ⊥)
      → line_by (turn_of return k) n p (λ m j. line_from l m j (suc p)) ≡ Broken p
  unfolding turn_of line_by
  return-by is_dquote e = refl
  return-by is_comma e = refl
  return-by is_cr e = refl
  return-by is_lf e = absurd (e refl)
  return-by (is_plain_text h) e = refl
  return-by is_other e = refl

  pub after-by : {b : ℕ} {k : Class} → Seen b k → (b ≡ COMMA → ⊥) → (b ≡ CR → ⊥) → after_by k l n p ≡ Broken p
  unfolding after_by
  after-by is_dquote c r = refl
  after-by is_comma c r = absurd (c refl)
  after-by is_cr c r = absurd (r refl)
  after-by is_lf c r = refl
  after-by (is_plain_text h) c r = refl
  after-by is_other c r = refl

fresh-by : {b : ℕ} {k : Class} → Seen b k → (b ≡ DQUOTE → ⊥) → turn_of fresh k ≡ turn_of plain k
unfolding turn_of
fresh-by is_dquote e = absurd (e refl)
fresh-by is_comma e = refl
fresh-by is_cr e = refl
fresh-by is_lf e = refl
fresh-by (is_plain_text h) e = refl
fresh-by is_other e = refl

module _ (n p : ℕ) where
  -- a cell that begins with no quote is one without quotes
  pub fresh-plain : (l : List ℕ) → starts DQUOTE l ≡ false → line_from l fresh n p ≡ line_from l plain n p
  unfolding line_from last_line starts
  fresh-plain [] e = refl
  fresh-plain (b ∷ l) e = rw (fresh-by (seen b) (eqb-false b DQUOTE e))

  pub plain-after : (l : List ℕ) → starts_text l ≡ false → line_from l plain n p ≡ after_cell l (suc n) p
  unfolding line_from last_line starts_text after_cell
  plain-after [] e = refl
  plain-after (b ∷ l) e = plain_by n p l (class_of b) e

  pub closing_after : (l : List ℕ) → starts DQUOTE l ≡ false → line_from l closing n p ≡ after_cell l (suc n) p
  unfolding line_from last_line starts after_cell
  closing_after [] e = refl
  closing_after (b ∷ l) e = closing-by n p l (seen b) (eqb-false b DQUOTE e)
