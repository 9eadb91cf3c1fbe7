-- What each byte is to the grammar.
use mathlib.Core.Path.{◌≡◌, refl}
use mathlib.Core.Bool.{Bool, true, false}
use mathlib.Core.Logic.{⊎_elim}
use Prim.Native.Nat.{ℕ, ◌≤◌, ◌<◌}
use native.Mathlib.Omega.{arith}
use lib.Dec.{leb, eqb}
use borrow.Author.Tests.{eqb-true, eqb-false, leb-true, le-leb, lt-leb, ne_eqb}
use Rattle.lists.specs.Lists.{pick, both}
use Rattle.lists.proofs.Tests.{both_true, either_true, below}
use Rattle.rfc4180.specs.Grammar.{COMMA, CR, DQUOTE, LF, TEXTDATA, x20_21, x23_2b, x2d_7e, x80_ff}
use Rattle.rfc4180.specs.Csv.{Class, dquote, comma, cr, lf, text, other, is_textdata, class_of}

-- a byte of TEXTDATA is of the class text
text-low : (a : ℕ) → (a ≡ 0x22 → ⊥) → (a ≡ 0x2c → ⊥) → (a ≡ 0x0d → ⊥) → (a ≡ 0x0a → ⊥) → (0x20 ≤ a) → (a ≤ 0x7e)
    → class_of a ≡ text
unfolding class_of
text-low a p q r s g h = simp
    (ne_eqb a 0x22 p, ne_eqb a 0x2c q, ne_eqb a 0x0d r, ne_eqb a 0x0a s, le-leb 0x20 a g, le-leb a 0x7e h)

high : (a : ℕ) → (0x80 ≤ a) → (a ≤ 0xff) → class_of a ≡ text
unfolding class_of
high a g h = simp (
  ne_eqb a 0x22 (λ e. omega arith),
  ne_eqb a 0x2c (λ e. omega arith),
  ne_eqb a 0x0d (λ e. omega arith),
  ne_eqb a 0x0a (λ e. omega arith),
  le-leb 0x20 a (omega arith),
  lt-leb a 0x7e (omega arith),
  le-leb 0x80 a g,
  le-leb a 0xff h,
)

pub class-text : {a : ℕ} → TEXTDATA a → class_of a ≡ text
class-text {a} (x20_21 h) = text-low a (λ e. omega arith) (λ e. omega arith) (λ e. omega arith) (λ e. omega arith)
    (omega arith) (omega arith)
class-text {a} (x23_2b h) = text-low a (λ e. omega arith) (λ e. omega arith) (λ e. omega arith) (λ e. omega arith)
    (omega arith) (omega arith)
class-text {a} (x2d_7e h) = text-low a (λ e. omega arith) (λ e. omega arith) (λ e. omega arith) (λ e. omega arith)
    (omega arith) (omega arith)
class-text {a} (x80_ff h) = high a (omega arith) (omega arith)

-- what the class says of the byte
pub data Seen : ℕ → Class → Type 0 where
  is_dquote : Seen DQUOTE dquote
  is_comma : Seen COMMA comma
  is_cr : Seen CR cr
  is_lf : Seen LF lf
  is_plain_text : {b : ℕ} → TEXTDATA b → Seen b text
  is_other : {b : ℕ} → Seen b other

-- the test of TEXTDATA, for a byte that is neither quote nor comma
textdata-of : (b : ℕ) → (b ≡ 0x22 → ⊥) → (b ≡ 0x2c → ⊥) → is_textdata b ≡ true → TEXTDATA b
textdata-of b p q e = ⊎_elim
    (λ h. let g = both_true (leb 0x20 b) (leb b 0x7e) h in low (leb-true 0x20 b g.0) (leb-true b 0x7e g.1))
    (λ h. let g = both_true (leb 0x80 b) (leb b 0xff) h in x80_ff
    (record { low = leb-true 0x80 b g.0; high = leb-true b 0xff g.1 }))
    (either_true (both (leb 0x20 b) (leb b 0x7e)) (both (leb 0x80 b) (leb b 0xff)) e)
  where
    low : 0x20 ≤ b → b ≤ 0x7e → TEXTDATA b
    low g h = ⊎_elim
        (λ (l : b < 0x22). x20_21 (record { low = g; high = omega arith }))
        (λ (l : 0x22 ≤ b). ⊎_elim
        (λ (m : b < 0x2c). x23_2b (record { low = omega arith; high = omega arith }))
        (λ (m : 0x2c ≤ b). x2d_7e (record { low = omega arith; high = h }))
        (below b 0x2c))
        (below b 0x22)

choose : (b : ℕ) (t : Bool) {x y : Class} → (t ≡ true → Seen b x) → (t ≡ false → Seen b y) → Seen b (pick t x y)
choose b true f g = f refl
choose b false f g = g refl

pub seen : (b : ℕ) → Seen b (class_of b)
unfolding class_of
seen b =
    choose b (eqb b 0x22) (λ e. rw (eqb-true b 0x22 e) is_dquote) λ p.
    choose b (eqb b 0x2c) (λ e. rw (eqb-true b 0x2c e) is_comma) λ q.
    choose b (eqb b 0x0d) (λ e. rw (eqb-true b 0x0d e) is_cr) λ r.
    choose b (eqb b 0x0a) (λ e. rw (eqb-true b 0x0a e) is_lf) λ s.
    choose b (is_textdata b) (λ e. is_plain_text (textdata-of b (eqb-false b 0x22 p) (eqb-false b 0x2c q) e)) λ t.
    is_other
