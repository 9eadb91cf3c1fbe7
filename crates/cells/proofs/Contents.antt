-- The content of a raw cell: by place, for a loop over it; no longer than the cell; UTF-8 exactly where the cell is.
use mathlib.Core.Path.{◌≡◌, refl, ap, ◌∙◌}
use mathlib.Core.Bool.{Bool, true, false}
use mathlib.Core.List.{List, [], ◌∷◌, ◌++◌}
use mathlib.Core.Logic.{⊎_elim}
use Prim.Native.Nat.{ℕ, ◌+◌, ◌-◌, ◌≤◌, ◌<◌}
use native.Mathlib.Omega.{arith}
use lib.Dec.{ltb, leb, eqb}
use lib.ListN.{length, get_or, drop}
use Rattle.lists.specs.Lists.{pick, either}
use Rattle.lists.proofs.Laws.{rest_more, rest-none}
use Rattle.lists.proofs.Tests.{below}
use Rattle.utf8.specs.Utf8.{fresh, stuck, tails, lead_of, step_of, goes_on, utf8}
use Rattle.utf8.specs.declared.State.{State}
use Rattle.rfc4180.specs.Cells.{Cell, unquoted, in_quotes}
use Rattle.rfc4180.specs.Grammar.{COMMA, CR, DQUOTE, LF, Inside, nothing, a_textdata, a_comma, a_cr, a_lf, a_2dquote, Field, escaped, non_escaped}
use Rattle.cells.specs.Raw.{width_of, undoubled, cell_of}

-- ---- by place
-- before the last byte, one byte of content more
undoubled-cons : (b d : ℕ) (s : List ℕ)
    → undoubled (b ∷ d ∷ s) ≡ b ∷ pick (eqb b DQUOTE) (undoubled s) (undoubled (d ∷ s))
unfolding undoubled
undoubled-cons b d s = refl

pub undoubled-more : (s : List ℕ) (i : ℕ) → i + 1 < length s
    → undoubled (drop i s) ≡ get_or s i 0 ∷ undoubled (drop (i + width_of (get_or s i 0)) s)
undoubled-more s i h =
    let k : i + 1 + 1 ≡ i + 2 = omega arith in
    let next : drop (i + 1) s ≡ get_or s (i + 1) 0 ∷ drop (i + 2) s = rw k at (rest_more s (i + 1) (omega arith)) in
    rw (rest_more s i (omega arith), next, undoubled-cons, ← next)
    (ap (λ (l : List ℕ). get_or s i 0 ∷ l) (go (eqb (get_or s i 0) DQUOTE)))
  where
    go : (t : Bool)
        → pick t (undoubled (drop (i + 2) s)) (undoubled (drop (i + 1) s)) ≡ undoubled (drop (i + pick t 2 1) s)
    go true = refl
    go false = refl

-- at the last byte, none
pub undoubled-none : (s : List ℕ) (i : ℕ) → length s ≤ i + 1 → undoubled (drop i s) ≡ []
unfolding undoubled
undoubled-none s i h = ⊎_elim
    (λ (l : i < length s). rw (rest_more s i l, rest-none s (i + 1) h))
    (λ (l : length s ≤ i). rw (rest-none s i l))
    (below i (length s))

-- one turn of counting it, and the end
module _ (s : List ℕ) (i n x : ℕ) (p : n + length (undoubled (drop i s)) ≡ x) where
  pub count_turn : (w : ℕ) → i + 1 < length s → w ≡ width_of (get_or s i 0)
      → n + 1 + length (undoubled (drop (i + w) s)) ≡ x
  count_turn w h e = rw e (omega (arith, rw (undoubled-more s i h) at p))

  pub count-last : length s ≤ i + 1 → n ≡ x
  count-last h = omega (arith, rw (undoubled-none s i h) at p)

-- ---- no longer than the raw cell
undoubled-most : (s : List ℕ) → length (undoubled s) ≤ length s
unfolding undoubled
undoubled-most [] = omega arith
undoubled-most (b ∷ []) = omega arith
undoubled-most (b ∷ d ∷ s) = go (eqb b DQUOTE) (undoubled-most s) (undoubled-most (d ∷ s))
  where
    go : (t : Bool) → length (undoubled s) ≤ length s → length (undoubled (d ∷ s)) ≤ length (d ∷ s)
        → length (b ∷ pick t (undoubled s) (undoubled (d ∷ s))) ≤ length (b ∷ d ∷ s)
    go true h k = omega arith
    go false h k = omega arith

pub content-most : (raw : List ℕ) → length (cell_of raw).content ≤ length raw
unfolding cell_of
content-most [] = omega arith
content-most (b ∷ s) = go (eqb b DQUOTE)
  where
    go : (t : Bool) → length (pick t (in_quotes (undoubled s)) (unquoted (b ∷ s))).content ≤ length (b ∷ s)
    go true = omega (arith, undoubled-most s)
    go false = omega arith

-- ---- UTF-8: quotes are ASCII, so it makes no difference whether they are doubled, or stand around a text
-- a quote leads back to where a character begins, or to where no text goes on
abbrev back_of : State → State
back_of st = pick (eqb st.more 0) fresh stuck

record Leads (st : State) : Type 0 where
  back : step_of st DQUOTE ≡ back_of st

choose : (t : Bool) {a b : State} → Leads a → Leads b → Leads (pick t a b)
choose true p q = p
choose false p q = q

tails-lead : (n : ℕ) → Leads (tails n 0x80 0xbf)
unfolding step_of lead_of
tails-lead n = record { back = refl }

stuck-leads : Leads stuck
unfolding step_of lead_of
stuck-leads = record { back = refl }

lead-leads : (b : ℕ) → Leads (lead_of b)
unfolding step_of lead_of
lead-leads b =
    choose (leb b 0x7f) (tails-lead 0)
    (choose (leb b 0xc1) stuck-leads
    (choose (leb b 0xdf) (tails-lead 1)
    (choose (leb b 0xe0) (record { back = refl })
    (choose (leb b 0xec) (tails-lead 2)
    (choose (leb b 0xed) (record { back = refl })
    (choose (leb b 0xef) (tails-lead 2)
    (choose (leb b 0xf0) (record { back = refl })
    (choose (leb b 0xf3) (tails-lead 3)
    (choose (leb b 0xf4) (record { back = refl }) stuck-leads)))))))))

step-leads : (st : State) (b : ℕ) → Leads (step_of st b)
unfolding step_of
step-leads st b =
    choose (eqb st.more 0) (lead-leads b)
    (choose (either (ltb b st.low) (ltb st.high b)) stuck-leads (tails-lead (st.more - 1)))

-- one quote more at the end, and a quote after a quote
quote-last : (st : State) → Leads st → goes_on (step_of st DQUOTE) [] ≡ goes_on st []
unfolding goes_on
quote-last st h = rw h.back (go (eqb st.more 0))
  where
    go : (t : Bool) → eqb (pick t fresh stuck).more 0 ≡ t
    go true = refl
    go false = refl

quote-again : (st : State) → Leads st → step_of (step_of st DQUOTE) DQUOTE ≡ step_of st DQUOTE
unfolding step_of lead_of
quote-again st h = rw h.back (go (eqb st.more 0))
  where
    go : (t : Bool) → step_of (pick t fresh stuck) DQUOTE ≡ pick t fresh stuck
    go true = refl
    go false = refl

inside-goes : {s c : List ℕ} (st : State) → Leads st → Inside s c → goes_on st (s ++ DQUOTE ∷ []) ≡ goes_on st c
unfolding goes_on
inside-goes st h nothing = quote-last st h
inside-goes st h (a_textdata {a = a} x k) = inside-goes (step_of st a) (step-leads st a) k
inside-goes st h (a_comma k) = inside-goes (step_of st COMMA) (step-leads st COMMA) k
inside-goes st h (a_cr k) = inside-goes (step_of st CR) (step-leads st CR) k
inside-goes st h (a_lf k) = inside-goes (step_of st LF) (step-leads st LF) k
inside-goes st h (a_2dquote {s = s} k) =
    ap (λ (z : State). goes_on z (s ++ DQUOTE ∷ [])) (quote-again st h)
    ∙ inside-goes (step_of st DQUOTE) (step-leads st DQUOTE) k

-- a field is UTF-8 exactly where its content is
pub field-utf8 : {f : List ℕ} {c : Cell} → Field f c → utf8 f ≡ utf8 c.content
unfolding utf8 goes_on step_of lead_of
field-utf8 (escaped k) = inside-goes fresh (tails-lead 0) k
field-utf8 (non_escaped k) = refl
