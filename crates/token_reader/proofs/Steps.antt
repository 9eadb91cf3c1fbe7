-- The two ways in which a step ends, and what each does to the position.
use mathlib.Core.Path.{◌≡◌, sym, subst, ap, ◌∙◌}
use Prim.Native.Nat.{ℕ, ◌+◌, ◌-◌, ◌<◌, ◌≤◌}
use native.Mathlib.Omega.{arith}
use lib.ListN.{length}
use borrow.Author.Tests.{le-leb, lt-leb}
use Rattle.lists.proofs.Tests.{pick_true, pick-false}
use Rattle.frame.specs.Doc.{Doc, kind_of, value_of}
use Rattle.std.specs.Prelude.{Some, None}
use Rattle.frame.specs.declared.Sheet.{Sheet}
use Rattle.token_reader.specs.declared.TokenReader.{TokenReader}
use Rattle.token_reader.specs.Steps.{token, step_at, following, moved}

-- the position is past the last token
pub past : (d : Doc) (at n : ℕ) → length d.tokens ≡ n → n ≤ at → None ≡ step_at d at
unfolding step_at
past d at n e h = sym (pick_true _ _ (le-leb _ _ (subst (λ x. x ≤ at) (sym e) h)))

-- a token stands there
pub there : (d : Doc) (at n k v : ℕ) → length d.tokens ≡ n → at < n → k ≡ kind_of d at → v ≡ value_of d at
    → Some (token k v) ≡ step_at d at
unfolding step_at
there d at n k v e h p q =
    ap (λ (x : ℕ). Some (token x v)) p
    ∙ (ap (λ (x : ℕ). Some (token (kind_of d at) x)) q ∙ sym (pick-false _ _ (lt-leb _ _ (subst (λ x. at < x) (sym e) h))))

pub at-end : (at n : ℕ) → n ≤ at → at ≡ following at n
unfolding following
at-end at n h = sym (pick_true _ _ (le-leb _ _ h))

pub one_further : (at n : ℕ) → at < n → at + 1 ≡ following at n
unfolding following
one_further at n h = sym (pick-false _ _ (lt-leb _ _ h))

-- a step on a token leaves fewer
pub fewer : (at n : ℕ) → at < n → n - following at n < n - at
fewer at n h = subst (λ x. n - x < n - at) (one_further at n h) (omega (arith, h))

-- the same of a reader of the sizes f
pub fewer-left : (r r' : TokenReader) (f : Sheet) → r' ≡ moved r → r.sizes ≡ f → r.at < f.tokens
    → f.tokens - r'.at < f.tokens - r.at
fewer-left r r' f e h l =
    subst (λ x. f.tokens - x < f.tokens - r.at)
    (sym (ap (λ (x : TokenReader). x.at) e ∙ ap (λ (x : Sheet). following r.at x.tokens) h))
    (fewer r.at f.tokens l)
