-- The marks: what one turn of a walk along a chain does to them, and that a text without one is lone.
use mathlib.Core.Path.{◌≡◌, ◌∙◌, refl, sym, ap}
use mathlib.Core.Bool.{Bool, true, false}
use mathlib.Core.Logic.{⊎_elim}
use mathlib.Core.List.{List, [], ◌∷◌}
use Prim.Native.Nat.{ℕ, zero, suc, ◌+◌, ◌-◌, ◌≤◌, ◌<◌}
use native.Mathlib.Omega.{arith}
use borrow.Author.Tests.{eqb-true, eq-eqb, ne_eqb}
use lib.Bits.{bit_and}
use lib.Dec.{eqb}
use lib.ListN.{length, get_or, set, length-set}
use lib.Seq.{get_or-set_same}
use Rattle.lists.specs.Lists.{pick, both}
use Rattle.lists.proofs.Tests.{never, below}
use Rattle.text.specs.Text.{same_text}
use Rattle.text.specs.Folded.{folded}
use Rattle.numbers.specs.Least.{text_at, least_same}
use Rattle.numbers.specs.Chains.{hash_of, hash_alone, marks_with, chain_of, is_first, last_in, HashMarks}
use Rattle.numbers.specs.Alike.{Marked}
use Rattle.numbers.proofs.Laws.{least-low, least-text, least-equal}
use Rattle.numbers.proofs.Hashes.{alike-hash}
use Rattle.numbers.proofs.Chains.{first-is, least_first, last-above}

-- ---- two texts that share a hash alone, or do not
module _ (a b : List ℕ) (i r : ℕ) (marks : List Bool) where
  module _ (x y : ℕ) (ex : x ≡ hash_of b) (ey : y ≡ hash_of a) where
    pub marks-apart : (x ≡ y → ⊥) → marks ≡ marks_with a b i r marks
    unfolding marks_with hash_alone
    marks-apart h = rw (ne_eqb (hash_of b) (hash_of a) (λ e. h (ex ∙ e ∙ sym ey)))

    pub marks-both : x ≡ y → (q : Bool) → q ≡ same_text a b → q ≡ false → (j k : ℕ) → j ≡ r → k ≡ i → set (set marks j true) k true ≡ marks_with a b i r marks
    unfolding marks_with hash_alone
    marks-both e q eq o j k ej ek = rw (ej, ek, eq-eqb (hash_of b) (hash_of a) (sym ex ∙ e ∙ ey), sym eq ∙ o)

  pub marks-same : (q : Bool) → q ≡ same_text a b → q ≡ true → marks ≡ marks_with a b i r marks
  unfolding marks_with hash_alone
  marks-same q e o = rw (sym e ∙ o) (go (eqb (hash_of b) (hash_of a)))
    where
      go : (p : Bool) → marks ≡ pick (both p false) (set (set marks r true) i true) marks
      go true = refl
      go false = refl

-- ---- marks stay
set-kept : (l : List Bool) (j k : ℕ) → get_or l k false ≡ true → get_or (set l j true) k false ≡ true
set-kept [] j k e = e
set-kept (x ∷ l) zero zero e = refl
set-kept (x ∷ l) zero (suc k) e = e
set-kept (x ∷ l) (suc j) zero e = e
set-kept (x ∷ l) (suc j) (suc k) e = set-kept l j k e

module _ (a b : List ℕ) (i r : ℕ) (marks : List Bool) where
  with-kept : (k : ℕ) → get_or marks k false ≡ true → get_or (marks_with a b i r marks) k false ≡ true
  unfolding marks_with
  with-kept k e = go (hash_alone a b)
    where
      go : (q : Bool) → get_or (pick q (set (set marks r true) i true) marks) k false ≡ true
      go true = set-kept (set marks r true) i k (set-kept marks r k e)
      go false = e

  with-both : i < length marks → r < length marks → hash_of b ≡ hash_of a → false ≡ same_text a b
      → (get_or (marks_with a b i r marks) r false ≡ true) × (get_or (marks_with a b i r marks) i false ≡ true)
  unfolding marks_with hash_alone
  with-both hi hr e o =
      rw (eq-eqb (hash_of b) (hash_of a) e, sym o)
      (set-kept (set marks r true) i r (get_or-set_same marks r true false hr), get_or-set_same (set marks r true) i true false (omega (arith, length-set marks r true)))

-- ---- a walk along the chain of text i: the entries behind it that share its hash have marks, and then so has text i
pub record Passed (ts : List (List ℕ)) (i at : ℕ) (old marks : List Bool) : Type 0 where
  pub size : length marks ≡ length old
  pub kept : (k : ℕ) → get_or old k false ≡ true → get_or marks k false ≡ true
  pub seen : (r : ℕ) → at ≤ r → r < i → is_first ts r ≡ true → hash_of (text_at ts r) ≡ hash_of (text_at ts i)
      → (get_or marks r false ≡ true) × (get_or marks i false ≡ true)

chain-hash : (top : ℕ) (a b : List ℕ) → hash_of a ≡ hash_of b → chain_of top a ≡ chain_of top b
unfolding chain_of
chain-hash top a b e = ap (λ (x : ℕ). bit_and x top) e

module _ (top : ℕ) (ts : List (List ℕ)) (i : ℕ) where
  -- an entry below n with the hash of text i is not above the last one of its chain
  hash-last : (n r : ℕ) → r < n → is_first ts r ≡ true → hash_of (text_at ts r) ≡ hash_of (text_at ts i) → r < last_in top ts (chain_of top (text_at ts i)) n
  hash-last n r h f e = last-above top ts (chain_of top (text_at ts i)) n r h f (chain-hash top (text_at ts r) (text_at ts i) e)

  pub passed_start : (name : List ℕ) → name ≡ text_at ts i → (last : ℕ) (marks : List Bool) → last ≡ last_in top ts (chain_of top name) i → Passed ts i last marks marks
  passed_start name en last marks el =
      record {
        size = refl;
        kept = λ k e. e;
        seen = λ r l h f e. let u : last ≡ last_in top ts (chain_of top (text_at ts i)) i = rw en at el in absurd (omega (arith, u, hash-last i r h f e));
      }

-- ---- the entry at hand, compared with text i
module _ (ts : List (List ℕ)) (i : ℕ) (name : List ℕ) (at : ℕ) (old marks new : List Bool) (z : Passed ts i at old marks) (em : new ≡ marks_with name (text_at ts (at - 1)) i (at - 1) marks) where
  pub new-kept : (k : ℕ) → get_or old k false ≡ true → get_or new k false ≡ true
  new-kept k e = rw em (with-kept name (text_at ts (at - 1)) i (at - 1) marks k (z.kept k e))

  module _ (en : name ≡ text_at ts i) (low : at ≤ i) (room : i < length old) (q : Bool) (eq : q ≡ same_text name (text_at ts (at - 1))) (other : q ≡ false) where
    new-both : hash_of (text_at ts (at - 1)) ≡ hash_of (text_at ts i) → (get_or new (at - 1) false ≡ true) × (get_or new i false ≡ true)
    new-both e =
        let h : hash_of (text_at ts (at - 1)) ≡ hash_of name = rw en e in
        rw em (with-both name (text_at ts (at - 1)) i (at - 1) marks (omega (arith, z.size)) (omega (arith, z.size)) h (sym other ∙ eq))

    pub passed_on : (top : ℕ) → length new ≡ length marks → (x : ℕ) → x ≡ last_in top ts (chain_of top (text_at ts i)) (at - 1) → Passed ts i x old new
    passed_on top es x ex = record { size = es ∙ z.size; kept = new-kept; seen = seen-on }
      where
        seen-on : (r : ℕ) → x ≤ r → r < i → is_first ts r ≡ true → hash_of (text_at ts r) ≡ hash_of (text_at ts i)
            → (get_or new r false ≡ true) × (get_or new i false ≡ true)
        seen-on r l h f e = ⊎_elim
            (λ p. absurd (omega (arith, hash-last top ts i (at - 1) r p f e)))
            (λ p. ⊎_elim
            (λ g. let k : r ≡ at - 1 = omega arith in rw k (new-both (rw k at e)))
            (λ g. let s = z.seen r g h f e in rw em (with-kept name (text_at ts (at - 1)) i (at - 1) marks r s.0, with-kept name (text_at ts (at - 1)) i (at - 1) marks i s.1))
            (below r at))
            (below r (at - 1))

-- ---- marks for one more text
pub hash-marks-none : (ts : List (List ℕ)) (marks : List Bool) → HashMarks ts 0 marks
hash-marks-none ts marks = record { each = λ a b h g fa fb ne e. absurd (omega arith) }

module _ (ts : List (List ℕ)) (i : ℕ) (old new : List Bool) (z : HashMarks ts i old) (kept : (k : ℕ) → get_or old k false ≡ true → get_or new k false ≡ true) where
  hash-marks-more : (is_first ts i ≡ true → (r : ℕ) → r < i → is_first ts r ≡ true → hash_of (text_at ts r) ≡ hash_of (text_at ts i) → (get_or new r false ≡ true) × (get_or new i false ≡ true))
      → HashMarks ts (i + 1) new
  hash-marks-more seen = record {
    each = λ a b ha hb fa fb ne e. ⊎_elim
        (λ p. ⊎_elim
        (λ q. kept a (z.each a b p q fa fb ne e))
        (λ q. let k : b ≡ i = omega arith in (seen (rw k at fb) a p fa (rw k at e)).0)
        (below b i))
        (λ p. let k : a ≡ i = omega arith in ⊎_elim
        (λ q. rw k (seen (rw k at fa) b q fb (sym (rw k at e))).1)
        (λ q. absurd (ne (omega arith)))
        (below b i))
        (below a i);
  }

  -- a text that was there before is no entry
  pub hash-marks-old : (r : ℕ) → r < i → r ≡ least_same ts i → HashMarks ts (i + 1) new
  hash-marks-old r h e = hash-marks-more (λ f. absurd (omega (arith, first-is ts i f)))

  -- a new one has been compared with all entries of its chain
  pub hash-marks-new : (at : ℕ) → at ≡ 0 → Passed ts i at old new → HashMarks ts (i + 1) new
  hash-marks-new at e y = hash-marks-more (λ f r. y.seen r (omega arith))

-- ---- a text without a mark is lone
pub marked_all : (ts : List (List ℕ)) (n : ℕ) (marks : List Bool) → n ≤ length ts → HashMarks ts n marks → Marked ts n marks
marked_all ts n marks l z = record { lone = λ i h un j g e. go i h un j g e (eqb (least_same ts i) (least_same ts j)) refl }
  where
    go : (i : ℕ) → i < n → get_or marks (least_same ts i) false ≡ false → (j : ℕ) → j < n → folded (text_at ts j) ≡ folded (text_at ts i)
        → (q : Bool) → eqb (least_same ts i) (least_same ts j) ≡ q → text_at ts j ≡ text_at ts i
    go i h un j g e true o = sym ((least-equal ts i j (omega arith) (omega arith)).0 (eqb-true _ _ o))
    go i h un j g e false o =
        let hi : i < length ts = omega arith in
        let hj : j < length ts = omega arith in
        let same : hash_of (text_at ts (least_same ts i)) ≡ hash_of (text_at ts (least_same ts j)) = rw (least-text ts i hi, least-text ts j hj) (alike-hash (text_at ts i) (text_at ts j) (sym e)) in
        let two : least_same ts i ≡ least_same ts j → ⊥ = λ k. never (sym o ∙ eq-eqb _ _ k) in
        never (sym un ∙ z.each (least_same ts i) (least_same ts j) (omega (arith, least-low ts i hi)) (omega (arith, least-low ts j hj)) (least_first ts i hi) (least_first ts j hj) two same)
