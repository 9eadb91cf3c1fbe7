-- What marks mean: of the texts of two sheets, those that were marked have 1 at their number, and no others.
use mathlib.Core.Path.{◌≡◌, ◌∙◌, refl, sym, ap, subst}
use mathlib.Core.Bool.{Bool, true, false}
use mathlib.Core.List.{List, [], ◌∷◌, ◌++◌}
use Prim.Native.Nat.{ℕ, ◌+◌, ◌-◌, ◌≤◌, ◌<◌}
use native.Mathlib.Omega.{arith}
use lib.Dec.{eqb}
use lib.ListN.{length, get_or, set, length-set}
use lib.Seq.{get_or-set_same, get_or-set_other}
use Rattle.lists.specs.Lists.{either, any_of}
use Rattle.lists.proofs.Tests.{never}
use Rattle.lists.proofs.Laws.{table_more, table_none, table-start}
use Rattle.text.specs.Text.{same_text, is_text}
use Rattle.text.proofs.Laws.{same-is, same_refl}
use Rattle.grammar.specs.Tree.{Tree, texts}
use Rattle.numbers.specs.Least.{text_at, place_of}
use Rattle.numbers.proofs.Laws.{place_at, place-low}
use Rattle.marks.specs.Marks.{marked, MarksOf}

-- ---- texts marked one after the other
module _ (ts : List (List ℕ)) where
  -- marks are as many as before
  pub marked-length : (xs : List (List ℕ)) (l : List ℕ) → length (marked ts xs l) ≡ length l
  unfolding marked
  marked-length [] l = refl
  marked-length (x ∷ xs) l = marked-length xs (set l (place_of ts x) 1) ∙ length-set l (place_of ts x) 1

  -- one more text, behind the others
  pub marked_more : (xs : List (List ℕ)) (x : List ℕ) (l : List ℕ) → marked ts (xs ++ (x ∷ [])) l
      ≡ set (marked ts xs l) (place_of ts x) 1
  unfolding marked
  marked_more [] x l = refl
  marked_more (y ∷ xs) x l = marked_more xs x (set l (place_of ts y) 1)

  -- two texts share a place only where they are equal
  place-apart : (x y : List ℕ) → place_of ts y < length ts → same_text y x ≡ false → place_of ts y ≡ place_of ts x → ⊥
  place-apart x y h e q =
      let a : text_at ts (place_of ts y) ≡ y = place_at ts y h in
      let b : text_at ts (place_of ts x) ≡ x = place_at ts x (omega arith) in
      let o : y ≡ x = sym a ∙ ap (text_at ts) q ∙ b in
      never (sym e ∙ subst (λ (z : List ℕ). same_text y z ≡ true) o (same_refl y))

  either-none : (b : Bool) → b ≡ either b false
  either-none true = refl
  either-none false = refl

  either-some : (b c : Bool) → true ≡ either b (either true c)
  either-some true c = refl
  either-some false c = refl

  -- a text of ts is marked where it is one of those marked, or was marked before
  module _ (y : List ℕ) (h : place_of ts y < length ts) where
    mark-one : (x : List ℕ) (l : List ℕ) (c : Bool) → length ts ≤ length l → (q : Bool) → same_text y x ≡ q
        → either (eqb (get_or (set l (place_of ts x) 1) (place_of ts y) 0) 1) c ≡ either (eqb (get_or l (place_of ts y) 0) 1) (either q c)
    mark-one x l c r true e =
        let o : place_of ts x ≡ place_of ts y = ap (place_of ts) (sym (same-is y x e)) in
        let g : get_or (set l (place_of ts x) 1) (place_of ts y) 0 ≡ 1 = rw o (get_or-set_same l (place_of ts y) 1 0 (omega arith)) in
        ap (λ (v : ℕ). either (eqb v 1) c) g ∙ either-some (eqb (get_or l (place_of ts y) 0) 1) c
    mark-one x l c r false e =
        ap (λ (v : ℕ). either (eqb v 1) c) (get_or-set_other l (place_of ts x) (place_of ts y) 1 0 (place-apart x y h e))

    pub mark-at : (xs : List (List ℕ)) (l : List ℕ) → length ts ≤ length l
        → eqb (get_or (marked ts xs l) (place_of ts y) 0) 1 ≡ either (eqb (get_or l (place_of ts y) 0) 1) (is_text xs y)
    unfolding marked any_of
    mark-at [] l r = either-none (eqb (get_or l (place_of ts y) 0) 1)
    mark-at (x ∷ xs) l r =
        mark-at xs (set l (place_of ts x) 1) (omega (arith, length-set l (place_of ts x) 1))
        ∙ mark-one x l (is_text xs y) r (same_text y x) refl

-- where none was marked before, the marks are those of the texts marked
pub marks-are : (ts xs : List (List ℕ)) (l : List ℕ) → ((i : ℕ) → get_or l i 0 ≡ 0) → length ts ≤ length l → MarksOf ts xs (marked ts xs l)
marks-are ts xs l z r =
    record {
      room = omega (arith, marked-length ts xs l);
      each = λ i h.
          let y = text_at ts i in
          let p : place_of ts y < length ts = omega (arith, place-low ts y i h refl) in
          mark-at ts y p xs l r ∙ ap (λ (v : ℕ). either (eqb v 1) (is_text xs y)) (z (place_of ts y));
    }

-- ---- a mark read or written at a place that is a text's
pub mark-read : (l : List ℕ) (at p : ℕ) → at ≡ p → eqb (get_or l at 0) 1 ≡ eqb (get_or l p 0) 1
mark-read l at p e = ap (λ (i : ℕ). eqb (get_or l i 0) 1) e

pub mark_set : (l : List ℕ) (at p : ℕ) → at ≡ p → set l at 1 ≡ set l p 1
mark_set l at p e = ap (λ (i : ℕ). set l i 1) e

-- ---- a loop over Names: what is left to mark
pub marks-start : (ts : List (List ℕ)) (t : Tree) (at n : ℕ) (l : List ℕ) → marked ts (texts t (at + 0) (n - 0)) l ≡ marked ts (texts t at n) l
marks-start ts t at n l = ap (λ (xs : List (List ℕ)). marked ts xs l) (table-start (λ j. t.text j) at n)

module _ (ts : List (List ℕ)) (t : Tree) (at n i : ℕ) (l x : List ℕ) (inv : marked ts (texts t (at + i) (n - i)) l ≡ x) where
  marks-turn : i < n → marked ts (texts t (at + (i + 1)) (n - (i + 1))) (set l (place_of ts (t.text (at + i))) 1) ≡ x
  unfolding marked
  marks-turn h = sym (ap (λ (xs : List (List ℕ)). marked ts xs l) (table_more (λ j. t.text j) at n i h)) ∙ inv

  pub marks-on : (m : List ℕ) → i < n → m ≡ set l (place_of ts (t.text (at + i))) 1
      → marked ts (texts t (at + (i + 1)) (n - (i + 1))) m ≡ x
  marks-on m h e = rw e (marks-turn h)

  pub marks-end : n ≤ i → l ≡ x
  unfolding marked
  marks-end h = sym (ap (λ (xs : List (List ℕ)). marked ts xs l) (table_none (λ j. t.text j) at n i h)) ∙ inv
