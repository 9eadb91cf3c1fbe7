-- Numbers written one list after the other, in a loop over tokens; and 16, or all of them.
use mathlib.Core.Path.{◌≡◌, refl, sym, ap, ◌∙◌, subst}
use mathlib.Core.List.{List, [], ◌∷◌, ◌++◌}
use Prim.Native.Nat.{ℕ, ◌+◌, ◌≤◌, ◌<◌}
use native.Mathlib.Omega.{arith}
use borrow.Author.Tests.{lt-leb, le-leb}
use lib.ListN.{length, length-append, set, take, drop}
use lib.Seq.{sets, length-sets, sets-eq, take_at}
use Rattle.lists.specs.Lists.{over, each}
use Rattle.lists.proofs.Stores.{sets-join}
use Rattle.frame.specs.Limits.{max_tokens}
use Rattle.frame.specs.Doc.{Doc, doc_of, kind_of}
use Rattle.frame.specs.declared.Sheet.{Sheet}
use Rattle.grammar.specs.Tree.{Tree, tree_of}
use Rattle.schema.specs.Declarations.{of_kind, decls_of}
use Rattle.schema.specs.Scanned.{tokens_of}
use Rattle.schema.specs.Inner.{Declared, Declaring}
use Rattle.schema.proofs.Scans.{decls-are}
use Rattle.schema.specs.Effect.{refusal, answer_of, exit, Done, fitted}
use Rattle.grammar.proofs.Skipping.{size_is}
use Rattle.of_kind.specs.Written.{WroteNumbers, itself}
use Rattle.of_kind.proofs.Counts.{few-of}
use Rattle.of_kind.proofs.Ranges.{each_snoc, each-room, each_start, is_one, not-one}
use Rattle.std.specs.Prelude.{Result, Ok}
use Rattle.schema.specs.declared.Refusal.{Refusal}

-- ---- one after the other
pub wrote_none : (n : ℕ) (l : List ℕ) → WroteNumbers n [] l n l
wrote_none n l = record { next = omega arith; list = refl }

pub wrote-join : {n m r : ℕ} {xs ys l l₁ l₂ : List ℕ} → WroteNumbers n xs l m l₁ → WroteNumbers m ys l₁ r l₂
    → WroteNumbers n (xs ++ ys) l
    r l₂
wrote-join {n} {m} {r} {xs} {ys} {l} {l₁} {l₂} v w = record {
  next = omega (arith, v.next, w.next, length-append xs ys);
  list = w.list ∙ ap (λ (o : List ℕ). sets o m ys) v.list ∙ ap (λ (k : ℕ). sets (sets l n xs) k ys) v.next
      ∙ sym (sets-join l n xs ys);
}

pub wrote_kept : {n r : ℕ} {xs l l' : List ℕ} → WroteNumbers n xs l r l' → length l' ≡ length l
wrote_kept {n} {r} {xs} {l} {l'} w = ap length w.list ∙ length-sets l n xs

-- ---- the loop over such a range: the tokens from a up to j were looked at
pub record Looped (t : Tree) (k : ℕ) (g : ℕ → List ℕ) (a b at : ℕ) (l : List ℕ) (j n : ℕ) (o : List ℕ) : Type 0 where
  pub low : a ≤ j
  pub high : j ≤ b
  pub wrote : WroteNumbers at (each g (over (of_kind t k) a j)) l n o

module _ (t : Tree) (k : ℕ) (g : ℕ → List ℕ) (a b at : ℕ) (l : List ℕ) where
  pub looped-start : a ≤ b → Looped t k g a b at l a at l
  looped-start h = record {
    low = omega arith;
    high = h;
    wrote = subst (λ (xs : List ℕ). WroteNumbers at xs l at l)
        (each_start t k g a) (wrote_none at l);
  }

  module _ (j n : ℕ) (o : List ℕ) (w : Looped t k g a b at l j n o) where
    pub looped-room : j < b → at + length (each g (over (of_kind t k) a b)) ≤ length l → n + length
        (each g (of_kind t k j)) ≤ length o
    looped-room h r = omega (arith, each-room t k g a j b w.low h, w.wrote.next, wrote_kept w.wrote)

    pub looped-turn : {r : ℕ} {o' : List ℕ} → j < b → WroteNumbers n (each g (of_kind t k j)) o r o'
        → Looped t k g a b at l
        (j + 1) r o'
    looped-turn {r} {o'} h v = record {
      low = omega (arith, w.low);
      high = omega arith;
      wrote = subst (λ (xs : List ℕ). WroteNumbers at xs l r o') (sym (each_snoc t k g a j w.low))
          (wrote-join w.wrote v);
    }

    pub looped-end : b ≤ j → WroteNumbers at (each g (over (of_kind t k) a b)) l n o
    looped-end h = let e : j ≡ b = omega (arith, w.high) in subst
        (λ (i : ℕ). WroteNumbers at (each g (over (of_kind t k) a i)) l n o) e w.wrote

-- ---- token j, where it is of the kind and where it is not
module _ (d : Doc) (k j c : ℕ) (g : ℕ → List ℕ) (ec : c ≡ kind_of d j) where
  pub skipped : (n : ℕ) (l : List ℕ) → (c ≡ k → ⊥) → WroteNumbers n (each g (of_kind (tree_of d) k j)) l n l
  skipped n l h = subst (λ (xs : List ℕ). WroteNumbers n xs l n l) (sym (not-one d k j c g ec h)) (wrote_none n l)

  pub one-wrote : (h : c ≡ k) {n r : ℕ} {xs l l' : List ℕ} → xs ≡ g j → WroteNumbers n xs l r l' → WroteNumbers n
      (each g (of_kind (tree_of d) k j)) l r l'
  one-wrote h {n} {r} {xs} {l} {l'} e w = subst (λ (ys : List ℕ). WroteNumbers n ys l r l')
      (e ∙ sym (is_one d k j c g ec h)) w

  pub one-room : c ≡ k → (n m : ℕ) → n + length (each g (of_kind (tree_of d) k j)) ≤ m → n + length (g j) ≤ m
  one-room h n m r = omega (arith, ap length (is_one d k j c g ec h))

-- ---- the tokens themselves
pub one-listed : (n j : ℕ) (l : List ℕ) → WroteNumbers n (itself j) l (n + 1) (set l n j)
one-listed n j l = record { next = refl; list = refl }

each-itself : (xs : List ℕ) → each itself xs ≡ xs
unfolding each
each-itself [] = refl
each-itself (x ∷ xs) = ap (λ (r : List ℕ). x ∷ r) (each-itself xs)

-- no more were listed than were looked at
pub listed-few : (t : Tree) (k b : ℕ) (l : List ℕ) (j n : ℕ) (o : List ℕ) → Looped t k itself 0 b 0 l j n o → n ≤ j
listed-few t k b l j n o w =
    omega (arith, w.wrote.next, ap length (each-itself (over (of_kind t k) 0 j)), few-of t k 0 j)

module _ (s : List ℕ) (f : Sheet) (k : ℕ) (z : Declared s f) (o : Declaring k) where
  listed-are : each itself (over (of_kind (tree_of (doc_of s)) k) 0 f.tokens) ≡ decls_of (tree_of (doc_of s)) k
  unfolding tokens_of
  listed-are = each-itself (over (of_kind (tree_of (doc_of s)) k) 0 f.tokens) ∙ ap
      (over (of_kind (tree_of (doc_of s)) k) 0) (sym (size_is s f z.sheet)) ∙ sym (decls-are z k o)

  pub few-listed : length (decls_of (tree_of (doc_of s)) k) ≤ max_tokens
  few-listed =
      omega (
        arith,
        ap length listed-are,
        ap length (each-itself (over (of_kind (tree_of (doc_of s)) k) 0 f.tokens)),
        few-of (tree_of (doc_of s)) k 0 f.tokens,
        z.sheet.few_tokens,
      )

  pub listed-room : (m : ℕ) → max_tokens ≤ m → 0 + length
      (each itself (over (of_kind (tree_of (doc_of s)) k) 0 f.tokens)) ≤ m
  listed-room m h = omega (arith, ap length listed-are, few-listed)

  pub listed : {r : ℕ} {l l' : List ℕ}
      → WroteNumbers 0 (each itself (over (of_kind (tree_of (doc_of s)) k) 0 f.tokens)) l r
      l' → WroteNumbers 0 (decls_of (tree_of (doc_of s)) k) l r l'
  listed {r} {l} {l'} w = subst (λ (xs : List ℕ). WroteNumbers 0 xs l r l') listed-are w

-- what was written stands first
pub part-is : {r : ℕ} {xs l l' : List ℕ} → WroteNumbers 0 xs l r l' → length xs ≤ length l → (x : ℕ) → x ≡ r
    → take x l' ≡ xs
part-is {r} {xs} {l} {l'} w h x e =
    let n : length xs ≡ x = omega (arith, w.next) in
    ap (take x) (w.list ∙ sets-eq xs l 0 (omega arith)) ∙ take_at xs (drop (0 + length xs) l) x n

-- ---- 16, or all of it is written
module _ (count : ℕ) (xs l : List ℕ) where
  pub too_long : {o : Result ℕ Refusal} → length l < length xs → o ≡ answer_of (refusal 16 0 0) → Done (fitted count xs l) l o l
  unfolding fitted exit
  too_long h e = rw (lt-leb (length xs) (length l) h) (record { answer = e; buffer = refl })

  pub all-fits : {o : Result ℕ Refusal} {r : ℕ} {l' : List ℕ} → length xs ≤ length l → o ≡ Ok count
      → WroteNumbers 0 xs l r l'
      → Done (fitted count xs l) l o l'
  unfolding fitted exit
  all-fits {o} {r} {l'} h e w =
      let z : 0 + length xs ≡ length xs = omega arith in
      let b : l' ≡ xs ++ drop (length xs) l = w.list ∙ sets-eq xs l 0 (omega arith) ∙ ap (λ (n : ℕ). xs ++ drop n l)
      z in
      rw (le-leb (length xs) (length l) h) (record { answer = e; buffer = b })
