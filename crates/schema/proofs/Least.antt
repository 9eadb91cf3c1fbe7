-- 10, 11, 12 and 13 name the least token that is wrong: for every tree whose tokens read as a schema's, and for any
-- bytes.
use mathlib.Core.Bool.{Bool, true, false}
use mathlib.Core.Path.{◌≡◌, refl, sym, ap, ◌∙◌, subst}
use mathlib.Core.Logic.{◌⊎◌, inl, inr, ⊎_elim}
use mathlib.Core.List.{List, [], ◌∷◌, Memᴰ}
use Prim.Native.Nat.{ℕ, ◌+◌, ◌<◌}
use native.Mathlib.Omega.{arith}
use borrow.Author.Tests.{ltb-true, lt-ltb}
use lib.Dec.{ltb}
use Rattle.lists.specs.Lists.{both, table, first, any_of}
use Rattle.lists.proofs.Tests.{never, both_true, either_true, true-both}
use Rattle.text.specs.Text.{same_text}
use Rattle.text.proofs.Laws.{same-is, same-equal}
use Rattle.frame.specs.Doc.{Doc, doc_of}
use Rattle.frame.specs.Sheet.{or_else, frame_fault, fault}
use Rattle.frame.proofs.Laws.{no_fault}
use Rattle.frame.proofs.Numbered.{past_first, frame-numbered, same_fault}
use Rattle.rules.specs.Kinds as Kind
use Rattle.rules.specs.declared.Place.TheVariants.{WholeSchema}
use Rattle.grammar.specs.Machine.{grammar_fault}
use Rattle.grammar.specs.Tree.{Tree, tree_of}
use Rattle.grammar.proofs.Numbered.{grammar-numbered}
use Rattle.schema.specs.Declarations.{name_below, decls_of, again, equal_apart, fault_at, declared_fault, schema_fault}
use Rattle.schema.specs.Scanned.{tokens_of}
use Rattle.schema.specs.Inner.{Declaring, searched}
use Rattle.schema.proofs.Searches.{hit, hit-first, searched-all, not-any, kind-mem, mem-kind}
use Rattle.schema.proofs.Scans.{decls-scanned}
use Rattle.std.specs.Prelude.{Some, None, Option}

-- token i is a declaration of kind k of which something is so, and it is so of no declaration of that kind before it
pub record Least (t : Tree) (k : ℕ) (so : ℕ → Type 0) (i : ℕ) : Type 0 where
  pub declared : Memᴰ i (decls_of t k)
  pub is : so i
  pub first : (j : ℕ) → Memᴰ j (decls_of t k) → j < i → so j → ⊥

-- a declaration of kind k before i has i's name
abbrev pub HasEarlier : Tree → ℕ → ℕ → Type 0
HasEarlier t k i = (j : ℕ) × Memᴰ j (decls_of t k) × (j < i) × (name_below t i ≡ name_below t j)

-- the two Names of an Apart are of one text
abbrev pub OneText : Tree → ℕ → Type 0
OneText t i = t.text (i + 1) ≡ t.text (i + 2)

-- the kind that a number is for
abbrev pub KindOfNumber : ℕ → ℕ → Type 0
KindOfNumber n k =
    ((n ≡ 10) × (k ≡ Kind.Label)) ⊎ (((n ≡ 11) × (k ≡ Kind.RelType)) ⊎ ((n ≡ 12) × (k ≡ Kind.Parameter)))

-- ---- one of a list passes
any-one : {A : Type 0} (p : A → Bool) (l : List A) → any_of p l ≡ true → (x : A) × Memᴰ x l × (p x ≡ true)
unfolding any_of
any-one p [] e = never e
any-one {A} p (y ∷ ys) e = ⊎_elim
    (λ h. (y, Memᴰ.head refl, h))
    (λ h. let r : (x : A) × Memᴰ x ys × (p x ≡ true) = any-one p ys h in (r.0, Memᴰ.tail r.1, r.2))
    (either_true (p y) (any_of p ys) e)

-- the test of a name that is there before, and of two texts, in words
module _ (t : Tree) (k i : ℕ) where
  again-is : again t k i ≡ true → HasEarlier t k i
  unfolding again
  again-is e =
      let r = any-one (λ j. both (ltb j i) (same_text (name_below t i) (name_below t j))) (decls_of t k) e in
      let b = both_true (ltb r.0 i) (same_text (name_below t i) (name_below t r.0)) r.2 in
      (r.0, r.1, ltb-true r.0 i b.0, same-is (name_below t i) (name_below t r.0) b.1)

  not-again : again t k i ≡ false → HasEarlier t k i → ⊥
  unfolding again
  not-again e r =
      let n = not-any (λ j. both (ltb j i) (same_text (name_below t i) (name_below t j))) (decls_of t k) e r.1 in
      never (sym n ∙ true-both (lt-ltb r.0 i r.2) ((same-equal (name_below t i) (name_below t r.0)).1 r.3))

  apart-same : equal_apart t i ≡ true → OneText t i
  unfolding equal_apart
  apart-same e = same-is (t.text (i + 1)) (t.text (i + 2)) e

  not-apart : equal_apart t i ≡ false → OneText t i → ⊥
  unfolding equal_apart
  not-apart e r = never (sym e ∙ (same-equal (t.text (i + 1)) (t.text (i + 2))).1 r)

-- ---- of four searches one gave the number
abbrev Chosen : (a b c e : Option ℕ) → ℕ → ℕ → Type 0
Chosen a b c e n i = ((n ≡ 10) × (a ≡ Some i)) ⊎ (((n ≡ 11) × (b ≡ Some i))
    ⊎ (((n ≡ 12) × (c ≡ Some i)) ⊎ ((n ≡ 13) × (e ≡ Some i))))

found_at : {m x n i : ℕ} → Some (fault m x) ≡ Some (fault n i) → (n ≡ m) × (Some x ≡ Some i)
found_at h = let z = same_fault h in (sym z.0, ap Some z.1)

one-of-four : (a b c e : Option ℕ) (n i : ℕ)
    → or_else (fault_at 10 a) (or_else (fault_at 11 b) (or_else (fault_at 12 c) (fault_at 13 e))) ≡ Some (fault n i) → Chosen a b c e n i
one-of-four (Some x) b c e n i h = inl (found_at h)
one-of-four None (Some x) c e n i h = inr (inl (found_at h))
one-of-four None None (Some x) e n i h = inr (inr (inl (found_at h)))
one-of-four None None None (Some x) n i h = inr (inr (inr (found_at h)))
one-of-four None None None None n i h = no_fault (sym h)

module _ (d : Doc) (h : grammar_fault WholeSchema d ≡ None) where
  -- what a search among the declarations finds is the least that passes
  found-least : (k : ℕ) → Declaring k → (p : ℕ → Bool) (so : ℕ → Type 0) → ((j : ℕ) → p j ≡ true → so j)
      → ((j : ℕ) → p j ≡ false → so j → ⊥) → (i : ℕ) → first p (decls_of (tree_of d) k) ≡ Some i → Least (tree_of d) k so i
  unfolding tokens_of
  found-least k z p so y n i e =
      let t = tree_of d in
      let w : decls_of t k ≡ tokens_of t k = decls-scanned d h k z in
      let s : searched p t k 0 t.size ≡ Some i = searched-all p t k t.size refl ∙ ap (first p) (sym w) ∙ e in
      let g = hit p t k 0 t.size i s in
      record {
        declared = subst (λ (l : List ℕ). Memᴰ i l) (sym w)
            (kind-mem t k 0 t.size i (omega arith) g.high g.kind);
        is = y i g.passes;
        first = λ j m l. n j (hit-first p t k 0 t.size i j s (omega arith) l
            (mem-kind t k 0 t.size (subst (λ (l : List ℕ). Memᴰ j l) w m)).2);
      }

  module _ (n i : ℕ) (e : declared_fault (tree_of d) ≡ Some (fault n i)) where
    abbrev repeated : ℕ → Option ℕ
    repeated k = first (again (tree_of d) k) (decls_of (tree_of d) k)

    abbrev equal : Option ℕ
    equal = first (equal_apart (tree_of d)) (decls_of (tree_of d) Kind.Apart)

    abbrev OneFound : Type 0
    OneFound = Chosen (repeated Kind.Label) (repeated Kind.RelType) (repeated Kind.Parameter) equal n i

    four : OneFound
    unfolding declared_fault
    four = one-of-four (repeated Kind.Label) (repeated Kind.RelType) (repeated Kind.Parameter) equal n i e

    -- 10, 11 and 12 stand at the least Label, RelType, Parameter whose name an earlier one has, of the same kind
    pub repeated-least : (k : ℕ) → KindOfNumber n k → Least (tree_of d) k (HasEarlier (tree_of d) k) i
    unfolding any_of table
    repeated-least k c = go c four
      where
        made : (k : ℕ) → Declaring k → repeated k ≡ Some i → Least (tree_of d) k (HasEarlier (tree_of d) k) i
        made k z f = found-least k z (again (tree_of d) k) (HasEarlier (tree_of d) k) (again-is (tree_of d) k)
            (not-again (tree_of d) k) i f

        at : {m : ℕ} → Least (tree_of d) m (HasEarlier (tree_of d) m) i → k ≡ m → Least (tree_of d) k (HasEarlier
            (tree_of d) k) i
        at l e = subst (λ (k : ℕ). Least (tree_of d) k (HasEarlier (tree_of d) k) i) (sym e) l

        go : KindOfNumber n k → OneFound → Least (tree_of d) k (HasEarlier (tree_of d) k) i
        go (inl c) (inl f) = at (made Kind.Label refl f.1) c.1
        go (inr (inl c)) (inr (inl f)) = at (made Kind.RelType refl f.1) c.1
        go (inr (inr c)) (inr (inr (inl f))) = at (made Kind.Parameter refl f.1) c.1
        go (inl c) (inr (inl f)) = absurd (omega (arith, c.0, f.0))
        go (inl c) (inr (inr (inl f))) = absurd (omega (arith, c.0, f.0))
        go (inl c) (inr (inr (inr f))) = absurd (omega (arith, c.0, f.0))
        go (inr (inl c)) (inl f) = absurd (omega (arith, c.0, f.0))
        go (inr (inl c)) (inr (inr (inl f))) = absurd (omega (arith, c.0, f.0))
        go (inr (inl c)) (inr (inr (inr f))) = absurd (omega (arith, c.0, f.0))
        go (inr (inr c)) (inl f) = absurd (omega (arith, c.0, f.0))
        go (inr (inr c)) (inr (inl f)) = absurd (omega (arith, c.0, f.0))
        go (inr (inr c)) (inr (inr (inr f))) = absurd (omega (arith, c.0, f.0))

    -- 13 stands at the least Apart whose two Names are of one text
    pub apart-least : n ≡ 13 → Least (tree_of d) Kind.Apart (OneText (tree_of d)) i
    unfolding any_of table
    apart-least c = go four
      where
        go : OneFound → Least (tree_of d) Kind.Apart (OneText (tree_of d)) i
        go (inl f) = absurd (omega (arith, f.0))
        go (inr (inl f)) = absurd (omega (arith, f.0))
        go (inr (inr (inl f))) = absurd (omega (arith, f.0))
        go (inr (inr (inr f))) = found-least Kind.Apart refl (equal_apart (tree_of d)) (OneText (tree_of d))
            (apart-same (tree_of d) Kind.Apart) (not-apart (tree_of d) Kind.Apart) i f.1

-- ---- the same of any bytes
-- a schema sheet with a fault above 9: it has none before, and its declarations have that one
in-declarations : (s : List ℕ) (n i : ℕ) → 9 < n → schema_fault s ≡ Some (fault n i)
    → (grammar_fault WholeSchema (doc_of s) ≡ None) × (declared_fault (tree_of (doc_of s)) ≡ Some (fault n i))
unfolding schema_fault
in-declarations s n i h e =
    let a = past_first (frame_fault s) _ (frame-numbered s) (omega arith) e in
    past_first (grammar_fault WholeSchema (doc_of s)) (declared_fault (tree_of (doc_of s)))
    (grammar-numbered WholeSchema (doc_of s)) h a.1

module _ (s : List ℕ) (n i : ℕ) (e : schema_fault s ≡ Some (fault n i)) where
  -- Whatever bytes are read as a schema: where they are refused with 10, 11 or 12, the place is the least Label,
  -- RelType, Parameter whose name an earlier one has, of the same kind
  pub schema-repeated-least : (k : ℕ) → KindOfNumber n k
      → Least (tree_of (doc_of s)) k (HasEarlier (tree_of (doc_of s)) k) i
  schema-repeated-least k c =
      let a = in-declarations s n i (above-nine c) e in
      repeated-least (doc_of s) a.0 n i a.1 k c
    where
      above-nine : {k : ℕ} → KindOfNumber n k → 9 < n
      above-nine (inl c) = omega (arith, c.0)
      above-nine (inr (inl c)) = omega (arith, c.0)
      above-nine (inr (inr c)) = omega (arith, c.0)

  -- Where they are refused with 13, it is the least Apart whose two Names are of one text
  pub schema-apart-least : n ≡ 13 → Least (tree_of (doc_of s)) Kind.Apart (OneText (tree_of (doc_of s))) i
  schema-apart-least c =
      let a = in-declarations s n i (omega arith) e in
      apart-least (doc_of s) a.0 n i a.1 c
