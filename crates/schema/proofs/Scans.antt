-- The declarations of an accepted schema, which are children of its first token, are all tokens of their kinds. So the
-- code, which goes over all tokens, finds what the definitions say.
use mathlib.Core.Bool.{Bool, true, false}
use mathlib.Core.Path.{◌≡◌, refl, sym, ap, ◌∙◌, subst}
use mathlib.Core.List.{List, [], ◌∷◌, ◌++◌, append-nil, Memᴰ}
use Prim.Native.Nat.{ℕ, zero, suc, ◌+◌, ◌-◌, ◌≤◌, ◌<◌}
use native.Mathlib.Nat.{zero-add, add-zero}
use native.Mathlib.Omega.{arith}
use borrow.Author.Tests.{ne_eqb, lt-ltb, le-ltb}
use lib.Dec.{ltb}
use lib.ListN.{length}
use Rattle.lists.specs.Lists.{both, either, table, first, any_of, each, over}
use Rattle.lists.proofs.Joins.{any_append}
use Rattle.lists.proofs.Laws.{each_from, over-more, over_none, over-join, over-quiet}
use Rattle.lists.proofs.Ranges.{through-bounds}
use Rattle.text.specs.Text.{same_text}
use Rattle.frame.specs.Doc.{Doc, doc_of}
use Rattle.frame.specs.declared.Sheet.{Sheet}
use Rattle.frame.specs.declared.Fault.{Fault}
use Rattle.rules.specs.declared.Place.TheVariants.{WholeSchema}
use Rattle.grammar.specs.Machine.{grammar_fault}
use Rattle.grammar.specs.Tree.{Tree, tree_of, past, end}
use Rattle.grammar.proofs.Places.{past-none, past-ge, past-le, past-mono, past-suc, end-gt}
use Rattle.grammar.proofs.Formed.{Rooted, schema-rooted}
use Rattle.grammar.proofs.Flat.{tree-kind}
use Rattle.grammar.proofs.Skipping.{size_is}
use Rattle.schema.specs.Declarations.{of_kind, name_below, decls_of, again, declared_fault}
use Rattle.schema.specs.Scanned.{tokens_of, repeats, scanned_fault}
use Rattle.schema.specs.Inner.{Declared, Declaring, searched}
use Rattle.schema.proofs.Searches.{first_kind, searched-all, any-first, is_there, mem-kind}
use Rattle.schema.proofs.Standing.{size_of, some_tokens, child-decl, decl-outside}
use Rattle.std.specs.Prelude.{Option, None}

module _ {A : Type 0} (f : ℕ → List A) where
  -- n trees in a row, from the c-th of those at i on, of whose tokens f speaks at the roots only: what it says of all
  -- tokens is what it says of the roots
  pub over-roots : (t : Tree) (n c i : ℕ)
      → ((e : ℕ) → c ≤ e → e < c + n → (past t e i < t.size)
      × ((j : ℕ) → past t e i < j → j < end t (past t e i) → f j ≡ []))
      → over f (past t c i) (past t (c + n) i) ≡ each f (table (λ e. past t e i) c n)
  unfolding each table
  over-roots t zero c i h = over_none f (past t c i) (past t (c + 0) i) (rw add-zero (omega arith))
  over-roots t (suc n) c i h =
      let b = h c (omega arith) (omega arith) in
      let g : past t c i < end t (past t c i) = end-gt t (past t c i) b.0 in
      let s : past t (suc c) i ≡ end t (past t c i) = past-suc t c i in
      let e : c + suc n ≡ suc c + n = omega arith in
      let q : over f (past t c i + 1) (end t (past t c i)) ≡ [] = over-quiet f (past t c i + 1) (end t (past t c i))
      (λ j p o. b.1 j (omega arith) o) in
      let r : over f (past t c i) (past t (suc c) i) ≡ f (past t c i) =
      ap (over f (past t c i)) s ∙ over-more f (past t c i) (end t (past t c i)) g ∙ rw (q, append-nil) in
      let m = over-roots t n (suc c) i (λ a p o. h a (omega arith) (omega arith)) in
      ap (λ (z : ℕ). over f (past t c i) (past t z i)) e
      ∙ sym (over-join f (past t c i) (past t (suc c) i) (past t (suc c + n) i) (past-mono t c (suc c) i (omega arith))
      (past-mono t (suc c) (suc c + n) i (omega arith)))
      ∙ rw (r, m)

-- a token of another kind
pub quiet-kind : (t : Tree) (k j : ℕ) → (t.kind j ≡ k → ⊥) → of_kind t k j ≡ []
quiet-kind t k j h = rw (ne_eqb (t.kind j) k h)

-- the declarations are all tokens of their kind: for every document whose tokens read as a schema's, and every kind of
-- declarations
module _ (d : Doc) (h : grammar_fault WholeSchema d ≡ None) (k : ℕ) (z : Declaring k) where
  root : Rooted 100 (tree_of d)
  root = schema-rooted d (some_tokens d h) h

  inside : (e j : ℕ) → e < (tree_of d).value 0 → j < end (tree_of d) (past (tree_of d) e 1) → j < length d.tokens
  inside e j q g =
      let c = child-decl d h e (some_tokens d h) q in
      omega (arith, size_of d, past-le (tree_of d) 1 (past (tree_of d) e 1) (omega (arith, size_of d, c.0)))

  pub decls-scanned : decls_of (tree_of d) k ≡ tokens_of (tree_of d) k
  unfolding decls_of tokens_of
  decls-scanned =
      let t = tree_of d in
      let o = through-bounds 101 106 k z in
      let a : of_kind t k 0 ≡ [] = quiet-kind t k 0 (λ e. omega (arith, o.0, root.root)) in
      let c : past t (0 + t.value 0) 1 ≡ t.size = ap (λ (n : ℕ). past t n 1) (zero-add (t.value 0)) ∙ root.covers in
      let r = over-roots (of_kind t k) t (t.value 0) 0 1 (λ e p q.
      let l : e < t.value 0 = omega arith in (
        omega (arith, size_of d, (child-decl d h e (some_tokens d h) l).0),
        λ j g b. quiet-kind t k j (λ w. decl-outside d h (past t e 1) j (past-ge t e 1) g b (inside e j l b)
            (subst Declaring (sym w ∙ tree-kind d j) z)),
      )) in
      sym (over-more (of_kind t k) 0 t.size root.some ∙ ap (λ (xs : List ℕ). xs ++ over (of_kind t k) 1 t.size) a
      ∙ ap (λ (n : ℕ). over (of_kind t k) n t.size) (sym (past-none t 1)) ∙ ap (over (of_kind t k) (past t 0 1))
      (sym c)
      ∙ r)

-- ---- so a declaration repeats an earlier one exactly where a token of its kind repeats one before it
-- tests that agree at each number of a range find the same there; one that fails at each finds nothing
module _ (t : Tree) (k : ℕ) (p q : ℕ → Bool) where
  first_run : (m a : ℕ) → ((j : ℕ) → a ≤ j → j < a + m → p j ≡ q j) → first p (each_from (of_kind t k) a m) ≡ first q
      (each_from (of_kind t k) a m)
  unfolding each table first
  first_run zero a h = refl
  first_run (suc m) a h =
      first_kind t k a p (each_from (of_kind t k) (suc a) m)
      ∙ rw (h a (omega arith) (omega arith), first_run m (suc a) (λ j g b. h j (omega arith) (omega arith)))
      (sym (first_kind t k a q (each_from (of_kind t k) (suc a) m)))

  pub first-same : (a b : ℕ) → ((j : ℕ) → a ≤ j → j < b → p j ≡ q j) → first p (over (of_kind t k) a b) ≡ first q
      (over (of_kind t k) a b)
  first-same a b h = first_run (b - a) a (λ j g l. h j g (omega arith))

any_none : {A : Type 0} (p : A → Bool) (xs : List A) → ((x : A) → Memᴰ x xs → p x ≡ false) → any_of p xs ≡ false
unfolding any_of
any_none p [] h = refl
any_none p (x ∷ xs) h = rw (h x (Memᴰ.head refl), any_none p xs (λ y m. h y (Memᴰ.tail m)))

either-none : (a : Bool) → either a false ≡ a
either-none true = refl
either-none false = refl

module _ (d : Doc) (h : grammar_fault WholeSchema d ≡ None) (k : ℕ) (z : Declaring k) where
  pub again-scanned : (i : ℕ) → i ≤ (tree_of d).size → again (tree_of d) k i ≡ repeats (tree_of d) k i
  unfolding again repeats tokens_of
  again-scanned i b =
      let t = tree_of d in
      let q : ℕ → Bool = λ j. same_text (name_below t i) (name_below t j) in
      let p : ℕ → Bool = λ j. both (ltb j i) (q j) in
      let f = of_kind t k in
      let early : any_of p (over f 0 i) ≡ any_of q (over f 0 i) = any-first p (over f 0 i) ∙ ap is_there
      (first-same t k p q 0 i (λ j g l. rw (lt-ltb j i l))) ∙ sym (any-first q (over f 0 i)) in
      let late : any_of p (over f i t.size) ≡ false = any_none p (over f i t.size)
      (λ j m. rw (le-ltb j i (mem-kind t k i t.size m).0)) in
      ap (any_of p) (decls-scanned d h k z ∙ sym (over-join f 0 i t.size (omega arith) b))
      ∙ any_append p (over f 0 i) (over f i t.size) ∙ rw (early, late) (either-none (any_of q (over f 0 i)))

  pub first-scanned : first (again (tree_of d) k) (decls_of (tree_of d) k) ≡ first (repeats (tree_of d) k)
      (tokens_of (tree_of d) k)
  unfolding tokens_of
  first-scanned =
      ap (first (again (tree_of d) k)) (decls-scanned d h k z)
      ∙ first-same (tree_of d) k (again (tree_of d) k) (repeats (tree_of d) k) 0 (tree_of d).size
      (λ j g l. again-scanned j (omega arith))

-- ---- and what is wrong with the declarations is what is wrong with those tokens
pub declared-scanned : (d : Doc) → grammar_fault WholeSchema d ≡ None → declared_fault (tree_of d) ≡ scanned_fault
    (tree_of d)
unfolding declared_fault scanned_fault any_of table
declared-scanned d h = rw (
  first-scanned d h 101 refl,
  first-scanned d h 102 refl,
  first-scanned d h 103 refl,
  decls-scanned d h 106 refl,
)

-- ---- the same of a sheet that was read
module _ {s : List ℕ} {f : Sheet} (z : Declared s f) where
  pub decls-are : (k : ℕ) → Declaring k → decls_of (tree_of (doc_of s)) k ≡ tokens_of (tree_of (doc_of s)) k
  decls-are k d = decls-scanned (doc_of s) z.read k d

  pub repeats-are : (k : ℕ) → Declaring k → first (again (tree_of (doc_of s)) k) (decls_of (tree_of (doc_of s)) k) ≡ first
      (repeats (tree_of (doc_of s)) k) (tokens_of (tree_of (doc_of s)) k)
  repeats-are k d = first-scanned (doc_of s) z.read k d

  pub as-declared : {r : Option Fault} → r ≡ scanned_fault (tree_of (doc_of s)) → r ≡ declared_fault (tree_of (doc_of s))
  as-declared e = e ∙ sym (declared-scanned (doc_of s) z.read)

  -- a search among all tokens is one among the declarations
  pub searched-decls : (p : ℕ → Bool) (k : ℕ) → Declaring k → searched p (tree_of (doc_of s)) k 0 f.tokens ≡ first p
      (decls_of (tree_of (doc_of s)) k)
  searched-decls p k d =
      searched-all p (tree_of (doc_of s)) k f.tokens (size_is s f z.sheet) ∙ ap (first p) (sym (decls-are k d))
