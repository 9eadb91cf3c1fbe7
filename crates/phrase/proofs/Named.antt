-- Names put into a text: how long they are, and what is left of a list of them.
use mathlib.Core.Path.{◌≡◌, sym, ap, ◌∙◌}
use mathlib.Core.Bool.{true}
use mathlib.Core.Logic.{⊎_elim}
use mathlib.Core.List.{List, [], ◌∷◌, ◌++◌, map}
use Prim.Native.Nat.{ℕ, zero, suc, ◌+◌, ◌-◌, ◌/◌, ◌≤◌, ◌<◌}
use native.Mathlib.Omega.{arith}
use lib.ListN.{length}
use lib.Dec.{eqb}
use borrow.Author.Tests.{eq-eqb, ne_eqb}
use Rattle.lists.specs.Lists.{pick, each, table}
use Rattle.lists.proofs.Tests.{below}
use Rattle.lists.proofs.Laws.{table_more, table_none, table-start}
use Rattle.frame.specs.Doc.{Doc, doc_of, kind_of, value_of}
use Rattle.frame.specs.Inner.{Sound}
use Rattle.frame.specs.declared.Sheet.{Sheet}
use Rattle.frame.proofs.Names.{name-short}
use Rattle.grammar.specs.Tree.{Tree, tree_of, texts}
use Rattle.grammar.specs.Inner.{NameAt}
use Rattle.grammar.proofs.Flat.{tree-kind, tree-value, tree-text}
use Rattle.marks.specs.Marks.{NamesAt}
use Rattle.breach.specs.Breach.{is_element}
use Rattle.breach.proofs.Exact.{element-cases}
use Rattle.phrase.specs.Phrase.{joined, colons, on_names}
use Rattle.text.specs.Text.{bytes}

-- ---- how long a name is
pub text-short : (s : List ℕ) (f : Sheet) (i : ℕ) → Sound s f → NameAt (doc_of s) i → length ((tree_of (doc_of s)).text i)
    ≤ 57356
text-short s f i z n = rw (tree-text (doc_of s) i n.kind) (name-short s f (value_of (doc_of s) i) z)

pub names-few : (d : Doc) (at n : ℕ) → NamesAt d at n → n ≤ length d.tokens
names-few d at zero h = omega arith
names-few d at (suc n) h = omega (arith, (h n (omega arith)).inside)

-- ---- what is left of a list of names, from name k on
abbrev pub tail_of : List ℕ → Tree → ℕ → ℕ → ℕ → List ℕ
tail_of between t from many k = each (λ y. between ++ y) (map (λ n. bytes ":" ++ n) (texts t (from + k) (many - k)))

module _ (between : List ℕ) (t : Tree) (from many : ℕ) where
  pub colons-none : many ≡ 0 → [] ≡ colons between (texts t from many)
  unfolding joined table
  colons-none e = rw e

  pub colons-start : (many ≡ 0 → ⊥) → (bytes ":" ++ t.text from) ++ tail_of between t from many 1 ≡ colons between
      (texts t from many)
  unfolding joined
  colons-start h =
      let z : from + 0 ≡ from = omega arith in
      let a : table (λ j. t.text j) from many ≡ t.text from ∷ table (λ j. t.text j) (from + 1) (many - 1) =
      sym (table-start (λ j. t.text j) from many) ∙ table_more (λ j. t.text j) from many 0
      (⊎_elim (λ g. g) (λ g. absurd (h (omega arith))) (below 0 many)) ∙ ap
      (λ (j : ℕ). t.text j ∷ table (λ j. t.text j) (from + 1) (many - 1)) z in
      sym (ap (λ (l : List (List ℕ)). joined between (map (λ n. bytes ":" ++ n) l)) a)

  pub tail_more : (k : ℕ) → k < many → tail_of between t from many k ≡ (between ++ (bytes ":" ++ t.text (from + k)))
      ++ tail_of between t from many (k + 1)
  unfolding each
  tail_more k h = ap (λ (l : List (List ℕ)). each (λ y. between ++ y) (map (λ n. bytes ":" ++ n) l))
      (table_more (λ j. t.text j) from many k h)

  pub tail_none : (k : ℕ) → many ≤ k → tail_of between t from many k ≡ []
  unfolding each
  tail_none k h = ap (λ (l : List (List ℕ)). each (λ y. between ++ y) (map (λ n. bytes ":" ++ n) l))
      (table_none (λ j. t.text j) from many k h)

-- ---- the names of an element
pub sort-node : (k : ℕ) → k ≡ 62 → bytes "label(s) " ≡ pick (eqb k 62) (bytes "label(s) ")
    (bytes "relationship type(s) ")
sort-node k e = rw (eq-eqb k 62 e)

pub sort-rel : (k : ℕ) → (k ≡ 62 → ⊥) → bytes "relationship type(s) " ≡ pick (eqb k 62) (bytes "label(s) ")
    (bytes "relationship type(s) ")
sort-rel k h = rw (ne_eqb k 62 h)

pub element-value : (d : Doc) (i : ℕ) → is_element (kind_of d i) ≡ true → (tree_of d).value i ≡ value_of d i
element-value d i e = tree-value d i (λ z. ⊎_elim (λ f. omega arith) (λ f. omega arith) (element-cases (kind_of d i) e))

pub on-names : (d : Doc) (i k v : ℕ) → is_element (kind_of d i) ≡ true → k ≡ kind_of d i → v ≡ value_of d i
    → pick (eqb k 62) (bytes "label(s) ") (bytes "relationship type(s) ") ++ colons (bytes ", ")
    (texts (tree_of d) (i + 3) (v / 2)) ≡ on_names (tree_of d) i
unfolding on_names
on-names d i k v e ek ev = rw (tree-kind d i, element-value d i e, ek, ev)
