-- The parts of each form of message, from what the code reads.
use mathlib.Core.Path.{◌≡◌, refl, sym, ap, ◌∙◌}
use mathlib.Core.Bool.{Bool, true, false}
use mathlib.Core.List.{List, [], ◌++◌}
use mathlib.Core.Logic.{⊎_elim, ◌⊎◌}
use Prim.Native.Nat.{ℕ, ◌+◌, ◌*◌, ◌/◌, ◌≤◌, ◌<◌}
use native.Mathlib.Omega.{arith}
use borrow.Author.Tests.{eq-eqb, ne_eqb}
use lib.ListN.{length, take}
use lib.Seq.{length-take-le}
use lib.Dec.{eqb}
use Rattle.lists.specs.Lists.{pick}
use Rattle.frame.specs.Doc.{Doc, kind_of, value_of}
use Rattle.rules.specs.declared.Place.TheVariants.{WholeStatement}
use Rattle.grammar.specs.Machine.{grammar_fault}
use Rattle.grammar.specs.Tree.{Tree, tree_of, child, texts}
use Rattle.grammar.specs.Inner.{NameAt}
use Rattle.grammar.proofs.Flat.{tree-kind, tree-value}
use Rattle.types.specs.declared.Ty.{Ty}
use Rattle.types.specs.Types.{literal, property_type_name}
use Rattle.provider.specs.declared.Callee.{Callee}
use Rattle.provider.specs.Schema.{Schema, Owner, Property, Signature, property_of, function_of, procedure_of}
use Rattle.provider.specs.Inner.{property_found, callee}
use Rattle.breach.specs.Breach.{names_of, props_of, key_at, value_at, owners}
use Rattle.judge.specs.Merged.{Collected}
use Rattle.judge.proofs.Keyed.{key-name, key-value}
use Rattle.phrase.specs.Phrase.{colons, on_names}
use Rattle.text.specs.Text.{bytes}
use Rattle.phrase.proofs.Named.{element-value}
use Rattle.sentence.specs.Sentence.{expected, got, undeclared_text, wrong_type_text, count_text, arity_text}
use Rattle.sentence.specs.Inner.{MapAt, LabelsAt, counted}
use Rattle.std.specs.Prelude.{Some, None}
use Rattle.std.specs.Prelude.{Option}

-- ---- a key of an element
pub props-are : (d : Doc) (i v : ℕ) → MapAt d i → v ≡ value_of d i → i + 3 + v / 2 ≡ props_of (tree_of d) i
props-are d i v z e = ap (λ (w : ℕ). i + 3 + w / 2) (e ∙ sym (element-value d i z.element.element))

module _ (d : Doc) (h : grammar_fault WholeStatement d ≡ None) (i k v r : ℕ) (z : MapAt d i)
    (l : k < value_of d (i + 3 + value_of d i / 2)) (ev : v ≡ value_of d i)
    (er : r ≡ child (tree_of d) (i + 3 + v / 2) (2 * k)) where
  here : r ≡ child (tree_of d) (i + 3 + value_of d i / 2) (2 * k)
  here = er ∙ ap (λ (w : ℕ). child (tree_of d) (i + 3 + w / 2) (2 * k)) ev

  pub key-there : NameAt d r
  key-there = key-name d h (i + 3 + value_of d i / 2) z.inside z.map k l r here

  pub key-text : (tree_of d).text r ≡ key_at (tree_of d) i k
  key-text = ap (tree_of d).text (er ∙ ap (λ (m : ℕ). child (tree_of d) m (2 * k)) (props-are d i v z ev))

  pub key-after : r + 1 ≡ value_at (tree_of d) i k
  key-after =
      key-value d h (i + 3 + value_of d i / 2) z.inside z.map k l r here
      ∙ ap (λ (m : ℕ). child (tree_of d) m (2 * k + 1)) (props-are d i (value_of d i) z refl)

-- ---- a key that is not declared, or has another type
module _ (t : Tree) (i k key : ℕ) (e : t.text key ≡ key_at t i k) where
  pub undeclared-text : bytes "property `" ++ t.text key ++ bytes "` is not declared on " ++ on_names t i
      ≡ undeclared_text t i k
  unfolding undeclared_text
  undeclared-text = rw e

  pub wrong-type-text : (s : Schema) → key + 1 ≡ value_at t i k
      → bytes "property `" ++ t.text key ++ bytes "` expects type `" ++ expected
      (property_of (owners s (t.kind i)) (names_of t i) (t.text key))
      ++ bytes "` but got `" ++ got (literal t (key + 1)) ++ bytes "`" ≡ wrong_type_text t s i k
  unfolding wrong_type_text
  wrong-type-text s f = rw (e, f)

-- the declared type
no-type : (o : Option Property) {q : Option Ty} → q ≡ property_found o → q ≡ None → [] ≡ expected o
no-type None e h = refl
no-type (Some p) e h = absurd (let z : Some p.type ≡ None = sym e ∙ h in let o : ◌≡◌ {A = ℕ} 0 1 = cc in
    omega arith)

of-type : (o : Option Property) {q : Option Ty} (y : Ty) → q ≡ property_found o → q ≡ Some y → bytes
    (property_type_name y) ≡ expected o
of-type None y e h = absurd (let z : None ≡ Some y = sym e ∙ h in let o : ◌≡◌ {A = ℕ} 0 1 = cc in omega arith)
of-type (Some p) y e h =
    let z : Some y ≡ Some p.type = sym h ∙ e in
    let x : y ≡ p.type = cc in
    rw x

module _ (os : List Owner) (ns : List (List ℕ)) (n m : List ℕ) {q : Option Ty} (en : n ≡ m)
    (e : q ≡ property_found (property_of os ns n)) where
  pub expected-none : q ≡ None → [] ≡ expected (property_of os ns m)
  expected-none h = no-type (property_of os ns m) (e ∙ ap (λ (x : List ℕ). property_found (property_of os ns x)) en) h

  pub expected-some : (y : Ty) → q ≡ Some y → bytes (property_type_name y) ≡ expected (property_of os ns m)
  expected-some y h = of-type (property_of os ns m) y (e ∙ ap (λ (x : List ℕ). property_found (property_of os ns x)) en) h

-- ---- the number of arguments
counted_is : (o : Option Signature) (n : ℕ) → counted (callee o) n ≡ count_text o n
unfolding count_text
counted_is None n = refl
counted_is (Some f) n = refl

pub count-text : (o : Option Signature) (v w : ℕ) {q : Option Callee} → q ≡ callee o → v ≡ w → counted q v ≡ count_text o w
count-text o v w {q} e ev = ap (λ (x : Option Callee). counted x v) e ∙ counted_is o v ∙ ap (count_text o) ev

pub call-value : (d : Doc) (i k v : ℕ) → kind_of d i ≡ k → (k ≡ 50 → ⊥) → v ≡ value_of d i → v ≡ (tree_of d).value i
call-value d i k v e n ev = ev ∙ sym (tree-value d i (λ h. n (sym e ∙ h)))

-- a call that is not of a function
pub of-procedure : (k x : ℕ) → k ≡ x → (x ≡ 16) ⊎ (x ≡ 85) → (k ≡ 16 → ⊥) → x ≡ 85
of-procedure k x e o h = ⊎_elim (λ f. absurd (h (e ∙ f))) (λ f. f) o

module _ (d : Doc) (s : Schema) (i v : ℕ) (q : Option Callee) (ev : v ≡ value_of d i) where
  pub arity-function : kind_of d i ≡ 16 → q ≡ callee (function_of s ((tree_of d).text (i + 1)))
      → bytes "function `" ++ (tree_of d).text (i + 1) ++ bytes "` expects " ++ counted q v ≡ arity_text (tree_of d) s i
  unfolding arity_text
  arity-function e f =
      rw (
        count-text _ _ _ f (call-value d i 16 v e (λ z. omega arith) ev),
        eq-eqb ((tree_of d).kind i) 16
            (tree-kind d i ∙ e),
      )

  pub arity-procedure : kind_of d i ≡ 85 → q ≡ callee (procedure_of s ((tree_of d).text (i + 3)))
      → bytes "procedure `" ++ (tree_of d).text (i + 3) ++ bytes "` expects " ++ counted q v ≡ arity_text (tree_of d) s i
  unfolding arity_text
  arity-procedure e f =
      let z = tree-kind d i ∙ e in
      rw (
        count-text _ _ _ f (call-value d i 85 v e (λ z. omega arith) ev),
        ne_eqb ((tree_of d).kind i) 16
            (λ p. omega arith),
      )

-- ---- labels
module _ (d : Doc) (i k v : ℕ) (z : LabelsAt d i) (ek : k ≡ kind_of d i) (ev : v ≡ value_of d i) where
  value-is : v ≡ (tree_of d).value i
  value-is = ev ∙ sym (tree-value d i z.no_name)

  pub labels-node : k ≡ 62 → colons (bytes "") (texts (tree_of d) (i + 3) (v / 2)) ≡ colons (bytes "")
      (pick (eqb ((tree_of d).kind i) 62) (names_of (tree_of d) i) (texts (tree_of d) (i + 1) ((tree_of d).value i)))
  labels-node h = rw (eq-eqb ((tree_of d).kind i) 62 (tree-kind d i ∙ sym ek ∙ h), value-is)

  pub labels-other : (k ≡ 62 → ⊥) → colons (bytes "") (texts (tree_of d) (i + 1) v) ≡ colons (bytes "")
      (pick (eqb ((tree_of d).kind i) 62) (names_of (tree_of d) i) (texts (tree_of d) (i + 1) ((tree_of d).value i)))
  labels-other h = rw (ne_eqb ((tree_of d).kind i) 62 (λ p. h (ek ∙ sym (tree-kind d i) ∙ p)), value-is)

-- ---- the Map of an element, and whether more arguments may follow
pub map-there : (d : Doc) (i v : ℕ) → MapAt d i → v ≡ value_of d i → i + 3 + v / 2 < length d.tokens
map-there d i v z e = rw e z.inside

pub map-kind : (d : Doc) (i v : ℕ) → MapAt d i → v ≡ value_of d i → kind_of d (i + 3 + v / 2) ≡ 14
map-kind d i v z e = rw e z.map

pub bound-variadic : (b : Bool) → b ≡ true → bytes "at least " ≡ pick b (bytes "at least ") (bytes "exactly ")
bound-variadic b e = rw e

pub bound-exact : (b : Bool) → b ≡ false → bytes "exactly " ≡ pick b (bytes "at least ") (bytes "exactly ")
bound-exact b e = rw e

pub taken-few : {d : Doc} {m n : ℕ} {ks : List ℕ} → Collected d m n ks → (x : ℕ) → x ≡ n → length ks ≤ 2048 → length
    (take x ks) ≤ 4096
taken-few {d} {m} {n} {ks} c x e h = omega (arith, length-take-le x ks (omega (arith, c.room)), c.room)
