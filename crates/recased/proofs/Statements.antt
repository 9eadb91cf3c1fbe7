-- Two statements that are the same but for the case of their functions' names have the same breaches.
use mathlib.Core.Logic.{⊎_elim}
use mathlib.Core.Path.{◌≡◌, sym, ap, ◌∙◌, subst}
use Prim.Native.Nat.{ℕ, suc, ◌+◌, ◌≤◌, ◌<◌}
use native.Mathlib.Omega.{arith}
use lib.ListN.{length, get_or-eq_default}
use lib.Dec.{eqb}
use Rattle.lists.specs.Lists.{pick}
use Rattle.lists.proofs.Tests.{below}
use Rattle.frame.specs.Doc.{Doc, Token}
use Rattle.rules.specs.Kinds as Kind
use Rattle.rules.specs.declared.Place.TheVariants.{WholeStatement}
use Rattle.grammar.specs.Machine.{grammar_fault}
use Rattle.grammar.specs.Tree.{Tree, tree_of}
use Rattle.provider.specs.Schema.{Schema}
use Rattle.breach.specs.Breach.{Item, Breach}
use Rattle.recased.specs.Recased.{Recased}
use Rattle.recased.proofs.Fronts.{Free, function-there, name_free, procedure-free, label-free, key-free}
use Rattle.recased.proofs.Retold.{retold}
use Rattle.recased.proofs.Breaches.{Spared, breach-kept}
use Rattle.std.specs.Prelude.{None}

-- The same holds of the two statements exchanged
pub recased-back : {t u : Tree} → Recased t u → Recased u t
recased-back {t} {u} r = record {
  size = sym r.size;
  kind = λ i b. sym (r.kind i (omega (arith, r.size)));
  value = λ i b. sym (r.value i (omega (arith, r.size)));
  text = λ i b n. sym (r.text i (omega (arith, r.size)) (λ k. n (r.kind i (omega (arith, r.size)) ∙ k)));
  function = λ i b k.
      sym (r.function i (omega (arith, r.size)) (sym (r.kind i (omega (arith, r.size))) ∙ k));
}

-- past the end a token has the kind 0 and the value 0
no-token : (d : Doc) (i : ℕ) → (tree_of d).size ≤ i → ((tree_of d).kind i ≡ 0) × ((tree_of d).value i ≡ 0)
unfolding tree_of
no-token d i b =
    let e = get_or-eq_default d.tokens (record { kind = 0; value = 0 }) b in
    (ap (λ (z : Token). z.kind) e, ap (λ (z : Token). pick (eqb z.kind Kind.Name) 0 z.value) e)

module _ (d e : Doc) (r : Recased (tree_of d) (tree_of e)) where
  -- all kinds and all values are the same
  kind-same : (i : ℕ) → (tree_of e).kind i ≡ (tree_of d).kind i
  kind-same i = ⊎_elim (r.kind i)
      (λ b. (no-token e i (omega (arith, r.size))).0 ∙ sym (no-token d i b).0) (below i (tree_of d).size)

  value_same : (i : ℕ) → (tree_of e).value i ≡ (tree_of d).value i
  value_same i = ⊎_elim (r.value i)
      (λ b. (no-token e i (omega (arith, r.size))).1 ∙ sym (no-token d i b).1) (below i (tree_of d).size)

  -- so the second is the first with its own texts
  pub retold-is : tree_of e ≡ retold (tree_of d) (tree_of e).text
  retold-is = λ k. record {
    size = r.size k;
    kind = λ i. kind-same i k;
    value = λ i. value_same i k;
    text = (tree_of e).text;
  }

  -- a text that stands behind no expression's Call is the same
  free-text : (p : ℕ) → Free (tree_of d) p → (tree_of e).text p ≡ (tree_of d).text p
  free-text p f =
      subst (λ (x : ℕ). (tree_of e).text x ≡ (tree_of d).text x) (sym f.next)
      (r.text f.before (omega (arith, f.next, f.there)) f.other)

  module _ (some : 0 < length d.tokens) (h : grammar_fault WholeStatement d ≡ None) where
    -- where the first is accepted, only its functions' names are changed
    pub spared : Spared (tree_of d) (tree_of e).text
    spared = record {
      names = λ i j el p q. free-text j (name_free d some h i j el p q);
      procedure = λ i k. free-text (i + 3) (procedure-free d some h i k);
      labels = λ i j k p q. free-text j (label-free d some h i j k p q);
      key = λ p k g l. free-text _ (key-free d some h p k g l);
      function = λ i k.
          let z : i + 1 ≡ suc i = omega arith in
          rw z (r.function i (omega (arith, function-there d some h i k)) k);
    }

    -- Each breach of the first is one of the second
    pub recased-breach : (s : Schema) (i : ℕ) {x : Item} → Breach (tree_of d) s i x → Breach (tree_of e) s i x
    recased-breach s i {x} b = subst (λ (t : Tree). Breach t s i x) (sym retold-is) (breach-kept spared i s b)
