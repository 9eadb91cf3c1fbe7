-- The endpoints of a relationship type: found, counted and written.
use mathlib.Core.Path.{◌≡◌, refl, sym, ap, ◌∙◌, subst}
use mathlib.Core.List.{List, []}
use Prim.Native.Nat.{ℕ, ◌+◌, ◌*◌, ◌/◌, ◌≤◌, ◌<◌}
use native.Mathlib.Nat.{mul-le-mul}
use native.Mathlib.Omega.{arith}
use lib.ListN.{length}
use Rattle.lists.specs.Lists.{over, each}
use Rattle.text.specs.Text.{same_text}
use Rattle.frame.specs.Limits.{max_tokens}
use Rattle.frame.specs.Doc.{doc_of, kind_of}
use Rattle.frame.specs.declared.Sheet.{Sheet}
use Rattle.grammar.specs.Tree.{tree_of}
use Rattle.schema.specs.Declarations.{of_kind, name_below}
use Rattle.schema.specs.Inner.{Declared, Itemizing, first_named}
use Rattle.schema.specs.Effect.{refusal, answer_of, Done, fitted}
use Rattle.grammar.proofs.Flat.{tree-kind}
use Rattle.schema.proofs.Searches.{hit, there-is, absent-is}
use Rattle.provider.specs.Schema.{items_of}
use Rattle.provider.specs.Scanned.{decl_end}
use Rattle.provider.proofs.Items.{rel-type-owns, start-item, end-item, owners-searched, items-between}
use Rattle.of_kind.specs.Written.{WroteNumbers}
use Rattle.of_kind.proofs.Counts.{few-of}
use Rattle.of_kind.proofs.Writing.{wrote_none, too_long, all-fits}
use Rattle.provider.proofs.Lookups.{item-range}
use Rattle.endpoints.specs.Pairs.{endpoints_at, endpoints_of}
use Rattle.endpoints.specs.Inner.{pairs_over}
use Rattle.endpoints.proofs.Pairing.{pairs-length}
use Rattle.std.specs.Prelude.{Some, None, Result, Ok}
use Rattle.schema.specs.declared.Refusal.{Refusal}
use Rattle.std.specs.Prelude.{Option}

-- ---- of a declaration
module _ (s : List ℕ) (f : Sheet) (z : Declared s f) (i b : ℕ) (h : i < f.tokens) (ek : kind_of (doc_of s) i ≡ 102)
    (eb : b ≡ decl_end (tree_of (doc_of s)) i) where
  items-are : (k : ℕ) → Itemizing k → over (of_kind (tree_of (doc_of s)) k) (i + 1) b ≡ items_of (tree_of (doc_of s)) i k
  items-are k y = items-between z i b 102 k h ek rel-type-owns y eb

  endpoints-are : endpoints_at (doc_of s) (Some i) ≡ each (pairs_over (doc_of s) (i + 1) b)
      (over (of_kind (tree_of (doc_of s)) 112) (i + 1) b)
  unfolding endpoints_at
  endpoints-are = rw (← items-are 112 start-item, ← items-are 113 end-item)

  module _ (starts ends : ℕ) (es : starts ≡ length (over (of_kind (tree_of (doc_of s)) 112) (i + 1) b))
      (ee : ends ≡ length (over (of_kind (tree_of (doc_of s)) 113) (i + 1) b)) where
    pub few-pairs : starts * ends ≤ max_tokens * max_tokens
    few-pairs =
        let r = item-range s f z i b h eb in
        let t = tree_of (doc_of s) in
        let few-starts : starts ≤ max_tokens = omega (arith, few-of t 112 (i + 1) b, r.1, z.sheet.few_tokens) in
        let few-ends : ends ≤ max_tokens = omega (arith, few-of t 113 (i + 1) b, r.1, z.sheet.few_tokens) in
        mul-le-mul few-starts few-ends

    pub pairs-count : length (each (pairs_over (doc_of s) (i + 1) b) (over (of_kind (tree_of (doc_of s)) 112) (i + 1) b))
        ≡ 2 * (starts * ends)
    pairs-count = pairs-length (doc_of s) (i + 1) b ∙ rw (es, ee)

    count : length (endpoints_at (doc_of s) (Some i)) ≡ 2 * (starts * ends)
    count = ap length endpoints-are ∙ pairs-count

    module _ (l : List ℕ) where
      pub pairs-too-long : {o : Result ℕ Refusal} → length l / 2 < starts * ends → o ≡ answer_of (refusal 16 0 0)
          → Done (fitted (length (endpoints_at (doc_of s) (Some i)) / 2) (endpoints_at (doc_of s) (Some i)) l) l o l
      pairs-too-long g e = too_long _ (endpoints_at (doc_of s) (Some i)) l (omega (arith, count)) e

      pub pairs-written : {r : ℕ} {l' : List ℕ} → starts * ends ≤ length l / 2
          → WroteNumbers 0 (each (pairs_over (doc_of s) (i + 1) b) (over (of_kind (tree_of (doc_of s)) 112) (i + 1) b)) l r
          l'
          → Done (fitted (length (endpoints_at (doc_of s) (Some i)) / 2) (endpoints_at (doc_of s) (Some i)) l) l
          (Ok (starts * ends)) l'
      pairs-written {r} {l'} g w =
          let n : starts * ends ≡ length (endpoints_at (doc_of s) (Some i)) / 2 = omega (arith, count) in
          all-fits _ (endpoints_at (doc_of s) (Some i)) l (omega (arith, count)) (ap Ok n)
          (subst (λ (xs : List ℕ). WroteNumbers 0 xs l r l') (sym endpoints-are) w)

-- ---- of a text
module _ (s : List ℕ) (f : Sheet) (z : Declared s f) (text : List ℕ) (q : Option ℕ)
    (e : q ≡ first_named (tree_of (doc_of s)) 102 text 0 f.tokens) where
  endpoints-at : (o : Option ℕ) → first_named (tree_of (doc_of s)) 102 text 0 f.tokens ≡ o → endpoints_of (doc_of s)
      text ≡ endpoints_at (doc_of s) o
  unfolding endpoints_of
  endpoints-at o h =
      ap (endpoints_at (doc_of s)) (sym (owners-searched z 102 rel-type-owns
      (λ i. same_text text (name_below (tree_of (doc_of s)) i))) ∙ h)

  pub unknown-type : (l : List ℕ) → q ≡ None → Done (fitted (length (endpoints_of (doc_of s) text) / 2)
      (endpoints_of (doc_of s) text) l) l (Ok 0) l
  unfolding endpoints_at
  unknown-type l h =
      let g : endpoints_of (doc_of s) text ≡ [] = endpoints-at None
      (absent-is (first_named (tree_of (doc_of s)) 102 text 0 f.tokens) e h) in
      rw g (all-fits 0 [] l (omega arith) refl (wrote_none 0 l))

  module _ (i : ℕ) (h : q ≡ Some i) where
    pub type-there : (i < f.tokens) × (kind_of (doc_of s) i ≡ 102)
    type-there =
        let x = hit (λ j. same_text text (name_below (tree_of (doc_of s)) j)) (tree_of (doc_of s)) 102 0 f.tokens i
        (there-is (first_named (tree_of (doc_of s)) 102 text 0 f.tokens) i e h) in
        (x.high, sym (tree-kind (doc_of s) i) ∙ x.kind)

    pub known-type : (l : List ℕ) {o : Result ℕ Refusal} {l' : List ℕ} → Done
        (fitted (length (endpoints_at (doc_of s) (Some i)) / 2) (endpoints_at (doc_of s) (Some i)) l) l o l'
        → Done (fitted (length (endpoints_of (doc_of s) text) / 2) (endpoints_of (doc_of s) text) l) l o l'
    known-type l {o} {l'} w =
        subst (λ (xs : List ℕ). Done (fitted (length xs / 2) xs l) l o l')
        (sym (endpoints-at (Some i) (there-is (first_named (tree_of (doc_of s)) 102 text 0 f.tokens) i e h))) w
