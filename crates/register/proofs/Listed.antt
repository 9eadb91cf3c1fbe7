-- The Aparts in the register: one more token.
use mathlib.Core.Path.{◌≡◌, ◌∙◌, refl, sym, ap}
use mathlib.Core.Logic.{◌⊎◌, inl, inr, ⊎_elim}
use mathlib.Core.List.{List, [], ◌∷◌, ◌++◌, append-nil}
use Prim.Native.Nat.{ℕ, zero, suc, ◌+◌, ◌≤◌, ◌<◌}
use native.Mathlib.Omega.{arith}
use borrow.Author.Tests.{eq-eqb, ne_eqb}
use lib.ListN.{length, get_or, set, length-set, length-append, get_or-append}
use lib.Seq.{get_or-set_same, get_or-set_other, get_or-append-add}
use Rattle.lists.specs.Lists.{over}
use Rattle.lists.proofs.Tests.{below}
use Rattle.frame.specs.Doc.{doc_of, kind_of}
use Rattle.frame.specs.declared.Sizes.{Sizes}
use Rattle.numbers.specs.Least.{all_names}
use Rattle.rules.specs.Kinds as Kind
use Rattle.grammar.specs.Tree.{tree_of}
use Rattle.schema.specs.Declarations.{of_kind}
use Rattle.register.specs.Register.{entry_at, aparts_at}
use Rattle.register.specs.Inner.{Registering}
use Rattle.register.proofs.Entries.{entered-in, kinds-more}

-- an element of a list with one more behind it: of the list, the one more, or none
end-at : (l : List ℕ) (x i : ℕ) → (i < length l) → get_or (l ++ (x ∷ [])) i 0 ≡ get_or l i 0
end-at l x i h = get_or-append l (x ∷ []) 0 i h

end-last : (l : List ℕ) (x : ℕ) → get_or (l ++ (x ∷ [])) (length l) 0 ≡ x
end-last l x =
    let e : length l + 0 ≡ length l = omega arith in
    ap (λ (i : ℕ). get_or (l ++ (x ∷ [])) i 0) (sym e) ∙ get_or-append-add l (x ∷ []) 0 0

pub none-behind : (l : List ℕ) (i : ℕ) → length l ≤ i → get_or l i 0 ≡ 0
none-behind [] i h = refl
none-behind (x ∷ l) zero h = absurd (omega arith)
none-behind (x ∷ l) (suc i) h = none-behind l i (omega arith)

end-past : (l : List ℕ) (x i : ℕ) → length l < i → get_or (l ++ (x ∷ [])) i 0 ≡ get_or l i 0
end-past l x i h =
    none-behind (l ++ (x ∷ [])) i (omega (arith, length-append l (x ∷ []))) ∙ sym (none-behind l i (omega arith))

module _ (s d : List ℕ) (sizes : Sizes) (j m : ℕ) (reg : List ℕ) (z : Registering s d sizes (j + 1) j m reg)
    (c : ℕ) (ec : c ≡ kind_of (doc_of d) j) where
  no_more : (c ≡ Kind.Apart → ⊥) → over (of_kind (tree_of (doc_of d)) Kind.Apart) 0 (j + 1)
      ≡ over (of_kind (tree_of (doc_of d)) Kind.Apart) 0 j
  unfolding tree_of
  no_more h =
      kinds-more (doc_of d) [] Kind.Apart j
      ∙ rw (ne_eqb (kind_of (doc_of d) j) Kind.Apart (λ q. h (ec ∙ q))) (append-nil _)

  one_more_lem : c ≡ Kind.Apart → over (of_kind (tree_of (doc_of d)) Kind.Apart) 0 (j + 1)
      ≡ over (of_kind (tree_of (doc_of d)) Kind.Apart) 0 j ++ (j ∷ [])
  unfolding tree_of
  one_more_lem h = kinds-more (doc_of d) [] Kind.Apart j ∙ rw (eq-eqb (kind_of (doc_of d) j) Kind.Apart (sym ec ∙ h))

  pub list-none : (c ≡ Kind.Apart → ⊥) → Registering s d sizes (j + 1) (j + 1) m reg
  list-none h =
      record {
        schema = z.schema;
        statement = z.statement;
        room = z.room;
        numbers = z.numbers;
        firsts = z.firsts;
        count = rw (no_more h) z.count;
        few = omega (arith, z.few);
        aparts = λ i. rw (no_more h) (z.aparts i);
      }

  module _ (here : j < sizes.schema.tokens) (at : ℕ) (ea : at ≡ aparts_at (all_names sizes) + m) where
    pub apart-inside : at < length reg
    apart-inside = omega (arith, z.few, z.room)

    pub list-more : c ≡ Kind.Apart → Registering s d sizes (j + 1) (j + 1) (m + 1) (set reg at j)
    list-more h =
        record {
          schema = z.schema;
          statement = z.statement;
          room = rw (length-set reg at j) z.room;
          numbers =
              record {
                each = λ i l. get_or-set_other reg at i j 0 (λ q. omega (arith, q, ea)) ∙ z.numbers.each i l;
              };
          firsts = λ k x e l. get_or-set_other reg at (entry_at (all_names sizes) x k) j 0
              (λ q. omega (arith, q, ea, entered-in k e)) ∙ z.firsts k x e l;
          count = rw (one_more_lem h) (omega (arith, z.count, length-append (over (of_kind (tree_of (doc_of d)) Kind.Apart) 0 j) (j ∷ [])));
          few = omega (arith, z.few);
          aparts = λ i. rw (one_more_lem h) (go i (below i m));
        }
      where
        l : List ℕ
        l = over (of_kind (tree_of (doc_of d)) Kind.Apart) 0 j

        go : (i : ℕ) → (i < m) ⊎ (m ≤ i) → get_or (set reg at j) (aparts_at (all_names sizes) + i) 0 ≡ get_or (l ++ (j ∷ [])) i 0
        go i (inl o) =
            get_or-set_other reg at (aparts_at (all_names sizes) + i) j 0 (λ q. omega (arith, q, ea))
            ∙ z.aparts i ∙ sym (end-at l j i (omega (arith, z.count)))
        go i (inr o) = ⊎_elim
            (λ (p : m < i). get_or-set_other reg at (aparts_at (all_names sizes) + i) j 0 (λ q. omega (arith, q, ea))
            ∙ z.aparts i ∙ sym (end-past l j i (omega (arith, z.count))))
            (λ (p : i ≤ m). let q : aparts_at (all_names sizes) + i ≡ at = omega arith in
            let r : i ≡ length l = omega (arith, z.count) in
            rw q (get_or-set_same reg at j 0 apart-inside ∙ rw r (sym (end-last l j))))
            (below m i)
