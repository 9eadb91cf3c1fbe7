-- Functions in any case: a name that no other differs from in case alone has its own entry, and one that is looked for.
use mathlib.Core.Path.{◌≡◌, ◌∙◌, refl, sym, ap, subst}
use mathlib.Core.Bool.{Bool, true, false, not}
use mathlib.Core.Logic.{◌⊎◌, inl, inr, ⊎_elim}
use mathlib.Core.List.{List, Memᴰ}
use Prim.Native.Nat.{ℕ, ◌+◌, ◌≤◌, ◌<◌}
use native.Mathlib.Omega.{arith}
use borrow.Author.Tests.{eqb-true, not-false}
use lib.Dec.{eqb}
use lib.ListN.{length, get_or, set, length-set}
use lib.Seq.{get_or-set_same, get_or-set_other}
use Rattle.lists.specs.Lists.{both, over, first}
use Rattle.lists.proofs.Tests.{never, below}
use Rattle.text.specs.Text.{same_text}
use Rattle.text.specs.Folded.{folded, same_folded}
use Rattle.text.proofs.Laws.{same_refl, same-is}
use Rattle.frame.specs.Doc.{doc_of}
use Rattle.frame.specs.Inner.{Sound}
use Rattle.frame.specs.declared.Sizes.{Sizes}
use Rattle.rules.specs.Kinds as Kind
use Rattle.grammar.specs.Tree.{Tree, tree_of}
use Rattle.schema.specs.Declarations.{of_kind, name_below}
use Rattle.schema.specs.Inner.{Declared, searched, first_function}
use Rattle.numbers.specs.Least.{all_names, texts_of, text_at, least_same}
use Rattle.numbers.specs.Alike.{Lone, Marked}
use Rattle.numbers.proofs.Laws.{least-low, least-text, same-least}
use Rattle.numbers.proofs.Texts.{in-texts}
use Rattle.register.specs.Register.{entry_at, aparts_at, entry_of, first_with, Registered}
use Rattle.register.specs.Inner.{Folding, NoneMarked, sought_by_name}
use Rattle.register.proofs.Entries.{entered-in, function-entered}
use Rattle.register.proofs.Names.{text-below, inside-below}
use Rattle.register.proofs.Filled.{first-same, below-named, with-named}
use Rattle.register.proofs.Sought.{none_found, sought-found}
use Rattle.std.specs.Prelude.{Option}

-- two texts that are one where they are one in any case
one-test : (a b : List ℕ) → (folded b ≡ folded a → b ≡ a) → same_text a b ≡ same_folded a b
one-test a b h = go (same_text a b) refl (same_folded a b) refl
  where
    go : (p : Bool) → same_text a b ≡ p → (q : Bool) → same_folded a b ≡ q → p ≡ q
    go true e true f = refl
    go false e false f = refl
    go true e false f =
        never (sym f ∙ subst (λ (c : List ℕ). same_folded a c ≡ true) (same-is a b e) (same_refl (folded a)))
    go false e true f =
        never (sym e ∙ subst (λ (c : List ℕ). same_text a c ≡ true) (sym (h (sym (same-is (folded a) (folded b) f)))) (same_refl a))

-- of another text that is the same
pub found-by : (t : Tree) (fs a b : List ℕ) {r : Option ℕ} → r ≡ first (λ i. same_folded a (name_below t i)) fs → a ≡ b
    → r ≡ first (λ i. same_folded b (name_below t i)) fs
found-by t fs a b h e = h ∙ ap (λ (c : List ℕ). (first (λ i. same_folded c (name_below t i)) fs)) e

pub was-false : (b : Bool) → not b ≡ true → b ≡ false
was-false true q = never q
was-false false q = refl

pub unmarked : (l : List Bool) (x at : ℕ) → at ≡ x → not (get_or l at false) ≡ true → get_or l x false ≡ false
unmarked l x at e h = was-false (get_or l x false) (ap (λ (k : ℕ). not (get_or l k false)) (sym e) ∙ h)

-- ---- a number that is marked and a Function's, and none among one more
module _ (names : ℕ) (l : List Bool) (reg : List ℕ) where
  abbrev is_function : ℕ → Bool
  is_function x = both (get_or l x false) (not (eqb (get_or reg (entry_at names x Kind.Function) 0) 0))

  pub no-function : (x at : ℕ) → at ≡ x → get_or l at false ≡ false → get_or l at false ≡ is_function x
  no-function x at e h =
      let m : get_or l x false ≡ false = ap (λ (k : ℕ). get_or l k false) (sym e) ∙ h in
      h ∙ rw m

  pub function-entry : (x p at : ℕ) → p ≡ x → get_or l p false ≡ true → at ≡ entry_at names x Kind.Function
      → not (eqb (get_or reg at 0) 0) ≡ is_function x
  function-entry x p at ep h ea =
      let m : get_or l x false ≡ true = ap (λ (k : ℕ). get_or l k false) (sym ep) ∙ h in
      rw (m, ← ea)

  pub none_more : (n : ℕ) → NoneMarked names l reg n → is_function n ≡ false → NoneMarked names l reg (n + 1)
  none_more n h e x o m =
      ⊎_elim (λ b. h x b m) (λ b. let q : n ≡ x = omega arith in at_last (subst (λ (k : ℕ). is_function k ≡ false) q e))
      (below x n)
    where
      at_last : is_function x ≡ false → get_or reg (entry_at names x Kind.Function) 0 ≡ 0
      at_last f =
          let w : Bool = eqb (get_or reg (entry_at names x Kind.Function) 0) 0 in
          eqb-true (get_or reg (entry_at names x Kind.Function) 0) 0
          (not-false w (subst (λ (c : Bool). both c (not w) ≡ false) m f))

module _ (s d : List ℕ) (sizes : Sizes) (zd : Declared d sizes.schema) (zs : Sound s sizes.statement) where
  pub least-inside : (i : ℕ) → i < all_names sizes → least_same (texts_of d s) i < all_names sizes
  least-inside i h = omega (arith, least-low (texts_of d s) i (in-texts s d sizes zd.sheet zs i h))

  -- the entry by exact name is the one in any case, of a name that no other differs from in case alone
  lone-found : (i : ℕ) → i < all_names sizes → Lone (texts_of d s) (all_names sizes) i
      → first_with (doc_of d) (texts_of d s) Kind.Function sizes.schema.tokens (least_same (texts_of d s) i)
      ≡ entry_of (first_function (tree_of (doc_of d)) (text_at (texts_of d s) i) 0 sizes.schema.tokens)
  unfolding searched
  lone-found i h l =
      with-named s d sizes zd zs Kind.Function function-entered i h
      ∙ ap entry_of (first-same _ _ (over (of_kind (tree_of (doc_of d)) Kind.Function) 0 sizes.schema.tokens) alike)
    where
      alike : (j : ℕ) → Memᴰ j (over (of_kind (tree_of (doc_of d)) Kind.Function) 0 sizes.schema.tokens)
          → same_text (text_at (texts_of d s) i) (name_below (tree_of (doc_of d)) j)
          ≡ same_folded (text_at (texts_of d s) i) (name_below (tree_of (doc_of d)) j)
      alike j o =
          let a = below-named s d sizes zd zs Kind.Function function-entered j o in
          let e = text-below s d sizes zd zs (j + 1) a in
          one-test (text_at (texts_of d s) i) (name_below (tree_of (doc_of d)) j)
          (λ q. sym e ∙ l _ (inside-below s d sizes zd zs (j + 1) a) (ap folded e ∙ q))

-- ---- one name more
module _ (s d : List ℕ) (sizes : Sizes) (x : ℕ) (reg : List ℕ) (z : Folding s d sizes x reg) (hx : x < all_names sizes) where
  done-or : (i : ℕ) → least_same (texts_of d s) i < x + 1
      → (least_same (texts_of d s) i < x) ⊎ (least_same (texts_of d s) i ≡ x)
  done-or i h = ⊎_elim (λ o. inl o) (λ o. inr (omega arith)) (below (least_same (texts_of d s) i) x)

  pub lone-more : (marks : List Bool) → Marked (texts_of d s) (all_names sizes) marks → get_or marks x false ≡ false
      → Folding s d sizes (x + 1) reg
  lone-more marks m e =
      record {
        schema = z.schema;
        statement = z.statement;
        room = z.room;
        numbers = z.numbers;
        firsts = z.firsts;
        done = λ i h o. go i h (done-or i o);
        left = λ y o h. z.left y (omega arith) h;
        aparts = z.aparts;
      }
    where
      go : (i : ℕ) → i < all_names sizes → (least_same (texts_of d s) i < x) ⊎ (least_same (texts_of d s) i ≡ x)
          → get_or reg (entry_at (all_names sizes) (least_same (texts_of d s) i) Kind.Function) 0
          ≡ entry_of (first_function (tree_of (doc_of d)) (text_at (texts_of d s) i) 0 sizes.schema.tokens)
      go i h (inl o) = z.done i h o
      go i h (inr o) =
          z.left (least_same (texts_of d s) i) (omega arith) (omega arith)
          ∙ lone-found s d sizes z.schema z.statement i h
          (m.lone i h (ap (λ (y : ℕ). get_or marks y false) o ∙ e))

  module _ (at w : ℕ) (ea : at ≡ entry_at (all_names sizes) x Kind.Function) where
    pub fold-inside : at < length reg
    fold-inside = omega (arith, z.room)

  module _ (at w : ℕ) (ea : at ≡ entry_at (all_names sizes) x Kind.Function) (marks : List Bool)
      (m : Marked (texts_of d s) (all_names sizes) marks) (fs : List ℕ) (ef : fs ≡ sought_by_name s d sizes marks)
      (p : ℕ) (ep : p ≡ x) (em : not (get_or marks p false) ≡ false) {r : Option ℕ} (er : r ≡ first
      (λ i. same_folded (text_at (texts_of d s) x) (name_below (tree_of (doc_of d)) i)) fs) (ew : w ≡ entry_of r) where
    w-is : least_same (texts_of d s) x ≡ x
        → w ≡ entry_of (first_function (tree_of (doc_of d)) (text_at (texts_of d s) x) 0 sizes.schema.tokens)
    w-is own =
        let mx : get_or marks x false ≡ true = ap (λ (k : ℕ). get_or marks k false) (sym ep) ∙ not-false (get_or marks p false) em in
        ew ∙ ap entry_of (er ∙ sought-found s d sizes z.schema z.statement marks m x hx own mx ef)

    pub fold_more : Folding s d sizes (x + 1) (set reg at w)
    fold_more =
        record {
          schema = z.schema;
          statement = z.statement;
          room = rw (length-set reg at w) z.room;
          numbers =
              record {
                each = λ i l. get_or-set_other reg at i w 0 (λ q. omega (arith, q, ea)) ∙ z.numbers.each i l;
              };
          firsts = λ k y e l. get_or-set_other reg at (entry_at (all_names sizes) y k) w 0
              (λ q. e.1 (omega (arith, q, ea, entered-in k e.0))) ∙ z.firsts k y e l;
          done = λ i h o. go i h (done-or i o);
          left = λ y o h. get_or-set_other reg at (entry_at (all_names sizes) y Kind.Function) w 0
              (λ q. omega (arith, q, ea)) ∙ z.left y (omega arith) h;
          aparts = λ i. get_or-set_other reg at (aparts_at (all_names sizes) + i) w 0 (λ q. omega (arith, q, ea)) ∙ z.aparts i;
        }
      where
        go : (i : ℕ) → i < all_names sizes → (least_same (texts_of d s) i < x) ⊎ (least_same (texts_of d s) i ≡ x)
            → get_or (set reg at w) (entry_at (all_names sizes) (least_same (texts_of d s) i) Kind.Function) 0
            ≡ entry_of (first_function (tree_of (doc_of d)) (text_at (texts_of d s) i) 0 sizes.schema.tokens)
        go i h (inl o) = get_or-set_other reg at _ w 0 (λ q. omega (arith, q, ea)) ∙ z.done i h o
        go i h (inr o) =
            let q : entry_at (all_names sizes) (least_same (texts_of d s) i) Kind.Function ≡ at = omega (arith, ea) in
            let t : text_at (texts_of d s) x ≡ text_at (texts_of d s) i =
            ap (text_at (texts_of d s)) (sym o)
            ∙ least-text (texts_of d s) i (in-texts s d sizes z.schema.sheet z.statement i h) in
            ap (λ (y : ℕ). get_or (set reg at w) y 0) q ∙ get_or-set_same reg at w 0 (fold-inside at w ea)
            ∙ w-is (same-least (texts_of d s) x i t ∙ o)
            ∙ ap (λ (a : List ℕ). entry_of (first_function (tree_of (doc_of d)) a 0 sizes.schema.tokens)) t

-- ---- all names done; and none that is marked and a Function
module _ (s d : List ℕ) (sizes : Sizes) (reg : List ℕ) where
  registered : (x : ℕ) → Folding s d sizes x reg → ((i : ℕ) → i < all_names sizes
      → get_or reg (entry_at (all_names sizes) (least_same (texts_of d s) i) Kind.Function) 0
      ≡ entry_of (first_function (tree_of (doc_of d)) (text_at (texts_of d s) i) 0 sizes.schema.tokens))
      → Registered s d sizes reg
  registered x z f =
      record {
        schema = z.schema;
        statement = z.statement;
        room = z.room;
        numbers = z.numbers;
        firsts = z.firsts;
        functions = f;
        aparts = z.aparts;
      }

  pub all-folded : (x : ℕ) → all_names sizes ≤ x → Folding s d sizes x reg → Registered s d sizes reg
  all-folded x h z =
      registered x z (λ i l. z.done i l (omega (arith, least-inside s d sizes z.schema z.statement i l)))

  pub none-sought : Folding s d sizes 0 reg → (marks : List Bool) → Marked (texts_of d s) (all_names sizes) marks
      → NoneMarked (all_names sizes) marks reg (all_names sizes) → Registered s d sizes reg
  none-sought z marks m e = registered 0 z (λ i l. go i l (get_or marks (least_same (texts_of d s) i) false) refl)
    where
      exact_none : (y : ℕ) → y < all_names sizes → get_or marks y false ≡ true
          → first_with (doc_of d) (texts_of d s) Kind.Function sizes.schema.tokens y ≡ 0
      exact_none y h q = sym (z.left y (omega arith) h) ∙ e y h q

      go : (i : ℕ) → i < all_names sizes → (b : Bool) → get_or marks (least_same (texts_of d s) i) false ≡ b
          → get_or reg (entry_at (all_names sizes) (least_same (texts_of d s) i) Kind.Function) 0
          ≡ entry_of (first_function (tree_of (doc_of d)) (text_at (texts_of d s) i) 0 sizes.schema.tokens)
      go i l false q =
          z.left (least_same (texts_of d s) i) (omega arith) (least-inside s d sizes z.schema z.statement i l)
          ∙ lone-found s d sizes z.schema z.statement i l (m.lone i l q)
      go i l true q =
          let o = least-inside s d sizes z.schema z.statement i l in
          let t = least-text (texts_of d s) i (in-texts s d sizes z.schema.sheet z.statement i l) in
          e (least_same (texts_of d s) i) o q
          ∙ sym (ap entry_of (ap (λ (a : List ℕ). first_function (tree_of (doc_of d)) a 0 sizes.schema.tokens) (sym t)
          ∙ none_found s d sizes z.schema z.statement marks m (least_same (texts_of d s) i) o
          (same-least (texts_of d s) (least_same (texts_of d s) i) i t) q exact_none))
