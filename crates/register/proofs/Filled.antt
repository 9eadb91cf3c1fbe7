-- A register at its start and at its end, and what is found by it.
use mathlib.Core.Path.{◌≡◌, ◌∙◌, refl, sym, ap}
use mathlib.Core.Bool.{Bool}
use mathlib.Core.List.Memᴰ
use mathlib.Core.List.{List, [], ◌∷◌, Memᴰ}
use Prim.Native.Nat.{ℕ, suc, ◌+◌, ◌-◌, ◌≤◌, ◌<◌}
use native.Mathlib.Omega.{arith}
use native.Mathlib.Numerals.{add-one}
use borrow.Author.Tests.{eqb-true}
use lib.Dec.{eqb}
use lib.ListN.{length, get_or, drop}
use lib.Seq.{get_or-drop}
use Rattle.lists.specs.Lists.{over, first, each, table}
use Rattle.lists.proofs.Laws.{over-mem, test-mem}
use Rattle.text.specs.Text.{same_text}
use Rattle.frame.specs.Doc.{doc_of, kind_of, value_of}
use Rattle.frame.specs.Inner.{Sound}
use Rattle.frame.specs.declared.Sizes.{Sizes}
use Rattle.rules.specs.Kinds as Kind
use Rattle.grammar.specs.Tree.{tree_of}
use Rattle.grammar.specs.Inner.{NameAt}
use Rattle.schema.specs.Declarations.{of_kind, name_below}
use Rattle.schema.specs.Scanned.{tokens_of}
use Rattle.schema.specs.Inner.{Declared, searched, first_named, first_function}
use Rattle.schema.proofs.Named.{named-below}
use Rattle.numbers.specs.Least.{all_names, texts_of, text_at, place_of, least_same, Numbered}
use Rattle.numbers.proofs.Laws.{least-equal, same_test}
use Rattle.numbers.proofs.Texts.{in-texts}
use Rattle.register.specs.Register.{Entered, Exact, entry_at, aparts_at, entry_of, first_with, Registered}
use Rattle.register.specs.Inner.{entry_found, Registering, Folding}
use Rattle.register.proofs.Entries.{entered-in, entered-named, function-entered}
use Rattle.register.proofs.Names.{least-place, text-below, inside-below}
use Rattle.std.specs.Prelude.{Option, Some, None, SomeIff}

-- ---- the start: all names have their numbers, and behind them there is 0
module _ (s d : List ℕ) (sizes : Sizes) (old reg : List ℕ) where
  none_yet : (k x : ℕ) → 0 ≡ first_with (doc_of d) (texts_of d s) k 0 x
  unfolding first_with first each table
  none_yet k x = refl

  pub start : Declared d sizes.schema → Sound s sizes.statement → aparts_at (all_names sizes) + sizes.schema.tokens < length old → ((i : ℕ) → get_or old i 0 ≡ 0)
      → length reg ≡ length old → Numbered (texts_of d s) (all_names sizes) reg
      → drop (all_names sizes) reg ≡ drop (all_names sizes) old → Registering s d sizes 0 0 0 reg
  unfolding each table
  start zd zs room zeros size numbered rest =
      record {
        schema = zd;
        statement = zs;
        room = omega arith;
        numbers = numbered;
        firsts = λ k x e l. behind (entry_at (all_names sizes) x k) (omega arith) ∙ none_yet k x;
        count = refl;
        few = omega arith;
        aparts = λ i. behind (aparts_at (all_names sizes) + i) (omega arith);
      }
    where
      behind : (i : ℕ) → all_names sizes ≤ i → get_or reg i 0 ≡ 0
      behind i h =
          let n = all_names sizes in
          let e : n + (i - n) ≡ i = omega arith in
          ap (λ (m : ℕ). get_or reg m 0) (sym e) ∙ sym (get_or-drop n reg (i - n) 0)
          ∙ ap (λ (l : List ℕ). get_or l (i - n) 0) rest ∙ get_or-drop n old (i - n) 0 ∙ zeros (n + (i - n))

-- all tokens gone over
pub filled : (s d : List ℕ) (sizes : Sizes) (j m : ℕ) (reg : List ℕ) → j ≤ sizes.schema.tokens → sizes.schema.tokens ≤ j
    → Registering s d sizes j j m reg → Folding s d sizes 0 reg
unfolding tokens_of tree_of
filled s d sizes j m reg l h z =
    let e : j ≡ sizes.schema.tokens = omega arith in
    let t : length (doc_of d).tokens ≡ j = omega (arith, z.schema.sheet.tokens) in
    record {
      schema = z.schema;
      statement = z.statement;
      room = z.room;
      numbers = z.numbers;
      firsts = λ k y q o. z.firsts k y q.0 o ∙ ap (λ (a : ℕ). first_with (doc_of d) (texts_of d s) k a y) e;
      done = λ i o q. absurd (omega (arith, q));
      left = λ y q o. z.firsts Kind.Function y function-entered o
          ∙ ap (λ (a : ℕ). first_with (doc_of d) (texts_of d s) Kind.Function a y) e;
      aparts = λ i. z.aparts i ∙ ap (λ (a : ℕ). get_or (over (of_kind (tree_of (doc_of d)) Kind.Apart) 0 a) i 0) (sym t);
    }

-- ---- entries
pub entered-none : (e : ℕ) → e ≡ 0 → None ≡ entry_found e
unfolding entry_found
entered-none e h = rw h

pub entered-some : (e : ℕ) → (e ≡ 0 → ⊥) → Some (e - 1) ≡ entry_found e
unfolding entry_found
entered-some e h = let s : e ≡ suc (e - 1) = omega arith in ap entry_found (sym s)

pub entered-checked : (e : ℕ) (r : Option ℕ) → SomeIff r (1 ≤ e) (e - 1) → r ≡ entry_found e
entered-checked e None h = entered-none e (omega (arith, h))
entered-checked e (Some x) h = ap Some h.1 ∙ entered-some e (λ z. omega (arith, h.0))

entered-found : (o : Option ℕ) → entry_found (entry_of o) ≡ o
unfolding entry_found
entered-found None = refl
entered-found (Some j) = rw (add-one j)

pub first-same : (p q : ℕ → Bool) (l : List ℕ) → ((j : ℕ) → Memᴰ j l → p j ≡ q j) → first p l ≡ first q l
unfolding first
first-same p q [] h = refl
first-same p q (x ∷ l) h = rw (h x (Memᴰ.head refl), first-same p q l (λ j m. h j (Memᴰ.tail m)))

-- ---- by the number of text m of the two sheets' names, the first declaration of that name
module _ (s d : List ℕ) (sizes : Sizes) (zd : Declared d sizes.schema) (zs : Sound s sizes.statement) (k : ℕ) (e : Entered k) where
  -- a declaration has a Name below it
  pub below-named : (j : ℕ) → Memᴰ j (over (of_kind (tree_of (doc_of d)) k) 0 sizes.schema.tokens) → NameAt (doc_of d) (j + 1)
  unfolding tree_of
  below-named j o =
      let r = over-mem (of_kind (tree_of (doc_of d)) k) 0 sizes.schema.tokens o in
      let t = test-mem (eqb (kind_of (doc_of d) r.0) k) (r.0 ∷ []) r.3 in
      let q : j ≡ r.0 = Memᴰ.eq_of_singleton t.1 in
      rw q (named-below d sizes.schema r.0 k zd r.2 (eqb-true _ _ t.0) (entered-named k e))

-- it has the number where it has the name
module _ (s d : List ℕ) (sizes : Sizes) (zd : Declared d sizes.schema) (zs : Sound s sizes.statement) (k : ℕ) (e : Entered k)
    (m : ℕ) (h : m < all_names sizes) where
  by-text : (j : ℕ) → Memᴰ j (over (of_kind (tree_of (doc_of d)) k) 0 sizes.schema.tokens)
      → eqb (least_same (texts_of d s) (value_of (doc_of d) (j + 1))) (least_same (texts_of d s) m)
      ≡ same_text (text_at (texts_of d s) m) (name_below (tree_of (doc_of d)) j)
  by-text j o =
      let a = below-named s d sizes zd zs k e j o in
      let u = least-equal (texts_of d s) (value_of (doc_of d) (j + 1)) m
      (in-texts s d sizes zd.sheet zs _ (inside-below s d sizes zd zs (j + 1) a))
      (in-texts s d sizes zd.sheet zs m h) in
      same_test _ _ _ _
      (λ o. sym (u.0 o) ∙ text-below s d sizes zd zs (j + 1) a)
      (λ o. u.1 (text-below s d sizes zd zs (j + 1) a ∙ sym o))

  pub with-named : first_with (doc_of d) (texts_of d s) k sizes.schema.tokens (least_same (texts_of d s) m)
      ≡ entry_of (first_named (tree_of (doc_of d)) k (text_at (texts_of d s) m) 0 sizes.schema.tokens)
  unfolding first_with searched
  with-named = ap entry_of (first-same _ _ (over (of_kind (tree_of (doc_of d)) k) 0 sizes.schema.tokens) by-text)

-- ---- read from a register, where text m is n
module _ (s d : List ℕ) (sizes : Sizes) (reg : List ℕ) (z : Registered s d sizes reg) (m : ℕ) (h : m < all_names sizes)
    (n : List ℕ) (en : text_at (texts_of d s) m ≡ n) (x : ℕ) (ex : x ≡ place_of (texts_of d s) n) (lx : x < all_names sizes) where
  x-is : x ≡ least_same (texts_of d s) m
  x-is = ex ∙ ap (place_of (texts_of d s)) (sym en) ∙ sym (least-place (texts_of d s) m)

  pub entry-inside : (k : ℕ) → Entered k → (at : ℕ) → at ≡ entry_at (all_names sizes) x k → at < length reg
  entry-inside k e at ea = omega (arith, z.room, entered-in k e)

  module _ (k : ℕ) (e : Exact k) (at : ℕ) (ea : at ≡ entry_at (all_names sizes) x k) where
    pub entry_found_lem : get_or reg at 0 ≡ entry_of (first_named (tree_of (doc_of d)) k n 0 sizes.schema.tokens)
    entry_found_lem =
        ap (λ (a : ℕ). get_or reg a 0) ea ∙ z.firsts k x e lx
        ∙ ap (first_with (doc_of d) (texts_of d s) k sizes.schema.tokens) x-is
        ∙ with-named s d sizes z.schema z.statement k e.0 m h
        ∙ ap (λ (t : List ℕ). entry_of (first_named (tree_of (doc_of d)) k t 0 sizes.schema.tokens)) en

    pub looked-up : {r : Option ℕ} → r ≡ entry_found (get_or reg at 0) → r ≡ first_named (tree_of (doc_of d)) k n 0 sizes.schema.tokens
    looked-up h =
        h ∙ ap entry_found entry_found_lem
        ∙ entered-found (first_named (tree_of (doc_of d)) k n 0 sizes.schema.tokens)

  module _ (at : ℕ) (ea : at ≡ entry_at (all_names sizes) x Kind.Function) where
    function-found : get_or reg at 0 ≡ entry_of (first_function (tree_of (doc_of d)) n 0 sizes.schema.tokens)
    function-found =
        ap (λ (a : ℕ). get_or reg a 0) (ea ∙ ap (λ (y : ℕ). entry_at (all_names sizes) y Kind.Function) x-is) ∙ z.functions m h
        ∙ ap (λ (t : List ℕ). entry_of (first_function (tree_of (doc_of d)) t 0 sizes.schema.tokens)) en

    pub function-read : {r : Option ℕ} → r ≡ entry_found (get_or reg at 0) → r ≡ first_function (tree_of (doc_of d)) n 0 sizes.schema.tokens
    function-read h =
        h ∙ ap entry_found function-found
        ∙ entered-found (first_function (tree_of (doc_of d)) n 0 sizes.schema.tokens)

-- what is read at the entry of a kind and a number, where that is y
pub entry-of : (reg : List ℕ) (n k x y at : ℕ) {r : Option ℕ} → r ≡ entry_found (get_or reg at 0) → at ≡ entry_at n x k → x ≡ y
    → r ≡ entry_found (get_or reg (entry_at n y k) 0)
entry-of reg n k x y at h ea e =
    h ∙ ap (λ (a : ℕ). entry_found (get_or reg a 0)) (ea ∙ ap (λ (z : ℕ). entry_at n z k) e)

-- ---- Apart k
pub apart-read : (s d : List ℕ) (sizes : Sizes) (reg : List ℕ) → Registered s d sizes reg → (k a : ℕ) → a ≡ aparts_at (all_names sizes)
    → get_or reg (a + k) 0 ≡ get_or (tokens_of (tree_of (doc_of d)) Kind.Apart) k 0
apart-read s d sizes reg z k a e = ap (λ (i : ℕ). get_or reg (i + k) 0) e ∙ z.aparts k
