-- The functions that are sought: listed in a loop over all tokens, sorted where they stand, and what is found among them.
use mathlib.Core.Path.{◌≡◌, ◌∙◌, refl, sym, ap, subst}
use mathlib.Core.Bool.{Bool, true, false, not}
use mathlib.Core.List.{List, [], ◌∷◌, ◌++◌, append-nil, Memᴰ}
use Prim.Native.Nat.{ℕ, suc, ◌+◌, ◌≤◌, ◌<◌}
use native.Mathlib.Omega.{arith}
use native.Mathlib.Numerals.{add-one}
use borrow.Author.Tests.{eq-eqb, ne_eqb, not-true, not-false}
use lib.Dec.{eqb}
use lib.ListN.{length, length-append, length-set, get_or, set, take, drop}
use lib.Seq.{length-take-le, take_at, take-suc-set}
use Rattle.lists.specs.Lists.{pick, over, first, those}
use Rattle.lists.proofs.Tests.{never, true-both}
use Rattle.lists.proofs.Laws.{over_none, over-one, over-join}
use Rattle.lists.proofs.Joins.{those-append}
use Rattle.text.specs.Text.{same_text}
use Rattle.text.specs.Folded.{folded, same_folded}
use Rattle.text.proofs.Laws.{same-is}
use Rattle.frame.specs.Limits.{max_tokens}
use Rattle.frame.specs.Doc.{doc_of, kind_of, value_of}
use Rattle.frame.specs.Inner.{Sound}
use Rattle.frame.specs.declared.Sizes.{Sizes}
use Rattle.rules.specs.Kinds as Kind
use Rattle.grammar.specs.Tree.{tree_of}
use Rattle.grammar.specs.Inner.{NameAt}
use Rattle.grammar.proofs.Flat.{tree-kind}
use Rattle.schema.specs.Declarations.{of_kind, name_below}
use Rattle.schema.specs.Inner.{Declared, searched, first_named, first_function}
use Rattle.schema.proofs.Named.{named-below}
use Rattle.schema.proofs.Searches.{hit, hit-first, there-is}
use Rattle.in_order.specs.declared.Entry.TheVariants.{Function}
use Rattle.in_order.specs.InOrder.{Rises, sorted}
use Rattle.in_order.specs.Inner.{text_of, AllNamed}
use Rattle.in_order.proofs.Merging.{sorted_rises}
use Rattle.in_order.proofs.Named.{named-sorted}
use Rattle.in_order.proofs.Sorting.{sorted-length}
use Rattle.functions.specs.Functions.{folded_below}
use Rattle.functions.proofs.Halving.{first-sorted}
use Rattle.functions.proofs.Finding.{first-turned}
use Rattle.numbers.specs.Least.{all_names, texts_of, text_at, least_same}
use Rattle.numbers.specs.Alike.{Marked}
use Rattle.numbers.proofs.Laws.{least-low, same-least}
use Rattle.numbers.proofs.Texts.{in-texts}
use Rattle.register.specs.Register.{entry_at, entry_of, first_with}
use Rattle.register.specs.Inner.{Folding, is_sought, sought_before, Seeking, sought_by_name}
use Rattle.register.proofs.Entries.{entered-named, function-entered}
use Rattle.register.proofs.Names.{text-below, inside-below}
use Rattle.register.proofs.Filled.{below-named, with-named}
use Rattle.register.proofs.Again.{first-own}
use Rattle.register.proofs.Aparts.{mem-at}
use Rattle.std.specs.Prelude.{Some, Option, None}

-- ---- is the function at token j sought
module _ (s d : List ℕ) (sizes : Sizes) (reg : List ℕ) (z : Folding s d sizes 0 reg) (marks : List Bool) (j : ℕ)
    (h : j < sizes.schema.tokens) (ek : kind_of (doc_of d) j ≡ Kind.Function) where
  pub sought-name : NameAt (doc_of d) (j + 1)
  sought-name = named-below d sizes.schema j Kind.Function z.schema h ek (entered-named Kind.Function function-entered)

  -- by the number of its name, which is read at place w
  module _ (v w : ℕ) (ev : v ≡ value_of (doc_of d) (j + 1)) (ew : w ≡ v) where
    pub name-read : w < length reg
    name-read = omega (arith, inside-below s d sizes z.schema z.statement (j + 1) sought-name, z.room)

    number_is : get_or reg w 0 ≡ least_same (texts_of d s) (value_of (doc_of d) (j + 1))
    number_is =
        let i : w < all_names sizes = omega (arith, inside-below s d sizes z.schema z.statement (j + 1) sought-name) in
        z.numbers.each w i ∙ ap (least_same (texts_of d s)) (ew ∙ ev)

    pub number-inside : get_or reg w 0 < all_names sizes
    number-inside =
        let i = inside-below s d sizes z.schema z.statement (j + 1) sought-name in
        omega (
          arith,
          number_is,
          i,
          least-low (texts_of d s) (value_of (doc_of d) (j + 1))
              (in-texts s d sizes z.schema.sheet z.statement (value_of (doc_of d) (j + 1)) i),
        )

    pub unsought : (at : ℕ) → at ≡ get_or reg w 0 → get_or marks at false ≡ false
        → get_or marks at false ≡ is_sought s d sizes marks j
    unsought at ea e =
        let m : get_or marks (least_same (texts_of d s) (value_of (doc_of d) (j + 1))) false ≡ false =
        ap (λ (k : ℕ). get_or marks k false) (sym (ea ∙ number_is)) ∙ e in
        e ∙ rw m

    module _ (at : ℕ) (ea : at ≡ entry_at (all_names sizes) (get_or reg w 0) Kind.Function) where
      pub entry_read : at < length reg
      entry_read = omega (arith, number-inside, z.room)

      pub sought-by : (p : ℕ) → p ≡ get_or reg w 0 → get_or marks p false ≡ true
          → eqb (get_or reg at 0) (j + 1) ≡ is_sought s d sizes marks j
      sought-by p ep e =
          let m : get_or marks (least_same (texts_of d s) (value_of (doc_of d) (j + 1))) false ≡ true =
          ap (λ (k : ℕ). get_or marks k false) (sym (ep ∙ number_is)) ∙ e in
          let f : get_or reg at 0 ≡ first_with (doc_of d) (texts_of d s) Kind.Function sizes.schema.tokens
          (least_same (texts_of d s) (value_of (doc_of d) (j + 1))) =
          ap (λ (k : ℕ). get_or reg k 0) ea ∙ z.left (get_or reg w 0) (omega arith) number-inside
          ∙ ap (first_with (doc_of d) (texts_of d s) Kind.Function sizes.schema.tokens) number_is in
          rw (m, f)

-- ---- the loop
module _ (s d : List ℕ) (sizes : Sizes) (marks : List Bool) where
  abbrev one : ℕ → List ℕ
  one = of_kind (tree_of (doc_of d)) Kind.Function

  abbrev kept : ℕ → Bool
  kept = is_sought s d sizes marks

  pub seeking-start : (l : List ℕ) → Seeking s d sizes marks 0 0 l
  unfolding those
  seeking-start l = record {
    few = omega arith;
    room = omega arith;
    are = sym (ap (those kept) (over_none one 0 0 (omega arith)));
  }

  module _ (j : ℕ) {c : ℕ} (ec : c ≡ kind_of (doc_of d) j) {n : ℕ} {l : List ℕ} (w : Seeking s d sizes marks j n l) where
    before_on : sought_before s d sizes marks (j + 1) ≡ sought_before s d sizes marks j ++ those kept (one j)
    before_on =
        ap (those kept) (sym (over-join one 0 j (j + 1) (omega arith) (omega arith))
        ∙ ap (λ (r : List ℕ). over one 0 j ++ r) (ap (over one j) (add-one j) ∙ over-one one j))
        ∙ those-append kept (over one 0 j) (one j)

    none-on : those kept (one j) ≡ [] → Seeking s d sizes marks (j + 1) n l
    none-on e = record {
      few = omega (arith, w.few);
      room = w.room;
      are = w.are ∙ sym (append-nil (sought_before s d sizes marks j))
          ∙ ap (λ (r : List ℕ). sought_before s d sizes marks j ++ r) (sym e) ∙ sym before_on;
    }

    pub seeking-other : (c ≡ Kind.Function → ⊥) → Seeking s d sizes marks (j + 1) n l
    unfolding those
    seeking-other h = none-on (rw (tree-kind (doc_of d) j, ← ec, ne_eqb c Kind.Function h))

    pub seeking-not : c ≡ Kind.Function → (b : Bool) → b ≡ kept j → not b ≡ true → Seeking s d sizes marks (j + 1) n l
    unfolding those
    seeking-not h b eb e = none-on
        (let k : kept j ≡ false = sym eb ∙ not-true b e in
        rw (tree-kind (doc_of d) j, ← ec, eq-eqb c Kind.Function h, k))

    pub seeking-one : c ≡ Kind.Function → (b : Bool) → b ≡ kept j → not b ≡ false → n < length l
        → Seeking s d sizes marks (j + 1) (n + 1) (set l n j)
    unfolding those
    seeking-one h b eb e g =
        let k : kept j ≡ true = sym eb ∙ not-false b e in
        let o : those kept (one j) ≡ j ∷ [] = rw (tree-kind (doc_of d) j, ← ec, eq-eqb c Kind.Function h, k) in
        record {
          few = omega (arith, w.few);
          room = omega (arith, length-set l n j);
          are = ap (λ (i : ℕ). take i (set l n j)) (add-one n) ∙ take-suc-set l n j g
              ∙ ap (λ (r : List ℕ). r ++ (j ∷ [])) w.are
              ∙ ap (λ (r : List ℕ). sought_before s d sizes marks j ++ r) (sym o) ∙ sym before_on;
        }

  pub seeking-end : {j n : ℕ} {l : List ℕ} (m : ℕ) → Seeking s d sizes marks j n l → j ≤ m → m ≤ j
      → Seeking s d sizes marks m n l
  seeking-end {j} {n} {l} m w h g = let e : j ≡ m = omega arith in subst (λ (i : ℕ). Seeking s d sizes marks i n l) e w

-- ---- what was listed is sorted, and each has a Name below it
those-mem : (q : ℕ → Bool) (l : List ℕ) {x : ℕ} → Memᴰ x (those q l) → Memᴰ x l
unfolding those
those-mem q [] m = m
those-mem q (y ∷ l) {x} m = go (q y) m (those-mem q l)
  where
    go : (b : Bool) → Memᴰ x (pick b (y ∷ those q l) (those q l)) → (Memᴰ x (those q l) → Memᴰ x l)
        → Memᴰ x (y ∷ l)
    go true (Memᴰ.head e) r = Memᴰ.head e
    go true (Memᴰ.tail o) r = Memᴰ.tail (r o)
    go false o r = Memᴰ.tail (r o)

module _ (s d : List ℕ) (sizes : Sizes) (zd : Declared d sizes.schema) (zs : Sound s sizes.statement) (marks : List Bool) where
  abbrev all : List ℕ
  all = sought_before s d sizes marks sizes.schema.tokens

  all_named : AllNamed (doc_of d) Function all
  all_named i h =
      named-at (those-mem (is_sought s d sizes marks) (over (of_kind (tree_of (doc_of d)) Kind.Function) 0 sizes.schema.tokens)
      (mem-at all i h))
    where
      named-at : {x : ℕ} → Memᴰ x (over (of_kind (tree_of (doc_of d)) Kind.Function) 0 sizes.schema.tokens) → NameAt (doc_of d) (x + 1)
      named-at {x} m = below-named s d sizes zd zs Kind.Function function-entered x m

  pub sought-named : {fs : List ℕ} → fs ≡ sought_by_name s d sizes marks → AllNamed (doc_of d) Function fs
  unfolding sought_by_name
  sought-named e = subst (AllNamed (doc_of d) Function) (sym e) (named-sorted (doc_of d) Function all all_named)

  pub sought-rises : {fs : List ℕ} → fs ≡ sought_by_name s d sizes marks → Rises (folded_below (tree_of (doc_of d))) fs
  unfolding sought_by_name
  sought-rises e = subst (λ (l : List ℕ). Rises (folded_below (tree_of (doc_of d))) l) (sym e)
      (sorted_rises (folded_below (tree_of (doc_of d))) all)

  module _ {n : ℕ} {l : List ℕ} (w : Seeking s d sizes marks sizes.schema.tokens n l) where
    pub seeking-named : AllNamed (doc_of d) Function (take n l)
    seeking-named = subst (AllNamed (doc_of d) Function) (sym w.are) all_named

    pub seeking-sorted : {ys : List ℕ} → ys ≡ sorted (text_of (doc_of d) Function) (take n l)
        → (n ≤ length (ys ++ drop n l)) × (take n (ys ++ drop n l) ≡ sought_by_name s d sizes marks)
    unfolding sought_by_name
    seeking-sorted {ys} e =
        let m : length ys ≡ n = ap length e ∙ sorted-length (text_of (doc_of d) Function) (take n l)
        ∙ length-take-le n l w.room in (
          omega (arith, length-append ys (drop n l)),
          take_at ys (drop n l) n m ∙ e ∙ ap (sorted (text_of (doc_of d) Function)) w.are,
        )

-- ---- what is found among them
first-kept : (p keep : ℕ → Bool) (l : List ℕ) → ((i : ℕ) → first p l ≡ Some i → keep i ≡ true)
    → first p (those keep l) ≡ first p l
unfolding first those
first-kept p keep [] h = refl
first-kept p keep (x ∷ l) h = go (p x) refl (keep x) refl h (first-kept p keep l)
  where
    go : (a : Bool) → p x ≡ a → (b : Bool) → keep x ≡ b
        → ((i : ℕ) → pick a (Some x) (first p l) ≡ Some i → keep i ≡ true)
        → (((i : ℕ) → first p l ≡ Some i → keep i ≡ true) → first p (those keep l) ≡ first p l)
        → first p (pick b (x ∷ those keep l) (those keep l)) ≡ pick a (Some x) (first p l)
    go true e true f g r = rw e
    go true e false f g r = never (sym f ∙ g x refl)
    go false e true f g r = rw e (r g)
    go false e false f g r = r g

first-at : (p : ℕ → Bool) (l : List ℕ) (j : ℕ) → first p l ≡ Some j
    → (i : ℕ) × (i < length l) × (get_or l i 0 ≡ j)
unfolding first
first-at p [] j e = absurd (let o : ◌≡◌ {A = ℕ} 0 1 = cc in omega arith)
first-at p (x ∷ l) j e = go (p x) e (first-at p l j)
  where
    go : (b : Bool) → pick b (Some x) (first p l) ≡ Some j
        → (first p l ≡ Some j → (i : ℕ) × (i < length l) × (get_or l i 0 ≡ j))
        → (i : ℕ) × (i < length (x ∷ l)) × (get_or (x ∷ l) i 0 ≡ j)
    go true f r = (0, omega arith, let y : x ≡ j = cc in y)
    go false f r = let q = r f in (suc q.0, omega (arith, q.1), q.2)

-- one that is found stands among the tokens
pub found-low : (p : ℕ → Bool) (d fs : List ℕ) (sizes : Sizes) → Declared d sizes.schema
    → AllNamed (doc_of d) Function fs → {r : Option ℕ} → r ≡ first p fs → (j : ℕ) → r ≡ Some j → j < max_tokens
found-low p d fs sizes zd named e j h =
    let q = first-at p fs j (there-is (first p fs) j e h) in
    let a = named q.0 q.1 in
    omega (arith, q.2, a.inside, zd.sheet.tokens, zd.sheet.few_tokens)

-- a name that is marked, and is the first of its text
module _ (s d : List ℕ) (sizes : Sizes) (zd : Declared d sizes.schema) (zs : Sound s sizes.statement) (marks : List Bool)
    (m : Marked (texts_of d s) (all_names sizes) marks) (x : ℕ) (hx : x < all_names sizes)
    (own : least_same (texts_of d s) x ≡ x) (mx : get_or marks x false ≡ true) where
  abbrev named : ℕ → Bool
  named i = same_folded (text_at (texts_of d s) x) (name_below (tree_of (doc_of d)) i)

  -- the first function of that name in any case is sought
  module _ (i : ℕ) (e : first_function (tree_of (doc_of d)) (text_at (texts_of d s) x) 0 sizes.schema.tokens ≡ Some i) where
    high : i < sizes.schema.tokens
    high = (hit named (tree_of (doc_of d)) Kind.Function 0 sizes.schema.tokens i e).high

    kind : (tree_of (doc_of d)).kind i ≡ Kind.Function
    kind = (hit named (tree_of (doc_of d)) Kind.Function 0 sizes.schema.tokens i e).kind

    passes : same_folded (text_at (texts_of d s) x) (name_below (tree_of (doc_of d)) i) ≡ true
    passes = (hit named (tree_of (doc_of d)) Kind.Function 0 sizes.schema.tokens i e).passes

    name : NameAt (doc_of d) (i + 1)
    name = named-below d sizes.schema i Kind.Function zd high (sym (tree-kind (doc_of d) i) ∙ kind)
        (entered-named Kind.Function function-entered)

    abbrev v : ℕ
    v = value_of (doc_of d) (i + 1)

    inside : v < all_names sizes
    inside = inside-below s d sizes zd zs (i + 1) name

    text : text_at (texts_of d s) v ≡ name_below (tree_of (doc_of d)) i
    text = text-below s d sizes zd zs (i + 1) name

    alike : folded (text_at (texts_of d s) x) ≡ folded (text_at (texts_of d s) v)
    alike = same-is _ _ passes ∙ ap folded (sym text)

    marked : get_or marks (least_same (texts_of d s) v) false ≡ true
    marked = go (get_or marks (least_same (texts_of d s) v) false) refl
      where
        go : (b : Bool) → get_or marks (least_same (texts_of d s) v) false ≡ b
            → get_or marks (least_same (texts_of d s) v) false ≡ true
        go true f = f
        go false f =
            let q : text_at (texts_of d s) x ≡ text_at (texts_of d s) v = m.lone v inside f x hx alike in
            let u : least_same (texts_of d s) v ≡ x = sym (same-least (texts_of d s) x v q) ∙ own in
            never (sym f ∙ ap (λ (k : ℕ). get_or marks k false) u ∙ mx)

    none_before : first_named (tree_of (doc_of d)) Kind.Function (name_below (tree_of (doc_of d)) i) 0 i ≡ None
    none_before = go (first_named (tree_of (doc_of d)) Kind.Function (name_below (tree_of (doc_of d)) i) 0 i) refl
      where
        go : (o : Option ℕ) → first_named (tree_of (doc_of d)) Kind.Function (name_below (tree_of (doc_of d)) i) 0 i ≡ o
            → first_named (tree_of (doc_of d)) Kind.Function (name_below (tree_of (doc_of d)) i) 0 i ≡ None
        go None f = f
        go (Some k) f =
            let r = hit (λ a. same_text (name_below (tree_of (doc_of d)) i) (name_below (tree_of (doc_of d)) a))
            (tree_of (doc_of d)) Kind.Function 0 i k f in
            let g = hit-first named (tree_of (doc_of d)) Kind.Function 0 sizes.schema.tokens i k e (omega arith) r.high r.kind in
            never (sym g ∙ subst (λ (a : List ℕ). same_folded (text_at (texts_of d s) x) a ≡ true) (same-is _ _ r.passes) passes)

    own-entry : first_with (doc_of d) (texts_of d s) Kind.Function sizes.schema.tokens (least_same (texts_of d s) v) ≡ i + 1
    own-entry =
        with-named s d sizes zd zs Kind.Function function-entered v inside
        ∙ ap (λ (a : List ℕ). entry_of (first_named (tree_of (doc_of d)) Kind.Function a 0 sizes.schema.tokens)) text
        ∙ ap entry_of (first-own (tree_of (doc_of d)) Kind.Function i sizes.schema.tokens high kind none_before)

    found-sought : is_sought s d sizes marks i ≡ true
    found-sought = true-both marked (eq-eqb _ _ own-entry)

  -- so there is none where no number that is marked is a Function's by exact name
  pub none_found : ((y : ℕ) → y < all_names sizes → get_or marks y false ≡ true
      → first_with (doc_of d) (texts_of d s) Kind.Function sizes.schema.tokens y ≡ 0)
      → first_function (tree_of (doc_of d)) (text_at (texts_of d s) x) 0 sizes.schema.tokens ≡ None
  none_found n = go (first_function (tree_of (doc_of d)) (text_at (texts_of d s) x) 0 sizes.schema.tokens) refl
    where
      go : (o : Option ℕ) → first_function (tree_of (doc_of d)) (text_at (texts_of d s) x) 0 sizes.schema.tokens ≡ o
          → first_function (tree_of (doc_of d)) (text_at (texts_of d s) x) 0 sizes.schema.tokens ≡ None
      go None f = f
      go (Some i) f =
          let l : least_same (texts_of d s) (v i f) < all_names sizes = omega (
            arith,
            inside i f,
            least-low (texts_of d s) (v i f) (in-texts s d sizes zd.sheet zs (v i f) (inside i f)),
          ) in
          absurd (omega (arith, own-entry i f, n (least_same (texts_of d s) (v i f)) l (marked i f)))

  -- and it is the first of those that are sought, by name
  pub sought-found : {fs : List ℕ} → fs ≡ sought_by_name s d sizes marks
      → first named fs ≡ first_function (tree_of (doc_of d)) (text_at (texts_of d s) x) 0 sizes.schema.tokens
  unfolding sought_by_name searched
  sought-found e =
      ap (first named) e
      ∙ first-turned (tree_of (doc_of d)) (text_at (texts_of d s) x)
      (sorted (folded_below (tree_of (doc_of d))) (sought_before s d sizes marks sizes.schema.tokens))
      ∙ first-sorted (folded_below (tree_of (doc_of d))) (folded (text_at (texts_of d s) x))
      (sought_before s d sizes marks sizes.schema.tokens)
      ∙ sym (first-turned (tree_of (doc_of d)) (text_at (texts_of d s) x) (sought_before s d sizes marks sizes.schema.tokens))
      ∙ first-kept named (is_sought s d sizes marks)
      (over (of_kind (tree_of (doc_of d)) Kind.Function) 0 sizes.schema.tokens) found-sought
