-- One name of an element more: its properties are entered, or it was met before and changes nothing.
use mathlib.Core.Path.{◌≡◌, refl, sym, ap, subst, ◌∙◌}
use mathlib.Core.Bool.{Bool, true, false}
use mathlib.Core.List.Memᴰ
use mathlib.Core.List.{List, [], ◌∷◌, ◌++◌, Memᴰ}
use Prim.Native.Nat.{ℕ, ◌+◌, ◌/◌, ◌≤◌, ◌<◌}
use native.Mathlib.Omega.{arith}
use lib.Dec.{eqb}
use lib.ListN.{length, get_or, set}
use Rattle.lists.specs.Lists.{pick, table, each, any_of}
use Rattle.lists.proofs.Tests.{never}
use Rattle.text.specs.Text.{is_text}
use Rattle.frame.specs.Doc.{doc_of, kind_of, value_of}
use Rattle.frame.specs.declared.Sizes.{Sizes}
use Rattle.rules.specs.Kinds as Kind
use Rattle.grammar.specs.Tree.{Tree, tree_of, texts}
use Rattle.grammar.specs.Inner.{NameAt}
use Rattle.grammar.proofs.Flat.{tree-kind, tree-value}
use Rattle.schema.specs.Inner.{Owning, first_named}
use Rattle.schema.proofs.Named.{named-below, property-named}
use Rattle.schema.proofs.Searches.{hit, mem-kind}
use Rattle.provider.specs.Scanned.{decl_end}
use Rattle.provider.proofs.Items.{items-between, property-item, label-owns, rel-type-owns}
use Rattle.provider.proofs.Lookups.{item-range}
use Rattle.numbers.specs.Least.{all_names, texts_of, place_of}
use Rattle.numbers.proofs.Texts.{texts-length, in-texts}
use Rattle.register.specs.Register.{Registered}
use Rattle.register.proofs.Names.{schema-text, schema-inside, statement-text, statement-inside}
use Rattle.breach.specs.Breach.{is_element, names_of, statement_in}
use Rattle.marks.specs.Marks.{marked}
use Rattle.marks.proofs.Laws.{marked_more, marks-are}
use Rattle.properties.specs.Entering.{entered_each, properties_at, property_tokens, owner_kind, tokens_for, EntriesOf, PropertiesOf, Element, Clear}
use Rattle.lists.proofs.Joins.{each_append, each-one, each-mem, table-snoc}
use Rattle.text.proofs.Among.{text-mem}
use Rattle.properties.proofs.Entered.{each_append as entered-append, each-kept, each-filled, entries-of}
use Rattle.std.specs.Prelude.{Option, Some, None}

pub owner_owns : (k : ℕ) → Owning (owner_kind k)
owner_owns k = go (eqb k Kind.Node)
  where
    go : (b : Bool) → Owning (pick b Kind.Label Kind.RelType)
    go true = label-owns
    go false = rel-type-owns

-- of the names xs the tokens P are entered, and of x as well, unless that changes nothing
name-more : (ts : List (List ℕ)) (t : Tree) (P : List ℕ → List ℕ) (xs : List (List ℕ)) (x e₀ l l' : List ℕ) (b : Bool)
    → l ≡ entered_each ts t (each P xs) e₀ → l' ≡ pick b l (entered_each ts t (P x) l)
    → (b ≡ true → entered_each ts t (P x) (entered_each ts t (each P xs) e₀) ≡ entered_each ts t (each P xs) e₀)
    → l' ≡ entered_each ts t (each P (xs ++ (x ∷ []))) e₀
name-more ts t P xs x e₀ l l' b e h same = h ∙ go b same ∙ sym whole
  where
    whole : entered_each ts t (each P (xs ++ (x ∷ []))) e₀ ≡ entered_each ts t (P x) (entered_each ts t (each P xs) e₀)
    whole =
        ap (λ (ps : List ℕ). entered_each ts t ps e₀) (each_append P xs (x ∷ []) ∙ ap (λ (ps : List ℕ). each P xs ++ ps) (each-one P x))
        ∙ entered-append ts t (each P xs) (P x) e₀

    go : (b : Bool) → (b ≡ true → entered_each ts t (P x) (entered_each ts t (each P xs) e₀) ≡ entered_each ts t (each P xs) e₀)
        → pick b l (entered_each ts t (P x) l) ≡ entered_each ts t (P x) (entered_each ts t (each P xs) e₀)
    go true same = e ∙ sym (same refl)
    go false same = ap (entered_each ts t (P x)) e

module _ (s d : List ℕ) (sizes : Sizes) (reg : List ℕ) (z : Registered s d sizes reg) (k : ℕ) (o : Owning k) where
  -- a property of a declaration that was found is a Property token
  pub property-token : (n : List ℕ) (p : ℕ) → Memᴰ p (property_tokens (tree_of (doc_of d)) k sizes.schema.tokens n)
      → (p < sizes.schema.tokens) × (kind_of (doc_of d) p ≡ Kind.Property)
  property-token n p m = go (first_named (tree_of (doc_of d)) k n 0 sizes.schema.tokens) refl m
    where
      go : (q : Option ℕ) → first_named (tree_of (doc_of d)) k n 0 sizes.schema.tokens ≡ q → Memᴰ p (properties_at (tree_of (doc_of d)) q)
          → (p < sizes.schema.tokens) × (kind_of (doc_of d) p ≡ Kind.Property)
      go None e m = absurd (Memᴰ.not-nil m)
      go (Some i) e m =
          let h = hit _ _ _ _ _ _ e in
          let w = items-between z.schema i (decl_end (tree_of (doc_of d)) i) k Kind.Property h.high
          (sym (tree-kind (doc_of d) i) ∙ h.kind) o property-item refl in
          let r = item-range d sizes.schema z.schema i (decl_end (tree_of (doc_of d)) i) h.high refl in
          let u = mem-kind (tree_of (doc_of d)) Kind.Property (i + 1) (decl_end (tree_of (doc_of d)) i)
          (subst (λ (l : List ℕ). Memᴰ p l) (sym w) m) in
          (omega (arith, u.1, r.1), sym (tree-kind (doc_of d) p) ∙ u.2)

  property-name : (p : ℕ) → p < sizes.schema.tokens → kind_of (doc_of d) p ≡ Kind.Property → NameAt (doc_of d) (p + 1)
  property-name p h e = named-below d sizes.schema p Kind.Property z.schema h e property-named

  -- a name met before changes nothing
  again : (xs : List (List ℕ)) (x : List ℕ) (l : List ℕ) → all_names sizes ≤ length l → is_text xs x ≡ true
      → entered_each (texts_of d s) (tree_of (doc_of d)) (property_tokens (tree_of (doc_of d)) k sizes.schema.tokens x)
      (entered_each (texts_of d s) (tree_of (doc_of d)) (each (property_tokens (tree_of (doc_of d)) k sizes.schema.tokens) xs) l)
      ≡ entered_each (texts_of d s) (tree_of (doc_of d)) (each (property_tokens (tree_of (doc_of d)) k sizes.schema.tokens) xs) l
  again xs x l room e =
      each-kept (texts_of d s) (tree_of (doc_of d)) (property_tokens (tree_of (doc_of d)) k sizes.schema.tokens x) _ (λ p m.
      let u = property-token x p m in
      let n = property-name p u.0 u.1 in
      each-filled (texts_of d s) (tree_of (doc_of d)) (value_of (doc_of d) (p + 1))
      (in-texts s d sizes z.schema.sheet z.statement _ (schema-inside s d sizes reg z (p + 1) n))
      (each (property_tokens (tree_of (doc_of d)) k sizes.schema.tokens) xs) l p
      (each-mem (property_tokens (tree_of (doc_of d)) k sizes.schema.tokens) xs x (text-mem xs x e) m)
      (omega (arith, texts-length s d sizes z.schema.sheet z.statement))
      (sym (schema-text s d sizes reg z (p + 1) n)))

  -- one name more, at token `at + c` of the statement
  module _ (at c : ℕ) (e₀ d₀ : List ℕ) (ze : Clear (all_names sizes) e₀) (zd : Clear (all_names sizes) d₀) (n : NameAt (doc_of s) (at + c)) where
    more : texts (tree_of (doc_of s)) at (c + 1) ≡ texts (tree_of (doc_of s)) at c ++ ((tree_of (doc_of s)).text (at + c) ∷ [])
    more = table-snoc (λ j. (tree_of (doc_of s)).text j) at c

    pub done_more : (done done' : List ℕ) → done ≡ marked (texts_of d s) (texts (tree_of (doc_of s)) at c) d₀
        → done' ≡ set done (place_of (texts_of d s) ((tree_of (doc_of s)).text (at + c))) 1
        → done' ≡ marked (texts_of d s) (texts (tree_of (doc_of s)) at (c + 1)) d₀
    done_more done done' e h =
        h ∙ ap (λ (l : List ℕ). set l (place_of (texts_of d s) ((tree_of (doc_of s)).text (at + c))) 1) e
        ∙ sym (marked_more (texts_of d s) (texts (tree_of (doc_of s)) at c) ((tree_of (doc_of s)).text (at + c)) d₀)
        ∙ ap (λ (ns : List (List ℕ)). marked (texts_of d s) ns d₀) (sym more)

    met : (done : List ℕ) → done ≡ marked (texts_of d s) (texts (tree_of (doc_of s)) at c) d₀
        → eqb (get_or done (place_of (texts_of d s) ((tree_of (doc_of s)).text (at + c))) 0) 1
        ≡ is_text (texts (tree_of (doc_of s)) at c) ((tree_of (doc_of s)).text (at + c))
    met done e =
        let t = statement-text s d sizes reg z (at + c) n in
        let a = (marks-are (texts_of d s) (texts (tree_of (doc_of s)) at c) d₀ zd.each
        (omega (arith, zd.room, texts-length s d sizes z.schema.sheet z.statement))).each
        (sizes.schema.names + value_of (doc_of s) (at + c))
        (in-texts s d sizes z.schema.sheet z.statement _ (statement-inside s d sizes reg z (at + c) n)) in
        rw e (rw t at a)

    pub entered-more : (done entered entered' : List ℕ) → done ≡ marked (texts_of d s) (texts (tree_of (doc_of s)) at c) d₀
        → entered ≡ entered_each (texts_of d s) (tree_of (doc_of d))
        (each (property_tokens (tree_of (doc_of d)) k sizes.schema.tokens) (texts (tree_of (doc_of s)) at c)) e₀
        → entered' ≡ pick (eqb (get_or done (place_of (texts_of d s) ((tree_of (doc_of s)).text (at + c))) 0) 1) entered
        (entered_each (texts_of d s) (tree_of (doc_of d)) (property_tokens (tree_of (doc_of d)) k sizes.schema.tokens ((tree_of (doc_of s)).text (at + c))) entered)
        → entered' ≡ entered_each (texts_of d s) (tree_of (doc_of d))
        (each (property_tokens (tree_of (doc_of d)) k sizes.schema.tokens) (texts (tree_of (doc_of s)) at (c + 1))) e₀
    entered-more done entered entered' ed ee h =
        name-more (texts_of d s) (tree_of (doc_of d)) (property_tokens (tree_of (doc_of d)) k sizes.schema.tokens) (texts (tree_of (doc_of s)) at c)
        ((tree_of (doc_of s)).text (at + c)) e₀ entered entered' _ ee h
        (λ b. again (texts (tree_of (doc_of s)) at c) ((tree_of (doc_of s)).text (at + c)) e₀ ze.room (sym (met done ed) ∙ b))
        ∙ ap (λ (ns : List (List ℕ)). entered_each (texts_of d s) (tree_of (doc_of d)) (each (property_tokens (tree_of (doc_of d)) k sizes.schema.tokens) ns) e₀) (sym more)

-- an element is no Name
pub not-a-name : (k : ℕ) → is_element k ≡ true → k ≡ 50 → ⊥
unfolding any_of
not-a-name k e h = never (rw h at e)

-- ---- the names of the element i in turn, of which the first c are entered
pub record Going (s d : List ℕ) (sizes : Sizes) (i kind many : ℕ) (e₀ d₀ : List ℕ) (c : ℕ) (entered done : List ℕ) : Type 0 where
  pub low : c ≤ many
  pub size₁ : length entered ≡ length e₀
  pub size₂ : length done ≡ length d₀
  pub entries : entered ≡ entered_each (texts_of d s) (tree_of (doc_of d))
      (each (property_tokens (tree_of (doc_of d)) kind sizes.schema.tokens) (texts (tree_of (doc_of s)) (i + 3) c)) e₀
  pub marks : done ≡ marked (texts_of d s) (texts (tree_of (doc_of s)) (i + 3) c) d₀

pub going_start : (s d : List ℕ) (sizes : Sizes) (i kind many : ℕ) (e₀ d₀ : List ℕ) → Going s d sizes i kind many e₀ d₀ 0 e₀ d₀
unfolding table each entered_each marked
going_start s d sizes i kind many e₀ d₀ =
    record { low = omega arith; size₁ = refl; size₂ = refl; entries = refl; marks = refl }

module _ (s d : List ℕ) (sizes : Sizes) (reg : List ℕ) (i : ℕ) (z : Element s d sizes reg i) (kind many : ℕ)
    (ek : kind ≡ owner_kind ((statement_in s).kind i)) (em : many ≡ value_of (doc_of s) i / 2) (e₀ d₀ : List ℕ) (ze : Clear (all_names sizes) e₀)
    (zd : Clear (all_names sizes) d₀) where
  owns : Owning kind
  owns = rw ek (owner_owns ((statement_in s).kind i))

  module _ (c : ℕ) (entered done : List ℕ) (zg : Going s d sizes i kind many e₀ d₀ c entered done) (h : c < many) where
    name-here : NameAt (doc_of s) (i + 3 + c)
    name-here = z.names c (omega (arith, em))

    pub going-asks : (Owning kind) × (NameAt (doc_of s) (i + 3 + c)) × (all_names sizes ≤ length entered) × (all_names sizes ≤ length done)
    going-asks = (owns, name-here, omega (arith, zg.size₁, ze.room), omega (arith, zg.size₂, zd.room))

    pub going_more : (entered' done' : List ℕ) → length entered' ≡ length entered → length done' ≡ length done
        → entered' ≡ pick (eqb (get_or done (place_of (texts_of d s) ((tree_of (doc_of s)).text (i + 3 + c))) 0) 1) entered
        (entered_each (texts_of d s) (tree_of (doc_of d)) (property_tokens (tree_of (doc_of d)) kind sizes.schema.tokens ((tree_of (doc_of s)).text (i + 3 + c))) entered)
        → done' ≡ set done (place_of (texts_of d s) ((tree_of (doc_of s)).text (i + 3 + c))) 1
        → Going s d sizes i kind many e₀ d₀ (c + 1) entered' done'
    going_more entered' done' l₁ l₂ he hd =
        record {
          low = omega arith;
          size₁ = l₁ ∙ zg.size₁;
          size₂ = l₂ ∙ zg.size₂;
          entries = entered-more s d sizes reg z.register kind owns (i + 3) c e₀ d₀ ze zd name-here done entered entered' zg.marks zg.entries he;
          marks = done_more s d sizes reg z.register kind owns (i + 3) c e₀ d₀ ze zd name-here done done' zg.marks hd;
        }

  pub going_end : (c : ℕ) (entered done : List ℕ) → Going s d sizes i kind many e₀ d₀ c entered done → many ≤ c → PropertiesOf s d sizes i entered
  going_end c entered done zg h =
      let e : c ≡ many = omega (arith, zg.low) in
      let a = entries-of (texts_of d s) (tree_of (doc_of d))
      (each (property_tokens (tree_of (doc_of d)) kind sizes.schema.tokens) (texts (tree_of (doc_of s)) (i + 3) c)) e₀ ze.each
      (omega (arith, ze.room, texts-length s d sizes z.register.schema.sheet z.register.statement)) in
      let v : (statement_in s).value i ≡ value_of (doc_of s) i = tree-value (doc_of s) i (not-a-name (kind_of (doc_of s) i) z.element) in
      let q : each (property_tokens (tree_of (doc_of d)) kind sizes.schema.tokens) (texts (tree_of (doc_of s)) (i + 3) c)
      ≡ tokens_for d sizes ((statement_in s).kind i) (names_of (statement_in s) i) =
      rw (v, ← em, ← e, ← ek) in
      subst (λ (l : List ℕ). EntriesOf (texts_of d s) (tree_of (doc_of d)) (tokens_for d sizes ((statement_in s).kind i) (names_of (statement_in s) i)) l)
      (sym zg.entries)
      (subst (λ (ps : List ℕ). EntriesOf (texts_of d s) (tree_of (doc_of d)) ps (entered_each (texts_of d s) (tree_of (doc_of d))
      (each (property_tokens (tree_of (doc_of d)) kind sizes.schema.tokens) (texts (tree_of (doc_of s)) (i + 3) c)) e₀)) q a)
