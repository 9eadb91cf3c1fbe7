-- The names of an element in turn, of which the tuples are held against marked keys; and the keys of a Map in turn,
-- which are marked.
use mathlib.Core.Path.{◌≡◌, refl, sym, ap, ◌∙◌}
use mathlib.Core.List.{List, [], ◌∷◌, ◌++◌}
use Prim.Native.Nat.{ℕ, ◌+◌, ◌*◌, ◌/◌, ◌≤◌, ◌<◌}
use native.Mathlib.Omega.{arith}
use lib.Dec.{eqb}
use lib.ListN.{length, get_or, set}
use Rattle.lists.specs.Lists.{pick, table, each}
use Rattle.text.specs.Text.{is_text}
use Rattle.frame.specs.Doc.{doc_of, kind_of, value_of}
use Rattle.frame.specs.declared.Sizes.{Sizes}
use Rattle.grammar.specs.Tree.{tree_of, child, texts}
use Rattle.grammar.specs.Inner.{NameAt}
use Rattle.grammar.proofs.Flat.{tree-value}
use Rattle.schema.specs.Inner.{Owning}
use Rattle.numbers.specs.Least.{all_names, texts_of, place_of}
use Rattle.numbers.proofs.Texts.{texts-length, in-texts}
use Rattle.register.specs.Register.{Registered}
use Rattle.register.proofs.Names.{statement-text, statement-inside}
use Rattle.marks.specs.Marks.{marked, MarksOf}
use Rattle.marks.proofs.Laws.{marked_more, marks-are}
use Rattle.provider.specs.declared.Backing.{Backing}
use Rattle.provider.specs.declared.Backing.TheVariants.{NoTuple}
use Rattle.provider.specs.Schema.{Owner, owner_of, tuples_in, tuples_of}
use Rattle.provider.specs.Inner.{map_keys, owners_of, backing_of}
use Rattle.breach.specs.Breach.{names_of, props_of, keys_of, owners, statement_in, schema_in}
use Rattle.properties.specs.Entering.{owner_kind, Element, Clear}
use Rattle.lists.proofs.Joins.{table-snoc}
use Rattle.properties.proofs.Names.{owner_owns, not-a-name}
use Rattle.properties.proofs.Found.{owners_of_lem}
use Rattle.judge.specs.Merged.{joined_with}
use Rattle.judge.proofs.Backed.{names_more}

-- ---- the first c names of the element i
abbrev pub tuples_by : List ℕ → ℕ → List ℕ → List (List (List ℕ))
tuples_by d kind n = tuples_in (owner_of (owners_of (tree_of (doc_of d)) kind) n)

pub record Going (d : List ℕ) (s : List ℕ) (i kind many : ℕ) (ks : List (List ℕ)) (d₀ : List ℕ) (c : ℕ) (done : List ℕ) (total : Backing) : Type 0 where
  pub low : c ≤ many
  pub size : length done ≡ length d₀
  pub so_far : total ≡ backing_of (each (tuples_by d kind) (texts (tree_of (doc_of s)) (i + 3) c)) ks
  pub marks : done ≡ marked (texts_of d s) (texts (tree_of (doc_of s)) (i + 3) c) d₀

pub going_start : (d s : List ℕ) (i kind many : ℕ) (ks : List (List ℕ)) (d₀ : List ℕ) → Going d s i kind many ks d₀ 0 d₀ NoTuple
unfolding table each backing_of marked
going_start d s i kind many ks d₀ = record { low = omega arith; size = refl; so_far = refl; marks = refl }

module _ (s d : List ℕ) (sizes : Sizes) (reg : List ℕ) (i : ℕ) (z : Element s d sizes reg i) (kind many : ℕ)
    (ek : kind ≡ owner_kind ((statement_in s).kind i)) (em : many ≡ value_of (doc_of s) i / 2) (ks : List (List ℕ)) (d₀ : List ℕ)
    (zd : Clear (all_names sizes) d₀) where
  owns : Owning kind
  owns = rw ek (owner_owns ((statement_in s).kind i))

  module _ (c : ℕ) (done : List ℕ) (total : Backing) (zg : Going d s i kind many ks d₀ c done total) (h : c < many) where
    name-here : NameAt (doc_of s) (i + 3 + c)
    name-here = z.names c (omega (arith, em))

    pub going-asks : (Owning kind) × (NameAt (doc_of s) (i + 3 + c)) × (all_names sizes ≤ length done)
    going-asks = (owns, name-here, omega (arith, zg.size, zd.room))

    met : eqb (get_or done (place_of (texts_of d s) ((tree_of (doc_of s)).text (i + 3 + c))) 0) 1
        ≡ is_text (texts (tree_of (doc_of s)) (i + 3) c) ((tree_of (doc_of s)).text (i + 3 + c))
    met =
        let t = statement-text s d sizes reg z.register (i + 3 + c) name-here in
        let a = (marks-are (texts_of d s) (texts (tree_of (doc_of s)) (i + 3) c) d₀ zd.each
        (omega (arith, zd.room, texts-length s d sizes z.register.schema.sheet z.register.statement))).each
        (sizes.schema.names + value_of (doc_of s) (i + 3 + c))
        (in-texts s d sizes z.register.schema.sheet z.register.statement _ (statement-inside s d sizes reg z.register (i + 3 + c) name-here)) in
        rw zg.marks (rw t at a)

    more : texts (tree_of (doc_of s)) (i + 3) (c + 1)
        ≡ texts (tree_of (doc_of s)) (i + 3) c ++ ((tree_of (doc_of s)).text (i + 3 + c) ∷ [])
    more = table-snoc (λ j. (tree_of (doc_of s)).text j) (i + 3) c

    pub going_more : (done' : List ℕ) (b total' : Backing) → length done' ≡ length done
        → b ≡ pick (eqb (get_or done (place_of (texts_of d s) ((tree_of (doc_of s)).text (i + 3 + c))) 0) 1) NoTuple
        (backing_of (tuples_by d kind ((tree_of (doc_of s)).text (i + 3 + c))) ks)
        → done' ≡ set done (place_of (texts_of d s) ((tree_of (doc_of s)).text (i + 3 + c))) 1
        → total' ≡ joined_with total b → Going d s i kind many ks d₀ (c + 1) done' total'
    going_more done' b total' l eb hd et =
        record {
          low = omega arith;
          size = l ∙ zg.size;
          so_far =
              names_more (tuples_by d kind) ks (texts (tree_of (doc_of s)) (i + 3) c) ((tree_of (doc_of s)).text (i + 3 + c)) _ total b total'
              zg.so_far met eb et
              ∙ ap (λ (ns : List (List ℕ)). backing_of (each (tuples_by d kind) ns) ks) (sym more);
          marks =
              hd ∙ ap (λ (m : List ℕ). set m (place_of (texts_of d s) ((tree_of (doc_of s)).text (i + 3 + c))) 1) zg.marks
              ∙ sym (marked_more (texts_of d s) (texts (tree_of (doc_of s)) (i + 3) c) ((tree_of (doc_of s)).text (i + 3 + c)) d₀)
              ∙ ap (λ (ns : List (List ℕ)). marked (texts_of d s) ns d₀) (sym more);
        }

  pub going_end : (c : ℕ) (done : List ℕ) (total : Backing) → Going d s i kind many ks d₀ c done total → many ≤ c
      → total ≡ backing_of (tuples_of (owners (schema_in d) ((statement_in s).kind i)) (names_of (statement_in s) i)) ks
  going_end c done total zg h =
      let e : c ≡ many = omega (arith, zg.low) in
      let v : (statement_in s).value i ≡ value_of (doc_of s) i = tree-value (doc_of s) i (not-a-name (kind_of (doc_of s) i) z.element) in
      zg.so_far
      ∙ ap (λ (m : ℕ). backing_of (each (tuples_by d kind) (texts (tree_of (doc_of s)) (i + 3) m)) ks) (e ∙ em ∙ ap (λ (w : ℕ). w / 2) (sym v))
      ∙ ap (λ (k : ℕ). backing_of (each (tuples_by d k) (names_of (statement_in s) i)) ks) ek
      ∙ ap (λ (o : List Owner). backing_of (tuples_of o (names_of (statement_in s) i)) ks) (sym (owners_of_lem (tree_of (doc_of d)) ((statement_in s).kind i)))

-- ---- the first k keys of the Map at m
pub keys-start : (d s : List ℕ) (m : ℕ) (l : List ℕ)
    → l ≡ marked (texts_of d s) (table (λ k. (tree_of (doc_of s)).text (child (tree_of (doc_of s)) m (2 * k))) 0 0) l
unfolding table marked
keys-start d s m l = refl

pub keys-more : (d s : List ℕ) (m k at : ℕ) (l₀ l l' : List ℕ) → at ≡ child (tree_of (doc_of s)) m (2 * k)
    → l ≡ marked (texts_of d s) (table (λ k. (tree_of (doc_of s)).text (child (tree_of (doc_of s)) m (2 * k))) 0 k) l₀
    → l' ≡ set l (place_of (texts_of d s) ((tree_of (doc_of s)).text at)) 1
    → l' ≡ marked (texts_of d s) (table (λ k. (tree_of (doc_of s)).text (child (tree_of (doc_of s)) m (2 * k))) 0 (k + 1)) l₀
keys-more d s m k at l₀ l l' ea el e =
    let o : 0 + k ≡ k = omega arith in
    e ∙ ap (λ (j : ℕ). set l (place_of (texts_of d s) ((tree_of (doc_of s)).text j)) 1) ea
    ∙ ap (λ (r : List ℕ). set r (place_of (texts_of d s) ((tree_of (doc_of s)).text (child (tree_of (doc_of s)) m (2 * k)))) 1) el
    ∙ sym (marked_more (texts_of d s) (table (λ k. (tree_of (doc_of s)).text (child (tree_of (doc_of s)) m (2 * k))) 0 k)
    ((tree_of (doc_of s)).text (child (tree_of (doc_of s)) m (2 * k))) l₀)
    ∙ ap (λ (ns : List (List ℕ)). marked (texts_of d s) ns l₀)
    (sym (table-snoc (λ k. (tree_of (doc_of s)).text (child (tree_of (doc_of s)) m (2 * k))) 0 k
    ∙ ap (λ (j : ℕ). table (λ k. (tree_of (doc_of s)).text (child (tree_of (doc_of s)) m (2 * k))) 0 k
    ++ ((tree_of (doc_of s)).text (child (tree_of (doc_of s)) m (2 * j)) ∷ [])) o))

pub keys-end : (d s : List ℕ) (m k n : ℕ) (l₀ l : List ℕ) → k ≤ n → n ≤ k → n ≡ value_of (doc_of s) m → kind_of (doc_of s) m ≡ 14
    → l ≡ marked (texts_of d s) (table (λ k. (tree_of (doc_of s)).text (child (tree_of (doc_of s)) m (2 * k))) 0 k) l₀
    → l ≡ marked (texts_of d s) (map_keys (tree_of (doc_of s)) m) l₀
keys-end d s m k n l₀ l a b en ek e =
    let o : k ≡ n = omega arith in
    let v : (tree_of (doc_of s)).value m ≡ value_of (doc_of s) m = tree-value (doc_of s) m (λ q. omega arith) in
    e ∙ ap (λ (j : ℕ). marked (texts_of d s) (table (λ k. (tree_of (doc_of s)).text (child (tree_of (doc_of s)) m (2 * k))) 0 j) l₀)
    (o ∙ en ∙ sym v)

-- the marks, from a list of 0
pub keys-marked : (s d : List ℕ) (sizes : Sizes) (reg : List ℕ) (m : ℕ) (l₀ l : List ℕ) → Registered s d sizes reg
    → Clear (all_names sizes) l₀ → l ≡ marked (texts_of d s) (map_keys (tree_of (doc_of s)) m) l₀
    → MarksOf (texts_of d s) (map_keys (tree_of (doc_of s)) m) l
keys-marked s d sizes reg m l₀ l z c e =
    rw e (marks-are (texts_of d s) (map_keys (tree_of (doc_of s)) m) l₀ c.each
    (omega (arith, c.room, texts-length s d sizes z.schema.sheet z.statement)))

-- the keys of the Map that is an element's properties
pub keys-of : (s : List ℕ) (i m : ℕ) → m ≡ props_of (tree_of (doc_of s)) i → map_keys (tree_of (doc_of s)) m ≡ keys_of (statement_in s) i
keys-of s i m e = ap (map_keys (tree_of (doc_of s))) e
