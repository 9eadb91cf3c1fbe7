-- Tuples whose names lie among keys, and Aparts of labels, both by marks: one turn of each loop, and each way that it
-- ends.
use mathlib.Core.Bool.{Bool, true, false, not, ◌||◌}
use mathlib.Core.Path.{◌≡◌, refl, sym, ap, subst, ◌∙◌}
use mathlib.Core.List.{List, [], ◌∷◌, ◌++◌, map, Memᴰ}
use Prim.Native.Nat.{ℕ, ◌+◌, ◌-◌, ◌≤◌, ◌<◌}
use native.Mathlib.Omega.{arith}
use borrow.Author.Tests.{not-true, not-false}
use lib.Dec.{eqb}
use lib.ListN.{length, get_or, drop}
use Rattle.lists.specs.Lists.{pick, both, either, table, over, first, any_of, all_of, is_empty}
use Rattle.lists.proofs.Laws.{rest_more, rest-none, table_more, table_none, table-start, over-more, over_none}
use Rattle.text.specs.Text.{is_text}
use Rattle.frame.specs.Doc.{Doc, doc_of, kind_of, value_of}
use Rattle.frame.specs.declared.Sheet.{Sheet}
use Rattle.frame.specs.declared.Sizes.{Sizes}
use Rattle.rules.specs.declared.Place.TheVariants.{WholeSchema, Name}
use Rattle.rules.specs.Rules.{rules, opens, many}
use Rattle.grammar.specs.Tree.{Tree, tree_of, texts}
use Rattle.grammar.specs.Inner.{NameAt}
use Rattle.grammar.proofs.Flat.{tree-value, names-below}
use Rattle.schema.specs.Declarations.{of_kind, decls_of}
use Rattle.schema.specs.Scanned.{tokens_of}
use Rattle.schema.specs.Inner.{Declared, first_named}
use Rattle.schema.proofs.Named.{named-below, other-below, apart-named}
use Rattle.schema.proofs.Searches.{there-is, absent-is, any-map, mapped}
use Rattle.schema.proofs.Scans.{decls-are}
use Rattle.numbers.specs.Least as Least
use Rattle.numbers.specs.Least.{all_names, place_of}
use Rattle.numbers.proofs.Texts.{texts-length, in-texts}
use Rattle.register.specs.Register.{Registered}
use Rattle.register.proofs.Names.{schema-text, schema-inside}
use Rattle.register.proofs.Aparts.{apart-mem, apart-few, apart-there, apart-no-more}
use Rattle.marks.specs.Marks.{marked, MarksOf}
use Rattle.marks.proofs.Laws.{marks-are}
use Rattle.provider.specs.Schema.{Owner, items_of, owner_at, tuple_at, apart_at, schema_of, owner_of, tuples_in, apart_among}
use Rattle.provider.specs.Inner.{map_keys, Keyed, Labelled, owners_of, tuples_over, backing_of, apart_in, apart_marked}
use Rattle.provider.specs.declared.Backing.{Backing}
use Rattle.provider.specs.declared.Backing.TheVariants.{NoTuple, Unbacked, Backed}
use Rattle.provider.proofs.Items.{Searching}
use Rattle.provider.proofs.Lookups.{owner-is, apart-declares}
use Rattle.std.specs.Prelude.{Some, None, Option}

-- ---- a test of one after the other: of the rest, x is what one of them, or all of them, say
module _ {A : Type 0} (p : A → Bool) (l m : List A) (y : A) (el : l ≡ y ∷ m) (b x : Bool) (eb : b ≡ p y) where
  one-turn : any_of p l ≡ x → either b (any_of p m) ≡ x
  unfolding any_of
  one-turn i = rw eb (rw el at i)

  one_hit : any_of p l ≡ x → b ≡ true → true ≡ x
  one_hit i g = rw g at (one-turn i)

  one_on : any_of p l ≡ x → b ≡ false → any_of p m ≡ x
  one_on i g = rw g at (one-turn i)

  all-turn : all_of p l ≡ x → both b (all_of p m) ≡ x
  unfolding all_of
  all-turn i = rw eb (rw el at i)

  all-miss : all_of p l ≡ x → b ≡ false → false ≡ x
  all-miss i g = rw g at (all-turn i)

  all-on : all_of p l ≡ x → b ≡ true → all_of p m ≡ x
  all-on i g = rw g at (all-turn i)

one_end : {A : Type 0} (p : A → Bool) (l : List A) (x : Bool) → l ≡ [] → any_of p l ≡ x → false ≡ x
unfolding any_of
one_end p l x e i = rw e at i

all_end : {A : Type 0} (p : A → Bool) (l : List A) (x : Bool) → l ≡ [] → all_of p l ≡ x → true ≡ x
unfolding all_of
all_end p l x e i = rw e at i

-- ---- the Names of a tuple among texts
tuple-opens : (k v : ℕ) → k ≡ 111 → opens k v ≡ many v Name []
unfolding opens rules first any_of table
tuple-opens k v e = rw e

pub tuple-names : (s : List ℕ) (f : Sheet) (j v : ℕ) → Declared s f → j < f.tokens → kind_of (doc_of s) j ≡ 111 → v
    ≡ value_of (doc_of s) j
    → (c : ℕ) → c < v → NameAt (doc_of s) (j + 1 + c)
tuple-names s f j v z h e ev c l =
    names-below (doc_of s) WholeSchema z.read j v (omega (arith, z.sheet.tokens))
    (tuple-opens (kind_of (doc_of s) j) (value_of (doc_of s) j) e ∙ ap (λ (n : ℕ). many n Name []) (sym ev)) c l

pub tuple-start : (d : Doc) (j v : ℕ) (ks : List (List ℕ)) → kind_of d j ≡ 111 → v ≡ value_of d j
    → all_of (is_text ks) (texts (tree_of d) (j + 1 + 0) (v - 0)) ≡ all_of (is_text ks) (tuple_at (tree_of d) j)
tuple-start d j v ks e ev =
    let u : (tree_of d).value j ≡ v = tree-value d j (λ g. let z = sym e ∙ g in omega arith) ∙ sym ev in
    ap (all_of (is_text ks)) (table-start (λ i. (tree_of d).text i) (j + 1) v ∙ ap (texts (tree_of d) (j + 1)) (sym u))

module _ (t : Tree) (ks : List (List ℕ)) (a n i : ℕ) (x : Bool)
    (inv : all_of (is_text ks) (texts t (a + i) (n - i)) ≡ x) where
  module _ (b : Bool) (eb : b ≡ is_text ks (t.text (a + i))) (h : i < n) where
    pub tuple-miss : not b ≡ true → false ≡ x
    tuple-miss g = all-miss (is_text ks) _ _ _ (table_more (λ j. t.text j) a n i h) b x eb inv (not-true b g)

    pub tuple-on : not b ≡ false → all_of (is_text ks) (texts t (a + (i + 1)) (n - (i + 1))) ≡ x
    tuple-on g = all-on (is_text ks) _ _ _ (table_more (λ j. t.text j) a n i h) b x eb inv (not-false b g)

  pub tuple-end : n ≤ i → true ≡ x
  tuple-end h = all_end (is_text ks) _ x (table_none (λ j. t.text j) a n i h) inv

-- ---- several tuples: the answer, where one was seen before these or not
abbrev pub seen_of : Bool → List (List (List ℕ)) → List (List ℕ) → Backing
seen_of seen us ks = pick (any_of (λ u. all_of (is_text ks) u) us) Backed
    (pick (either seen (not (is_empty us))) Unbacked NoTuple)

pub seen_start : (us : List (List (List ℕ))) (ks : List (List ℕ)) → seen_of false us ks ≡ backing_of us ks
unfolding backing_of any_of
seen_start [] ks = refl
seen_start (u ∷ us) ks = refl

either_true : (b c : Bool) → either b true ≡ either (either b true) c
either_true true c = refl
either_true false c = refl

pub either-or : (b c : Bool) → (b || c) ≡ either b c
either-or true c = refl
either-or false c = refl

either-false : (b : Bool) → b ≡ either b false
either-false true = refl
either-false false = refl

backed-first : (a b : Bool) (r : Backing) → pick (either a b) Backed r ≡ pick a Backed (pick b Backed r)
backed-first true b r = refl
backed-first false b r = refl

seen-kind : (k seen : Bool) (u : List (List ℕ)) (us : List (List (List ℕ))) (ks : List (List ℕ))
    → seen_of seen (pick k (u ∷ us) us) ks ≡ pick (both k (all_of (is_text ks) u)) Backed (seen_of (either seen k) us ks)
unfolding any_of
seen-kind true seen u us ks =
    backed-first (all_of (is_text ks) u) (any_of (λ v. all_of (is_text ks) v) us) (pick (either seen true) Unbacked NoTuple)
    ∙ ap (λ (e : Bool). pick (all_of (is_text ks) u) Backed
    (pick (any_of (λ v. all_of (is_text ks) v) us) Backed (pick e Unbacked NoTuple)))
    (either_true seen (not (is_empty us)))
seen-kind false seen u us ks = ap (λ (b : Bool). seen_of b us ks) (either-false seen)

tuples-kind : (t : Tree) (j : ℕ) (is : List ℕ) (k : Bool) → map (tuple_at t) (pick k (j ∷ []) [] ++ is) ≡ pick k
    (tuple_at t j ∷ map (tuple_at t) is) (map (tuple_at t) is)
tuples-kind t j is true = refl
tuples-kind t j is false = refl

module _ (t : Tree) (ks : List (List ℕ)) (j to : ℕ) (seen : Bool) (x : Backing)
    (inv : seen_of seen (tuples_over t j to) ks ≡ x) where
  module _ (b : Bool) (eb : b ≡ both (eqb (t.kind j) 111) (all_of (is_text ks) (tuple_at t j))) (h : j < to) where
    seen-turn : pick b Backed (seen_of (either seen (eqb (t.kind j) 111)) (tuples_over t (j + 1) to) ks) ≡ x
    seen-turn =
        ap (λ (a : Bool). pick a Backed (seen_of (either seen (eqb (t.kind j) 111)) (tuples_over t (j + 1) to) ks)) eb
        ∙ sym (seen-kind (eqb (t.kind j) 111) seen (tuple_at t j) (tuples_over t (j + 1) to) ks)
        ∙ ap (λ (us : List (List (List ℕ))). seen_of seen us ks)
        (sym (tuples-kind t j (over (of_kind t 111) (j + 1) to) (eqb (t.kind j) 111)) ∙ ap (map (tuple_at t))
        (sym (over-more (of_kind t 111) j to h)))
        ∙ inv

    pub seen-backed : b ≡ true → Backed ≡ x
    seen-backed g = rw g at seen-turn

    pub seen-on : (k : ℕ) (r : Bool) → k ≡ t.kind j → r ≡ either seen (eqb k 111) → b ≡ false → seen_of r
        (tuples_over t (j + 1) to) ks ≡ x
    seen-on k r ek er g = rw (er, ek) (rw g at seen-turn)

  module _ (h : to ≤ j) where
    seen_end : pick seen Unbacked NoTuple ≡ x
    unfolding any_of
    seen_end =
        ap (λ (b : Bool). pick b Unbacked NoTuple) (either-false seen)
        ∙ ap (λ (is : List ℕ). seen_of seen (map (tuple_at t) is) ks) (sym (over_none (of_kind t 111) j to h))
        ∙ inv

    pub seen_one : seen ≡ true → Unbacked ≡ x
    seen_one g = rw g at seen_end

    pub seen_none : seen ≡ false → NoTuple ≡ x
    seen_none g = rw g at seen_end

-- ---- the tuples of a declaration
module _ (t : Tree) (k m : ℕ) (n : List ℕ) (z : Searching t k m) {q : Option ℕ} (e : q ≡ first_named t k n 0 m)
    (ks : List (List ℕ)) where
  pub backing-absent : q ≡ None → NoTuple ≡ backing_of (tuples_in (owner_of (owners_of t k) n)) ks
  unfolding backing_of
  backing-absent h =
      sym (ap (λ (o : Option Owner). backing_of (tuples_in o) ks)
      (owner-is t k m n z e ∙ ap (mapped (owner_at t)) (absent-is (first_named t k n 0 m) e h)))

  pub backing-there : (i b : ℕ) (r : Backing) → q ≡ Some i → over (of_kind t 111) (i + 1) b ≡ items_of t i 111 → r
      ≡ backing_of (tuples_over t (i + 1) b)
      ks → r ≡ backing_of (tuples_in (owner_of (owners_of t k) n)) ks
  backing-there i b r h eb er =
      let u : tuples_over t (i + 1) b ≡ map (tuple_at t) (items_of t i 111) = ap (map (tuple_at t)) eb in
      er ∙ ap (λ (us : List (List (List ℕ))). backing_of us ks) u
      ∙ sym (ap (λ (o : Option Owner). backing_of (tuples_in o) ks)
      (owner-is t k m n z e ∙ ap (mapped (owner_at t)) (there-is (first_named t k n 0 m) i e h)))

-- ---- what marks say of the Names of a schema
module _ (s d : List ℕ) (sizes : Sizes) (reg : List ℕ) (z : Registered s d sizes reg) (ns : List (List ℕ)) (l : List ℕ)
    (m : MarksOf (Least.texts_of d s) ns l) where
  -- a Name of the schema is marked where its text is one of those marked
  pub mark-tells : (i : ℕ) → NameAt (doc_of d) i
      → eqb (get_or l (place_of (Least.texts_of d s) ((tree_of (doc_of d)).text i)) 0) 1 ≡ is_text ns ((tree_of (doc_of d)).text i)
  mark-tells i n =
      subst (λ (x : List ℕ). eqb (get_or l (place_of (Least.texts_of d s) x) 0) 1 ≡ is_text ns x) (schema-text s d sizes reg z i n)
      (m.each (value_of (doc_of d) i) (in-texts s d sizes z.schema.sheet z.statement _ (schema-inside s d sizes reg z i n)))

  pub mark-room : all_names sizes ≤ length l
  mark-room = omega (arith, m.room, texts-length s d sizes z.schema.sheet z.statement)

  -- an Apart has both its Names marked where both are of these labels
  apart-tells : (j : ℕ) → j < sizes.schema.tokens → kind_of (doc_of d) j ≡ 106 → apart_marked (tree_of (doc_of d)) (Least.texts_of d s) l j ≡ apart_in (tree_of (doc_of d)) ns j
  unfolding apart_in apart_marked
  apart-tells j h e = rw (
    mark-tells (j + 1) (named-below d sizes.schema j 106 z.schema h e apart-named),
    mark-tells (j + 2) (other-below d sizes.schema j z.schema h e),
  )

-- what the tuples' tests ask, from the register and the marks of a Map's keys
pub keyed : (s d : List ℕ) (sizes : Sizes) (reg : List ℕ) (m : ℕ) (l : List ℕ) → Registered s d sizes reg
    → MarksOf (Least.texts_of d s) (map_keys (tree_of (doc_of s)) m) l → Keyed s d sizes reg m l
keyed s d sizes reg m l z k = record { register = z; marks = k; room = mark-room s d sizes reg z _ l k }

-- ---- the Aparts of a schema as the register lists them
module _ (d : List ℕ) (g : Sheet) (z : Declared d g) where
  module _ (k j : ℕ) (ej : j ≡ get_or (tokens_of (tree_of (doc_of d)) 106) k 0) where
    -- one turn of the loop over them, and each way that it ends
    module _ (p : ℕ → Bool) (x : Bool) (inv : any_of p (drop k (tokens_of (tree_of (doc_of d)) 106)) ≡ x) where
      pub apart-stop : j ≡ 0 → false ≡ x
      apart-stop n = one_end p _ x (rest-none (tokens_of (tree_of (doc_of d)) 106) k (apart-no-more d g z k j ej n)) inv

      module _ (n : j ≡ 0 → ⊥) (b : Bool) (eb : b ≡ p j) where
        pub apart-hit : b ≡ true → true ≡ x
        apart-hit h = one_hit p _ _ _ (rest_more (tokens_of (tree_of (doc_of d)) 106) k (apart-there d g z k j ej n)) b x (eb ∙ ap p ej) inv h

        pub apart-on : b ≡ false → any_of p (drop (k + 1) (tokens_of (tree_of (doc_of d)) 106)) ≡ x
        apart-on h = one_on p _ _ _ (rest_more (tokens_of (tree_of (doc_of d)) 106) k (apart-there d g z k j ej n)) b x (eb ∙ ap p ej) inv h

  pub apart-end : (k : ℕ) (p : ℕ → Bool) (x : Bool) → any_of p (drop k (tokens_of (tree_of (doc_of d)) 106)) ≡ x → g.tokens ≤ k → false ≡ x
  apart-end k p x inv h = one_end p _ x (rest-none (tokens_of (tree_of (doc_of d)) 106) k (omega (arith, apart-few d g z))) inv

-- ---- an Apart among labels
any_same : (p q : ℕ → Bool) (l : List ℕ) → ((j : ℕ) → Memᴰ j l → p j ≡ q j) → any_of p l ≡ any_of q l
unfolding any_of
any_same p q [] h = refl
any_same p q (x ∷ l) h = rw (h x (Memᴰ.head refl), any_same p q l (λ j o. h j (Memᴰ.tail o)))

apart-is : (t : Tree) (ns : List (List ℕ)) → apart_among (schema_of t) ns ≡ any_of (apart_in t ns) (decls_of t 106)
unfolding apart_among schema_of apart_in
apart-is t ns = any-map (apart_at t) (λ p. both (is_text ns p.one) (is_text ns p.other)) (decls_of t 106)

-- what the marks of n labels, in a list that had 0 in each place, say of the Aparts is what the schema says
pub apart-found : (s d : List ℕ) (sizes : Sizes) (reg : List ℕ) (at n : ℕ) (l m : List ℕ) → Labelled s d sizes reg at n
    → all_names sizes ≤ length l → ((i : ℕ) → get_or l i 0 ≡ 0) → m ≡ marked (Least.texts_of d s) (texts (tree_of (doc_of s)) at n) l
    → (r : Bool) → r ≡ any_of (apart_marked (tree_of (doc_of d)) (Least.texts_of d s) m) (tokens_of (tree_of (doc_of d)) 106)
    → r ≡ apart_among (schema_of (tree_of (doc_of d))) (texts (tree_of (doc_of s)) at n)
apart-found s d sizes reg at n l m z h o e r er =
    let ns = texts (tree_of (doc_of s)) at n in
    let ts = Least.texts_of d s in
    let y = z.register in
    let k : MarksOf ts ns m = subst (MarksOf ts ns) (sym e) (marks-are ts ns l o (omega (arith, texts-length s d sizes y.schema.sheet y.statement))) in
    er
    ∙ any_same _ _ (tokens_of (tree_of (doc_of d)) 106) (λ j w. let a = apart-mem d sizes.schema y.schema j w in apart-tells s d sizes reg y ns m k j a.0 a.1)
    ∙ ap (any_of (apart_in (tree_of (doc_of d)) ns)) (sym (decls-are y.schema 106 apart-declares))
    ∙ sym (apart-is (tree_of (doc_of d)) ns)

-- both Names of an Apart, one after the other
module _ (t : Tree) (ts : List (List ℕ)) (l : List ℕ) (j : ℕ) (b : Bool) (e : b ≡ eqb (get_or l (place_of ts (t.text (j + 1))) 0) 1) where
  pub apart-not : b ≡ false → b ≡ apart_marked t ts l j
  unfolding apart_marked
  apart-not g = rw (← e, g)

  pub apart-then : (r : Bool) → b ≡ true → r ≡ eqb (get_or l (place_of ts (t.text (j + 2))) 0) 1 → r ≡ apart_marked t ts l j
  unfolding apart_marked
  apart-then r g q = rw (← e, g) q
