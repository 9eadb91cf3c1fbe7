-- The store's answers, from what a search among the tokens found.
use mathlib.Core.Bool.{Bool, true, false}
use mathlib.Core.Path.{◌≡◌, sym, ap, ◌∙◌, subst, refl}
use mathlib.Core.List.{List}
use Prim.Native.Nat.{ℕ, zero, suc, ◌+◌, ◌-◌, ◌/◌, ◌%◌, ◌≤◌, ◌<◌}
use native.Mathlib.Omega.{arith}
use native.Mathlib.Numerals.{add-one}
use borrow.Author.Tests.{lt-leb, le-leb}
use lib.Dec.{eqb, leb}
use Rattle.lists.specs.Lists.{pick, both, first, is_one, table, any_of}
use Rattle.lists.proofs.Laws.{left-more, left-none}
use Rattle.text.specs.Text.{same_text}
use Rattle.text.specs.Folded.{same_folded}
use Rattle.frame.specs.Doc.{Doc, kind_of, value_of, doc_of}
use Rattle.grammar.specs.Tree.{Tree, tree_of}
use Rattle.grammar.proofs.Flat.{tree-kind, tree-value, allowed-taken, allowed-inside}
use Rattle.grammar.proofs.Skipping.{size_is}
use Rattle.types.specs.Types.{ty}
use Rattle.schema.specs.Declarations.{name_below, decls_of}
use Rattle.provider.specs.Schema.{owner_at, function_at, procedure_at, schema_of, is_declared, owner_of, function_of, procedure_of}
use Rattle.provider.specs.Scanned.{next_decl, decl_end}
use Rattle.schema.specs.Inner.{first_named, first_function, Declared, Declaring}
use Rattle.provider.specs.Inner.{TypeAt, owners_of, callee, callee_of}
use Rattle.schema.proofs.Searches.{there-is, absent-is, any-map, any-first, is_there, first-map, mapped}
use lib.ListN.{length, get_or}
use Rattle.lists.proofs.Ranges.{through-bounds}
use Rattle.frame.specs.declared.Sheet.{Sheet}
use Rattle.rules.specs.declared.Place.TheVariants.{Expr, Name, PropertyType}
use Rattle.rules.specs.Rules.{takes, rules, opens}
use Rattle.schema.proofs.Named.{second_at}
use Rattle.provider.proofs.Items.{Searching}
use Rattle.std.specs.Prelude.{Option, Some, None, is_some}

-- ---- the type of a Property
property-opens : (k v : ℕ) → k ≡ 110 → (1 < length (opens k v)) × (get_or (opens k v) 0 Expr ≡ Name)
    × (get_or (opens k v) 1 Expr ≡ PropertyType)
unfolding opens rules first any_of table
property-opens k v e = rw e (omega arith, refl, refl)

type-kind : (k : ℕ) → is_one (takes PropertyType) k ≡ true → (120 ≤ k) × (k ≤ 128)
unfolding takes
type-kind k h = through-bounds 120 128 k h

pub type-below : (s : List ℕ) (f : Sheet) (j : ℕ) → Declared s f → j < f.tokens → kind_of (doc_of s) j ≡ 110 → TypeAt
    (doc_of s) (j + 2)
type-below s f j z h e =
    let o = property-opens (kind_of (doc_of s) j) (value_of (doc_of s) j) e in
    let a = second_at s f j PropertyType z h o.0 o.1 o.2 in
    let k = type-kind (kind_of (doc_of s) (j + 2)) (allowed-taken (doc_of s) PropertyType (j + 2) a) in
    record { inside = allowed-inside (doc_of s) PropertyType (j + 2) a; low = k.0; high = k.1 }

-- ---- a name is declared
declared-is : (t : Tree) (k m : ℕ) (n : List ℕ) → Searching t k m → is_declared (owners_of t k) n ≡ is_there
    (first_named t k n 0 m)
declared-is t k m n z =
    any-map (owner_at t) (λ o. same_text n o.name) (decls_of t k)
    ∙ any-first (λ i. same_text n (name_below t i)) (decls_of t k)
    ∙ ap is_there (sym (z (λ i. same_text n (name_below t i))))

some-there : (o : Option ℕ) → is_some o ≡ is_there o
some-there None = refl
some-there (Some i) = refl

module _ (t : Tree) (k m : ℕ) (n : List ℕ) (z : Searching t k m) {q : Option ℕ} (e : q ≡ first_named t k n 0 m) where
  pub declared-some : is_some q ≡ is_declared (owners_of t k) n
  declared-some = ap is_some e ∙ some-there (first_named t k n 0 m) ∙ sym (declared-is t k m n z)

  pub owner-is : owner_of (owners_of t k) n ≡ mapped (owner_at t) (first_named t k n 0 m)
  owner-is =
      first-map (owner_at t) (λ o. same_text n o.name) (decls_of t k)
      ∙ ap (mapped (owner_at t)) (sym (z (λ i. same_text n (name_below t i))))

-- ---- signatures
pub function-declares : Declaring 104
unfolding any_of table
function-declares = refl

pub procedure-declares : Declaring 105
unfolding any_of table
procedure-declares = refl

pub apart-declares : Declaring 106
unfolding any_of table
apart-declares = refl

module _ (d : Doc) (m : ℕ) (n : List ℕ) where
  function-is : Searching (tree_of d) 104 m → function_of (schema_of (tree_of d)) n ≡ mapped (function_at
      (tree_of d))
      (first_function (tree_of d) n 0 m)
  unfolding schema_of
  function-is z =
      first-map (function_at (tree_of d)) (λ g. same_folded n g.name) (decls_of (tree_of d) 104)
      ∙ ap (mapped (function_at (tree_of d))) (sym (z (λ i. same_folded n (name_below (tree_of d) i))))

  procedure-is : Searching (tree_of d) 105 m → procedure_of (schema_of (tree_of d)) n ≡ mapped (procedure_at
      (tree_of d))
      (first_named (tree_of d) 105 n 0 m)
  unfolding schema_of
  procedure-is z =
      first-map (procedure_at (tree_of d)) (λ g. same_text n g.name) (decls_of (tree_of d) 105)
      ∙ ap (mapped (procedure_at (tree_of d))) (sym (z (λ i. same_text n (name_below (tree_of d) i))))

  pub function-unknown : Searching (tree_of d) 104 m → {q : Option ℕ} → q ≡ first_function (tree_of d) n 0 m → q
      ≡ None → None ≡ callee
      (function_of (schema_of (tree_of d)) n)
  function-unknown z e h = sym (ap callee (function-is z ∙ ap (mapped (function_at (tree_of d))) (absent-is (first_function
      (tree_of d) n 0 m) e h)))

  pub procedure-unknown : Searching (tree_of d) 105 m → {q : Option ℕ} → q ≡ first_named (tree_of d) 105 n 0 m → q
      ≡ None → None ≡ callee
      (procedure_of (schema_of (tree_of d)) n)
  procedure-unknown z e h = sym (ap callee (procedure-is z ∙ ap (mapped (procedure_at (tree_of d))) (absent-is (first_named
      (tree_of d) 105 n 0 m) e h)))

  module _ {q : Option ℕ} (i v : ℕ) (h : q ≡ Some i) (ev : v ≡ (tree_of d).value i) where
    pub function-takes : Searching (tree_of d) 104 m → q ≡ first_function (tree_of d) n 0 m → Some (callee_of (v / 2) (eqb (v % 2) 1))
        ≡ callee
        (function_of (schema_of (tree_of d)) n)
    function-takes z e =
        ap (λ (w : ℕ). Some (callee_of (w / 2) (eqb (w % 2) 1))) ev
        ∙ sym (ap callee (function-is z ∙ ap (mapped (function_at (tree_of d)))
        (there-is (first_function (tree_of d) n 0 m) i e h)))

    pub procedure-takes : Searching (tree_of d) 105 m → q ≡ first_named (tree_of d) 105 n 0 m → Some (callee_of v false)
        ≡ callee
        (procedure_of (schema_of (tree_of d)) n)
    procedure-takes z e =
        ap (λ (w : ℕ). Some (callee_of w false)) ev
        ∙ sym (ap callee (procedure-is z ∙ ap (mapped (procedure_at (tree_of d)))
        (there-is (first_named (tree_of d) 105 n 0 m) i e h)))

-- ---- where a declaration ends
pub decl-low : (k : ℕ) → k < 101 → leb 101 k ≡ both (leb 101 k) (leb k 106)
decl-low k h = rw (lt-leb 101 k h)

pub decl-high : (k : ℕ) → 101 ≤ k → leb k 106 ≡ both (leb 101 k) (leb k 106)
decl-high k h = rw (le-leb 101 k h)

module _ (t : Tree) (j n x : ℕ) (i : next_decl t (n - j) j ≡ x) where
  module _ (b : Bool) (k : ℕ) (ek : k ≡ t.kind j) (e : b ≡ both (leb 101 k) (leb k 106)) (h : j < n) where
    turn : pick b j (next_decl t (n - (j + 1)) (suc j)) ≡ x
    unfolding next_decl
    turn = rw (e, ek) (rw (left-more n j h) at i)

    pub decl-here : b ≡ true → j ≡ x
    decl-here g = rw g at turn

    pub decl-on : b ≡ false → next_decl t (n - (j + 1)) (j + 1) ≡ x
    decl-on g =
        let u : next_decl t (n - (j + 1)) (suc j) ≡ x = rw g at turn in
        subst (λ (l : ℕ). next_decl t (n - (j + 1)) l ≡ x) (sym (add-one j)) u

  pub decl-none : j ≤ n → n ≤ j → n ≡ x
  unfolding next_decl
  decl-none l h =
      let e : n ≡ j = omega arith in
      let o : j ≡ x = rw (left-none n j h) at i in
      e ∙ o

pub decl-start : (t : Tree) (i n : ℕ) → t.size ≡ n → next_decl t (n - (i + 1)) (i + 1) ≡ decl_end t i
decl-start t i n z = rw (← z, add-one i)

next_le : (t : Tree) (left i : ℕ) → next_decl t left i ≤ i + left
unfolding next_decl
next_le t zero i = omega arith
next_le t (suc left) i = go (both (leb 101 (t.kind i)) (leb (t.kind i) 106)) (next_le t left (suc i))
  where
    go : (b : Bool) → next_decl t left (suc i) ≤ suc i + left → pick b i (next_decl t left (suc i)) ≤ i + suc left
    go true h = omega arith
    go false h = omega arith

pub decl-inside : (t : Tree) (i n : ℕ) → t.size ≡ n → i < n → decl_end t i ≤ n
decl-inside t i n z h = omega (arith, next_le t (t.size - suc i) (suc i))

-- what belongs to a declaration
next_low : (t : Tree) (left i : ℕ) → i ≤ next_decl t left i
unfolding next_decl
next_low t zero i = omega arith
next_low t (suc left) i = go (both (leb 101 (t.kind i)) (leb (t.kind i) 106)) (next_low t left (suc i))
  where
    go : (b : Bool) → suc i ≤ next_decl t left (suc i) → i ≤ pick b i (next_decl t left (suc i))
    go true h = omega arith
    go false h = omega arith

module _ (s : List ℕ) (f : Sheet) (z : Declared s f) (i b : ℕ) (h : i < f.tokens)
    (eb : b ≡ decl_end (tree_of (doc_of s)) i) where
  pub item-range : (i + 1 ≤ b) × (b ≤ f.tokens)
  item-range = (
    omega (arith, eb, next_low (tree_of (doc_of s)) ((tree_of (doc_of s)).size - suc i) (suc i)),
    omega
        (arith, eb, decl-inside (tree_of (doc_of s)) i f.tokens (size_is s f z.sheet) h),
  )

-- a stated type
pub type-made : (d : Doc) (i k v : ℕ) → TypeAt d i → k ≡ kind_of d i → v ≡ value_of d i → record
    { base = k - 120; depth = v } ≡ ty ((tree_of d).kind i - 120) ((tree_of d).value i)
type-made d i k v z ek ev =
    rw (tree-kind d i, tree-value d i (λ e. let l = z.low in omega arith), ← ek, ← ev)
