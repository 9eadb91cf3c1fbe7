-- The declaration of a key, from the entry at its number.
use mathlib.Core.Path.{◌≡◌, refl, sym, ap, subst, ◌∙◌}
use mathlib.Core.Bool.{Bool, true, false}
use mathlib.Core.List.{List, [], ◌∷◌}
use Prim.Native.Nat.{ℕ, ◌+◌, ◌-◌, ◌<◌}
use native.Mathlib.Omega.{arith}
use lib.Dec.{eqb}
use lib.ListN.{length, get_or}
use Rattle.lists.specs.Lists.{pick, each, first}
use Rattle.text.specs.Text.{same_text}
use Rattle.frame.specs.Doc.{doc_of, kind_of, value_of}
use Rattle.frame.specs.declared.Sizes.{Sizes}
use Rattle.rules.specs.Kinds as Kind
use Rattle.grammar.specs.Tree.{Tree, tree_of}
use Rattle.grammar.specs.Inner.{NameAt}
use Rattle.schema.specs.Declarations.{name_below}
use Rattle.schema.specs.Inner.{first_named}
use Rattle.schema.proofs.Searches.{first-map, mapped}
use Rattle.types.specs.declared.Ty.{Ty}
use Rattle.types.specs.Types.{ty}
use Rattle.provider.specs.Schema.{Owner, Property, owner_at, property_at, items_of, properties_in, property_in, property_of, or_next, schema_of}
use Rattle.provider.specs.Inner.{TypeAt, owners_of, property_found}
use Rattle.provider.proofs.Items.{Searching, owners-searched}
use Rattle.provider.proofs.Lookups.{owner-is, type-below}
use Rattle.numbers.specs.Least.{texts_of, place_of}
use Rattle.numbers.proofs.Laws.{place-low}
use Rattle.numbers.proofs.Texts.{in-texts}
use Rattle.register.specs.Register.{entry_of}
use Rattle.register.proofs.Names.{statement-text, statement-inside}
use Rattle.breach.specs.Breach.{names_of, owners, statement_in, schema_in}
use Rattle.properties.specs.Entering.{properties_at, property_tokens, owner_kind, tokens_for, PropertiesOf, Element}
use Rattle.lists.proofs.Joins.{first-append, or_first, first-mem, each_all}
use Rattle.properties.proofs.Names.{owner_owns, property-token}
use Rattle.std.specs.Prelude.{Option, Some, None}

-- ---- the first property of a key, by tokens
module _ (t : Tree) (k m : ℕ) (z : Searching t k m) (key : List ℕ) where
  one_name : (n : List ℕ) → property_in (owners_of t k) n key
      ≡ mapped (property_at t) (first (λ p. same_text key (name_below t p)) (property_tokens t k m n))
  unfolding first
  one_name n =
      ap (λ (o : Option Owner). first (λ p. same_text key p.name) (properties_in o)) (owner-is t k m n z {q = first_named t k n 0 m} refl)
      ∙ go (first_named t k n 0 m)
    where
      go : (q : Option ℕ) → first (λ p. same_text key p.name) (properties_in (mapped (owner_at t) q))
          ≡ mapped (property_at t) (first (λ p. same_text key (name_below t p)) (properties_at t q))
      go None = refl
      go (Some i) = first-map (property_at t) (λ p. same_text key p.name) (items_of t i Kind.Property)

  all-names : (ns : List (List ℕ)) → property_of (owners_of t k) ns key
      ≡ mapped (property_at t) (first (λ p. same_text key (name_below t p)) (each (property_tokens t k m) ns))
  unfolding property_of each first
  all-names [] = refl
  all-names (n ∷ ns) =
      ap (λ (o : Option Property). or_next o (property_of (owners_of t k) ns key)) (one_name n)
      ∙ ap (or_next (mapped (property_at t) (first (λ p. same_text key (name_below t p)) (property_tokens t k m n)))) (all-names ns)
      ∙ go (first (λ p. same_text key (name_below t p)) (property_tokens t k m n))
      (first (λ p. same_text key (name_below t p)) (each (property_tokens t k m) ns))
      ∙ ap (mapped (property_at t)) (sym (first-append (λ p. same_text key (name_below t p)) (property_tokens t k m n) (each (property_tokens t k m) ns)))
    where
      go : (a b : Option ℕ) → or_next (mapped (property_at t) a) (mapped (property_at t) b) ≡ mapped (property_at t) (or_first a b)
      go None b = refl
      go (Some p) b = refl

pub owners_of_lem : (t : Tree) (k : ℕ) → owners (schema_of t) k ≡ owners_of t (owner_kind k)
unfolding schema_of
owners_of_lem t k = go (eqb k Kind.Node)
  where
    go : (b : Bool) → pick b (owners_of t Kind.Label) (owners_of t Kind.RelType) ≡ owners_of t (pick b Kind.Label Kind.RelType)
    go true = refl
    go false = refl

-- ---- the entry of the key at token c of the statement, whose element is i
module _ (s d : List ℕ) (sizes : Sizes) (reg : List ℕ) (i c : ℕ) (z : Element s d sizes reg i) (n : NameAt (doc_of s) c) (l : List ℕ)
    (zl : PropertiesOf s d sizes i l) (at e : ℕ) (ea : at ≡ place_of (texts_of d s) ((tree_of (doc_of s)).text c)) (ee : e ≡ get_or l at 0) where
  entry-is : e ≡ entry_of (first (λ p. same_text ((tree_of (doc_of s)).text c) (name_below (tree_of (doc_of d)) p))
      (tokens_for d sizes ((statement_in s).kind i) (names_of (statement_in s) i)))
  entry-is =
      let t = statement-text s d sizes reg z.register c n in
      let a = zl.each (sizes.schema.names + value_of (doc_of s) c)
      (in-texts s d sizes z.register.schema.sheet z.register.statement _ (statement-inside s d sizes reg z.register c n)) in
      ee ∙ ap (λ (m : ℕ). get_or l m 0) ea ∙ (rw t at a)

  found-is : property_of (owners (schema_in d) ((statement_in s).kind i)) (names_of (statement_in s) i) ((statement_in s).text c)
      ≡ mapped (property_at (tree_of (doc_of d))) (first (λ p. same_text ((tree_of (doc_of s)).text c) (name_below (tree_of (doc_of d)) p))
      (tokens_for d sizes ((statement_in s).kind i) (names_of (statement_in s) i)))
  found-is =
      ap (λ (o : List Owner). property_of o (names_of (statement_in s) i) ((statement_in s).text c)) (owners_of_lem (tree_of (doc_of d)) ((statement_in s).kind i))
      ∙ all-names (tree_of (doc_of d)) (owner_kind ((statement_in s).kind i)) sizes.schema.tokens
      (owners-searched z.register.schema (owner_kind ((statement_in s).kind i)) (owner_owns ((statement_in s).kind i)))
      ((statement_in s).text c) (names_of (statement_in s) i)

  -- what was found: nothing, or a Property with its type behind its Name
  token-of : (p : ℕ) → first (λ p. same_text ((tree_of (doc_of s)).text c) (name_below (tree_of (doc_of d)) p))
      (tokens_for d sizes ((statement_in s).kind i) (names_of (statement_in s) i)) ≡ Some p → (p < sizes.schema.tokens) × (kind_of (doc_of d) p ≡ Kind.Property)
  token-of p h =
      each_all (property_tokens (tree_of (doc_of d)) (owner_kind ((statement_in s).kind i)) sizes.schema.tokens) (names_of (statement_in s) i)
      (λ m. (m < sizes.schema.tokens) × (kind_of (doc_of d) m ≡ Kind.Property))
      (λ n m o. property-token s d sizes reg z.register (owner_kind ((statement_in s).kind i)) (owner_owns ((statement_in s).kind i)) n m o)
      p (first-mem _ (tokens_for d sizes ((statement_in s).kind i) (names_of (statement_in s) i)) p h)

  pub key-undeclared : e ≡ 0 → None ≡ property_found
      (property_of (owners (schema_in d) ((statement_in s).kind i)) (names_of (statement_in s) i) ((statement_in s).text c))
  key-undeclared h = go (first (λ p. same_text ((tree_of (doc_of s)).text c) (name_below (tree_of (doc_of d)) p))
      (tokens_for d sizes ((statement_in s).kind i) (names_of (statement_in s) i))) (sym entry-is ∙ h) found-is
    where
      go : (q : Option ℕ) → entry_of q ≡ 0
          → property_of (owners (schema_in d) ((statement_in s).kind i)) (names_of (statement_in s) i) ((statement_in s).text c)
          ≡ mapped (property_at (tree_of (doc_of d))) q
          → None ≡ property_found
          (property_of (owners (schema_in d) ((statement_in s).kind i)) (names_of (statement_in s) i) ((statement_in s).text c))
      go None u o = sym (ap property_found o)
      go (Some p) u o = absurd (omega arith)

  pub type-there : (e ≡ 0 → ⊥) → TypeAt (doc_of d) (e + 1)
  type-there h = go (first (λ p. same_text ((tree_of (doc_of s)).text c) (name_below (tree_of (doc_of d)) p))
      (tokens_for d sizes ((statement_in s).kind i) (names_of (statement_in s) i))) entry-is refl
    where
      go : (q : Option ℕ) → e ≡ entry_of q → first (λ p. same_text ((tree_of (doc_of s)).text c) (name_below (tree_of (doc_of d)) p))
          (tokens_for d sizes ((statement_in s).kind i) (names_of (statement_in s) i)) ≡ q → TypeAt (doc_of d) (e + 1)
      go None u o = absurd (h u)
      go (Some p) u o =
          let w = token-of p o in
          let v : p + 2 ≡ e + 1 = omega arith in
          subst (TypeAt (doc_of d)) v (type-below d sizes.schema p z.register.schema w.0 w.1)

  pub key-declared : (y : Ty) → (e ≡ 0 → ⊥) → y ≡ ty ((tree_of (doc_of d)).kind (e + 1) - Kind.FirstType) ((tree_of (doc_of d)).value (e + 1))
      → Some y ≡ property_found
      (property_of (owners (schema_in d) ((statement_in s).kind i)) (names_of (statement_in s) i) ((statement_in s).text c))
  key-declared y h ey = go (first (λ p. same_text ((tree_of (doc_of s)).text c) (name_below (tree_of (doc_of d)) p))
      (tokens_for d sizes ((statement_in s).kind i) (names_of (statement_in s) i))) entry-is found-is
    where
      go : (q : Option ℕ) → e ≡ entry_of q
          → property_of (owners (schema_in d) ((statement_in s).kind i)) (names_of (statement_in s) i) ((statement_in s).text c)
          ≡ mapped (property_at (tree_of (doc_of d))) q
          → Some y ≡ property_found
          (property_of (owners (schema_in d) ((statement_in s).kind i)) (names_of (statement_in s) i) ((statement_in s).text c))
      go None u o = absurd (h u)
      go (Some p) u o =
          let v : e + 1 ≡ p + 2 = omega arith in
          ap Some (ey ∙ ap (λ (m : ℕ). ty ((tree_of (doc_of d)).kind m - Kind.FirstType) ((tree_of (doc_of d)).value m)) v)
          ∙ sym (ap property_found o)

  pub entry-inside : at < length l
  entry-inside =
      let t = statement-text s d sizes reg z.register c n in
      let m = in-texts s d sizes z.register.schema.sheet z.register.statement _ (statement-inside s d sizes reg z.register c n) in
      let p = place-low (texts_of d s) ((tree_of (doc_of s)).text c) (sizes.schema.names + value_of (doc_of s) c) m t in
      omega (arith, zl.room, p)
