-- A tree whose texts were changed in the case of its functions' names has the same breaches, and so has a tree against
-- a schema in which that was changed.
use mathlib.Core.Bool.{true}
use mathlib.Core.Path.{◌≡◌, refl, sym, ap, ◌∙◌, subst}
use mathlib.Core.List.{List}
use Prim.Native.Nat.{ℕ, ◌+◌, ◌*◌, ◌/◌, ◌%◌, ◌≤◌, ◌<◌}
use native.Mathlib.Omega.{arith}
use borrow.Author.Tests.{eqb-true}
use lib.Dec.{eqb}
use Rattle.lists.specs.Lists.{first}
use Rattle.lists.proofs.Tests.{both_true}
use Rattle.lists.proofs.Joins.{table-moved, table_same}
use Rattle.text.specs.Text.{same_text}
use Rattle.text.specs.Folded.{folded}
use Rattle.rules.specs.Kinds as Kind
use Rattle.grammar.specs.Tree.{Tree, past, child, texts}
use Rattle.provider.specs.Schema.{Schema, Signature, function_of, procedure_of, apart_among}
use Rattle.breach.specs.Breach.{Item, item, item_at, spanless, is_element, names_of, props_of, has_map, key_at, keys_of, bad_count, Breach, unknown_label, unknown_rel_type, unknown_function, function_arity, unknown_procedure, procedure_arity, apart_node, apart_set, undeclared_key, wrong_type, unbacked}
use Rattle.breach.proofs.Exact.{node, rel}
use Rattle.schema.proofs.Searches.{mapped}
use Rattle.recased.specs.Recased.{lowered, RecasedSchema}
use Rattle.recased.proofs.Signatures.{function_alike, functions-alike}
use Rattle.recased.proofs.Retold.{retold, clause-kept, holder-kept, literal-kept}
use Rattle.std.specs.Prelude.{Option, Some, None}

-- of the texts f, those of a tree's names but its functions' are its own, and its functions' are but for case
pub record Spared (t : Tree) (f : ℕ → List ℕ) : Type 0 where
  -- the names of an element, which stand behind its start and its end
  pub names : (i j : ℕ) → is_element (t.kind i) ≡ true → i + 3 ≤ j → j < i + 3 + t.value i / 2 → f j ≡ t.text j
  -- the name of a procedure
  pub procedure : (i : ℕ) → t.kind i ≡ Kind.ProcedureCall → f (i + 3) ≡ t.text (i + 3)
  -- the labels of a Set's Labels
  pub labels : (i j : ℕ) → t.kind i ≡ Kind.SetLabels → i + 1 ≤ j → j < i + 1 + t.value i → f j ≡ t.text j
  -- the keys of a Map
  pub key : (p k : ℕ) → t.kind p ≡ Kind.Map → k < t.value p → f (child t p (2 * k)) ≡ t.text (child t p (2 * k))
  -- the name of a function
  pub function : (i : ℕ) → t.kind i ≡ Kind.FunctionCall → folded (f (i + 1)) ≡ folded (t.text (i + 1))

module _ {t : Tree} {f : ℕ → List ℕ} (e : Spared t f) (i : ℕ) where
  -- the tree with these texts
  abbrev u : Tree
  u = retold t f

  -- texts one after the other
  pub texts-kept : (j n : ℕ) → ((k : ℕ) → j ≤ k → k < j + n → f k ≡ t.text k) → texts u j n ≡ texts t j n
  texts-kept j n h = table-moved t.text f n j j
      (λ x y o a b. let z : y ≡ x = omega arith in ap f z ∙ h x a b)

  -- the names of an element, and each of them
  pub names-kept : is_element (t.kind i) ≡ true → names_of u i ≡ names_of t i
  names-kept el = texts-kept (i + 3) (t.value i / 2) (λ k. e.names i k el)

  pub name-kept : is_element (t.kind i) ≡ true → (k : ℕ) → k < t.value i / 2 → f (i + 3 + k) ≡ t.text (i + 3 + k)
  name-kept el k l = e.names i (i + 3 + k) el (omega arith) (omega arith)

  -- the keys of an element's Map, and each of them
  pub key-kept : has_map t i ≡ true → (k : ℕ) → k < t.value (props_of t i) → key_at u i k ≡ key_at t i k
  unfolding past
  key-kept mp k l = e.key (props_of t i) k (eqb-true _ _ (both_true (eqb (t.value i % 2) 1) _ mp).1) l

  pub keys_kept : has_map t i ≡ true → keys_of u i ≡ keys_of t i
  keys_kept mp = table_same (key_at t i) (key_at u i) (t.value (props_of t i)) (key-kept mp)

  module _ (s : Schema) where
    -- its items are those of the tree, with a span and without
    spanned : (code stage ordinal : ℕ) → Breach u s i (item_at u i code stage ordinal)
        → Breach u s i (item_at t i code stage ordinal)
    spanned code stage ordinal =
        subst (λ (c : ℕ). Breach u s i (item code (t.value (i + 1)) (t.value (i + 2)) i stage ordinal c))
        (clause-kept t f i)

    unspanned : (code stage : ℕ) → Breach u s i (spanless u i code stage) → Breach u s i (spanless t i code stage)
    unspanned code stage = subst (λ (c : ℕ). Breach u s i (item code 0 0 i stage 0 c)) (clause-kept t f i)

    -- a function's name finds the same
    pub function-kept : t.kind i ≡ Kind.FunctionCall → function_of s (f (i + 1)) ≡ function_of s (t.text (i + 1))
    function-kept h = function_alike s (f (i + 1)) (t.text (i + 1)) (e.function i h)

    -- Each breach of the tree is one of the tree with these texts
    pub breach-kept : {x : Item} → Breach t s i x → Breach u s i x
    unfolding past
    breach-kept (unknown_label k h b g) =
        spanned 3001 0 k (unknown_label k h b (rw (name-kept (node _ h) k b) g))
    breach-kept (unknown_rel_type k h b g) =
        spanned 3002 0 k (unknown_rel_type k h b (rw (name-kept (rel _ h) k b) g))
    breach-kept (unknown_function h g) =
        unspanned 3006 0 (unknown_function h (function-kept h ∙ g))
    breach-kept (function_arity q h g c) =
        unspanned 3007 0 (function_arity q h (function-kept h ∙ g) c)
    breach-kept (unknown_procedure h g) = spanned 3008 0 0 (unknown_procedure h (rw (e.procedure i h) g))
    breach-kept (procedure_arity q h g c) =
        spanned 3007 0 0 (procedure_arity q h (rw (e.procedure i h) g) c)
    breach-kept (apart_node h o c a) =
        spanned 4023 1 0 (apart_node h (rw (holder-kept t f i) o) c (rw (names-kept (node _ h)) a))
    breach-kept (apart_set h c a) =
        unspanned 4023 1 (apart_set h c
        (rw (texts-kept (i + 1) (t.value i) (λ k. e.labels i k h)) a))
    breach-kept (undeclared_key k el b c l g) =
        spanned 3003 2 k (undeclared_key k el b c l (rw (names-kept el, key-kept c k l) g))
    breach-kept (wrong_type k p y el b c l g v z) =
        spanned 3004 2 k (wrong_type k p y el b c l (rw (names-kept el, key-kept c k l) g)
        (literal-kept t f _ ∙ v) z)
    breach-kept (unbacked el h b c g z) =
        spanned 3009 3 0 (unbacked el (rw (holder-kept t f i) h) b c (rw (names-kept el) g)
        (rw (names-kept el, keys_kept c) z))

-- ---- schemas
-- two functions found, or none, that are the same in lower case: none where the first is none
unknown-alike : (x y : Option Signature) → mapped lowered y ≡ mapped lowered x → x ≡ None → y ≡ None
unknown-alike None None e h = refl
unknown-alike None (Some g) e h = absurd (let z : ◌≡◌ {A = ℕ} 0 1 = cc in omega arith)
unknown-alike (Some q) y e h = absurd (let z : ◌≡◌ {A = ℕ} 0 1 = cc in omega arith)

-- and one where the first is one, with the same parameters
known_alike : (x y : Option Signature) (q : Signature) → mapped lowered y ≡ mapped lowered x → x ≡ Some q
    → (g : Signature) × (y ≡ Some g) × (lowered g ≡ lowered q)
known_alike x None q e h = absurd (let z : ◌≡◌ {A = ℕ} 0 1 = cc in omega arith)
known_alike x (Some g) q e h = (g, refl, let z : Some (lowered g) ≡ Some (lowered q) = e ∙ ap (mapped lowered) h in cc)

-- The same holds of the two schemas exchanged
pub schema-back : {s r : Schema} → RecasedSchema s r → RecasedSchema r s
schema-back e = record {
  labels = sym e.labels;
  rel_types = sym e.rel_types;
  parameters = sym e.parameters;
  functions = sym e.functions;
  procedures = sym e.procedures;
  aparts = sym e.aparts;
}

module _ {s r : Schema} (e : RecasedSchema s r) (t : Tree) (i : ℕ) where
  -- a name finds the same procedure
  pub procedure-same : (n : List ℕ) → procedure_of r n ≡ procedure_of s n
  procedure-same n =
      ap (λ (ps : List Signature). first (λ (q : Signature). same_text n q.name) ps) e.procedures

  -- Each breach against the one schema is one against the other
  pub breach-against : {x : Item} → Breach t s i x → Breach t r i x
  unfolding apart_among
  breach-against (unknown_label k h b g) = unknown_label k h b (rw e.labels g)
  breach-against (unknown_rel_type k h b g) = unknown_rel_type k h b (rw e.rel_types g)
  breach-against (unknown_function h g) =
      unknown_function h (unknown-alike _ _ (functions-alike s r e.functions (t.text (i + 1))) g)
  breach-against (function_arity q h g c) =
      let a = known_alike _ _ q (functions-alike s r e.functions (t.text (i + 1))) g in
      function_arity a.0 h a.1 (ap (λ (k : Signature). bad_count k (t.value i)) a.2 ∙ c)
  breach-against (unknown_procedure h g) = unknown_procedure h (procedure-same (t.text (i + 3)) ∙ g)
  breach-against (procedure_arity q h g c) = procedure_arity q h (procedure-same (t.text (i + 3)) ∙ g) c
  breach-against (apart_node h o c a) = apart_node h o c (rw e.aparts a)
  breach-against (apart_set h c a) = apart_set h c (rw e.aparts a)
  breach-against (undeclared_key k el b c l g) = undeclared_key k el b c l (rw (e.labels, e.rel_types) g)
  breach-against (wrong_type k p y el b c l g v z) = wrong_type k p y el b c l (rw (e.labels, e.rel_types) g) v z
  breach-against (unbacked el h b c g z) =
      unbacked el h b c (rw (e.labels, e.rel_types) g) (rw (e.labels, e.rel_types) z)
