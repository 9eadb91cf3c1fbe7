-- What is found passes the test; and messages of a tree whose texts were changed in the case of its functions' names, or
-- against a schema in which that was changed.
use mathlib.Core.Bool.{Bool, true, false}
use mathlib.Core.Path.{◌≡◌, refl, sym, ap, subst}
use mathlib.Core.List.Memᴰ
use mathlib.Core.List.{List, [], ◌∷◌, ◌++◌, append_assoc, Memᴰ}
use Prim.Native.Nat.{ℕ, ◌+◌}
use native.Mathlib.Omega.{arith}
use borrow.Author.Tests.{eq-eqb}
use Rattle.lists.specs.Lists.{pick, either, first, any_of, all_of}
use Rattle.lists.proofs.Tests.{never, both_true}
use Rattle.text.specs.Text.{same_text, is_text, bytes}
use Rattle.text.proofs.Laws.{same-is}
use Rattle.rules.specs.Kinds as Kind
use Rattle.grammar.specs.Tree.{Tree, past}
use Rattle.provider.specs.Schema.{Schema, Signature, function_of}
use Rattle.schema.proofs.Searches.{mapped}
use Rattle.breach.specs.Breach.{Item, is_element, Breach, unknown_label, unknown_rel_type, unknown_function, function_arity, unknown_procedure, procedure_arity, apart_node, apart_set, undeclared_key, wrong_type, unbacked}
use Rattle.breach.proofs.Exact.{node, rel}
use Rattle.phrase.specs.Phrase.{on_names}
use Rattle.sentence.specs.Sentence.{count_phrase, count_text, expects, undeclared_text, wrong_type_text, arity_text, apart_text, unbacked_text}
use Rattle.message.specs.Message.{message_of}
use Rattle.recased.specs.Recased.{lowered, RecasedSchema, AsWritten}
use Rattle.recased.proofs.Signatures.{functions-alike}
use Rattle.recased.proofs.Retold.{retold, literal-kept}
use Rattle.recased.proofs.Breaches.{Spared, texts-kept, names-kept, name-kept, key-kept, keys_kept, function-kept, procedure-same}
use Rattle.std.specs.Prelude.{Option, Some, None}

-- ---- what is found passes
pub first_passes : {A : Type 0} (p : A → Bool) (l : List A) (x : A) → first p l ≡ Some x → p x ≡ true
unfolding first
first_passes p [] x e = absurd (let z : ◌≡◌ {A = ℕ} 0 1 = cc in omega arith)
first_passes {A} p (y ∷ l) x e = go (p y) refl e (first_passes p l x)
  where
    go : (b : Bool) → p y ≡ b → pick b (Some y) (first p l) ≡ Some x → (first p l ≡ Some x → p x ≡ true) → p x ≡ true
    go true h f r = let z : x ≡ y = cc in subst (λ (w : A). p w ≡ true) (sym z) h
    go false h f r = r f

pub any-passes : {A : Type 0} (p : A → Bool) (l : List A) → any_of p l ≡ true
    → (x : A) × Memᴰ x l × (p x ≡ true)
unfolding any_of
any-passes p [] e = never e
any-passes {A} p (y ∷ l) e = go (p y) refl e (any-passes p l)
  where
    go : (b : Bool) → p y ≡ b → either b (any_of p l) ≡ true → (any_of p l ≡ true → (x : A) × Memᴰ x l × (p x ≡ true))
        → (x : A) × Memᴰ x (y ∷ l) × (p x ≡ true)
    go true h f r = (y, Memᴰ.head refl, h)
    go false h f r = let q = r f in (q.0, Memᴰ.tail q.1, q.2)

pub all-passes : {A : Type 0} (p : A → Bool) (l : List A) → all_of p l ≡ true → {x : A} → Memᴰ x l → p x ≡ true
unfolding all_of
all-passes p [] e m = absurd (Memᴰ.not-nil m)
all-passes {A} p (y ∷ l) e (Memᴰ.head h) =
    subst (λ (w : A). p w ≡ true) (sym h) (both_true (p y) (all_of p l) e).0
all-passes p (y ∷ l) e (Memᴰ.tail m) = all-passes p l (both_true (p y) (all_of p l) e).1 m

-- a text that is one of a list stands in it
pub text-mem : (ns : List (List ℕ)) (n : List ℕ) → is_text ns n ≡ true → Memᴰ n ns
text-mem ns n e =
    let r = any-passes (same_text n) ns e in
    subst (λ (a : List ℕ). Memᴰ a ns) (sym (same-is n r.0 r.2)) r.1

-- ---- messages
not-element-call : (k : ℕ) → k ≡ Kind.FunctionCall → is_element k ≡ true → ⊥
unfolding any_of
not-element-call k e h = never (subst (λ (j : ℕ). is_element j ≡ true) e h)

module _ {t : Tree} {f : ℕ → List ℕ} (e : Spared t f) (i : ℕ) (s : Schema) where
  -- the tree with these texts
  abbrev other : Tree
  other = retold t f

  on-names-kept : is_element (t.kind i) ≡ true → on_names other i ≡ on_names t i
  unfolding on_names
  on-names-kept el = rw (names-kept e i el)

  -- the message of a breach that is none of a function's call is the same
  pub message-kept : {x : Item} → Breach t s i x → (t.kind i ≡ Kind.FunctionCall → ⊥)
      → message_of other s x ≡ message_of t s x
  unfolding message_of past undeclared_text wrong_type_text arity_text apart_text unbacked_text
  message-kept (unknown_label k h b g) n = rw (name-kept e i (node _ h) k b)
  message-kept (unknown_rel_type k h b g) n = rw (name-kept e i (rel _ h) k b)
  message-kept (unknown_function h g) n = absurd (n h)
  message-kept (function_arity q h g c) n = absurd (n h)
  message-kept (unknown_procedure h g) n = rw (e.procedure i h)
  message-kept (procedure_arity q h g c) n = rw (h, e.procedure i h)
  message-kept (apart_node h o c a) n = rw (h, names-kept e i (node _ h))
  message-kept (apart_set h c a) n = rw (h, texts-kept e i (i + 1) (t.value i) (λ k. e.labels i k h))
  message-kept (undeclared_key k el b c l g) n = rw (key-kept e i c k l, on-names-kept el)
  message-kept (wrong_type k p y el b c l g v z) n = rw (key-kept e i c k l, names-kept e i el, literal-kept t f)
  message-kept (unbacked el h b c g z) n = rw (keys_kept e i c, on-names-kept el)

  -- and that of a function's call is the same around the name
  pub message-written : {x : Item} → Breach t s i x → t.kind i ≡ Kind.FunctionCall
      → AsWritten (message_of t s x) (message_of other s x) (t.text (i + 1)) (f (i + 1))
  unfolding message_of arity_text
  message-written (unknown_function h g) n = record {
    before = bytes "unknown function `";
    behind = bytes "`";
    one = refl;
    other = refl;
  }
  message-written (function_arity q h g c) n = record {
    before = bytes "function `";
    behind = bytes "` expects " ++ count_text (function_of s (t.text (i + 1))) (t.value i);
    one = rw (eq-eqb (t.kind i) Kind.FunctionCall h) (around (t.text (i + 1)));
    other = rw (eq-eqb (t.kind i) Kind.FunctionCall h, function-kept e i s h) (around (f (i + 1)));
  }
    where
      around : (a : List ℕ) → expects "function `" a (function_of s (t.text (i + 1))) (t.value i)
          ≡ bytes "function `" ++ a ++ (bytes "` expects " ++ count_text (function_of s (t.text (i + 1))) (t.value i))
      around a = append_assoc (bytes "function `" ++ a) (bytes "` expects ") _
  message-written (unknown_label k h b g) n = absurd (omega (arith, h, n))
  message-written (unknown_rel_type k h b g) n = absurd (omega (arith, h, n))
  message-written (unknown_procedure h g) n = absurd (omega (arith, h, n))
  message-written (procedure_arity q h g c) n = absurd (omega (arith, h, n))
  message-written (apart_node h o c a) n = absurd (omega (arith, h, n))
  message-written (apart_set h c a) n = absurd (omega (arith, h, n))
  message-written (undeclared_key k el b c l g) n = absurd (not-element-call _ n el)
  message-written (wrong_type k p y el b c l g v z) n = absurd (not-element-call _ n el)
  message-written (unbacked el h b c g z) n = absurd (not-element-call _ n el)

-- ---- schemas
-- two functions found, or none, that are the same in lower case take as many arguments
counts-alike : (x y : Option Signature) (n : ℕ) → mapped lowered y ≡ mapped lowered x → count_text y n ≡ count_text x n
unfolding count_text
counts-alike None None n e = refl
counts-alike None (Some g) n e = absurd (let z : ◌≡◌ {A = ℕ} 0 1 = cc in omega arith)
counts-alike (Some q) None n e = absurd (let z : ◌≡◌ {A = ℕ} 0 1 = cc in omega arith)
counts-alike (Some q) (Some g) n e =
    let z : lowered g ≡ lowered q = cc in
    ap (λ (f : Signature). count_phrase f.parameters f.variadic n) z

module _ {s r : Schema} (e : RecasedSchema s r) (t : Tree) where
  type-against : (i k : ℕ) → wrong_type_text t r i k ≡ wrong_type_text t s i k
  unfolding wrong_type_text
  type-against i k = rw (e.labels, e.rel_types)

  arity-against : (i : ℕ) → arity_text t r i ≡ arity_text t s i
  unfolding arity_text
  arity-against i =
      rw (
        counts-alike (function_of s (t.text (i + 1))) (function_of r (t.text (i + 1))) (t.value i)
            (functions-alike s r e.functions (t.text (i + 1))),
        procedure-same e t i (t.text (i + 3)),
      )

  -- the message of any item is the same against a schema in which the case of function names was changed
  pub message-against : (x : Item) → message_of t r x ≡ message_of t s x
  unfolding message_of
  message-against x = rw (type-against x.owner x.ordinal, arity-against x.owner)
