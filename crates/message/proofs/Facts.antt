-- What is known of the owner of an item of the list, by the item's code; and the text that its code stands for.
use mathlib.Core.Path.{◌≡◌, refl, sym, ap, ◌∙◌, subst}
use mathlib.Core.Bool.{true}
use mathlib.Core.Logic.{⊎_elim, ◌⊎◌, inl, inr}
use mathlib.Core.List.{List, [], Memᴰ}
use Prim.Native.Nat.{ℕ, suc, ◌+◌, ◌/◌, ◌%◌, ◌≤◌, ◌<◌}
use native.Mathlib.Omega.{arith}
use borrow.Author.Tests.{eqb-true, ne_eqb}
use lib.ListN.{length, get_or-eq_default}
use lib.Dec.{eqb}
use Rattle.lists.specs.Lists.{any_of}
use Rattle.lists.proofs.Tests.{below, both_true}
use Rattle.frame.specs.Doc.{Token, doc_of, kind_of, value_of}
use Rattle.frame.specs.declared.Sizes.{Sizes}
use Rattle.grammar.specs.Tree.{Tree}
use Rattle.grammar.specs.Inner.{NameAt}
use Rattle.grammar.proofs.Flat.{tree-kind, tree-value}
use Rattle.provider.specs.Schema.{Schema}
use Rattle.breach.specs.Breach.{Item, is_element, props_of, has_map, Breach, unknown_label, unknown_rel_type, unknown_function, function_arity, unknown_procedure, procedure_arity, apart_node, apart_set, undeclared_key, wrong_type, unbacked, statement_in, schema_in}
use Rattle.breach.specs.Listing.{listed}
use Rattle.judge.specs.Judging.{Lent}
use Rattle.breach.proofs.Exact.{element-cases, node, rel}
use Rattle.breach.proofs.Shapes.{shaped}
use Rattle.breach.proofs.Whole.{list-exact}
use Rattle.judge.proofs.OfItems.{call-name, procedure-name, element-name, set-labelled}
use Rattle.phrase.specs.Inner.{ElementAt}
use Rattle.phrase.proofs.Named.{element-value}
use Rattle.sentence.specs.Sentence.{quoted, undeclared_text, wrong_type_text, arity_text, apart_text, unbacked_text}
use Rattle.sentence.specs.Inner.{MapAt, LabelsAt}
use Rattle.message.specs.Message.{message_of}

-- ---- by the code
pub record Facts (t : Tree) (x : Item) : Type 0 where
  pub named : x.code ≤ 3002 → (is_element (t.kind x.owner) ≡ true) × (x.ordinal < t.value x.owner / 2)
  pub keyed : 3003 ≤ x.code → x.code ≤ 3004 → (is_element (t.kind x.owner) ≡ true) × (has_map t x.owner ≡ true)
      × (x.ordinal < t.value (props_of t x.owner))
  pub function : x.code ≡ 3006 → t.kind x.owner ≡ 16
  pub counted : x.code ≡ 3007 → (t.kind x.owner ≡ 16) ⊎ (t.kind x.owner ≡ 85)
  pub procedure : x.code ≡ 3008 → t.kind x.owner ≡ 85
  pub merged : x.code ≡ 3009 → (is_element (t.kind x.owner) ≡ true) × (has_map t x.owner ≡ true)
  pub apart : x.code ≡ 4023 → (t.kind x.owner ≡ 62) ⊎ (t.kind x.owner ≡ 82)

facts : {t : Tree} {s : Schema} {i : ℕ} {x : Item} → Breach t s i x → Facts t x
facts (unknown_label k h l u) = record {
  named = λ c. (node _ h, l);
  keyed = λ c b. absurd (omega arith);
  function =
      λ c. absurd (omega arith);
  counted = λ c. absurd (omega arith);
  procedure = λ c. absurd (omega arith);
  merged =
      λ c. absurd (omega arith);
  apart = λ c. absurd (omega arith);
}
facts (unknown_rel_type k h l u) = record {
  named = λ c. (rel _ h, l);
  keyed = λ c b. absurd (omega arith);
  function =
      λ c. absurd (omega arith);
  counted = λ c. absurd (omega arith);
  procedure = λ c. absurd (omega arith);
  merged =
      λ c. absurd (omega arith);
  apart = λ c. absurd (omega arith);
}
facts (unknown_function h u) = record {
  named = λ c. absurd (omega arith);
  keyed = λ c b. absurd (omega arith);
  function = λ c. h;
  counted = λ c. absurd (omega arith);
  procedure = λ c. absurd (omega arith);
  merged = λ c.
      absurd (omega arith);
  apart = λ c. absurd (omega arith);
}
facts (function_arity p h u w) = record {
  named = λ c. absurd (omega arith);
  keyed = λ c b. absurd (omega arith);
  function = λ c. absurd (omega arith);
  counted = λ c. inl h;
  procedure = λ c. absurd (omega arith);
  merged = λ c.
      absurd (omega arith);
  apart = λ c. absurd (omega arith);
}
facts (unknown_procedure h u) = record {
  named = λ c. absurd (omega arith);
  keyed = λ c b. absurd (omega arith);
  function = λ c. absurd (omega arith);
  counted = λ c. absurd (omega arith);
  procedure = λ c. h;
  merged = λ c.
      absurd (omega arith);
  apart = λ c. absurd (omega arith);
}
facts (procedure_arity p h u w) = record {
  named = λ c. absurd (omega arith);
  keyed = λ c b. absurd (omega arith);
  function = λ c. absurd (omega arith);
  counted = λ c. inr h;
  procedure = λ c. absurd (omega arith);
  merged = λ c.
      absurd (omega arith);
  apart = λ c. absurd (omega arith);
}
facts (apart_node h u v w) = record {
  named = λ c. absurd (omega arith);
  keyed = λ c b. absurd (omega arith);
  function = λ c. absurd (omega arith);
  counted = λ c. absurd (omega arith);
  procedure = λ c. absurd (omega arith);
  merged = λ c. absurd (omega arith);
  apart = λ c. inl h;
}
facts (apart_set h v w) = record {
  named = λ c. absurd (omega arith);
  keyed = λ c b. absurd (omega arith);
  function =
      λ c. absurd (omega arith);
  counted = λ c. absurd (omega arith);
  procedure = λ c. absurd (omega arith);
  merged =
      λ c. absurd (omega arith);
  apart = λ c. inr h;
}
facts (undeclared_key k h u v w p) = record {
  named = λ c. absurd (omega arith);
  keyed = λ c b. (h, v, w);
  function =
      λ c. absurd (omega arith);
  counted = λ c. absurd (omega arith);
  procedure = λ c. absurd (omega arith);
  merged =
      λ c. absurd (omega arith);
  apart = λ c. absurd (omega arith);
}
facts (wrong_type k p a h u v w q r y) = record {
  named = λ c. absurd (omega arith);
  keyed = λ c b. (h, v, w);
  function = λ c. absurd (omega arith);
  counted = λ c. absurd (omega arith);
  procedure = λ c. absurd (omega arith);
  merged = λ c. absurd (omega arith);
  apart = λ c. absurd (omega arith);
}
facts (unbacked h u v w p q) = record {
  named = λ c. absurd (omega arith);
  keyed = λ c b. absurd (omega arith);
  function = λ c. absurd (omega arith);
  counted = λ c. absurd (omega arith);
  procedure = λ c. absurd (omega arith);
  merged = λ c. (h, w);
  apart = λ c. absurd (omega arith);
}

module _ {s d : List ℕ} {sizes : Sizes} {reg : List ℕ} (z : Lent s d sizes reg) (x : Item)
    (m : Memᴰ x (listed (statement_in s) (schema_in d))) where
  known : Facts (statement_in s) x
  known =
      let n : 0 < length (doc_of s).tokens = omega (arith, z.sheet.tokens, z.sheet.some_tokens) in
      let r = (list-exact (statement_in s) (schema_in d) (shaped (doc_of s) n z.read).rooted x).0 m in
      facts r.1

  -- a token of some kind is there
  there : (j k : ℕ) → (statement_in s).kind j ≡ suc k → j < sizes.statement.tokens
  there j k e = ⊎_elim
      (λ h. h)
      (λ h. absurd (let o : kind_of (doc_of s) j ≡ 0 = ap (λ (t : Token). t.kind)
      (get_or-eq_default (doc_of s).tokens (record { kind = 0; value = 0 }) {n = j}
      (omega (arith, z.sheet.tokens))) in omega (arith, o, e, tree-kind (doc_of s) j)))
      (below j sizes.statement.tokens)

  is-kind : (j k : ℕ) → (statement_in s).kind j ≡ k → kind_of (doc_of s) j ≡ k
  is-kind j k e = sym (tree-kind (doc_of s) j) ∙ e

  -- ---- an element, its names, its Map
  module _ (e : is_element ((statement_in s).kind x.owner) ≡ true) where
    owner-element : is_element (kind_of (doc_of s) x.owner) ≡ true
    owner-element = ap is_element (sym (tree-kind (doc_of s) x.owner)) ∙ e

    owner-there : x.owner < sizes.statement.tokens
    owner-there = ⊎_elim (λ h. there x.owner 61 h) (λ h. there x.owner 62 h)
        (element-cases ((statement_in s).kind x.owner) e)

    owner-value : (statement_in s).value x.owner ≡ value_of (doc_of s) x.owner
    owner-value = element-value (doc_of s) x.owner owner-element

    element-at : ElementAt (doc_of s) x.owner
    element-at = record {
      inside = omega (arith, owner-there, z.sheet.tokens);
      element = owner-element;
      names = λ k l. element-name s d sizes x.owner z owner-there k owner-element l;
    }

    module _ (h : has_map (statement_in s) x.owner ≡ true) where
      props-are : props_of (statement_in s) x.owner ≡ x.owner + 3 + value_of (doc_of s) x.owner / 2
      props-are = ap (λ (v : ℕ). x.owner + 3 + v / 2) owner-value

      props-map : (statement_in s).kind (props_of (statement_in s) x.owner) ≡ 14
      props-map = eqb-true _ _ (both_true (eqb ((statement_in s).value x.owner % 2) 1) _ h).1

      map_at : MapAt (doc_of s) x.owner
      map_at = record {
        element = element-at;
        inside = subst (λ (j : ℕ). j < length (doc_of s).tokens) props-are
            (omega (arith, there (props_of (statement_in s) x.owner) 13 props-map, z.sheet.tokens));
        map = subst (λ (j : ℕ). kind_of (doc_of s) j ≡ 14) props-are
            (is-kind (props_of (statement_in s) x.owner) 14 props-map);
      }

      pairs-are : (statement_in s).value (props_of (statement_in s) x.owner) ≡ value_of (doc_of s)
          (x.owner + 3 + value_of (doc_of s) x.owner / 2)
      pairs-are =
          tree-value (doc_of s) (props_of (statement_in s) x.owner)
          (λ o. omega (arith, o, is-kind (props_of (statement_in s) x.owner) 14 props-map))
          ∙ ap (value_of (doc_of s)) props-are

  -- ---- what the functions ask, by the code
  pub names-name : x.code ≤ 3002 → NameAt (doc_of s) (x.owner + 3 + x.ordinal)
  names-name c =
      let k = known.named c in
      element-name s d sizes x.owner z (owner-there k.0) x.ordinal (owner-element k.0)
      (omega (arith, k.1, owner-value k.0))

  pub keyed-map : 3003 ≤ x.code → x.code ≤ 3004 → MapAt (doc_of s) x.owner
  keyed-map a b = let k = known.keyed a b in map_at k.0 k.1

  pub keyed-key : 3003 ≤ x.code → x.code ≤ 3004 → x.ordinal < value_of (doc_of s)
      (x.owner + 3 + value_of (doc_of s) x.owner / 2)
  keyed-key a b = let k = known.keyed a b in omega (arith, k.2, pairs-are k.0 k.1)

  pub merged-map : x.code ≡ 3009 → MapAt (doc_of s) x.owner
  merged-map c = let k = known.merged c in map_at k.0 k.1

  pub function-name : x.code ≡ 3006 → NameAt (doc_of s) (x.owner + 1)
  function-name c =
      let k = known.function c in
      call-name s d sizes x.owner z (there x.owner 15 k) (is-kind x.owner 16 k)

  pub procedure-at : x.code ≡ 3008 → NameAt (doc_of s) (x.owner + 3)
  procedure-at c =
      let k = known.procedure c in
      procedure-name s d sizes x.owner z (there x.owner 84 k) (is-kind x.owner 85 k)

  pub counted-there : x.code ≡ 3007 → x.owner < sizes.statement.tokens
  counted-there c = ⊎_elim (λ k. there x.owner 15 k) (λ k. there x.owner 84 k) (known.counted c)

  pub counted-kind : x.code ≡ 3007 → (kind_of (doc_of s) x.owner ≡ 16) ⊎ (kind_of (doc_of s) x.owner ≡ 85)
  counted-kind c = ⊎_elim (λ k. inl (is-kind x.owner 16 k)) (λ k. inr (is-kind x.owner 85 k)) (known.counted c)

  pub apart-at : x.code ≡ 4023 → LabelsAt (doc_of s) x.owner
  unfolding any_of
  apart-at c = ⊎_elim
      (λ k. let o = is-kind x.owner 62 k in
      let w = element-at (node ((statement_in s).kind x.owner) k) in
      record {
        inside = w.inside;
        no_name = λ p. omega (arith, o, p);
        node = λ p. w.names;
        other = λ p. absurd (p o);
      })
      (λ k. let o = is-kind x.owner 82 k in
      let b = there x.owner 81 k in
      record {
        inside = omega (arith, b, z.sheet.tokens);
        no_name = λ p. omega (arith, o, p);
        node = λ p. absurd (omega (arith, o, p));
        other = λ p. (set-labelled s d sizes x.owner z b (value_of (doc_of s) x.owner) o refl).names;
      })
      (known.apart c)

-- ---- the text of a code
module _ (t : Tree) (s : Schema) (x : Item) where
  pub text-3001 : x.code ≡ 3001 → quoted "unknown label `:" (t.text (x.owner + 3 + x.ordinal)) ≡ message_of t s x
  unfolding message_of
  text-3001 e = rw e

  pub text-3002 : x.code ≡ 3002 → quoted "unknown relationship type `:" (t.text (x.owner + 3 + x.ordinal))
      ≡ message_of t s x
  unfolding message_of
  text-3002 e = rw e

  pub text-3003 : x.code ≡ 3003 → undeclared_text t x.owner x.ordinal ≡ message_of t s x
  unfolding message_of
  text-3003 e = rw e

  pub text-3004 : x.code ≡ 3004 → wrong_type_text t s x.owner x.ordinal ≡ message_of t s x
  unfolding message_of
  text-3004 e = rw e

  pub text-3006 : x.code ≡ 3006 → quoted "unknown function `" (t.text (x.owner + 1)) ≡ message_of t s x
  unfolding message_of
  text-3006 e = rw e

  pub text-3007 : x.code ≡ 3007 → arity_text t s x.owner ≡ message_of t s x
  unfolding message_of
  text-3007 e = rw e

  pub text-3008 : x.code ≡ 3008 → quoted "unknown procedure `" (t.text (x.owner + 3)) ≡ message_of t s x
  unfolding message_of
  text-3008 e = rw e

  pub text-3009 : x.code ≡ 3009 → unbacked_text t x.owner ≡ message_of t s x
  unfolding message_of
  text-3009 e = rw e

  pub text-4023 : x.code ≡ 4023 → apart_text t x.owner ≡ message_of t s x
  unfolding message_of
  text-4023 e = rw e

  pub no_text : (x.code ≡ 3001 → ⊥) → (x.code ≡ 3002 → ⊥) → (x.code ≡ 3003 → ⊥) → (x.code ≡ 3004 → ⊥)
      → (x.code ≡ 3006 → ⊥) → (x.code ≡ 3007 → ⊥) → (x.code ≡ 3008 → ⊥) → (x.code ≡ 3009 → ⊥)
      → (x.code ≡ 4023 → ⊥) → [] ≡ message_of t s x
  unfolding message_of
  no_text a b c d e f g h i =
      rw (
        ne_eqb x.code 3001 a,
        ne_eqb x.code 3002 b,
        ne_eqb x.code 3003 c,
        ne_eqb x.code 3004 d,
        ne_eqb
            x.code 3006 e,
        ne_eqb x.code 3007 f,
        ne_eqb x.code 3008 g,
        ne_eqb x.code 3009 h,
        ne_eqb
            x.code 4023 i,
      )
