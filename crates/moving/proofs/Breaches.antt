-- The breaches of a token that stands elsewhere are its breaches, with its new place as their owner, and say the same.
use mathlib.Core.Path.{◌≡◌, sym, ap, ◌∙◌}
use mathlib.Core.Bool.{true}
use Prim.Native.Nat.{ℕ, ◌+◌, ◌≤◌, ◌<◌}
use Rattle.grammar.specs.Tree.{Tree, end}
use Rattle.provider.specs.Schema.{Schema}
use Rattle.breach.specs.Breach.{Item, clause_of, item_at, is_element, holder, Breach, unknown_label, unknown_rel_type}
use Rattle.breach.specs.Breach.{unknown_function, function_arity, unknown_procedure, procedure_arity, apart_node}
use Rattle.breach.specs.Breach.{apart_set, undeclared_key, wrong_type, unbacked}
use Rattle.breach.proofs.Exact.{node, rel}
use Rattle.breach.proofs.Whole.{breach-owner, breach-clause}
use Rattle.phrase.specs.Phrase.{on_names}
use Rattle.sentence.specs.Sentence.{undeclared_text, wrong_type_text, arity_text, apart_text, unbacked_text}
use Rattle.message.specs.Message.{message_of}
use Rattle.moving.specs.Moved.{placed}
use Rattle.moving.proofs.Trees.{Ends, Same}
use Rattle.moving.proofs.Facts.{same_kind, same-value, span_same, element-span, names_same, name-text, map_same}
use Rattle.moving.proofs.Facts.{count_same, key-same, literal-same, keys-same, function-text, procedure-span}
use Rattle.moving.proofs.Facts.{procedure-text, labels-text, Carried, holder-moved}

-- The owner of a breach is its token, and its clause is that token's
pub breach-placed : (t : Tree) (s : Schema) (i : ℕ) (x : Item) → Breach t s i x → x ≡ placed i (clause_of t i) x
breach-placed t s i x b =
    let o : x.owner ≡ i = breach-owner t s i b in
    let c : x.clause ≡ clause_of t i = breach-clause t s i b ∙ ap (clause_of t) o in
    λ k. record {
      code = x.code;
      start = x.start;
      end = x.end;
      owner = o k;
      stage = x.stage;
      ordinal = x.ordinal;
      clause = c k;
    }

-- ---- whole trees from lo up to hi, elsewhere in another tree: token i of the one, j of the other
module _ {t u : Tree} {m lo hi at : ℕ} (w : Ends t m lo hi) (e : Same t u lo hi at) (i j : ℕ)
    (d : at + i ≡ lo + j) (p : lo ≤ i) (q : i < hi) where
  -- the item of a token with a span
  spanned : (s : Schema) (code stage ordinal : ℕ) → i + 2 < hi → Breach u s j (item_at u j code stage ordinal)
      → Breach u s j (placed j (clause_of u j) (item_at t i code stage ordinal))
  spanned s code stage ordinal h b =
      let r = span_same w e i j d p q h in
      rw (sym r.0, sym r.1) b

  -- where its pattern stands in a token of the same kind, it has the same breaches
  breach-same : (s : Schema) → holder u j ≡ holder t i → {x : Item} → Breach t s i x
      → Breach u s j (placed j (clause_of u j) x)
  breach-same s ho (unknown_label k h b f) =
      let el = node _ h in
      spanned s 3001 0 k (element-span w e i j d p q el)
      (unknown_label k (rw (same_kind w e i j d p q) h) (rw (same-value w e i j d p q) b)
      (rw (name-text w e i j d p q el k b) f))
  breach-same s ho (unknown_rel_type k h b f) =
      let el = rel _ h in
      spanned s 3002 0 k (element-span w e i j d p q el)
      (unknown_rel_type k (rw (same_kind w e i j d p q) h) (rw (same-value w e i j d p q) b)
      (rw (name-text w e i j d p q el k b) f))
  breach-same s ho (unknown_function h f) =
      unknown_function (rw (same_kind w e i j d p q) h) (rw (function-text w e i j d p q h) f)
  breach-same s ho (function_arity g h f c) =
      function_arity g (rw (same_kind w e i j d p q) h) (rw (function-text w e i j d p q h) f)
      (rw (same-value w e i j d p q) c)
  breach-same s ho (unknown_procedure h f) =
      spanned s 3008 0 0 (procedure-span w e i j d p q h)
      (unknown_procedure (rw (same_kind w e i j d p q) h) (rw (procedure-text w e i j d p q h) f))
  breach-same s ho (procedure_arity g h f c) =
      spanned s 3007 0 0 (procedure-span w e i j d p q h)
      (procedure_arity g (rw (same_kind w e i j d p q) h) (rw (procedure-text w e i j d p q h) f)
      (rw (same-value w e i j d p q) c))
  breach-same s ho (apart_node h o c a) =
      let el = node _ h in
      spanned s 4023 1 0 (element-span w e i j d p q el)
      (apart_node (rw (same_kind w e i j d p q) h) (rw ho o) (rw (same-value w e i j d p q) c)
      (rw (names_same w e i j d p q el) a))
  breach-same s ho (apart_set h c a) =
      apart_set (rw (same_kind w e i j d p q) h) (rw (same-value w e i j d p q) c)
      (rw (same-value w e i j d p q, labels-text w e i j d p q h) a)
  breach-same s ho (undeclared_key k el b c l f) =
      spanned s 3003 2 k (element-span w e i j d p q el)
      (undeclared_key k (rw (same_kind w e i j d p q) el) (rw (same-value w e i j d p q) b)
      (rw (map_same w e i j d p q el) c) (rw (count_same w e i j d p q el c) l)
      (rw (same_kind w e i j d p q, names_same w e i j d p q el, key-same w e i j d p q el c k l) f))
  breach-same s ho (wrong_type k g y el b c l f v z) =
      spanned s 3004 2 k (element-span w e i j d p q el)
      (wrong_type k g y (rw (same_kind w e i j d p q) el) (rw (same-value w e i j d p q) b)
      (rw (map_same w e i j d p q el) c) (rw (count_same w e i j d p q el c) l)
      (rw (same_kind w e i j d p q, names_same w e i j d p q el, key-same w e i j d p q el c k l) f)
      (rw (literal-same w e i j d p q el c k l) v) z)
  breach-same s ho (unbacked el h b c f z) =
      spanned s 3009 3 0 (element-span w e i j d p q el)
      (unbacked (rw (same_kind w e i j d p q) el) (rw ho h) (rw (same-value w e i j d p q) b)
      (rw (map_same w e i j d p q el) c)
      (rw (same_kind w e i j d p q, names_same w e i j d p q el) f)
      (rw (same_kind w e i j d p q, names_same w e i j d p q el, keys-same w e i j d p q el c) z))

  -- what a message says of the names of an element
  on_same : is_element (t.kind i) ≡ true → on_names u j ≡ on_names t i
  unfolding on_names
  on_same el = rw (same_kind w e i j d p q, names_same w e i j d p q el)

  -- the message is the same bytes, whatever clause is written into the item
  pub message-same : (s : Schema) (k : ℕ) {x : Item} → Breach t s i x → message_of u s (placed j k x) ≡ message_of t s x
  unfolding message_of undeclared_text wrong_type_text arity_text apart_text unbacked_text
  message-same s n (unknown_label k h b f) = rw (name-text w e i j d p q (node _ h) k b)
  message-same s n (unknown_rel_type k h b f) = rw (name-text w e i j d p q (rel _ h) k b)
  message-same s n (unknown_function h f) = rw (function-text w e i j d p q h)
  message-same s n (function_arity g h f c) =
      rw (same_kind w e i j d p q, h, function-text w e i j d p q h, same-value w e i j d p q)
  message-same s n (unknown_procedure h f) = rw (procedure-text w e i j d p q h)
  message-same s n (procedure_arity g h f c) =
      rw (same_kind w e i j d p q, h, procedure-text w e i j d p q h, same-value w e i j d p q)
  message-same s n (apart_node h o c a) = rw (same_kind w e i j d p q, h, names_same w e i j d p q (node _ h))
  message-same s n (apart_set h c a) =
      rw (same_kind w e i j d p q, h, same-value w e i j d p q, labels-text w e i j d p q h)
  message-same s n (undeclared_key k el b c l f) = rw (key-same w e i j d p q el c k l, on_same el)
  message-same s n (wrong_type k g y el b c l f v z) =
      rw (
        key-same w e i j d p q el c k l,
        same_kind w e i j d p q,
        names_same w e i j d p q el,
        literal-same w e i j d p q el c k l,
      )
  message-same s n (unbacked el h b c f z) = rw (keys-same w e i j d p q el c, on_same el)

-- ---- a clause that stands elsewhere
module _ {t u : Tree} {c at : ℕ} (k : Carried t u c at) (s : Schema) (i j : ℕ)
    (d : at + i ≡ c + j) (p : c ≤ i) (q : i < end t c) where
  -- A token that stands elsewhere, in a clause that was carried there, has the same breaches, with its new place as
  -- their owner
  pub breach-moved : {x : Item} → Breach t s i x → Breach u s j (placed j (clause_of u j) x)
  breach-moved = breach-same k.whole k.same i j d p q s (holder-moved k i j d p q)

  -- The message of such a breach is the same bytes, whatever clause number is written into its item
  pub breach-text : (n : ℕ) {x : Item} → Breach t s i x → message_of u s (placed j n x) ≡ message_of t s x
  breach-text = message-same k.whole k.same i j d p q s
