-- A message is UTF-8: of every item, over any statement that is accepted, and so is what the operation `message` says,
-- over any bytes.
use mathlib.Core.Path.{◌≡◌, refl}
use mathlib.Core.Bool.{Bool, true, false}
use mathlib.Core.List.{List}
use Prim.Native.Nat.{ℕ, ◌+◌, ◌/◌}
use Prim.Native.String.{String}
use native.Mathlib.Omega.{arith}
use lib.Dec.{eqb, leb}
use lib.ListN.{length, take, drop}
use lib.Seq.{take-append_seam}
use Rattle.lists.specs.Lists.{pick, all_of, nth}
use Rattle.utf8.specs.Grammar.{Octets, no_char}
use Rattle.utf8.proofs.Agree.{agree}
use Rattle.utf8.proofs.Joined.{joined-octets}
use Rattle.text.specs.Text.{bytes}
use Rattle.frame.specs.declared.Fault.{Fault}
use Rattle.frame.specs.Sheet.{frame_fault}
use Rattle.frame.specs.Doc.{doc_of, kind_of, value_of, name_of}
use Rattle.frame.proofs.Laws.{or-else, name-utf8}
use Rattle.grammar.specs.Tree.{Tree, tree_of, texts}
use Rattle.types.specs.Types.{literal}
use Rattle.schema.specs.Declarations.{statement_fault, schema_fault}
use Rattle.schema.specs.declared.Refusal.{Refusal}
use Rattle.schema.specs.Effect.{Effect, exit, refusal, writes, unless_refused, after_statement, after_schema, fitted, Done}
use Rattle.provider.specs.Schema.{Schema, Property, Signature, property_of, function_of, procedure_of}
use Rattle.breach.specs.Breach.{Item, statement_in, schema_in, names_of, key_at, value_at, keys_of, owners, props_of}
use Rattle.breach.specs.Listing.{listed}
use Rattle.in_order.specs.InOrder.{in_order}
use Rattle.phrase.specs.Phrase.{colons}
use Rattle.sentence.specs.Sentence.{quoted, expected, got, undeclared_text, wrong_type_text, count_text, arity_text, apart_text, unbacked_text}
use Rattle.message.specs.Message.{message_of}
use Rattle.message.specs.Said.{item_effect, message_effect}
use Rattle.phrase.proofs.Pieces.{pick-octets, is_ascii, written_out, decimal-octets, type-name, property-type-name, each-table, each-in-order, joined-texts, colons-octets, on-names-octets}
use Rattle.in_utf8.specs.Claims.{MessageUtf8, SaysUtf8}
use Rattle.std.specs.Prelude.{Option, Some, None, Result, Ok, Err}
use Rattle.types.specs.declared.Ty.{Ty}

-- ---- a name of a sheet without fault, and no text for any other token
pub name-octets : (s : List ℕ) → frame_fault s ≡ None → (i : ℕ) → Octets ((tree_of (doc_of s)).text i)
unfolding tree_of
name-octets s h i =
    pick-octets (eqb (kind_of (doc_of s) i) 50)
    ((agree (name_of (doc_of s) (value_of (doc_of s) i))).0 (name-utf8 s (value_of (doc_of s) i) h)) no_char

-- ---- parts
expected-octets : (p : Option Property) → Octets (expected p)
expected-octets None = no_char
expected-octets (Some p) = property-type-name p.type

got-octets : (l : Option Ty) → Octets (got l)
got-octets None = no_char
got-octets (Some a) = type-name a

count-octets : (o : Option Signature) (n : ℕ) → Octets (count_text o n)
unfolding count_text all_of bytes
count-octets None n = no_char
count-octets (Some f) n =
    joined-octets (joined-octets (joined-octets
    (pick-octets f.variadic (written_out "at least " refl) (written_out "exactly " refl))
    (decimal-octets f.parameters))
    (written_out " argument(s) but got " refl))
    (decimal-octets n)

-- ---- the text of each form, over a tree whose texts are UTF-8
module _ (t : Tree) (names : (i : ℕ) → Octets (t.text i)) where
  quoted-octets : (phrase : String) (i : ℕ) → is_ascii phrase ≡ true → Octets (quoted phrase (t.text i))
  unfolding all_of bytes
  quoted-octets phrase i e = joined-octets (joined-octets (written_out phrase e) (names i)) (written_out "`" refl)

  undeclared-octets : (i k : ℕ) → Octets (undeclared_text t i k)
  unfolding undeclared_text all_of bytes
  undeclared-octets i k =
      joined-octets (joined-octets (joined-octets
      (written_out "property `" refl)
      (names _))
      (written_out "` is not declared on " refl))
      (on-names-octets t names i)

  wrong-type-octets : (s : Schema) (i k : ℕ) → Octets (wrong_type_text t s i k)
  unfolding wrong_type_text all_of bytes
  wrong-type-octets s i k =
      joined-octets (joined-octets (joined-octets (joined-octets (joined-octets (joined-octets
      (written_out "property `" refl)
      (names _))
      (written_out "` expects type `" refl))
      (expected-octets (property_of (owners s (t.kind i)) (names_of t i) (key_at t i k))))
      (written_out "` but got `" refl))
      (got-octets (literal t (value_at t i k))))
      (written_out "`" refl)

  arity-octets : (s : Schema) (i : ℕ) → Octets (arity_text t s i)
  unfolding arity_text all_of bytes
  arity-octets s i =
      pick-octets (eqb (t.kind i) 16)
      (joined-octets (joined-octets (joined-octets
      (written_out "function `" refl) (names _)) (written_out "` expects " refl))
      (count-octets (function_of s (t.text (i + 1))) (t.value i)))
      (joined-octets (joined-octets (joined-octets
      (written_out "procedure `" refl) (names _)) (written_out "` expects " refl))
      (count-octets (procedure_of s (t.text (i + 3))) (t.value i)))

  apart-octets : (i : ℕ) → Octets (apart_text t i)
  unfolding apart_text all_of bytes
  apart-octets i =
      joined-octets (joined-octets
      (written_out "labels " refl)
      (go (eqb (t.kind i) 62)))
      (written_out " cannot be combined on a single node" refl)
    where
      go : (b : Bool) → Octets (colons (bytes "") (pick b (names_of t i) (texts t (i + 1) (t.value i))))
      go true = colons-octets (bytes "") (written_out "" refl) (names_of t i)
          (each-table (λ j. t.text j) names (i + 3) (t.value i / 2))
      go false = colons-octets (bytes "") (written_out "" refl) (texts t (i + 1) (t.value i))
          (each-table (λ j. t.text j) names (i + 1) (t.value i))

  unbacked-octets : (i : ℕ) → Octets (unbacked_text t i)
  unfolding unbacked_text all_of bytes
  unbacked-octets i =
      joined-octets (joined-octets (joined-octets (joined-octets
      (written_out "MERGE key {" refl)
      (joined-texts (bytes ", ") (written_out ", " refl) (in_order (keys_of t i)) (each-in-order (keys_of t i)
      (each-table (key_at t i) (λ k. names _) 0 (t.value (props_of t i))))))
      (written_out "} on " refl))
      (on-names-octets t names i))
      (written_out " is not backed by a declared uniqueness constraint" refl)

  -- the message of any item at all
  pub message-octets : (s : Schema) (x : Item) → Octets (message_of t s x)
  unfolding message_of all_of bytes
  message-octets s x =
      pick-octets (eqb x.code 3001) (quoted-octets "unknown label `:" _ refl)
      (pick-octets (eqb x.code 3002) (quoted-octets "unknown relationship type `:" _ refl)
      (pick-octets (eqb x.code 3003) (undeclared-octets x.owner x.ordinal)
      (pick-octets (eqb x.code 3004) (wrong-type-octets s x.owner x.ordinal)
      (pick-octets (eqb x.code 3006) (quoted-octets "unknown function `" _ refl)
      (pick-octets (eqb x.code 3007) (arity-octets s x.owner)
      (pick-octets (eqb x.code 3008) (quoted-octets "unknown procedure `" _ refl)
      (pick-octets (eqb x.code 3009) (unbacked-octets x.owner)
      (pick-octets (eqb x.code 4023) (apart-octets x.owner) no_char))))))))

-- ---- a statement that is accepted
statement-frame : (st : List ℕ) → statement_fault st ≡ None → frame_fault st ≡ None
unfolding statement_fault
statement-frame st h = (or-else _ _ h).0

-- over a statement that is accepted and any schema, the message of any item is UTF-8: as the RFC defines it
pub item-octets : (st : List ℕ) (s : Schema) (x : Item) → statement_fault st ≡ None → Octets
    (message_of (statement_in st) s x)
item-octets st s x h = message-octets (statement_in st) (name-octets st (statement-frame st h)) s x

-- and by the test
pub item-utf8 : (st : List ℕ) (s : Schema) (x : Item) → MessageUtf8 st s x
item-utf8 st s x h = (agree (message_of (statement_in st) s x)).1 (item-octets st s x h)

-- ---- the operation
-- it refuses, or writes a text that is UTF-8, as the RFC defines it, and answers its length
pub data Says : Effect → Type 0 where
  refuses : {n s p : ℕ} → Says (refusal n s p)
  says : {xs : List ℕ} → Octets xs → Says (writes (length xs) xs)

fitted-says : (xs lent : List ℕ) → Octets xs → Says (fitted (length xs) xs lent)
unfolding fitted
fitted-says xs lent o = go (leb (length xs) (length lent))
  where
    go : (b : Bool) → Says (pick b (writes (length xs) xs) (refusal 16 0 0))
    go true = says o
    go false = refuses

item-says : (t : Tree) (s : Schema) → ((x : Item) → Octets (message_of t s x)) → (o : Option Item) (lent : List ℕ)
    → Says (item_effect t s o lent)
item-says t s h None lent = refuses
item-says t s h (Some x) lent = fitted-says (message_of t s x) lent (h x)

after-says : (a b : Option Fault) (next : Effect) → (a ≡ None → Says next)
    → Says (unless_refused 1 a (unless_refused 2 b next))
after-says (Some u) b next h = refuses
after-says None (Some u) next h = refuses
after-says None None next h = h refl

-- for any bytes
pub message-says : (st sc : List ℕ) (k : ℕ) (lent : List ℕ) → Says (message_effect st sc k lent)
unfolding message_effect after_statement after_schema
message-says st sc k lent =
    after-says (statement_fault st) (schema_fault sc) _
    (λ h. item-says (statement_in st) (schema_in sc) (λ x. item-octets st (schema_in sc) x h)
    (nth (listed (statement_in st) (schema_in sc)) k) lent)

-- an answer accepts with one number, and is no refusal
accepted-same : {n m : ℕ} → ◌≡◌ {A = Result ℕ Refusal} (Ok n) (Ok m) → n ≡ m
accepted-same e = cc

not-accepted : {A : Type 0} {r : Refusal} {count : ℕ} → Ok count ≡ Err r → A
not-accepted e = let z : ◌≡◌ {A = ℕ} 0 1 = cc in absurd (omega arith)

-- the bytes that stand in the buffer then, so many as the answer says
left-octets : (a : Effect) (lent : List ℕ) (n : ℕ) (left : List ℕ) → Says a → Done a lent (Ok n) left → Octets
    (take n left)
unfolding exit
left-octets _ lent n left refuses d = not-accepted d.answer
left-octets _ lent n left (says {xs = xs} o) d =
    let h : n ≡ length xs = accepted-same d.answer in
    rw (h, d.buffer, take-append_seam xs (drop (length xs) lent)) o

-- for any bytes what the operation `message` says is UTF-8 by the test
pub message-utf8 : (st sc : List ℕ) (k : ℕ) (lent : List ℕ) → SaysUtf8 st sc k lent
message-utf8 st sc k lent n left d =
    (agree (take n left)).1 (left-octets (message_effect st sc k lent) lent n left (message-says st sc k lent) d)
