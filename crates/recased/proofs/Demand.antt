-- Built-in names in any case: a statement or a schema with the case of its function names changed gets the same list;
-- what is looked up in any case, and what by its exact bytes; and messages show names as written.
use mathlib.Core.Bool.{true}
use mathlib.Core.Path.{◌≡◌, ◌∙◌, refl, sym, ap, subst}
use mathlib.Core.List.{List, [], ◌∷◌, Memᴰ}
use Prim.Native.Nat.{ℕ, ◌+◌}
use native.Mathlib.Omega.{arith}
use Rattle.lists.specs.Lists.{both, all_of}
use Rattle.lists.proofs.Tests.{never, both_true}
use Rattle.text.specs.Text.{same_text, is_text}
use Rattle.text.specs.Folded.{folded, same_folded}
use Rattle.text.proofs.Laws.{same_refl, same-is}
use Rattle.frame.specs.Doc.{doc_of}
use Rattle.frame.specs.declared.Fault.{Fault}
use Rattle.rules.specs.Kinds as Kind
use Rattle.grammar.specs.Tree.{Tree}
use Rattle.schema.specs.Declarations.{statement_fault, schema_fault}
use Rattle.schema.specs.Effect.{unless_refused, after_statement, after_schema}
use Rattle.schema.proofs.Searches.{none-mem}
use Rattle.provider.specs.Schema.{Schema, Owner, Property, Signature, Apart, is_declared, owner_of, properties_in, property_in, or_next, property_of, function_of, procedure_of, apart_among}
use Rattle.breach.specs.Breach.{Item, backed, statement_in, schema_in}
use Rattle.breach.specs.Listing.{listed}
use Rattle.breach.proofs.Demand.{demand-3}
use Rattle.breach.proofs.Whole.{breach-owner}
use Rattle.message.specs.Message.{message_of}
use Rattle.schema_aware.specs.Check.{items_effect, check_effect}
use Rattle.recased.specs.Recased.{Recased, RecasedSchema, AsWritten}
use Rattle.recased.proofs.Signatures.{function_alike}
use Rattle.recased.proofs.Breaches.{schema-back, breach-against}
use Rattle.recased.proofs.Lists.{alike, read}
use Rattle.recased.proofs.Statements.{recased-back, retold-is, spared, recased-breach}
use Rattle.recased.proofs.Written.{first_passes, any-passes, all-passes, text-mem, message-kept, message-written, message-against}
use Rattle.std.specs.Prelude.{Some, None}
use Rattle.std.specs.Prelude.{Option}

-- A statement with the case of its function names changed gets the same list, with every schema
pub recased-list : (a b c : List ℕ) → statement_fault a ≡ None → statement_fault b ≡ None
    → Recased (statement_in a) (statement_in b)
    → listed (statement_in b) (schema_in c) ≡ listed (statement_in a) (schema_in c)
recased-list a b c p q e =
    let x = read a p in
    let y = read b q in
    alike a b (schema_in c) (schema_in c) p q
    (λ i z. recased-breach (doc_of b) (doc_of a) (recased-back e) y.0 y.1 (schema_in c) i)
    (λ i z. recased-breach (doc_of a) (doc_of b) e x.0 x.1 (schema_in c) i)

-- A schema with the case of its function names changed gets the same list, for every statement
pub recased-schema : (a c e : List ℕ) → statement_fault a ≡ None → RecasedSchema (schema_in c) (schema_in e)
    → listed (statement_in a) (schema_in e) ≡ listed (statement_in a) (schema_in c)
recased-schema a c e p r =
    alike a a (schema_in c) (schema_in e) p p
    (λ i z. breach-against (schema-back r) (statement_in a) i) (λ i z. breach-against r (statement_in a) i)

-- ---- what the check answers and writes
-- With an accepted statement in which the case of function names is changed, so that it is accepted too, the check does
-- the same: it gives the schema's refusal, or 14, or the same items
pub recased-check : (a b c list : List ℕ) → statement_fault a ≡ None → statement_fault b ≡ None
    → Recased (statement_in a) (statement_in b) → check_effect b c list ≡ check_effect a c list
unfolding check_effect after_statement
recased-check a b c list p q e = rw (p, q, recased-list a b c p q e)

-- and so it does with a schema in which it is changed, whatever the statement is
pub recased-schema-check : (a c e list : List ℕ) → schema_fault c ≡ None → schema_fault e ≡ None
    → RecasedSchema (schema_in c) (schema_in e) → check_effect a e list ≡ check_effect a c list
unfolding check_effect after_statement after_schema
recased-schema-check a c e list p q r = rw (p, q) (go (statement_fault a) refl)
  where
    go : (x : Option Fault) → statement_fault a ≡ x
        → unless_refused 1 x (items_effect (listed (statement_in a) (schema_in e)) list)
        ≡ unless_refused 1 x (items_effect (listed (statement_in a) (schema_in c)) list)
    go None h = ap (λ (xs : List Item). items_effect xs list) (recased-schema a c e h r)
    go (Some u) h = refl

-- ---- the lookups
-- The lookup of a function treats the 26 letters alike in either case: names that are the same but for their case find
-- the same
pub functions-in-any-case : (s : Schema) (a b : List ℕ) → folded a ≡ folded b → function_of s a ≡ function_of s b
functions-in-any-case = function_alike

-- and a function that is found has the name but for the case of the letters
pub functions-by-letters : (s : Schema) (n : List ℕ) (f : Signature) → function_of s n ≡ Some f
    → folded f.name ≡ folded n
functions-by-letters s n f e =
    sym (same-is (folded n) (folded f.name) (first_passes (λ g. same_folded n g.name) s.functions f e))

-- And where a function is declared by the name in any case, one is found
pub functions-found : (s : Schema) (n : List ℕ) (f : Signature) → Memᴰ f s.functions
    → folded f.name ≡ folded n → function_of s n ≡ None → ⊥
functions-found s n f m e h =
    never (sym (none-mem (λ g. same_folded n g.name) s.functions h m)
    ∙ subst (λ (a : List ℕ). same_text (folded n) a ≡ true) (sym e) (same_refl (folded n)))

-- Procedures, labels and keys keep exact bytes, and so do relationship types, tuples and Aparts: a procedure that is
-- found has the name that was looked for,
pub procedures-exact : (s : Schema) (n : List ℕ) (f : Signature) → procedure_of s n ≡ Some f → f.name ≡ n
procedures-exact s n f e =
    sym (same-is n f.name (first_passes (λ g. same_text n g.name) s.procedures f e))

-- a label or relationship type that is declared is so by its exact name, and so is the declaration that is found,
pub owners-exact : (os : List Owner) (n : List ℕ) → is_declared os n ≡ true
    → (o : Owner) × Memᴰ o os × (o.name ≡ n)
owners-exact os n e =
    let r = any-passes (λ o. same_text n o.name) os e in
    (r.0, r.1, sym (same-is n r.0.name r.2))

pub owners-found : (os : List Owner) (n : List ℕ) (o : Owner) → owner_of os n ≡ Some o → o.name ≡ n
owners-found os n o e = sym (same-is n o.name (first_passes (λ p. same_text n p.name) os o e))

-- a property that is found has the key as its name,
pub keys-exact : (os : List Owner) (ns : List (List ℕ)) (key : List ℕ) (p : Property) → property_of os ns key ≡ Some p
    → p.name ≡ key
unfolding property_of
keys-exact os [] key p e = absurd (let z : ◌≡◌ {A = ℕ} 0 1 = cc in omega arith)
keys-exact os (n ∷ ns) key p e = go (property_in os n key) refl e (keys-exact os ns key p)
  where
    go : (o : Option Property) → property_in os n key ≡ o → or_next o (property_of os ns key) ≡ Some p
        → (property_of os ns key ≡ Some p → p.name ≡ key) → p.name ≡ key
    go None h f r = r f
    go (Some q) h f r =
        let z : p ≡ q = cc in
        rw z (sym (same-is key q.name (first_passes (λ r. same_text key r.name) (properties_in (owner_of os n)) q h)))

-- labels that cannot be combined are those of an Apart,
pub aparts-exact : (s : Schema) (ns : List (List ℕ)) → apart_among s ns ≡ true
    → (p : Apart) × Memᴰ p s.aparts × Memᴰ p.one ns × Memᴰ p.other ns
unfolding apart_among
aparts-exact s ns e =
    let r = any-passes (λ p. both (is_text ns p.one) (is_text ns p.other)) s.aparts e in
    let q = both_true (is_text ns r.0.one) (is_text ns r.0.other) r.2 in
    (r.0, r.1, text-mem ns r.0.one q.0, text-mem ns r.0.other q.1)

-- and keys that back a MERGE have every name of a tuple
pub tuples-exact : (us : List (List (List ℕ))) (keys : List (List ℕ)) → backed us keys ≡ true
    → (u : List (List ℕ)) × Memᴰ u us × ((k : List ℕ) → Memᴰ k u → Memᴰ k keys)
tuples-exact us keys e =
    let r = any-passes (λ u. all_of (is_text keys) u) us e in
    (r.0, r.1, λ k m. text-mem keys k (all-passes (is_text keys) r.0 r.2 m))

-- ---- the messages
-- Two statements that are the same but for the case of their functions' names, and an item of their list. The message
-- shows the name as written: where the item is that of a function's call, both messages are the same but for the name,
-- which each shows as its statement has it,
pub name-as-written : (a b c : List ℕ) → statement_fault a ≡ None → Recased (statement_in a) (statement_in b)
    → (x : Item) → Memᴰ x (listed (statement_in a) (schema_in c))
    → (statement_in a).kind x.owner ≡ Kind.FunctionCall
    → AsWritten (message_of (statement_in a) (schema_in c) x) (message_of (statement_in b) (schema_in c) x)
    ((statement_in a).text (x.owner + 1)) ((statement_in b).text (x.owner + 1))
name-as-written a b c p r x m k =
    let s : Schema = schema_in c in
    let t : Tree = statement_in a in
    let y = read a p in
    let o = ((demand-3 a s p).all.exact x).0 m in
    let w : x.owner ≡ o.0 = breach-owner t s o.0 o.1 in
    let g : t.kind o.0 ≡ Kind.FunctionCall = ap t.kind (sym w) ∙ k in
    subst (λ (i : ℕ). AsWritten (message_of t s x) (message_of (statement_in b) s x) (t.text (i + 1)) ((statement_in b).text (i + 1)))
    (sym w)
    (subst
    (λ (u : Tree). AsWritten (message_of t s x) (message_of u s x) (t.text (o.0 + 1)) ((statement_in b).text (o.0 + 1)))
    (sym (retold-is (doc_of a) (doc_of b) r))
    (message-written (spared (doc_of a) (doc_of b) r y.0 y.1) o.0 s o.1 g))

-- and where it is that of any other token, they are the same
pub other-messages : (a b c : List ℕ) → statement_fault a ≡ None → Recased (statement_in a) (statement_in b)
    → (x : Item) → Memᴰ x (listed (statement_in a) (schema_in c))
    → ((statement_in a).kind x.owner ≡ Kind.FunctionCall → ⊥)
    → message_of (statement_in b) (schema_in c) x ≡ message_of (statement_in a) (schema_in c) x
other-messages a b c p r x m n =
    let s : Schema = schema_in c in
    let t : Tree = statement_in a in
    let y = read a p in
    let o = ((demand-3 a s p).all.exact x).0 m in
    let w : x.owner ≡ o.0 = breach-owner t s o.0 o.1 in
    subst (λ (u : Tree). message_of u s x ≡ message_of t s x) (sym (retold-is (doc_of a) (doc_of b) r))
    (message-kept (spared (doc_of a) (doc_of b) r y.0 y.1) o.0 s o.1 (λ k. n (ap t.kind w ∙ k)))

-- Of two schemas that are the same but for the case of their functions' names every message is the same
pub schema-messages : (t : Tree) {s r : Schema} → RecasedSchema s r → (x : Item) → message_of t r x ≡ message_of t s x
schema-messages t e x = message-against e t x
