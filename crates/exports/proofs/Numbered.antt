-- Number 0 is acceptance, which no refusal has: of each operation with such an answer, and of the four numbers that
-- are answered for it.
use mathlib.Core.Logic.{◌↔◌}
use mathlib.Core.Path.{◌≡◌, refl, ap}
use mathlib.Core.List.{List}
use Prim.Native.Nat.{ℕ, ◌/◌, ◌<◌}
use native.Mathlib.Omega.{arith}
use borrow.Author.Tests.{ne_eqb}
use lib.Dec.{eqb, leb}
use lib.ListN.{length}
use Rattle.lists.specs.Lists.{pick, each, nth}
use Rattle.lists.proofs.Tests.{pick-false}
use Rattle.frame.specs.Doc.{doc_of}
use Rattle.rules.specs.Kinds as Kind
use Rattle.grammar.specs.Tree.{Tree}
use Rattle.provider.specs.Schema.{Schema}
use Rattle.schema.specs.Effect.{Effect, refusal, writes, answer_of, exit, read_statement, read_schema, fitted}
use Rattle.schema.proofs.Refusals.{Numbered, writes-numbered, refusal-numbered, choice-numbered, after-statement-numbered, after-schema-numbered, after-both-numbered, fitted-numbered, read-statement-numbered, read-schema-numbered}
use Rattle.breach.specs.Breach.{Item, numbers, width, statement_in, schema_in}
use Rattle.breach.specs.Listing.{listed}
use Rattle.schema_aware.specs.Check.{items_effect, check_effect}
use Rattle.margin.specs.Margin.{margin_of, margin_effect}
use Rattle.message.specs.Message.{message_of}
use Rattle.message.specs.Said.{item_effect, message_effect}
use Rattle.by_name.specs.Names.{names_in_order}
use Rattle.endpoints.specs.Pairs.{endpoints_of}
use Rattle.in_memory.specs.Store.{names_effect, endpoints_effect, digest_of, digest_effect}
use Rattle.rows.specs.Rows.{row_statement}
use Rattle.rows.proofs.Numbered.{row-numbered}
use Rattle.join.specs.Join.{join_statements}
use Rattle.join.proofs.Refusals.{join-numbered}
use Rattle.thinned.specs.Thinned.{thin_of}
use Rattle.thin.specs.Thin.{thin_effect, thin_statement, thin_schema}
use Rattle.exports.specs.declared.Reply.{Reply}
use Rattle.exports.specs.Replies.{replied, Replies}
use Rattle.std.specs.Prelude.{Result, Ok, Err}
use Rattle.schema.specs.declared.Refusal.{Refusal}
use Rattle.std.specs.Prelude.{Option, Some, None}

-- ---- the operations
items-numbered : (xs : List Item) (list : List ℕ) → Numbered (items_effect xs list)
unfolding items_effect
items-numbered xs list = choice-numbered (leb (length xs) (length list / width))
    (writes (length xs) (each numbers xs)) (refusal 14 0 0) (writes-numbered (length xs) (each numbers xs))
    (refusal-numbered 14 0 0 (omega arith))

item-numbered : (t : Tree) (s : Schema) (o : Option Item) (text : List ℕ) → Numbered (item_effect t s o text)
item-numbered t s None text = refusal-numbered 15 0 0 (omega arith)
item-numbered t s (Some x) text = fitted-numbered (length (message_of t s x)) (message_of t s x) text

check-numbered : (st sc list : List ℕ) → Numbered (check_effect st sc list)
unfolding check_effect
check-numbered st sc list = after-both-numbered st sc (items_effect (listed (statement_in st) (schema_in sc)) list)
    (items-numbered (listed (statement_in st) (schema_in sc)) list)

margin-numbered : (st sc list : List ℕ) → Numbered (margin_effect st sc list)
unfolding margin_effect
margin-numbered st sc list =
    let xs = margin_of (listed (statement_in st) (schema_in sc)) in
    after-both-numbered st sc (items_effect xs list) (items-numbered xs list)

message-numbered : (st sc : List ℕ) (k : ℕ) (text : List ℕ) → Numbered (message_effect st sc k text)
unfolding message_effect
message-numbered st sc k text = after-both-numbered st sc
    (item_effect (statement_in st) (schema_in sc) (nth (listed (statement_in st) (schema_in sc)) k) text)
    (item-numbered (statement_in st) (schema_in sc) (nth (listed (statement_in st) (schema_in sc)) k) text)

names-numbered : (kind : ℕ) (sc out : List ℕ) → Numbered (names_effect kind sc out)
unfolding names_effect
names-numbered kind sc out =
    let xs = names_in_order (doc_of sc) kind in
    after-schema-numbered sc (fitted (length xs) xs out) (fitted-numbered (length xs) xs out)

endpoints-numbered : (sc text out : List ℕ) → Numbered (endpoints_effect sc text out)
unfolding endpoints_effect
endpoints-numbered sc text out =
    let xs = endpoints_of (doc_of sc) text in
    after-schema-numbered sc (fitted (length xs / 2) xs out) (fitted-numbered (length xs / 2) xs out)

digest-numbered : (sc : List ℕ) → Numbered (digest_effect sc)
unfolding digest_effect
digest-numbered sc = after-schema-numbered sc (writes 32 (digest_of (schema_in sc)))
    (writes-numbered 32 (digest_of (schema_in sc)))

thin-statement-numbered : (st out : List ℕ) → Numbered (thin_statement st out)
unfolding thin_statement thin_effect
thin-statement-numbered st out =
    after-statement-numbered st (fitted (length (thin_of st)) (thin_of st) out)
    (fitted-numbered (length (thin_of st)) (thin_of st) out)

thin-schema-numbered : (sc out : List ℕ) → Numbered (thin_schema sc out)
unfolding thin_schema thin_effect
thin-schema-numbered sc out =
    after-schema-numbered sc (fitted (length (thin_of sc)) (thin_of sc) out)
    (fitted-numbered (length (thin_of sc)) (thin_of sc) out)

-- Every refusal of the operations has a number above 0, for any bytes lent
pub record EveryNumbered : Type 0 where
  pub read-statement : (st : List ℕ) → Numbered (read_statement st)
  pub read-schema : (sc : List ℕ) → Numbered (read_schema sc)
  pub check_schema_aware : (st sc list : List ℕ) → Numbered (check_effect st sc list)
  pub margin_list : (st sc list : List ℕ) → Numbered (margin_effect st sc list)
  pub message : (st sc : List ℕ) (k : ℕ) (text : List ℕ) → Numbered (message_effect st sc k text)
  pub label_names : (sc out : List ℕ) → Numbered (names_effect Kind.Label sc out)
  pub rel_type_names : (sc out : List ℕ) → Numbered (names_effect Kind.RelType sc out)
  pub parameter_names : (sc out : List ℕ) → Numbered (names_effect Kind.Parameter sc out)
  pub relationship_endpoints : (sc text out : List ℕ) → Numbered (endpoints_effect sc text out)
  pub schema_digest : (sc : List ℕ) → Numbered (digest_effect sc)
  pub row-statement : (text label : List ℕ) (k : ℕ) (out : List ℕ) → Numbered (row_statement text label k out)
  pub join-statements : (first second out : List ℕ) → Numbered (join_statements first second out)
  pub thin-statement : (st out : List ℕ) → Numbered (thin_statement st out)
  pub thin-schema : (sc out : List ℕ) → Numbered (thin_schema sc out)

pub every-numbered : EveryNumbered
every-numbered =
    record {
      read-statement = read-statement-numbered;
      read-schema = read-schema-numbered;
      check_schema_aware = check-numbered;
      margin_list = margin-numbered;
      message = message-numbered;
      label_names = names-numbered Kind.Label;
      rel_type_names = names-numbered Kind.RelType;
      parameter_names = names-numbered Kind.Parameter;
      relationship_endpoints = endpoints-numbered;
      schema_digest = digest-numbered;
      row-statement = row-numbered;
      join-statements = join-numbered;
      thin-statement = thin-statement-numbered;
      thin-schema = thin-schema-numbered;
    }

-- ---- the four numbers of such an operation
-- Number is 0 exactly when the operation is accepted. Every exported function ensures that its reply is `replied` of
-- its operation's answer, with a buffer by `Replies`
pub zero-accepts : (a : Effect) (r : Reply) → Numbered a → r ≡ replied (answer_of a)
    → (r.number ≡ 0) ↔ ((count : ℕ) × (answer_of a ≡ Ok count))
zero-accepts (refusal n s p) r h told =
    let e : r.number ≡ n = ap (λ (x : Reply). x.number) told in (
      (λ z. absurd (omega (arith, e, h n s p refl))),
      λ c. absurd (let f = c.1 in let z : ◌≡◌ {A = ℕ} 0 1 = cc in omega arith),
    )
zero-accepts (writes count xs) r h told = ((λ z. (count, refl)), λ c. ap (λ (x : Reply). x.number) told)

-- The answer that the four numbers say, as a caller reads them, is the operation's
abbrev pub answer_in : Reply → Result ℕ Refusal
answer_in r =
    pick (eqb r.number 0) (Ok r.count)
    (Err (record { number = r.number; sheet = r.sheet; place = r.place }))

pub answer-told : (a : Effect) → Numbered a → answer_in (replied (answer_of a)) ≡ answer_of a
answer-told (refusal n s p) h = pick-false _ _ (ne_eqb n 0 (λ e. omega (arith, h n s p refl)))
answer-told (writes count xs) h = refl

-- Demand 1 of what is exported: where number is not 0, lent memory is as it came
pub exported-demand-1 : (a : Effect) (lent left : List ℕ) (r : Reply) → Replies a lent r left → 0 < r.number
    → left ≡ lent
unfolding exit
exported-demand-1 (refusal n s p) lent left r told h = told.buffer
exported-demand-1 (writes count xs) lent left r told h =
    let e : r.number ≡ 0 = ap (λ (x : Reply). x.number) told.answer in absurd (omega arith)
