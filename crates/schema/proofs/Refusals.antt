-- What holds of every refusal: lent memory stays as it came, and the number is above 0. The faults of declarations
-- are 10 to 13.
use mathlib.Core.Path.{◌≡◌, refl}
use mathlib.Core.Bool.{Bool, true, false}
use mathlib.Core.List.{List, []}
use Prim.Native.Nat.{ℕ, ◌≤◌, ◌<◌}
use native.Mathlib.Omega.{arith}
use lib.Dec.{leb}
use lib.ListN.{length}
use Rattle.lists.specs.Lists.{pick, first}
use Rattle.frame.specs.Doc.{doc_of}
use Rattle.frame.specs.Sheet.{frame_fault}
use Rattle.frame.specs.declared.Fault.{Fault}
use Rattle.frame.proofs.Numbered.{NumberedFault, none-numbered, at-numbered, or-numbered, wider, frame-numbered}
use Rattle.rules.specs.Kinds as Kind
use Rattle.rules.specs.declared.Place.TheVariants.{WholeStatement, WholeSchema}
use Rattle.grammar.specs.Machine.{grammar_fault}
use Rattle.grammar.specs.Tree.{Tree, tree_of}
use Rattle.grammar.proofs.Numbered.{grammar-numbered}
use Rattle.schema.specs.declared.Refusal.{Refusal}
use Rattle.schema.specs.Declarations.{decls_of, again, equal_apart, fault_at, declared_fault, statement_fault, schema_fault}
use Rattle.schema.specs.Effect.{Effect, refusal, writes, exit, unless_refused, after_statement, after_schema, after_both, read_statement, read_schema, fitted, Done}
use Rattle.std.specs.Prelude.{Some, None, Result, Err, Option}

-- Demand 1: an operation whose answer is a refusal leaves the memory that it was lent as it came. Every operation
-- with a buffer ensures `Done` of its effect
pub demand-1 : (a : Effect) (lent left : List ℕ) (r : Result ℕ Refusal) (q : Refusal) → Done a lent r left → r ≡ Err q
    → left ≡ lent
unfolding exit
demand-1 (refusal n s p) lent left r q done e = done.buffer
demand-1 (writes count xs) lent left r q done e = absurd
    (let z : ◌≡◌ {A = ℕ} 0 1 = cc (done.answer, e) in omega arith)

-- ---- the numbers of faults
found-numbered : (m : ℕ) (o : Option ℕ) → 10 ≤ m → m ≤ 13 → NumberedFault 10 13 (fault_at m o)
found-numbered m None h g = none-numbered
found-numbered m (Some i) h g = at-numbered m i h g

-- Every fault of a schema's declarations has a number from 10 to 13
pub declared-numbered : (t : Tree) → NumberedFault 10 13 (declared_fault t)
unfolding declared_fault
declared-numbered t =
    or-numbered _ _ (found-numbered 10 (first (again t Kind.Label) (decls_of t Kind.Label)) (omega arith) (omega arith))
    (or-numbered _ _
    (found-numbered 11 (first (again t Kind.RelType) (decls_of t Kind.RelType)) (omega arith) (omega arith))
    (or-numbered _ _
    (found-numbered 12 (first (again t Kind.Parameter) (decls_of t Kind.Parameter)) (omega arith) (omega arith))
    (found-numbered 13 (first (equal_apart t) (decls_of t Kind.Apart)) (omega arith) (omega arith))))

-- Every fault of a statement sheet has a number from 1 to 9, of a schema sheet one from 1 to 13
pub statement-numbered : (st : List ℕ) → NumberedFault 1 9 (statement_fault st)
unfolding statement_fault
statement-numbered st =
    or-numbered _ _ (wider (frame_fault st) 1 9 (omega arith) (omega arith) (frame-numbered st))
    (wider (grammar_fault WholeStatement (doc_of st)) 1 9 (omega arith) (omega arith)
    (grammar-numbered WholeStatement (doc_of st)))

pub schema-numbered : (sc : List ℕ) → NumberedFault 1 13 (schema_fault sc)
unfolding schema_fault
schema-numbered sc =
    or-numbered _ _ (wider (frame_fault sc) 1 13 (omega arith) (omega arith) (frame-numbered sc))
    (or-numbered _ _
    (wider (grammar_fault WholeSchema (doc_of sc)) 1 13 (omega arith) (omega arith)
    (grammar-numbered WholeSchema (doc_of sc)))
    (wider (declared_fault (tree_of (doc_of sc))) 1 13 (omega arith) (omega arith)
    (declared-numbered (tree_of (doc_of sc)))))

-- ---- every refusal: if an effect is one, its number is above 0
abbrev pub Numbered : Effect → Type 0
Numbered a = (n s p : ℕ) → a ≡ refusal n s p → 0 < n

pub writes-numbered : (count : ℕ) (xs : List ℕ) → Numbered (writes count xs)
writes-numbered count xs n s p e = let z : ◌≡◌ {A = ℕ} 0 1 = cc in absurd (omega arith)

pub refusal-numbered : (m r q : ℕ) → 0 < m → Numbered (refusal m r q)
refusal-numbered m r q h n s p e = let z : m ≡ n = cc in omega arith

pub choice-numbered : (t : Bool) (a b : Effect) → Numbered a → Numbered b → Numbered (pick t a b)
choice-numbered true a b x y = x
choice-numbered false a b x y = y

unless-numbered : {high : ℕ} (k : ℕ) (x : Option Fault) (a : Effect) → NumberedFault 1 high x → Numbered a
    → Numbered (unless_refused k x a)
unless-numbered k None a f h = h
unless-numbered k (Some u) a f h = refusal-numbered u.number k u.place (omega (arith, (f u.number u.place refl).0))

pub after-statement-numbered : (st : List ℕ) (a : Effect) → Numbered a → Numbered (after_statement st a)
unfolding after_statement
after-statement-numbered st a h = unless-numbered 1 (statement_fault st) a (statement-numbered st) h

pub after-schema-numbered : (sc : List ℕ) (a : Effect) → Numbered a → Numbered (after_schema sc a)
unfolding after_schema
after-schema-numbered sc a h = unless-numbered 2 (schema_fault sc) a (schema-numbered sc) h

pub after-both-numbered : (st sc : List ℕ) (a : Effect) → Numbered a → Numbered (after_both st sc a)
after-both-numbered st sc a h = after-statement-numbered st (after_schema sc a) (after-schema-numbered sc a h)

pub fitted-numbered : (count : ℕ) (xs lent : List ℕ) → Numbered (fitted count xs lent)
unfolding fitted
fitted-numbered count xs lent = choice-numbered (leb (length xs) (length lent)) _ _ (writes-numbered count xs)
    (refusal-numbered _ 0 0 (omega arith))

-- read_statement, read_schema
pub read-statement-numbered : (st : List ℕ) → Numbered (read_statement st)
read-statement-numbered st = after-statement-numbered st (writes 0 []) (writes-numbered 0 [])

pub read-schema-numbered : (sc : List ℕ) → Numbered (read_schema sc)
read-schema-numbered sc = after-schema-numbered sc (writes 0 []) (writes-numbered 0 [])
