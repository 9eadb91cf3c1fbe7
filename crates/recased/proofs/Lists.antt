-- Two accepted statements, each with a schema, whose breaches are the same have the same list.
use mathlib.Core.Path.{◌≡◌, refl}
use mathlib.Core.List.{List}
use Prim.Native.Nat.{ℕ, ◌<◌}
use native.Mathlib.Omega.{arith}
use lib.ListN.{length}
use Rattle.frame.specs.Sheet.{sheet_of, frame_fault}
use Rattle.frame.specs.Doc.{doc_of}
use Rattle.frame.proofs.Laws.{or-else, sound}
use Rattle.rules.specs.declared.Place.TheVariants.{WholeStatement}
use Rattle.grammar.specs.Machine.{grammar_fault}
use Rattle.schema.specs.Declarations.{statement_fault}
use Rattle.provider.specs.Schema.{Schema}
use Rattle.breach.specs.Breach.{Item, Breach, statement_in}
use Rattle.breach.specs.Listing.{listed}
use Rattle.breach.specs.Order.{whole_key}
use Rattle.breach.proofs.Only.{same-list}
use Rattle.breach.proofs.Demand.{demand-3}
use Rattle.std.specs.Prelude.{None}

-- Two lists of all breaches, where each breach of the one is a breach of the other and back, are the same
pub alike : (a b : List ℕ) (s r : Schema) → statement_fault a ≡ None → statement_fault b ≡ None
    → ((i : ℕ) (x : Item) → Breach (statement_in b) r i x → Breach (statement_in a) s i x)
    → ((i : ℕ) (x : Item) → Breach (statement_in a) s i x → Breach (statement_in b) r i x)
    → listed (statement_in b) r ≡ listed (statement_in a) s
alike a b s r p q f g =
    let x = (demand-3 a s p).all in
    let y = (demand-3 b r q).all in
    same-list whole_key (listed (statement_in b) r) (listed (statement_in a) s) y.ascending x.ascending
    (λ z m. let o = (y.exact z).0 m in (x.exact z).1 (o.0, f o.0 z o.1))
    (λ z m. let o = (x.exact z).0 m in (y.exact z).1 (o.0, g o.0 z o.1))

-- A statement that is accepted has a token, and the grammar finds no fault in it
pub read : (a : List ℕ) → statement_fault a ≡ None
    → (0 < length (doc_of a).tokens) × (grammar_fault WholeStatement (doc_of a) ≡ None)
unfolding statement_fault
read a h =
    let r = or-else (frame_fault a) (grammar_fault WholeStatement (doc_of a)) h in
    let f = sound a (sheet_of a) r.0 refl in
    (omega (arith, f.tokens, f.some_tokens), r.1)
