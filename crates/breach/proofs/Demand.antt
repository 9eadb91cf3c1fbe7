-- Demand 3, of the definitions: over every statement sheet that is accepted and every schema, the list has the items
-- of all breaches, each once, however deep the token stands, in order, and no others; and no more of them than
-- tokens.
use mathlib.Core.Path.{◌≡◌, refl}
use mathlib.Core.List.{List, Memᴰ}
use Prim.Native.Nat.{ℕ, ◌<◌, ◌≤◌}
use native.Mathlib.Omega.{arith}
use lib.ListN.{length}
use Rattle.frame.specs.Sheet.{sheet_of, frame_fault}
use Rattle.frame.specs.Doc.{doc_of}
use Rattle.frame.proofs.Laws.{or-else, sound}
use Rattle.rules.specs.declared.Place.TheVariants.{WholeStatement}
use Rattle.grammar.specs.Machine.{grammar_fault}
use Rattle.grammar.specs.Tree.{tree_of}
use Rattle.schema.specs.Declarations.{statement_fault}
use Rattle.provider.specs.Schema.{Schema}
use Rattle.breach.specs.Breach.{Item}
use Rattle.breach.specs.Listing.{listed}
use Rattle.breach.specs.Order.{AllBreaches}
use Rattle.breach.proofs.Whole.{StandsIn, owner-stands, all-breaches}
use Rattle.breach.proofs.Shapes.{shaped}
use Rattle.breach.proofs.Few.{list-few}
use Rattle.std.specs.Prelude.{None}

pub record Demanded (st : List ℕ) (s : Schema) : Type 0 where
  -- an item is in the list exactly when it is a breach of some token; and it ascends by clause, within it every E3009
  -- last, then owner, stage, ordinal; strictly, so each stands once
  pub all : AllBreaches (tree_of (doc_of st)) s (listed (tree_of (doc_of st)) s)
  -- no more items than tokens
  pub few : length (listed (tree_of (doc_of st)) s) ≤ (tree_of (doc_of st)).size
  -- the clause number of an item is that of the clause, from 0, in whose tree its owner stands
  pub stands : (x : Item) → Memᴰ x (listed (tree_of (doc_of st)) s) → StandsIn (tree_of (doc_of st)) x.owner x.clause

pub demand-3 : (st : List ℕ) (s : Schema) → statement_fault st ≡ None → Demanded st s
unfolding statement_fault
demand-3 st s h =
    let r = or-else (frame_fault st) (grammar_fault WholeStatement (doc_of st)) h in
    let f = sound st (sheet_of st) r.0 refl in
    let n : 0 < length (doc_of st).tokens = omega (arith, f.tokens, f.some_tokens) in
    let o = shaped (doc_of st) n r.1 in
    record {
      all = all-breaches (tree_of (doc_of st)) s o.rooted;
      few = list-few (tree_of (doc_of st)) s o;
      stands = owner-stands (tree_of (doc_of st)) s o.rooted;
    }
