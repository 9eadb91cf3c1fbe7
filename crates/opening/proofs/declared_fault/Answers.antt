use Rattle.schema.proofs.Scans.{as-declared}
use Rattle.opening.proofs.Singles.{in-turn, or-match}
use borrow.Author.Rules.{rules}
use Rattle.opening.proofs.declared_fault.Goals as goal

pub returns : goal.returns
returns c =
    as-declared c.requires.schema (in-turn _ (or-match _ _ _ _ c.repeated_fault.ensures (λ p. search rules) c.or_else.ensures))
