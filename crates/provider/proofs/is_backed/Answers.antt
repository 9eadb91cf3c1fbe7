use mathlib.Core.Path.{sym, ◌∙◌}
use borrow.Author.Tests.{ne_eqb}
use Rattle.schema.proofs.Named.{not-kind, of-kind}
use Rattle.provider.proofs.is_backed.Goals as goal

pub returns-else-kind-eq-TUPLE : goal.returns-else-kind-eq-TUPLE
returns-else-kind-eq-TUPLE c =
    ne_eqb _ _ c.if-kind-eq-TUPLE.false ∙ not-kind _ _ _ _ _ c.kind.ensures c.if-kind-eq-TUPLE.false

pub tuple_among-requires-clause-j_value : goal.tuple_among-requires-clause-j_value
tuple_among-requires-clause-j_value c =
    sym c.kind.ensures ∙ c.if-kind-eq-TUPLE.true

pub returns-then-kind-eq-TUPLE : goal.returns-then-kind-eq-TUPLE
returns-then-kind-eq-TUPLE c =
    of-kind _ _ _ _ _ c.kind.ensures c.if-kind-eq-TUPLE.true c.tuple_among.ensures
