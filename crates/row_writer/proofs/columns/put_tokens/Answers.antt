use Rattle.written.proofs.Begun.{tokens-join}
use mathlib.Core.Path.{refl}
use Rattle.row_writer.proofs.columns.put_tokens.Goals as goal

pub returns : goal.returns
returns c =
    tokens-join c.put_clause.ensures refl
    (tokens-join c.put_node.ensures refl c.put_columns.ensures)
