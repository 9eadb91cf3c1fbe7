use Rattle.written.proofs.Begun.{tokens-join}
use mathlib.Core.Path.{refl}
use Rattle.row_writer.proofs.columns.put_clause.Goals as goal

pub returns : goal.returns
returns c =
    tokens-join c.put_token.ensures refl
    (tokens-join c.put_token-2.ensures refl
    (tokens-join c.put_token-3.ensures refl c.put_token-4.ensures))
