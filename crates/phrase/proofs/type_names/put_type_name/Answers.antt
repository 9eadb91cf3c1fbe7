use mathlib.Core.Path.{refl}
use lib.Dec.{eqb}
use Rattle.lists.specs.Lists.{all_of}
use Rattle.text.specs.Text.{bytes}
use Rattle.types.specs.Types.{type_name}
use Rattle.phrase.proofs.Rows.{inferred, put-named}
use Rattle.phrase.proofs.type_names.put_type_name.Goals as goal

pub returns : goal.returns
unfolding type_name all_of bytes
returns c =
    put-named inferred (eqb c.args.y.depth 0) c.args.y.base refl c.put_among.ensures
