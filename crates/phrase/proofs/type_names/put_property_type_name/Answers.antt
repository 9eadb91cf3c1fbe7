use mathlib.Core.Path.{refl}
use lib.Dec.{eqb}
use Rattle.lists.specs.Lists.{all_of}
use Rattle.text.specs.Text.{bytes}
use Rattle.types.specs.Types.{property_type_name}
use Rattle.phrase.proofs.Rows.{declared, put-named}
use Rattle.phrase.proofs.type_names.put_property_type_name.Goals as goal

pub returns : goal.returns
unfolding property_type_name all_of bytes
returns c =
    put-named declared (eqb c.args.y.depth 0) c.args.y.base refl c.put_among.ensures
