use mathlib.Core.Path.{◌∙◌, ap}
use Rattle.text.specs.Text.{same_text}
use Rattle.numbers.proofs.is_name.Goals as goal

pub returns : goal.returns
returns c =
    c.same_text.ensures ∙ ap (same_text _) c.name_of.ensures
