use mathlib.Core.Path.{◌∙◌}
use Rattle.text.specs.Text.{bytes}
use Rattle.cells.proofs.FirstBytes.{bool-first, bool-second}
use Rattle.cells.proofs.is_bool.Goals as goal

pub returns-then-same_text : goal.returns-then-same_text
unfolding bytes
returns-then-same_text c =
    c.if-same_text.true ∙ bool-first _ _ c.same_text.ensures c.if-same_text.true

pub returns-else-same_text : goal.returns-else-same_text
unfolding bytes
returns-else-same_text c =
    bool-second _ _ _ c.same_text.ensures c.if-same_text.false c.same_text-else-same_text.ensures
