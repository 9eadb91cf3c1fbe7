use Rattle.types.proofs.Passing.{level, inferred-deeper, declared-deeper}
use mathlib.Core.Path.{◌∙◌, sym}
use Rattle.types.proofs.types_compatible.Goals as goal

pub returns-then-declared_lists-inferred_lists : goal.returns-then-declared_lists-inferred_lists
returns-then-declared_lists-inferred_lists c =
    c.is_wide.ensures ∙ sym (inferred-deeper _ _ _ _ c.if-declared_lists-inferred_lists.true)

pub returns-then-inferred_lists-declared_lists : goal.returns-then-inferred_lists-declared_lists
returns-then-inferred_lists-declared_lists c =
    c.is_loose.ensures ∙ sym (declared-deeper _ _ _ _ c.if-inferred_lists-declared_lists.true)

pub returns : goal.returns
returns c =
    c.bases_compatible.ensures ∙ sym (level _ _ _ _ c.if-declared_lists-inferred_lists.false c.if-inferred_lists-declared_lists.false)
