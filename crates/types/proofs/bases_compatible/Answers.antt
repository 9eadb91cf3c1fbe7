use Rattle.types.proofs.Passing.{past-rows, past-columns, entry}
use Rattle.lists.specs.Lists.{table, any_of}
use Rattle.types.specs.Types.{scalars, compatible}
use mathlib.Core.Path.{◌∙◌}
use Rattle.types.proofs.bases_compatible.Goals as goal

pub returns-then-inferred-gt-UNKNOWN : goal.returns-then-inferred-gt-UNKNOWN
returns-then-inferred-gt-UNKNOWN c =
    c.is_wide.ensures ∙ past-rows _ _ c.if-inferred-gt-UNKNOWN.true

pub returns-then-declared-gt-ANY : goal.returns-then-declared-gt-ANY
returns-then-declared-gt-ANY c =
    c.is_loose.ensures ∙ past-columns _ _ c.if-declared-gt-ANY.true

pub returns : goal.returns
unfolding table any_of scalars compatible
returns c =
    entry c.args.inferred c.args.declared c.if-inferred-gt-UNKNOWN.false
    c.if-declared-gt-ANY.false
