use Rattle.provider.proofs.Lookups.{decl-low, decl-high}
use Rattle.provider.proofs.is_decl.Goals as goal

pub returns-else-kind-ge-LABEL : goal.returns-else-kind-ge-LABEL
returns-else-kind-ge-LABEL c =
    decl-low _ c.if-kind-ge-LABEL.false

pub returns-then-kind-ge-LABEL : goal.returns-then-kind-ge-LABEL
returns-then-kind-ge-LABEL c =
    decl-high _ c.if-kind-ge-LABEL.true
