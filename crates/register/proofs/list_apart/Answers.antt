use mathlib.Core.Path.{refl}
use Rattle.register.proofs.Listed.{list-none, list-more}
use Rattle.register.proofs.list_apart.Goals as goal

pub returns-then-kind-ne-APART : goal.returns-then-kind-ne-APART
returns-then-kind-ne-APART c =
    list-none _ _ _ _ _ _ c.requires.registering _ c.kind.ensures c.if-kind-ne-APART.true

pub returns : goal.returns
returns c =
    list-more _ _ _ _ _ _ c.requires.registering _ c.kind.ensures c.requires.j_lt_tokens _ (rw c.aparts_at.ensures refl) c.if-kind-ne-APART.false
