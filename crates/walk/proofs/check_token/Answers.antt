use mathlib.Core.Path.{refl, sym, ap, ◌∙◌}
use Rattle.judge.proofs.Wrote.{wrote_as, wrote-length}
use Rattle.walk.specs.Walk.{is_leaf}
use Rattle.walk.proofs.Leaves.{leaf-opened}
use Rattle.walk.proofs.Steps.{said-early}
use Rattle.walk.proofs.check_token.Goals as goal

pub returns-then-is_leaf : goal.returns-then-is_leaf
returns-then-is_leaf c =
    leaf-opened _ _ _ _ _ (ap is_leaf (sym c.kind.ensures) ∙ sym c.is_leaf.ensures ∙ c.if-is_leaf.true)

pub shape_of-list : goal.shape_of-list
shape_of-list c =
    wrote-length c.token_items-tallied.ensures

pub returns : goal.returns
returns c =
    record {
      trees = c.arity_of.ensures.0;
      few = c.arity_of.ensures.1;
      wrote = wrote_as (said-early _ _ _ _ refl) c.token_items-tallied.ensures;
    }
