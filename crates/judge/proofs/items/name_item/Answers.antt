use native.Mathlib.Omega.{arith}
use mathlib.Core.Path.{sym, subst}
use Prim.Native.Nat.{ℕ}
use Rattle.schema.specs.Inner.{Owning}
use Rattle.properties.proofs.Names.{owner_owns}
use Rattle.judge.proofs.Wrote.{wrote_none, wrote_as, wrote-length}
use Rattle.judge.proofs.OfItems.{element-spans, element-name, name-declared, name-undeclared}
use Rattle.judge.proofs.items.name_item.Goals as goal

pub overflow_add-i-2 : goal.overflow_add-i-2
overflow_add-i-2 c =
    let n = element-name _ _ _ _ c.requires.lent c.requires.i_lt_tokens _ c.requires.i_value c.requires.k_bound in
    omega (arith, n.inside, c.requires.lent.sheet.tokens, c.requires.lent.sheet.few_tokens)

pub has_declared-requires-clause-owning : goal.has_declared-requires-clause-owning
has_declared-requires-clause-owning c =
    subst (λ (k : ℕ). Owning k) (sym c.owner_kind-owner.ensures) (owner_owns c.kind-kind.result)

pub has_declared-requires-clause-name_at : goal.has_declared-requires-clause-name_at
has_declared-requires-clause-name_at c =
    element-name _ _ _ _ c.requires.lent c.requires.i_lt_tokens _ c.requires.i_value c.requires.k_bound

pub returns-then-has_declared : goal.returns-then-has_declared
returns-then-has_declared c =
    wrote_as (name-declared _ _ _ _ _ _ c.kind-kind.ensures c.owner_kind-owner.ensures
    c.has_declared.ensures c.if-has_declared.true) wrote_none

pub put_at-requires-clause-i_value : goal.put_at-requires-clause-i_value
put_at-requires-clause-i_value c =
    let q = element-spans _ _ _ _ c.requires.lent c.requires.i_lt_tokens c.requires.i_value in q.0

pub put_at-requires-clause-i_value_2 : goal.put_at-requires-clause-i_value_2
put_at-requires-clause-i_value_2 c =
    let q = element-spans _ _ _ _ c.requires.lent c.requires.i_lt_tokens c.requires.i_value in q.1

pub shape_of-list : goal.shape_of-list
shape_of-list c =
    wrote-length c.put_at.ensures

pub returns : goal.returns
returns c =
    wrote_as (name-undeclared _ _ _ _ _ _ c.kind-kind.ensures c.owner_kind-owner.ensures
    c.has_declared.ensures c.undeclared_code-code.ensures c.if-has_declared.false) c.put_at.ensures
