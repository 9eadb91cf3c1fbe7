use native.Mathlib.Omega.{arith}
use Rattle.register.proofs.Entries.{enter-low, enter-high, name-at, name-inside, at-inside, enter-kept, enter-set}
use Rattle.register.proofs.enter.Goals.{then-kind-lt-LABEL-via-then-kind-lt-LABEL, then-kind-lt-LABEL-via-else-kind-lt-LABEL+then-kind-gt-PROCEDURE}
use Rattle.register.proofs.enter.Goals as goal

pub returns-then-kind-lt-LABEL : goal.returns-then-kind-lt-LABEL
returns-then-kind-lt-LABEL c =
    elim c.then-kind-lt-LABEL.branch [
      | then-kind-lt-LABEL-via-then-kind-lt-LABEL w
          ↦ enter-low _ _ _ _ _ _ c.requires.registering _ c.kind-kind.ensures w.if-kind-lt-LABEL.true
      | then-kind-lt-LABEL-via-else-kind-lt-LABEL+then-kind-gt-PROCEDURE w
          ↦ enter-high _ _ _ _ _ _ c.requires.registering _ c.kind-kind.ensures w.if-kind-gt-PROCEDURE.true
    ]

pub value-requires-clause-sound : goal.value-requires-clause-sound
value-requires-clause-sound c =
    let a = name-at _ _ _ _ _ _ c.requires.registering _ c.kind-kind.ensures c.requires.j_lt_tokens c.if-kind-lt-LABEL.false c.if-kind-gt-PROCEDURE.false in c.requires.registering.schema.sheet

pub value-requires-clause-i_lt_tokens : goal.value-requires-clause-i_lt_tokens
value-requires-clause-i_lt_tokens c =
    let a = name-at _ _ _ _ _ _ c.requires.registering _ c.kind-kind.ensures c.requires.j_lt_tokens c.if-kind-lt-LABEL.false c.if-kind-gt-PROCEDURE.false in omega (arith, a.inside, c.requires.registering.schema.sheet.tokens)

pub bounds-register-name : goal.bounds-register-name
bounds-register-name c =
    name-inside _ _ _ _ _ _ c.requires.registering _ c.kind-kind.ensures c.requires.j_lt_tokens c.if-kind-lt-LABEL.false c.if-kind-gt-PROCEDURE.false _ _ c.value.ensures c.place-name.ensures

pub offset_bounds-register-at : goal.offset_bounds-register-at
offset_bounds-register-at c =
    omega (arith, at-inside _ _ _ _ _ c.args.register.now c.requires.registering _ c.kind-kind.ensures c.requires.j_lt_tokens c.if-kind-lt-LABEL.false c.if-kind-gt-PROCEDURE.false _ _ c.value.ensures c.place-name.ensures _ c.entry_at-at.ensures, c)

pub bounds-register-at : goal.bounds-register-at
bounds-register-at c =
    at-inside _ _ _ _ _ c.args.register.now c.requires.registering _ c.kind-kind.ensures c.requires.j_lt_tokens c.if-kind-lt-LABEL.false c.if-kind-gt-PROCEDURE.false _ _ c.value.ensures c.place-name.ensures _ c.entry_at-at.ensures

pub returns-then-register-at-ne0 : goal.returns-then-register-at-ne0
returns-then-register-at-ne0 c =
    enter-kept _ _ _ _ _ c.args.register.now c.requires.registering _ c.kind-kind.ensures c.requires.j_lt_tokens c.if-kind-lt-LABEL.false c.if-kind-gt-PROCEDURE.false _ _ c.value.ensures c.place-name.ensures _ c.entry_at-at.ensures c.if-register-at-ne0.true

pub offset_bounds-register-at-2 : goal.offset_bounds-register-at-2
offset_bounds-register-at-2 c =
    omega (arith, at-inside _ _ _ _ _ c.args.register.now c.requires.registering _ c.kind-kind.ensures c.requires.j_lt_tokens c.if-kind-lt-LABEL.false c.if-kind-gt-PROCEDURE.false _ _ c.value.ensures c.place-name.ensures _ c.entry_at-at.ensures, c)

pub bounds-register-at-2 : goal.bounds-register-at-2
bounds-register-at-2 c =
    at-inside _ _ _ _ _ c.args.register.now c.requires.registering _ c.kind-kind.ensures c.requires.j_lt_tokens c.if-kind-lt-LABEL.false c.if-kind-gt-PROCEDURE.false _ _ c.value.ensures c.place-name.ensures _ c.entry_at-at.ensures

pub returns : goal.returns
returns c =
    enter-set _ _ _ _ _ c.args.register.now c.requires.registering _ c.kind-kind.ensures c.requires.j_lt_tokens c.if-kind-lt-LABEL.false c.if-kind-gt-PROCEDURE.false _ _ c.value.ensures c.place-name.ensures _ c.entry_at-at.ensures c.if-register-at-ne0.false
