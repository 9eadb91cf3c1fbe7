use native.Mathlib.Omega.{arith}
use Rattle.register.proofs.Sought.{sought-name, name-read, number-inside, unsought, entry_read, sought-by}
use Rattle.register.proofs.folding.is_sought.Goals as goal

pub value-requires-clause-sound : goal.value-requires-clause-sound
value-requires-clause-sound c =
    c.requires.folding.schema.sheet

pub value-requires-clause-i_lt_tokens : goal.value-requires-clause-i_lt_tokens
value-requires-clause-i_lt_tokens c =
    omega (arith, (sought-name _ _ _ _ c.requires.folding c.args.marks.now _ c.requires.j_lt_tokens c.requires.j_value).inside, c.requires.folding.schema.sheet.tokens)

pub offset_bounds-register-name : goal.offset_bounds-register-name
offset_bounds-register-name c =
    omega (arith, name-read _ _ _ c.args.register.now c.requires.folding c.args.marks.now _ c.requires.j_lt_tokens c.requires.j_value _ _ c.value.ensures c.place-name.ensures, c)

pub bounds-register-name : goal.bounds-register-name
bounds-register-name c =
    name-read _ _ _ c.args.register.now c.requires.folding c.args.marks.now _ c.requires.j_lt_tokens c.requires.j_value _ _ c.value.ensures c.place-name.ensures

pub bounds-marks-place : goal.bounds-marks-place
bounds-marks-place c =
    omega (arith, number-inside _ _ _ c.args.register.now c.requires.folding c.args.marks.now _ c.requires.j_lt_tokens c.requires.j_value _ _ c.value.ensures c.place-name.ensures, c.place.ensures, c.requires.sizes_in_bounds)

pub returns-else-marks-place : goal.returns-else-marks-place
returns-else-marks-place c =
    unsought _ _ _ c.args.register.now c.requires.folding c.args.marks.now _ c.requires.j_lt_tokens c.requires.j_value _ _ c.value.ensures c.place-name.ensures _ c.place.ensures c.if-marks-place.false

pub offset_bounds-register-entry_at : goal.offset_bounds-register-entry_at
offset_bounds-register-entry_at c =
    omega (arith, entry_read _ _ _ c.args.register.now c.requires.folding c.args.marks.now _ c.requires.j_lt_tokens c.requires.j_value _ _ c.value.ensures c.place-name.ensures _ c.entry_at.ensures, c)

pub bounds-register-entry_at : goal.bounds-register-entry_at
bounds-register-entry_at c =
    entry_read _ _ _ c.args.register.now c.requires.folding c.args.marks.now _ c.requires.j_lt_tokens c.requires.j_value _ _ c.value.ensures c.place-name.ensures _ c.entry_at.ensures

pub returns-then-marks-place : goal.returns-then-marks-place
returns-then-marks-place c =
    sought-by _ _ _ c.args.register.now c.requires.folding c.args.marks.now _ c.requires.j_lt_tokens c.requires.j_value _ _ c.value.ensures c.place-name.ensures _ c.entry_at.ensures _ c.place.ensures c.if-marks-place.true
