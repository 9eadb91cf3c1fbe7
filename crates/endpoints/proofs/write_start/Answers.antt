use native.Mathlib.Omega.{arith}
use mathlib.Core.Path.{sym, ap, ◌∙◌}
use lib.ListN.{length}
use Rattle.frame.specs.Doc.{doc_of}
use Rattle.schema.proofs.Named.{named-below}
use Rattle.of_kind.proofs.Ranges.{start-named}
use Rattle.of_kind.proofs.Writing.{skipped, one-room, one-wrote, wrote_kept}
use Rattle.endpoints.specs.Inner.{pairs_over}
use Rattle.endpoints.proofs.Pairing.{start-same}
use Rattle.endpoints.proofs.write_start.Goals as goal

pub kind-requires-clause-sound : goal.kind-requires-clause-sound
kind-requires-clause-sound c =
    c.requires.declared.sheet

pub kind-requires-clause-i_lt_tokens : goal.kind-requires-clause-i_lt_tokens
kind-requires-clause-i_lt_tokens c =
    c.requires.j_lt_tokens

pub returns-then-kind-ne-START : goal.returns-then-kind-ne-START
returns-then-kind-ne-START c =
    skipped _ _ _ _ _ c.kind.ensures _ _ c.if-kind-ne-START.true

pub overflow_add-j : goal.overflow_add-j
overflow_add-j c =
    omega (
      arith,
      c.requires.declared.sheet.few_tokens,
      c.requires.j_lt_tokens,
    )

pub value-start-requires-clause-sound : goal.value-start-requires-clause-sound
value-start-requires-clause-sound c =
    c.requires.declared.sheet

pub value-start-requires-clause-i_lt_tokens : goal.value-start-requires-clause-i_lt_tokens
value-start-requires-clause-i_lt_tokens c =
    omega (
      arith,
      (named-below _ _ _ 112 c.requires.declared
          c.requires.j_lt_tokens (sym c.kind.ensures ∙ c.if-kind-ne-START.false) start-named
          ).inside,
      c.requires.declared.sheet.tokens,
    )

pub write_ends-requires-clause-declared : goal.write_ends-requires-clause-declared
write_ends-requires-clause-declared c =
    let d = doc_of c.args.s.now in let r = one-room d 112 c.args.j _
    (pairs_over d c.args.from
    c.args.to) c.kind.ensures
    c.if-kind-ne-START.false _ _ c.requires.j_in_bounds in c.requires.declared

pub write_ends-requires-clause-from_le_to : goal.write_ends-requires-clause-from_le_to
write_ends-requires-clause-from_le_to c =
    let d = doc_of c.args.s.now in let r = one-room d 112 c.args.j _
    (pairs_over d c.args.from
    c.args.to) c.kind.ensures
    c.if-kind-ne-START.false _ _ c.requires.j_in_bounds in c.requires.from_le_to

pub write_ends-requires-clause-to_in_bounds : goal.write_ends-requires-clause-to_in_bounds
write_ends-requires-clause-to_in_bounds c =
    let d = doc_of c.args.s.now in let r = one-room d 112 c.args.j _
    (pairs_over d c.args.from
    c.args.to) c.kind.ensures
    c.if-kind-ne-START.false _ _ c.requires.j_in_bounds in omega (
      arith,
      r,
      ap length (start-same
          (doc_of c.args.s.now)
          c.args.from
          c.args.to _
          c.args.j c.value-start.ensures),
    )

pub shape_of-out : goal.shape_of-out
shape_of-out c =
    wrote_kept c.write_ends.ensures

pub returns : goal.returns
returns c =
    one-wrote _ _ _ _ _ c.kind.ensures
    c.if-kind-ne-START.false
    (start-same (doc_of c.args.s.now)
    c.args.from
    c.args.to _
    c.args.j
    c.value-start.ensures) c.write_ends.ensures
