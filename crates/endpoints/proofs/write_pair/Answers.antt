use native.Mathlib.Omega.{arith}
use mathlib.Core.Path.{refl, sym, ◌∙◌}
use lib.ListN.{length-set}
use Rattle.frame.specs.Doc.{doc_of}
use Rattle.schema.proofs.Named.{named-below}
use Rattle.of_kind.proofs.Ranges.{end-named}
use Rattle.of_kind.proofs.Writing.{skipped, one-room, one-wrote}
use Rattle.endpoints.specs.Inner.{pair_of}
use Rattle.endpoints.proofs.Pairing.{pair-wrote}
use Rattle.endpoints.proofs.write_pair.Goals as goal

pub kind-requires-clause-sound : goal.kind-requires-clause-sound
kind-requires-clause-sound c =
    c.requires.declared.sheet

pub kind-requires-clause-i_lt_tokens : goal.kind-requires-clause-i_lt_tokens
kind-requires-clause-i_lt_tokens c =
    c.requires.j_lt_tokens

pub returns-then-kind-ne-END : goal.returns-then-kind-ne-END
returns-then-kind-ne-END c =
    skipped _ _ _ _ _ c.kind.ensures _ _ c.if-kind-ne-END.true

pub offset_bounds-out-n : goal.offset_bounds-out-n
offset_bounds-out-n c =
    omega (
      arith,
      c.well_formed.1.1.1.1.1.0.1,
      one-room
          (doc_of c.args.s.now) 113 c.args.j _
          (pair_of (doc_of c.args.s.now)
          c.args.start) c.kind.ensures c.if-kind-ne-END.false _ _
          c.requires.j_in_bounds,
    )

pub bounds-out-n : goal.bounds-out-n
bounds-out-n c =
    omega (
      arith,
      one-room (doc_of c.args.s.now) 113
          c.args.j _
          (pair_of (doc_of c.args.s.now)
          c.args.start) c.kind.ensures c.if-kind-ne-END.false _ _
          c.requires.j_in_bounds,
    )

pub overflow_add-j : goal.overflow_add-j
overflow_add-j c =
    omega (
      arith,
      c.requires.declared.sheet.few_tokens,
      c.requires.j_lt_tokens,
    )

pub value-requires-clause-sound : goal.value-requires-clause-sound
value-requires-clause-sound c =
    c.requires.declared.sheet

pub value-requires-clause-i_lt_tokens : goal.value-requires-clause-i_lt_tokens
value-requires-clause-i_lt_tokens c =
    omega (
      arith,
      (named-below _ _ _ 113 c.requires.declared
          c.requires.j_lt_tokens (sym c.kind.ensures ∙ c.if-kind-ne-END.false) end-named
          ).inside,
      c.requires.declared.sheet.tokens,
    )

pub overflow_add-out : goal.overflow_add-out
overflow_add-out c =
    omega (
      arith,
      c.well_formed.1.1.1.1.1.0.0,
      one-room
          (doc_of c.args.s.now) 113
          c.args.j _
          (pair_of (doc_of c.args.s.now)
          c.args.start) c.kind.ensures
          c.if-kind-ne-END.false _ _ c.requires.j_in_bounds,
    )

pub offset_bounds-out-n-2 : goal.offset_bounds-out-n-2
offset_bounds-out-n-2 c =
    omega (
      arith,
      c.well_formed.1.1.1.1.1.0.1,
      one-room
          (doc_of c.args.s.now) 113
          c.args.j _
          (pair_of (doc_of c.args.s.now)
          c.args.start) c.kind.ensures
          c.if-kind-ne-END.false _ _ c.requires.j_in_bounds,
    )

pub bounds-out-n-2 : goal.bounds-out-n-2
bounds-out-n-2 c =
    omega (
      arith,
      one-room (doc_of c.args.s.now) 113
          c.args.j _
          (pair_of (doc_of c.args.s.now)
          c.args.start) c.kind.ensures
          c.if-kind-ne-END.false _ _ c.requires.j_in_bounds,
      length-set c.args.out.now
          c.args.n
          c.args.start,
    )

pub overflow_add-result : goal.overflow_add-result
overflow_add-result c =
    omega (
      arith,
      c.well_formed.1.1.1.1.1.0.1,
      one-room
          (doc_of c.args.s.now) 113
          c.args.j _
          (pair_of (doc_of c.args.s.now)
          c.args.start) c.kind.ensures
          c.if-kind-ne-END.false _ _ c.requires.j_in_bounds,
    )

pub returns : goal.returns
returns c =
    one-wrote _ _ _ _ _ c.kind.ensures c.if-kind-ne-END.false refl
    (pair-wrote (doc_of c.args.s.now) _
    c.args.j _ _ _ c.value.ensures)
