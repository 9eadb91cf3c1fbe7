use native.Mathlib.Omega.{arith}
use mathlib.Core.Path.{refl}
use Rattle.frame.specs.Doc.{doc_of}
use Rattle.of_kind.specs.Written.{itself}
use Rattle.of_kind.proofs.Writing.{looped-start, looped-room, looped-turn, looped-end, wrote_kept, listed, listed-few, listed-room, skipped, one-wrote, one-room, one-listed}
use Rattle.of_kind.proofs.list_of.Goals as goal
use Rattle.of_kind.proofs.list_of.Goals.{then-kind, else-kind}

pub loop-token-init : goal.loop-token-init
loop-token-init c =
    looped-start _ _ _ _ _ _ _ (omega arith)

pub kind-requires-clause-sound : goal.kind-requires-clause-sound
kind-requires-clause-sound c =
    c.requires.declared.sheet

pub bounds-list-n : goal.bounds-list-n
bounds-list-n c =
    let room = looped-room _ _ _ _ _ _ _ _ _ _ c.loop-token.invariant
    c.loop-token-test.true (listed-room _ _ _ c.requires.declared c.requires.declaring _ c.requires.max_tokens_in_bounds) in
    omega (
      arith,
      one-room (doc_of c.args.s.now) c.args.kind c.loop-token.token _ itself c.kind.ensures c.if-kind.true _ _ room,
    )

pub offset_bounds-list-n : goal.offset_bounds-list-n
offset_bounds-list-n c =
    omega (
      arith,
      listed-few _ _ _ _ _ _ _ c.loop-token.invariant,
      c.requires.declared.sheet.few_tokens,
      c.loop-token-test.true,
    )

pub overflow_add-n : goal.overflow_add-n
overflow_add-n c =
    omega (
      arith,
      listed-few _ _ _ _ _ _ _ c.loop-token.invariant,
      c.requires.declared.sheet.few_tokens,
      c.loop-token-test.true,
    )

pub loop-token-preserved : goal.loop-token-preserved
loop-token-preserved c =
    elim c.if-kind.branch [
      | then-kind w ↦ rw (w.n-is, w.list-is) (looped-turn _ _ _ _ _ _ _ _ _ _ c.loop-token.invariant c.loop-token-test.true
          (one-wrote _ _ _ _ _ c.kind.ensures w.if-kind.true refl (one-listed _ _ _)))
      | else-kind w ↦ rw (w.n-is, w.list-is) (looped-turn _ _ _ _ _ _ _ _ _ _ c.loop-token.invariant c.loop-token-test.true
          (skipped _ _ _ _ _ c.kind.ensures _ _ w.if-kind.false))
    ]

pub shape_of-list : goal.shape_of-list
shape_of-list c =
    wrote_kept c.loop-token.invariant.wrote

pub returns : goal.returns
returns c =
    listed _ _ _ c.requires.declared c.requires.declaring (looped-end _ _ _ _ _ _ _ _ _ _ c.loop-token.invariant c.loop-token-test.false)
