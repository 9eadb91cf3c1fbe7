use native.Mathlib.Omega.{arith}
use Rattle.frame.proofs.Laws.{size-thin, sound-sized}
use Rattle.thinned.proofs.Putting.{copied-put, converted-put}
use Rattle.thinned.proofs.put_thin.Goals as goal

pub is_thin-requires : goal.is_thin-requires
is_thin-requires c =
    omega (arith, (sound-sized _ _ c.requires.sound).size)

pub copy-requires : goal.copy-requires
copy-requires c =
    omega (arith, c.requires.f_in_bounds, size-thin c.args.s.now c.args.f _ c.is_thin.ensures (sound-sized _ _ c.requires.sound) c.if-is_thin.true)

pub returns-then-is_thin : goal.returns-then-is_thin
returns-then-is_thin c =
    copied-put c.args.s.now _ c.is_thin.ensures c.args.out.now c.if-is_thin.true c.copy.ensures

pub put_document-requires-clause-sound : goal.put_document-requires-clause-sound
put_document-requires-clause-sound c =
    c.requires.sound

pub put_document-requires-clause-f_in_bounds : goal.put_document-requires-clause-f_in_bounds
put_document-requires-clause-f_in_bounds c =
    c.requires.f_in_bounds

pub returns : goal.returns
returns c =
    converted-put c.args.s.now _ c.is_thin.ensures c.args.out.now c.if-is_thin.false c.put_document.ensures
