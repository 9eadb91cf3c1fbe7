use borrow.Author.Rules.{rules}
use native.Mathlib.Omega.{arith}
use Rattle.frame.proofs.Laws.{sound-sized, sound-ends, name-is, part-rises, part-inside}
use Rattle.frame.proofs.name.Goals as goal

pub is_thin-thin-requires : goal.is_thin-thin-requires
is_thin-thin-requires c = omega (arith, (sound-sized _ _ c.requires.sound).size)

pub start_of-from-requires : goal.start_of-from-requires
start_of-from-requires c = search (rules, sound-sized)

pub end_of-to-requires : goal.end_of-to-requires
end_of-to-requires c = search (rules, sound-sized)

pub part-requires : goal.part-requires
part-requires c = search (rules, sound-sized, sound-ends, part-rises, part-inside)

pub returns : goal.returns
returns c = search (rules, name-is)
