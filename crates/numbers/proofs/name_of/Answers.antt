use Rattle.numbers.proofs.Texts.{text-first, text-second}
use Rattle.numbers.proofs.name_of.Goals as goal

pub returns-then-i-sheets : goal.returns-then-i-sheets
returns-then-i-sheets c =
    text-first _ _ _ c.requires.sound c.requires.sound_2 _ _ c.if-i-sheets.true c.name.ensures

pub returns : goal.returns
returns c =
    text-second _ _ _ c.requires.sound c.requires.sound_2 _ _ c.if-i-sheets.false c.name-2.ensures
