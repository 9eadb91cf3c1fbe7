-- What the functions that write a thin sheet ask and ensure.
use Rattle.std.specs.Prelude.{◌+◌, ◌*◌}
use Rattle.frame.specs.declared.Sheet.{Sheet}

-- Behind its sizes a thin sheet is laid out as a sheet with u32 ends that has no names, and whose text is the ends, two
-- bytes each, and then the text
abbrev pub layout_of : Sheet → Sheet
layout_of f = record { tokens = f.tokens; names = 0; text = 2 * f.names + f.text }
