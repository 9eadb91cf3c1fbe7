use Rattle.opening.proofs.Equals.{one_name, other_name, equal_is}
use Rattle.opening.proofs.is_equal_apart.Goals as goal

pub number_in-requires-clause-registered : goal.number_in-requires-clause-registered
number_in-requires-clause-registered c =
    c.requires.registered

pub number_in-requires-clause-name_at : goal.number_in-requires-clause-name_at
number_in-requires-clause-name_at c =
    one_name _ _ _ _ c.requires.registered _ c.requires.j_lt_tokens c.requires.j_value

pub number_in-requires-2-clause-registered : goal.number_in-requires-2-clause-registered
number_in-requires-2-clause-registered c =
    c.requires.registered

pub number_in-requires-2-clause-name_at : goal.number_in-requires-2-clause-name_at
number_in-requires-2-clause-name_at c =
    other_name _ _ _ _ c.requires.registered _ c.requires.j_lt_tokens c.requires.j_value

pub returns : goal.returns
returns c =
    equal_is _ _ _ _ c.requires.registered _ c.requires.j_lt_tokens c.requires.j_value _ _ c.number_in.ensures.0 c.number_in-2.ensures.0
