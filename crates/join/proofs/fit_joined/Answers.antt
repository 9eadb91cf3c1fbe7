use Rattle.join.proofs.Joining.{bytes-few, few-as, room_as, past_limit, no_room, joined-put}
use Rattle.schema.proofs.Effects.{refuses}
use mathlib.Core.Path.{sym, ◌∙◌}
use native.Mathlib.Omega.{arith}
use Rattle.join.proofs.fit_joined.Goals as goal

pub sizes_of-h-requires-clause-few : goal.sizes_of-h-requires-clause-few
sizes_of-h-requires-clause-few c =
    c.requires.stated.within

pub sizes_of-h-requires-clause-few_2 : goal.sizes_of-h-requires-clause-few_2
sizes_of-h-requires-clause-few_2 c =
    c.requires.stated_2.within

pub sizes_of-h-requires-clause-le_tokens : goal.sizes_of-h-requires-clause-le_tokens
sizes_of-h-requires-clause-le_tokens c =
    c.requires.stated.sheet.some_tokens

pub returns-then-not-is_within : goal.returns-then-not-is_within
returns-then-not-is_within c =
    past_limit c.requires.stated c.requires.stated_2 _ _ c.sizes_of-h.ensures _ c.is_within.ensures c.if-not-is_within.true
    (refuses 20 0 0 _ c.refused.ensures)

pub returns-then-out-bytes : goal.returns-then-out-bytes
returns-then-out-bytes c =
    no_room c.requires.stated c.requires.stated_2 _ _ c.sizes_of-h.ensures _ c.is_within.ensures c.if-not-is_within.false _
    c.length_of-bytes.ensures c.if-out-bytes.true (refuses 16 0 0 _ c.refused-then-out-bytes.ensures)

pub put_joined-requires-clause-stated : goal.put_joined-requires-clause-stated
put_joined-requires-clause-stated c =
    c.requires.stated

pub put_joined-requires-clause-stated_2 : goal.put_joined-requires-clause-stated_2
put_joined-requires-clause-stated_2 c =
    c.requires.stated_2

pub put_joined-requires-clause-few : goal.put_joined-requires-clause-few
put_joined-requires-clause-few c =
    few-as c.sizes_of-h.ensures (sym c.is_within.ensures ∙ c.if-not-is_within.false)

pub put_joined-requires-clause-g_in_bounds : goal.put_joined-requires-clause-g_in_bounds
put_joined-requires-clause-g_in_bounds c =
    room_as c.sizes_of-h.ensures c.length_of-bytes.ensures c.if-out-bytes.false

pub overflow_cast-result : goal.overflow_cast-result
overflow_cast-result c =
    let w = sym c.is_within.ensures ∙ c.if-not-is_within.false in
    omega (arith, bytes-few c.sizes_of-h.ensures w c.length_of-bytes.ensures)

pub returns : goal.returns
returns c =
    joined-put c.requires.stated c.requires.stated_2 _ _ c.sizes_of-h.ensures _ c.is_within.ensures c.if-not-is_within.false _
    c.length_of-bytes.ensures (omega (arith, c.if-out-bytes.false)) c.put_joined.ensures
