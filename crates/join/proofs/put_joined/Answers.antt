use Rattle.join.proofs.Joining.{room-there, root-there, first-follows, second-follows, few-there, sum_is, all-put}
use Rattle.join.proofs.Stated.{clauses-few}
use native.Mathlib.Omega.{arith}
use Rattle.join.proofs.put_joined.Goals as goal

pub sizes_of-h-requires-clause-few : goal.sizes_of-h-requires-clause-few
sizes_of-h-requires-clause-few c =
    c.requires.stated.within

pub sizes_of-h-requires-clause-few_2 : goal.sizes_of-h-requires-clause-few_2
sizes_of-h-requires-clause-few_2 c =
    c.requires.stated_2.within

pub sizes_of-h-requires-clause-le_tokens : goal.sizes_of-h-requires-clause-le_tokens
sizes_of-h-requires-clause-le_tokens c =
    c.requires.stated.sheet.some_tokens

pub value-requires-clause-sound : goal.value-requires-clause-sound
value-requires-clause-sound c =
    c.requires.stated.sheet

pub value-requires-clause-i_lt_tokens : goal.value-requires-clause-i_lt_tokens
value-requires-clause-i_lt_tokens c =
    omega (arith, c.requires.stated.sheet.some_tokens)

pub value-requires-2-clause-sound : goal.value-requires-2-clause-sound
value-requires-2-clause-sound c =
    c.requires.stated_2.sheet

pub value-requires-2-clause-i_lt_tokens : goal.value-requires-2-clause-i_lt_tokens
value-requires-2-clause-i_lt_tokens c =
    omega (arith, c.requires.stated_2.sheet.some_tokens)

pub overflow_add-clauses : goal.overflow_add-clauses
overflow_add-clauses c =
    omega (
      arith,
      c.value-2.ensures,
      c.value.ensures,
      clauses-few _ _ c.requires.stated,
      clauses-few _ _ c.requires.stated_2,
      c.requires.stated.within.tokens,
      c.requires.stated_2.within.tokens,
    )

pub put_sizes-requires : goal.put_sizes-requires
put_sizes-requires c =
    room-there c.requires.stated c.requires.stated_2 c.sizes_of-h.ensures c.requires.g_in_bounds

pub put_token-requires-clause-f_in_bounds : goal.put_token-requires-clause-f_in_bounds
put_token-requires-clause-f_in_bounds c =
    let r = room-there c.requires.stated c.requires.stated_2 c.sizes_of-h.ensures c.requires.g_in_bounds in omega (arith, r, c.put_sizes.auto.out)

pub put_token-requires-clause-i_lt_tokens : goal.put_token-requires-clause-i_lt_tokens
put_token-requires-clause-i_lt_tokens c =
    let r = room-there c.requires.stated c.requires.stated_2 c.sizes_of-h.ensures c.requires.g_in_bounds in root-there c.requires.stated c.requires.stated_2 c.sizes_of-h.ensures

pub put_tokens-requires-clause-h_in_bounds : goal.put_tokens-requires-clause-h_in_bounds
put_tokens-requires-clause-h_in_bounds c =
    let r = room-there c.requires.stated c.requires.stated_2 c.sizes_of-h.ensures c.requires.g_in_bounds in omega (arith, r, c.put_token.auto.out, c.put_sizes.auto.out)

pub put_tokens-requires-clause-stated : goal.put_tokens-requires-clause-stated
put_tokens-requires-clause-stated c =
    let r = room-there c.requires.stated c.requires.stated_2 c.sizes_of-h.ensures c.requires.g_in_bounds in c.requires.stated

pub put_tokens-requires-clause-follows : goal.put_tokens-requires-clause-follows
put_tokens-requires-clause-follows c =
    let r = room-there c.requires.stated c.requires.stated_2 c.sizes_of-h.ensures c.requires.g_in_bounds in first-follows c.requires.stated c.requires.stated_2 c.sizes_of-h.ensures

pub put_tokens-requires-clause-few : goal.put_tokens-requires-clause-few
put_tokens-requires-clause-few c =
    let r = room-there c.requires.stated c.requires.stated_2 c.sizes_of-h.ensures c.requires.g_in_bounds in few-there c.requires.stated c.requires.stated_2 c.sizes_of-h.ensures c.requires.few

pub put_tokens-requires-2-clause-h_in_bounds : goal.put_tokens-requires-2-clause-h_in_bounds
put_tokens-requires-2-clause-h_in_bounds c =
    let r = room-there c.requires.stated c.requires.stated_2 c.sizes_of-h.ensures c.requires.g_in_bounds in omega (arith, r, c.put_tokens.auto.out, c.put_token.auto.out, c.put_sizes.auto.out)

pub put_tokens-requires-2-clause-stated : goal.put_tokens-requires-2-clause-stated
put_tokens-requires-2-clause-stated c =
    let r = room-there c.requires.stated c.requires.stated_2 c.sizes_of-h.ensures c.requires.g_in_bounds in c.requires.stated_2

pub put_tokens-requires-2-clause-follows : goal.put_tokens-requires-2-clause-follows
put_tokens-requires-2-clause-follows c =
    let r = room-there c.requires.stated c.requires.stated_2 c.sizes_of-h.ensures c.requires.g_in_bounds in second-follows c.requires.stated c.requires.stated_2 c.sizes_of-h.ensures

pub put_tokens-requires-2-clause-few : goal.put_tokens-requires-2-clause-few
put_tokens-requires-2-clause-few c =
    let r = room-there c.requires.stated c.requires.stated_2 c.sizes_of-h.ensures c.requires.g_in_bounds in few-there c.requires.stated c.requires.stated_2 c.sizes_of-h.ensures c.requires.few

pub put_names-requires-clause-h_in_bounds : goal.put_names-requires-clause-h_in_bounds
put_names-requires-clause-h_in_bounds c =
    let r = room-there c.requires.stated c.requires.stated_2 c.sizes_of-h.ensures c.requires.g_in_bounds in omega (arith, r, c.put_tokens-2.auto.out, c.put_tokens.auto.out, c.put_token.auto.out, c.put_sizes.auto.out)

pub put_names-requires-clause-stated : goal.put_names-requires-clause-stated
put_names-requires-clause-stated c =
    let r = room-there c.requires.stated c.requires.stated_2 c.sizes_of-h.ensures c.requires.g_in_bounds in c.requires.stated

pub put_names-requires-clause-follows : goal.put_names-requires-clause-follows
put_names-requires-clause-follows c =
    let r = room-there c.requires.stated c.requires.stated_2 c.sizes_of-h.ensures c.requires.g_in_bounds in first-follows c.requires.stated c.requires.stated_2 c.sizes_of-h.ensures

pub put_names-requires-clause-few : goal.put_names-requires-clause-few
put_names-requires-clause-few c =
    let r = room-there c.requires.stated c.requires.stated_2 c.sizes_of-h.ensures c.requires.g_in_bounds in few-there c.requires.stated c.requires.stated_2 c.sizes_of-h.ensures c.requires.few

pub put_names-requires-2-clause-h_in_bounds : goal.put_names-requires-2-clause-h_in_bounds
put_names-requires-2-clause-h_in_bounds c =
    let r = room-there c.requires.stated c.requires.stated_2 c.sizes_of-h.ensures c.requires.g_in_bounds in omega (arith, r, c.put_names.auto.out, c.put_tokens-2.auto.out, c.put_tokens.auto.out, c.put_token.auto.out, c.put_sizes.auto.out)

pub put_names-requires-2-clause-stated : goal.put_names-requires-2-clause-stated
put_names-requires-2-clause-stated c =
    let r = room-there c.requires.stated c.requires.stated_2 c.sizes_of-h.ensures c.requires.g_in_bounds in c.requires.stated_2

pub put_names-requires-2-clause-follows : goal.put_names-requires-2-clause-follows
put_names-requires-2-clause-follows c =
    let r = room-there c.requires.stated c.requires.stated_2 c.sizes_of-h.ensures c.requires.g_in_bounds in second-follows c.requires.stated c.requires.stated_2 c.sizes_of-h.ensures

pub put_names-requires-2-clause-few : goal.put_names-requires-2-clause-few
put_names-requires-2-clause-few c =
    let r = room-there c.requires.stated c.requires.stated_2 c.sizes_of-h.ensures c.requires.g_in_bounds in few-there c.requires.stated c.requires.stated_2 c.sizes_of-h.ensures c.requires.few

pub returns : goal.returns
returns c =
    all-put c.requires.stated c.requires.stated_2 c.sizes_of-h.ensures (sum_is c.value.ensures c.value-2.ensures)
    c.put_sizes.ensures c.put_token.ensures c.put_tokens.ensures c.put_tokens-2.ensures
    c.put_names.ensures c.put_names-2.ensures
