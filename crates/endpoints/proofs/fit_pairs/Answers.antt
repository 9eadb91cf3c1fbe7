use native.Mathlib.Omega.{arith}
use Rattle.of_kind.proofs.Writing.{wrote_kept}
use Rattle.provider.proofs.Lookups.{item-range}
use Rattle.endpoints.proofs.Fitting.{few-pairs, pairs-count, pairs-too-long, pairs-written}
use Rattle.endpoints.proofs.fit_pairs.Goals as goal

pub decl_end-end-requires-clause-sound : goal.decl_end-end-requires-clause-sound
decl_end-end-requires-clause-sound c =
    c.requires.declared.sheet

pub decl_end-end-requires-clause-i_lt_tokens : goal.decl_end-end-requires-clause-i_lt_tokens
decl_end-end-requires-clause-i_lt_tokens c =
    c.requires.i_lt_tokens

pub overflow_add-i : goal.overflow_add-i
overflow_add-i c =
    omega (
      arith,
      c.requires.i_lt_tokens,
      c.requires.declared.sheet.few_tokens,
    )

pub count_of-starts-requires-clause-sound : goal.count_of-starts-requires-clause-sound
count_of-starts-requires-clause-sound c =
    c.requires.declared.sheet

pub count_of-starts-requires-clause-to_le_tokens : goal.count_of-starts-requires-clause-to_le_tokens
count_of-starts-requires-clause-to_le_tokens c =
    (item-range _ _ c.requires.declared
    _ _ c.requires.i_lt_tokens c.decl_end-end.ensures).1

pub overflow_add-i-2 : goal.overflow_add-i-2
overflow_add-i-2 c =
    omega (
      arith,
      c.requires.i_lt_tokens,
      c.requires.declared.sheet.few_tokens,
    )

pub count_of-ends-requires-clause-sound : goal.count_of-ends-requires-clause-sound
count_of-ends-requires-clause-sound c =
    c.requires.declared.sheet

pub count_of-ends-requires-clause-to_le_tokens : goal.count_of-ends-requires-clause-to_le_tokens
count_of-ends-requires-clause-to_le_tokens c =
    (item-range _ _
    c.requires.declared _ _ c.requires.i_lt_tokens
    c.decl_end-end.ensures).1

pub overflow_mul-pairs : goal.overflow_mul-pairs
overflow_mul-pairs c =
    omega (
      arith,
      few-pairs _ _ c.requires.declared _ _
          c.requires.i_lt_tokens c.requires.i_value
          c.decl_end-end.ensures _ _
          c.count_of-starts.ensures c.count_of-ends.ensures,
    )

pub overflow_cast-pairs : goal.overflow_cast-pairs
overflow_cast-pairs c =
    omega (
      arith,
      few-pairs _ _ c.requires.declared _ _
          c.requires.i_lt_tokens c.requires.i_value
          c.decl_end-end.ensures _ _
          c.count_of-starts.ensures c.count_of-ends.ensures,
    )

pub returns-then-out-pairs : goal.returns-then-out-pairs
returns-then-out-pairs c =
    pairs-too-long _ _ c.requires.declared _ _
    c.requires.i_lt_tokens
    c.requires.i_value
    c.decl_end-end.ensures _ _ c.count_of-starts.ensures
    c.count_of-ends.ensures _ c.if-out-pairs.true c.refused.ensures

pub overflow_add-i-3 : goal.overflow_add-i-3
overflow_add-i-3 c =
    omega (
      arith,
      c.requires.i_lt_tokens,
      c.requires.declared.sheet.few_tokens,
    )

pub write_pairs-requires-clause-declared : goal.write_pairs-requires-clause-declared
write_pairs-requires-clause-declared c =
    c.requires.declared

pub write_pairs-requires-clause-from_le_to : goal.write_pairs-requires-clause-from_le_to
write_pairs-requires-clause-from_le_to c =
    item-range _ _ c.requires.declared _ _
    c.requires.i_lt_tokens
    c.decl_end-end.ensures

pub write_pairs-requires-clause-to_in_bounds : goal.write_pairs-requires-clause-to_in_bounds
write_pairs-requires-clause-to_in_bounds c =
    omega (
      arith,
      c.if-out-pairs.false,
      pairs-count _ _ c.requires.declared _ _ c.requires.i_lt_tokens
          c.requires.i_value
          c.decl_end-end.ensures _ _ c.count_of-starts.ensures
          c.count_of-ends.ensures,
    )

pub shape_of-out : goal.shape_of-out
shape_of-out c =
    wrote_kept c.write_pairs.ensures

pub returns : goal.returns
returns c =
    pairs-written _ _ c.requires.declared _ _
    c.requires.i_lt_tokens
    c.requires.i_value
    c.decl_end-end.ensures _ _
    c.count_of-starts.ensures
    c.count_of-ends.ensures _
    c.if-out-pairs.false c.write_pairs.ensures
