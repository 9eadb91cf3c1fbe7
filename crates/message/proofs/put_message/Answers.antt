use native.Mathlib.Omega.{arith}
use Rattle.breach.specs.Breach.{statement_in, schema_in}
use Rattle.breach.specs.Breach.{statement_in}
use Rattle.judge.specs.Judging.{item_in}
use Rattle.text.specs.Text.{bytes}
use Rattle.phrase.proofs.Laws.{put-none, put_as, put-length}
use Rattle.message.proofs.Facts.{names-name, keyed-map, keyed-key, merged-map, function-name, procedure-at, counted-there, counted-kind, apart-at, text-3001, text-3002, text-3003, text-3004, text-3006, text-3007, text-3008, text-3009, text-4023, no_text}
use Rattle.message.proofs.put_message.Goals as goal

pub overflow_add-i : goal.overflow_add-i
overflow_add-i c =
    omega (
      arith,
      (names-name c.requires.lent
          (item_in (statement_in c.args.s.now) c.args.e) c.requires.fact
          (omega (arith, c.in-3001.is))).inside,
      c.requires.lent.sheet.tokens,
      c.requires.lent.sheet.few_tokens,
    )

pub overflow_add-i-in-3001 : goal.overflow_add-i-in-3001
overflow_add-i-in-3001 c =
    omega (
      arith,
      (names-name c.requires.lent
          (item_in (statement_in c.args.s.now) c.args.e) c.requires.fact
          (omega (arith, c.in-3001.is))).inside,
      c.requires.lent.sheet.tokens,
      c.requires.lent.sheet.few_tokens,
    )

pub put_quoted-requires-clause-sound : goal.put_quoted-requires-clause-sound
put_quoted-requires-clause-sound c =
    c.requires.lent.sheet

pub put_quoted-requires-clause-name_at : goal.put_quoted-requires-clause-name_at
put_quoted-requires-clause-name_at c =
    names-name c.requires.lent
    (item_in (statement_in c.args.s.now) c.args.e)
    c.requires.fact
    (omega (arith, c.in-3001.is))

pub put_quoted-requires-clause-before_len_bound : goal.put_quoted-requires-clause-before_len_bound
put_quoted-requires-clause-before_len_bound c =
    omega arith

pub put_quoted-requires-clause-after_len_bound : goal.put_quoted-requires-clause-after_len_bound
put_quoted-requires-clause-after_len_bound c =
    omega arith

pub overflow_add-i-in-3002 : goal.overflow_add-i-in-3002
overflow_add-i-in-3002 c =
    omega (
      arith,
      (names-name c.requires.lent
          (item_in (statement_in c.args.s.now) c.args.e) c.requires.fact
          (omega (arith, c.in-3002.is))).inside,
      c.requires.lent.sheet.tokens,
      c.requires.lent.sheet.few_tokens,
    )

pub overflow_add-i-in-3002-2 : goal.overflow_add-i-in-3002-2
overflow_add-i-in-3002-2 c =
    omega (
      arith,
      (names-name c.requires.lent
          (item_in (statement_in c.args.s.now) c.args.e) c.requires.fact
          (omega (arith, c.in-3002.is))).inside,
      c.requires.lent.sheet.tokens,
      c.requires.lent.sheet.few_tokens,
    )

pub put_quoted-requires-in-3002-clause-sound : goal.put_quoted-requires-in-3002-clause-sound
put_quoted-requires-in-3002-clause-sound c =
    c.requires.lent.sheet

pub put_quoted-requires-in-3002-clause-name_at : goal.put_quoted-requires-in-3002-clause-name_at
put_quoted-requires-in-3002-clause-name_at c =
    names-name c.requires.lent
    (item_in (statement_in c.args.s.now) c.args.e)
    c.requires.fact
    (omega (arith, c.in-3002.is))

pub put_quoted-requires-in-3002-clause-before_len_bound : goal.put_quoted-requires-in-3002-clause-before_len_bound
put_quoted-requires-in-3002-clause-before_len_bound c =
    omega arith

pub put_quoted-requires-in-3002-clause-after_len_bound : goal.put_quoted-requires-in-3002-clause-after_len_bound
put_quoted-requires-in-3002-clause-after_len_bound c =
    omega arith

pub undeclared_key-requires-clause-sound : goal.undeclared_key-requires-clause-sound
undeclared_key-requires-clause-sound c =
    c.requires.lent.sheet

pub undeclared_key-requires-clause-s_value : goal.undeclared_key-requires-clause-s_value
undeclared_key-requires-clause-s_value c =
    c.requires.lent.read

pub undeclared_key-requires-clause-map_at : goal.undeclared_key-requires-clause-map_at
undeclared_key-requires-clause-map_at c =
    keyed-map c.requires.lent
    (item_in (statement_in c.args.s.now) c.args.e)
    c.requires.fact
    (omega (arith, c.in-3003.is)) (omega (arith, c.in-3003.is))

pub undeclared_key-requires-clause-k_bound : goal.undeclared_key-requires-clause-k_bound
undeclared_key-requires-clause-k_bound c =
    keyed-key
    c.requires.lent
    (item_in (statement_in c.args.s.now) c.args.e)
    c.requires.fact (omega (arith, c.in-3003.is))
    (omega (arith, c.in-3003.is))

pub wrong_type-requires-clause-lent : goal.wrong_type-requires-clause-lent
wrong_type-requires-clause-lent c =
    c.requires.lent

pub wrong_type-requires-clause-map_at : goal.wrong_type-requires-clause-map_at
wrong_type-requires-clause-map_at c =
    keyed-map c.requires.lent
    (item_in (statement_in c.args.s.now) c.args.e)
    c.requires.fact
    (omega (arith, c.in-3004.is)) (omega (arith, c.in-3004.is))

pub wrong_type-requires-clause-k_bound : goal.wrong_type-requires-clause-k_bound
wrong_type-requires-clause-k_bound c =
    keyed-key
    c.requires.lent
    (item_in (statement_in c.args.s.now) c.args.e)
    c.requires.fact (omega (arith, c.in-3004.is))
    (omega (arith, c.in-3004.is))

pub overflow_add-i-in-3006 : goal.overflow_add-i-in-3006
overflow_add-i-in-3006 c =
    omega (
      arith,
      (function-name c.requires.lent
          (item_in (statement_in c.args.s.now) c.args.e) c.requires.fact
          c.in-3006.is).inside,
      c.requires.lent.sheet.tokens,
      c.requires.lent.sheet.few_tokens,
    )

pub put_quoted-requires-in-3006-clause-sound : goal.put_quoted-requires-in-3006-clause-sound
put_quoted-requires-in-3006-clause-sound c =
    c.requires.lent.sheet

pub put_quoted-requires-in-3006-clause-name_at : goal.put_quoted-requires-in-3006-clause-name_at
put_quoted-requires-in-3006-clause-name_at c =
    function-name c.requires.lent
    (item_in (statement_in c.args.s.now) c.args.e)
    c.requires.fact c.in-3006.is

pub put_quoted-requires-in-3006-clause-before_len_bound : goal.put_quoted-requires-in-3006-clause-before_len_bound
put_quoted-requires-in-3006-clause-before_len_bound c =
    omega arith

pub put_quoted-requires-in-3006-clause-after_len_bound : goal.put_quoted-requires-in-3006-clause-after_len_bound
put_quoted-requires-in-3006-clause-after_len_bound c =
    omega arith

pub wrong_count-requires-clause-lent : goal.wrong_count-requires-clause-lent
wrong_count-requires-clause-lent c =
    c.requires.lent

pub wrong_count-requires-clause-i_lt_tokens : goal.wrong_count-requires-clause-i_lt_tokens
wrong_count-requires-clause-i_lt_tokens c =
    counted-there c.requires.lent
    (item_in (statement_in c.args.s.now) c.args.e)
    c.requires.fact
    c.in-3007.is

pub wrong_count-requires-clause-fact : goal.wrong_count-requires-clause-fact
wrong_count-requires-clause-fact c =
    counted-kind c.requires.lent
    (item_in (statement_in c.args.s.now) c.args.e)
    c.requires.fact
    c.in-3007.is

pub overflow_add-i-in-3008 : goal.overflow_add-i-in-3008
overflow_add-i-in-3008 c =
    omega (
      arith,
      (procedure-at c.requires.lent
          (item_in (statement_in c.args.s.now) c.args.e) c.requires.fact
          c.in-3008.is).inside,
      c.requires.lent.sheet.tokens,
      c.requires.lent.sheet.few_tokens,
    )

pub put_quoted-requires-in-3008-clause-sound : goal.put_quoted-requires-in-3008-clause-sound
put_quoted-requires-in-3008-clause-sound c =
    c.requires.lent.sheet

pub put_quoted-requires-in-3008-clause-name_at : goal.put_quoted-requires-in-3008-clause-name_at
put_quoted-requires-in-3008-clause-name_at c =
    procedure-at c.requires.lent
    (item_in (statement_in c.args.s.now) c.args.e)
    c.requires.fact c.in-3008.is

pub put_quoted-requires-in-3008-clause-before_len_bound : goal.put_quoted-requires-in-3008-clause-before_len_bound
put_quoted-requires-in-3008-clause-before_len_bound c =
    omega arith

pub put_quoted-requires-in-3008-clause-after_len_bound : goal.put_quoted-requires-in-3008-clause-after_len_bound
put_quoted-requires-in-3008-clause-after_len_bound c =
    omega arith

pub unbacked_key-requires-clause-sound : goal.unbacked_key-requires-clause-sound
unbacked_key-requires-clause-sound c =
    c.requires.lent.sheet

pub unbacked_key-requires-clause-s_value : goal.unbacked_key-requires-clause-s_value
unbacked_key-requires-clause-s_value c =
    c.requires.lent.read

pub unbacked_key-requires-clause-map_at : goal.unbacked_key-requires-clause-map_at
unbacked_key-requires-clause-map_at c =
    merged-map
    c.requires.lent
    (item_in (statement_in c.args.s.now) c.args.e)
    c.requires.fact c.in-3009.is

pub apart_labels-requires-clause-sound : goal.apart_labels-requires-clause-sound
apart_labels-requires-clause-sound c =
    c.requires.lent.sheet

pub apart_labels-requires-clause-labels_at : goal.apart_labels-requires-clause-labels_at
apart_labels-requires-clause-labels_at c =
    apart-at
    c.requires.lent (item_in (statement_in c.args.s.now) c.args.e)
    c.requires.fact c.in-4023.is

pub shape_of-text-in-3001 : goal.shape_of-text-in-3001
shape_of-text-in-3001 c =
    put-length c.put_quoted.ensures.0

pub returns-in-3001 : goal.returns-in-3001
unfolding bytes
returns-in-3001 c = (
  put_as (text-3001 (statement_in c.args.s.now) (schema_in c.args.d.now) (item_in (statement_in c.args.s.now) c.args.e) c.in-3001.is)
      c.put_quoted.ensures.0,
  omega (arith, c.put_quoted.ensures.1),
)

pub shape_of-text-in-3002 : goal.shape_of-text-in-3002
shape_of-text-in-3002 c =
    put-length c.put_quoted-in-3002.ensures.0

pub returns-in-3002 : goal.returns-in-3002
unfolding bytes
returns-in-3002 c = (
  put_as (text-3002 (statement_in c.args.s.now) (schema_in c.args.d.now) (item_in (statement_in c.args.s.now) c.args.e) c.in-3002.is)
      c.put_quoted-in-3002.ensures.0,
  omega (arith, c.put_quoted-in-3002.ensures.1),
)

pub shape_of-text-in-3003 : goal.shape_of-text-in-3003
shape_of-text-in-3003 c =
    put-length c.undeclared_key.ensures.0

pub returns-in-3003 : goal.returns-in-3003
returns-in-3003 c = (
  put_as (text-3003 (statement_in c.args.s.now) (schema_in c.args.d.now)
      (item_in (statement_in c.args.s.now) c.args.e)
      c.in-3003.is) c.undeclared_key.ensures.0,
  c.undeclared_key.ensures.1,
)

pub shape_of-text-in-3004 : goal.shape_of-text-in-3004
shape_of-text-in-3004 c =
    put-length c.wrong_type.ensures.0

pub returns-in-3004 : goal.returns-in-3004
returns-in-3004 c = (
  put_as (text-3004 (statement_in c.args.s.now) (schema_in c.args.d.now)
      (item_in (statement_in c.args.s.now) c.args.e)
      c.in-3004.is) c.wrong_type.ensures.0,
  c.wrong_type.ensures.1,
)

pub shape_of-text-in-3006 : goal.shape_of-text-in-3006
shape_of-text-in-3006 c =
    put-length c.put_quoted-in-3006.ensures.0

pub returns-in-3006 : goal.returns-in-3006
unfolding bytes
returns-in-3006 c = (
  put_as (text-3006 (statement_in c.args.s.now) (schema_in c.args.d.now) (item_in (statement_in c.args.s.now) c.args.e) c.in-3006.is)
      c.put_quoted-in-3006.ensures.0,
  omega (arith, c.put_quoted-in-3006.ensures.1),
)

pub shape_of-text-in-3007 : goal.shape_of-text-in-3007
shape_of-text-in-3007 c =
    put-length c.wrong_count.ensures.0

pub returns-in-3007 : goal.returns-in-3007
returns-in-3007 c = (
  put_as (text-3007 (statement_in c.args.s.now) (schema_in c.args.d.now)
      (item_in (statement_in c.args.s.now) c.args.e)
      c.in-3007.is) c.wrong_count.ensures.0,
  c.wrong_count.ensures.1,
)

pub shape_of-text-in-3008 : goal.shape_of-text-in-3008
shape_of-text-in-3008 c =
    put-length c.put_quoted-in-3008.ensures.0

pub returns-in-3008 : goal.returns-in-3008
unfolding bytes
returns-in-3008 c = (
  put_as (text-3008 (statement_in c.args.s.now) (schema_in c.args.d.now) (item_in (statement_in c.args.s.now) c.args.e) c.in-3008.is)
      c.put_quoted-in-3008.ensures.0,
  omega (arith, c.put_quoted-in-3008.ensures.1),
)

pub shape_of-text-in-3009 : goal.shape_of-text-in-3009
shape_of-text-in-3009 c =
    put-length c.unbacked_key.ensures.0

pub returns-in-3009 : goal.returns-in-3009
returns-in-3009 c = (
  put_as (text-3009 (statement_in c.args.s.now) (schema_in c.args.d.now)
      (item_in (statement_in c.args.s.now) c.args.e)
      c.in-3009.is) c.unbacked_key.ensures.0,
  c.unbacked_key.ensures.1,
)

pub shape_of-text-in-4023 : goal.shape_of-text-in-4023
shape_of-text-in-4023 c =
    put-length c.apart_labels.ensures.0

pub returns-in-4023 : goal.returns-in-4023
returns-in-4023 c = (
  put_as (text-4023 (statement_in c.args.s.now) (schema_in c.args.d.now)
      (item_in (statement_in c.args.s.now) c.args.e)
      c.in-4023.is) c.apart_labels.ensures.0,
  c.apart_labels.ensures.1,
)

pub returns-in_default : goal.returns-in_default
returns-in_default c = (
  put_as (no_text (statement_in c.args.s.now)
      (schema_in c.args.d.now) (item_in (statement_in c.args.s.now) c.args.e)
      c.in_default.in_default-own.rest.0.0.0.0.0.0.0.0.1 c.in_default.in_default-own.rest.0.0.0.0.0.0.0.1
      c.in_default.in_default-own.rest.0.0.0.0.0.0.1 c.in_default.in_default-own.rest.0.0.0.0.0.1 c.in_default.in_default-own.rest.0.0.0.0.1
      c.in_default.in_default-own.rest.0.0.0.1 c.in_default.in_default-own.rest.0.0.1 c.in_default.in_default-own.rest.0.1 c.in_default.in_default-own.rest.1) put-none,
  omega
      arith,
)
