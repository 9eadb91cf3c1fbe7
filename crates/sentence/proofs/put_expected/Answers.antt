use mathlib.Core.Path.{refl}
use native.Mathlib.Omega.{arith}
use Rattle.breach.specs.Breach.{owners, names_of, statement_in, schema_in}
use Rattle.phrase.proofs.Laws.{put-none, put_as, put-length}
use Rattle.sentence.proofs.Sentences.{expected-none, expected-some}
use Rattle.sentence.proofs.put_expected.Goals as goal

pub property_of-requires-clause-name_at : goal.property_of-requires-clause-name_at
property_of-requires-clause-name_at c =
    c.requires.name_at

pub returns-in_default : goal.returns-in_default
returns-in_default c = (
  put_as (expected-none (owners (schema_in c.args.d.now) ((statement_in c.args.s.now).kind
      c.args.i))
      (names_of (statement_in c.args.s.now)
      c.args.i) _ _
      refl c.property_of.ensures c.in_default.is)
      put-none,
  omega arith,
)

pub returns : goal.returns
returns c = (
  put_as (expected-some (owners (schema_in c.args.d.now)
      ((statement_in c.args.s.now).kind c.args.i)) (names_of (statement_in c.args.s.now) c.args.i) _ _ refl c.property_of.ensures _
      c.in-Some.is) c.put_property_type_name.ensures.0,
  c.put_property_type_name.ensures.1,
)
