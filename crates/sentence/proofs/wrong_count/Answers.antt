use mathlib.Core.Path.{sym, ◌∙◌}
use Rattle.frame.specs.Doc.{doc_of, kind_of}
use Rattle.breach.specs.Breach.{schema_in}
use Rattle.judge.proofs.OfItems.{call-name, procedure-name}
use Rattle.text.specs.Text.{bytes}
use Rattle.phrase.proofs.Laws.{put_as}
use Rattle.sentence.proofs.Sentences.{arity-function, arity-procedure, of-procedure}
use Rattle.sentence.proofs.wrong_count.Goals as goal

pub function-q-requires-clause-name_at : goal.function-q-requires-clause-name_at
function-q-requires-clause-name_at c =
    call-name _ _ _ _ c.requires.lent c.requires.i_lt_tokens (sym c.kind.ensures ∙ c.if-kind-eq-FUNCTION_CALL.true)

pub put_expects-requires-clause-name_at : goal.put_expects-requires-clause-name_at
put_expects-requires-clause-name_at c =
    call-name _ _ _ _ c.requires.lent c.requires.i_lt_tokens (sym c.kind.ensures ∙ c.if-kind-eq-FUNCTION_CALL.true)

pub returns-then-kind-eq-FUNCTION_CALL : goal.returns-then-kind-eq-FUNCTION_CALL
unfolding bytes
returns-then-kind-eq-FUNCTION_CALL c = (
  put_as (arity-function (doc_of c.args.s.now) (schema_in c.args.d.now) c.args.i _ _ c.value-n.ensures
      (sym c.kind.ensures ∙ c.if-kind-eq-FUNCTION_CALL.true) c.function-q.ensures) c.put_expects.ensures.0,
  c.put_expects.ensures.1,
)

pub procedure-q-requires-clause-name_at : goal.procedure-q-requires-clause-name_at
procedure-q-requires-clause-name_at c =
    procedure-name _ _ _ _ c.requires.lent c.requires.i_lt_tokens
    (of-procedure _ _ c.kind.ensures c.requires.fact c.if-kind-eq-FUNCTION_CALL.false)

pub put_expects-requires-2-clause-name_at : goal.put_expects-requires-2-clause-name_at
put_expects-requires-2-clause-name_at c =
    procedure-name _ _ _ _ c.requires.lent c.requires.i_lt_tokens
    (of-procedure _ _ c.kind.ensures c.requires.fact c.if-kind-eq-FUNCTION_CALL.false)

pub returns : goal.returns
unfolding bytes
returns c = (
  put_as (arity-procedure (doc_of c.args.s.now) (schema_in c.args.d.now) c.args.i _ _ c.value-n.ensures
      (of-procedure _ _ c.kind.ensures c.requires.fact c.if-kind-eq-FUNCTION_CALL.false) c.procedure-q.ensures)
      c.put_expects-2.ensures.0,
  c.put_expects-2.ensures.1,
)
