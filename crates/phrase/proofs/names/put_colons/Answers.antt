use native.Mathlib.Omega.{arith}
use Rattle.frame.specs.Doc.{doc_of}
use Rattle.grammar.specs.Tree.{tree_of}
use Rattle.phrase.proofs.Laws.{put-none, put_as, put-join, rest_all, rest_put, rest-as, rest-done}
use Rattle.phrase.proofs.Named.{names-few, colons-none, colons-start, tail_more, tail_none}
use Rattle.phrase.proofs.names.put_colons.Goals as goal

pub returns-then-many-eq0 : goal.returns-then-many-eq0
returns-then-many-eq0 c = (
  put_as (colons-none c.args.between.now
      (tree_of (doc_of c.args.s.now)) c.args.from
      c.args.many c.if-many-eq0.true) put-none,
  omega arith,
)

pub loop-k-init : goal.loop-k-init
loop-k-init c =
    (omega arith, omega (arith, c.if-many-eq0.false), omega arith, rest_all)

pub loop-k-preserved : goal.loop-k-preserved
loop-k-preserved c = (
  omega arith,
  omega arith,
  omega (
    arith,
    c.put-mid.ensures.ends,
    c.put_colon-end-in-loop-k.ensures.1,
    c.requires.between_len_bound,
    c.loop-k.invariant.2,
  ),
  rest_put
      (rest-as (tail_more c.args.between.now
      (tree_of (doc_of c.args.s.now))
      c.args.from c.args.many
      c.loop-k.k
      c.loop-k-test.true)
      c.loop-k.invariant.3)
      (put-join c.put-mid.ensures
      c.put_colon-end-in-loop-k.ensures.0),
)

pub returns : goal.returns
returns c = (
  put_as (colons-start c.args.between.now (tree_of (doc_of c.args.s.now)) c.args.from c.args.many
      c.if-many-eq0.false)
      (put-join c.put_colon-end.ensures.0
      (rest-done (rest-as (tail_none c.args.between.now (tree_of (doc_of c.args.s.now)) c.args.from c.args.many
      c.loop-k.k c.loop-k-test.false) c.loop-k.invariant.3))),
  omega (
    arith,
    c.loop-k.invariant.2,
    c.loop-k.invariant.1,
    c.put_colon-end.ensures.1,
    names-few (doc_of c.args.s.now) c.args.from
        c.args.many
        c.requires.names_at,
    c.requires.sound.tokens,
    c.requires.sound.few_tokens,
  ),
)
