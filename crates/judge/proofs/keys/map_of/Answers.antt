use mathlib.Core.Path.{sym, ap, ◌∙◌}
use native.Mathlib.Omega.{arith}
use Rattle.frame.specs.Doc.{doc_of}
use Rattle.grammar.proofs.Flat.{tree-kind}
use Rattle.breach.specs.Breach.{is_element, statement_in}
use Rattle.judge.proofs.Keyed.{element-value, props-in, map-nameless, map-bare, map_other, map-there}
use Rattle.judge.proofs.keys.map_of.Goals as goal

pub returns-then-value-lt2 : goal.returns-then-value-lt2
returns-then-value-lt2 c =
    map-nameless (statement_in c.args.s.now) c.args.i _ (c.value-value.ensures ∙ sym
    (element-value (doc_of c.args.s.now) c.requires.s_value c.args.i (omega (arith, c.requires.sound.tokens, c.requires.i_lt_tokens)) c.requires.i_value))
    c.if-value-lt2.true

pub returns-then-value-eq0 : goal.returns-then-value-eq0
returns-then-value-eq0 c =
    map-bare (statement_in c.args.s.now) c.args.i _ (c.value-value.ensures ∙ sym
    (element-value (doc_of c.args.s.now) c.requires.s_value c.args.i (omega (arith, c.requires.sound.tokens, c.requires.i_lt_tokens)) c.requires.i_value))
    c.if-value-eq0.true

pub kind-requires-clause-i_lt_tokens : goal.kind-requires-clause-i_lt_tokens
kind-requires-clause-i_lt_tokens c =
    omega (
      arith,
      props-in (doc_of c.args.s.now) c.requires.s_value c.args.i (omega (arith, c.requires.sound.tokens, c.requires.i_lt_tokens))
          c.requires.i_value _ c.value-value.ensures c.if-value-eq0.false,
      c.requires.sound.tokens,
    )

pub returns-then-kind-ne-MAP : goal.returns-then-kind-ne-MAP
returns-then-kind-ne-MAP c =
    map_other (statement_in c.args.s.now) c.args.i _ (c.value-value.ensures ∙ sym
    (element-value (doc_of c.args.s.now) c.requires.s_value c.args.i (omega (arith, c.requires.sound.tokens, c.requires.i_lt_tokens)) c.requires.i_value)) _
    (c.kind.ensures ∙ sym (tree-kind (doc_of c.args.s.now) _)) c.if-kind-ne-MAP.true

pub returns : goal.returns
returns c =
    map-there (statement_in c.args.s.now) c.args.i _ (c.value-value.ensures ∙ sym
    (element-value (doc_of c.args.s.now) c.requires.s_value c.args.i (omega (arith, c.requires.sound.tokens, c.requires.i_lt_tokens)) c.requires.i_value)) _
    (c.kind.ensures ∙ sym (tree-kind (doc_of c.args.s.now) _))
    (ap is_element (tree-kind (doc_of c.args.s.now) c.args.i) ∙ c.requires.i_value) c.if-value-lt2.false
    c.if-value-eq0.false c.if-kind-ne-MAP.false
