use native.Mathlib.Omega.{arith}
use mathlib.Core.Path.{sym, ◌∙◌}
use Rattle.grammar.proofs.Flat.{tree-kind}
use Rattle.grammar.proofs.Skipping.{size_is}
use Rattle.provider.proofs.Lookups.{decl-here, decl-on, decl-none, decl-start}
use Rattle.provider.proofs.decl_end.Goals as goal

pub loop-j-init : goal.loop-j-init
loop-j-init c =
    (omega (arith, c.requires.i_lt_tokens), decl-start _ _ _ (size_is _ _ c.requires.sound))

pub kind-requires-clause-sound : goal.kind-requires-clause-sound
kind-requires-clause-sound c =
    c.requires.sound

pub kind-requires-clause-i_lt_tokens : goal.kind-requires-clause-i_lt_tokens
kind-requires-clause-i_lt_tokens c =
    omega arith

pub returns-then-is_decl : goal.returns-then-is_decl
returns-then-is_decl c =
    decl-here _ _ _ _ c.loop-j.invariant.1 _ _
    (c.kind.ensures ∙ sym (tree-kind _ _)) c.is_decl.ensures
    c.loop-j-test.true c.if-is_decl.true

pub loop-j-preserved : goal.loop-j-preserved
loop-j-preserved c = (
  omega (arith, c.loop-j-test.true),
  decl-on _ _ _ _
      c.loop-j.invariant.1 _ _
      (c.kind.ensures ∙ sym (tree-kind _ _)) c.is_decl.ensures
      c.loop-j-test.true c.if-is_decl.false,
)

pub returns : goal.returns
returns c =
    decl-none _ _ _ _ c.loop-j.invariant.1 c.loop-j.invariant.0 c.loop-j-test.false
