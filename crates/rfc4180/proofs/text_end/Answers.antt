use borrow.Author.Rules.{rules}
use Rattle.rfc4180.proofs.Scans.{texts-none, texts-more, text-stops, text-over}
use Rattle.rfc4180.proofs.text_end.Goals as goal

pub loop-i-init : goal.loop-i-init
loop-i-init c =
    search (rules, texts-none)

pub returns-then-not-is_text : goal.returns-then-not-is_text
returns-then-not-is_text c =
    search (rules, text-stops)

pub loop-i-preserved : goal.loop-i-preserved
loop-i-preserved c =
    search (rules, texts-more)

pub returns : goal.returns
returns c =
    text-over _ _ _ c.loop-i-test.false c.loop-i.invariant
