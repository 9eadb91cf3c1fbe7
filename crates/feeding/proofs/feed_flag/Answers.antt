use Rattle.feeding.proofs.Feeds.{flag-not, flag-set, flag-unset}
use Rattle.feeding.proofs.feed_flag.Goals as goal

pub returns-in-false-default : goal.returns-in-false-default
returns-in-false-default c =
    flag-not _ c.args.flagged c.args.value c.in-false-default.is-0

pub returns-in-true-eq1 : goal.returns-in-true-eq1
returns-in-true-eq1 c =
    flag-set _ c.args.flagged _ c.in-true-eq1.is-0 c.in-true-eq1.is-1 c.feed.ensures

pub returns-in-true-default : goal.returns-in-true-default
returns-in-true-default c =
    flag-unset _ c.args.flagged _ c.in-true-default.is-0 c.in-true-default.is-1.1 c.feed-in-true-default.ensures
