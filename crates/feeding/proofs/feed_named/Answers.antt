use Rattle.feeding.proofs.Feeds.{fed-named}
use Rattle.feeding.proofs.feed_named.Goals as goal

pub returns : goal.returns
returns c =
    fed-named _ _ _ c.text_of.ensures c.feed.ensures c.feed-2.ensures
