use Rattle.std.proofs.lemmas.List.{map-id}
use Rattle.text.proofs.same_text.Goals as goal

pub returns : goal.returns
returns c =
    rw (map-id c.args.a.now, map-id c.args.b.now) at c.look_same.ensures.value
