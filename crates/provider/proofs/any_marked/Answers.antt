use Rattle.std.proofs.lemmas.List.{length-replicate}
use Rattle.register.proofs.Clear.{zeros}
use Rattle.provider.proofs.Tuples.{apart-found}
use Rattle.provider.proofs.any_marked.Goals as goal

pub returns : goal.returns
returns g c =
    apart-found _ _ _ _ _ _ _ _ c.requires.labelled (rw (length-replicate) c.requires.sizes_in_bounds) (zeros g.row.N) c.mark_names.ensures _ c.any_apart.ensures
