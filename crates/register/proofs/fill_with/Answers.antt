use Rattle.register.proofs.Filled.{start}
use Rattle.register.proofs.fill_with.Goals as goal

pub enter_all-requires : goal.enter_all-requires
enter_all-requires g c =
    start _ _ _ _ _ c.requires.declared c.requires.sound c.requires.tokens_in_bounds c.requires.by_index c.number_names.auto.ids c.number_names.ensures.numbered c.number_names.ensures.ids_unchanged
