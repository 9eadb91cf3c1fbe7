use native.Mathlib.Omega.{arith}
use Rattle.thinned.proofs.Putting.{short_text, layout-room, whole-put}
use Rattle.thinned.proofs.put_document.Goals as goal

pub layout_of-h-requires-clause-names_le_max_names : goal.layout_of-h-requires-clause-names_le_max_names
layout_of-h-requires-clause-names_le_max_names c =
    c.requires.sound.few_names

pub layout_of-h-requires-clause-text_le_max_text : goal.layout_of-h-requires-clause-text_le_max_text
layout_of-h-requires-clause-text_le_max_text c =
    short_text _ _ c.requires.sound

pub put_sizes-requires : goal.put_sizes-requires
put_sizes-requires c =
    layout-room c.args.f c.layout_of-h.ensures c.requires.f_in_bounds

pub put_tokens-requires-clause-h_in_bounds : goal.put_tokens-requires-clause-h_in_bounds
put_tokens-requires-clause-h_in_bounds c =
    omega (arith, layout-room c.args.f c.layout_of-h.ensures c.requires.f_in_bounds, c.put_sizes.auto.out)

pub put_tokens-requires-clause-sound : goal.put_tokens-requires-clause-sound
put_tokens-requires-clause-sound c =
    c.requires.sound

pub put_tokens-requires-clause-h_value : goal.put_tokens-requires-clause-h_value
put_tokens-requires-clause-h_value c =
    c.layout_of-h.ensures

pub put_ends-requires-clause-h_in_bounds : goal.put_ends-requires-clause-h_in_bounds
put_ends-requires-clause-h_in_bounds c =
    omega (arith, layout-room c.args.f c.layout_of-h.ensures c.requires.f_in_bounds, c.put_sizes.auto.out, c.put_tokens.auto.out)

pub put_ends-requires-clause-sound : goal.put_ends-requires-clause-sound
put_ends-requires-clause-sound c =
    c.requires.sound

pub put_ends-requires-clause-h_value : goal.put_ends-requires-clause-h_value
put_ends-requires-clause-h_value c =
    c.layout_of-h.ensures

pub put_text-requires-clause-h_in_bounds : goal.put_text-requires-clause-h_in_bounds
put_text-requires-clause-h_in_bounds c =
    omega (
      arith,
      layout-room c.args.f c.layout_of-h.ensures c.requires.f_in_bounds,
      c.put_sizes.auto.out,
      c.put_tokens.auto.out,
      c.put_ends.auto.out,
    )

pub put_text-requires-clause-sound : goal.put_text-requires-clause-sound
put_text-requires-clause-sound c =
    c.requires.sound

pub put_text-requires-clause-h_value : goal.put_text-requires-clause-h_value
put_text-requires-clause-h_value c =
    c.layout_of-h.ensures

pub put_sizes-requires-2-clause-in_bounds : goal.put_sizes-requires-2-clause-in_bounds
put_sizes-requires-2-clause-in_bounds c =
    omega (
      arith,
      c.requires.f_in_bounds,
      c.put_sizes.auto.out,
      c.put_tokens.auto.out,
      c.put_ends.auto.out,
      c.put_text.auto.out,
    )

pub put_sizes-requires-2-clause-tokens_le_max_tokens : goal.put_sizes-requires-2-clause-tokens_le_max_tokens
put_sizes-requires-2-clause-tokens_le_max_tokens c =
    c.requires.sound.few_tokens

pub returns : goal.returns
returns c =
    whole-put _ _ _ c.requires.sound c.layout_of-h.ensures c.put_sizes.ensures
    c.put_tokens.ensures c.put_ends.ensures c.put_text.ensures
    c.put_sizes-2.ensures
