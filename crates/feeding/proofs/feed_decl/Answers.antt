use mathlib.Core.Path.{◌∙◌}
use native.Mathlib.Omega.{arith}
use Rattle.feeding.proofs.Feeds.{decl-label, decl-rel-type, decl-parameter, kept-third}
use Rattle.feeding.proofs.feed_decl.Goals as goal

pub feed_label-requires-clause-declared : goal.feed_label-requires-clause-declared
feed_label-requires-clause-declared c =
    c.requires.declared

pub feed_label-requires-clause-i_lt_tokens : goal.feed_label-requires-clause-i_lt_tokens
feed_label-requires-clause-i_lt_tokens c =
    c.requires.i_lt_tokens

pub feed_label-requires-clause-i_value : goal.feed_label-requires-clause-i_value
feed_label-requires-clause-i_value c =
    c.requires.i_value ∙ c.in-101.is

pub returns-in-101 : goal.returns-in-101
returns-in-101 c =
    decl-label _ _ _ _ c.in-101.is c.feed_label.ensures

pub feed_rel_type-requires-clause-declared : goal.feed_rel_type-requires-clause-declared
feed_rel_type-requires-clause-declared c =
    c.requires.declared

pub feed_rel_type-requires-clause-i_lt_tokens : goal.feed_rel_type-requires-clause-i_lt_tokens
feed_rel_type-requires-clause-i_lt_tokens c =
    c.requires.i_lt_tokens

pub feed_rel_type-requires-clause-i_value : goal.feed_rel_type-requires-clause-i_value
feed_rel_type-requires-clause-i_value c =
    c.requires.i_value ∙ c.in-102.is

pub returns-in-102 : goal.returns-in-102
returns-in-102 c =
    decl-rel-type _ _ _ _ (λ z. omega (arith, c.in-102.is)) c.in-102.is c.feed_rel_type.ensures

pub feed_parameter-requires-clause-declared : goal.feed_parameter-requires-clause-declared
feed_parameter-requires-clause-declared c =
    c.requires.declared

pub feed_parameter-requires-clause-i_lt_tokens : goal.feed_parameter-requires-clause-i_lt_tokens
feed_parameter-requires-clause-i_lt_tokens c =
    c.requires.i_lt_tokens

pub feed_parameter-requires-clause-i_value : goal.feed_parameter-requires-clause-i_value
feed_parameter-requires-clause-i_value c =
    let rest = c.in_default.in_default-own.rest in
    c.requires.i_value ∙ kept-third _ c.requires.stored (λ z. omega (arith, rest.0.1, rest.1)) (λ z. omega (arith, rest.0.1, rest.1))

pub returns-in_default : goal.returns-in_default
returns-in_default c =
    let rest = c.in_default.in_default-own.rest in
    decl-parameter _ _ _ _ (λ z. omega (arith, rest.0.1, rest.1)) (λ z. omega (arith, rest.0.1, rest.1)) c.feed_parameter.ensures
