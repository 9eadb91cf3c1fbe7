use native.Mathlib.Omega.{arith}
use Rattle.schema.proofs.Searches.{hit, there-is}
use Rattle.provider.proofs.Items.{property-item, found-items}
use Rattle.provider.proofs.Lookups.{item-range}
use Rattle.register.proofs.Entries.{owning-exact}
use Rattle.properties.proofs.Turns.{none-declared, one-declared}
use Rattle.properties.proofs.enter_declared.Goals as goal

pub declared-requires-clause-registered : goal.declared-requires-clause-registered
declared-requires-clause-registered c =
    c.requires.registered

pub declared-requires-clause-exact : goal.declared-requires-clause-exact
declared-requires-clause-exact c =
    owning-exact _ c.requires.owning

pub declared-requires-clause-name_at : goal.declared-requires-clause-name_at
declared-requires-clause-name_at c =
    c.requires.name_at

pub returns-in_default : goal.returns-in_default
returns-in_default c =
    none-declared _ _ _ _ _ c.declared.ensures c.args.entered.now c.in_default.is

pub decl_end-end-requires-clause-sound : goal.decl_end-end-requires-clause-sound
decl_end-end-requires-clause-sound c =
    c.requires.registered.schema.sheet

pub decl_end-end-requires-clause-i_lt_tokens : goal.decl_end-end-requires-clause-i_lt_tokens
decl_end-end-requires-clause-i_lt_tokens c =
    (hit _ _ _ _ _ _ (there-is _ _ c.declared.ensures c.in-Some.is)).high

pub overflow_add-j : goal.overflow_add-j
overflow_add-j c =
    omega (arith, (hit _ _ _ _ _ _ (there-is _ _ c.declared.ensures c.in-Some.is)).high, c.requires.registered.schema.sheet)

pub enter_items-requires-clause-registered : goal.enter_items-requires-clause-registered
enter_items-requires-clause-registered c =
    let h = (hit _ _ _ _ _ _ (there-is _ _ c.declared.ensures c.in-Some.is)).high in c.requires.registered

pub enter_items-requires-clause-from_le_to : goal.enter_items-requires-clause-from_le_to
enter_items-requires-clause-from_le_to c =
    let h = (hit _ _ _ _ _ _ (there-is _ _ c.declared.ensures c.in-Some.is)).high in item-range _ _ c.requires.registered.schema _ _ h c.decl_end-end.ensures

pub enter_items-requires-clause-sizes_in_bounds : goal.enter_items-requires-clause-sizes_in_bounds
enter_items-requires-clause-sizes_in_bounds c =
    let h = (hit _ _ _ _ _ _ (there-is _ _ c.declared.ensures c.in-Some.is)).high in c.requires.sizes_in_bounds

pub returns : goal.returns
returns c =
    one-declared _ _ _ _ _ c.declared.ensures c.args.entered.now _ _ _ c.in-Some.is (found-items c.requires.registered.schema _ c.requires.owning _ property-item _ c.declared.ensures c.in-Some.is c.decl_end-end.ensures) c.enter_items.ensures
