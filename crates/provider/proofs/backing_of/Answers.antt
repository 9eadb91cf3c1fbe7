use native.Mathlib.Omega.{arith}
use Rattle.frame.specs.Doc.{doc_of}
use Rattle.grammar.specs.Tree.{tree_of}
use Rattle.schema.proofs.Searches.{hit, there-is}
use Rattle.grammar.proofs.Skipping.{size_is}
use Rattle.provider.specs.Inner.{map_keys}
use Rattle.register.proofs.Entries.{owning-exact}
use Rattle.provider.proofs.Items.{tuple-item, owners-searched, found-items}
use Rattle.provider.proofs.Lookups.{decl-inside}
use Rattle.provider.proofs.Tuples.{backing-absent, backing-there}
use Rattle.provider.proofs.backing_of.Goals as goal

pub declared-requires-clause-registered : goal.declared-requires-clause-registered
declared-requires-clause-registered c =
    c.requires.keyed.register

pub declared-requires-clause-exact : goal.declared-requires-clause-exact
declared-requires-clause-exact c =
    owning-exact _ c.requires.owning

pub declared-requires-clause-name_at : goal.declared-requires-clause-name_at
declared-requires-clause-name_at c =
    c.requires.name_at

pub returns-in_default : goal.returns-in_default
returns-in_default c =
    backing-absent _ _ _ _ (owners-searched c.requires.keyed.register.schema _ c.requires.owning) c.declared.ensures (map_keys (tree_of (doc_of c.args.s.now)) c.args.map) c.in_default.is

pub decl_end-end-requires-clause-sound : goal.decl_end-end-requires-clause-sound
decl_end-end-requires-clause-sound c =
    c.requires.keyed.register.schema.sheet

pub decl_end-end-requires-clause-i_lt_tokens : goal.decl_end-end-requires-clause-i_lt_tokens
decl_end-end-requires-clause-i_lt_tokens c =
    (hit _ _ _ _ _ _ (there-is _ _ c.declared.ensures c.in-Some.is)).high

pub overflow_add-i : goal.overflow_add-i
overflow_add-i c =
    omega (
      arith,
      (hit _ _ _ _ _ _ (there-is _ _ c.declared.ensures c.in-Some.is)).high,
      c.requires.keyed.register.schema.sheet,
    )

pub items_backing-requires-clause-keyed : goal.items_backing-requires-clause-keyed
items_backing-requires-clause-keyed c =
    c.requires.keyed

pub items_backing-requires-clause-to_le_tokens : goal.items_backing-requires-clause-to_le_tokens
items_backing-requires-clause-to_le_tokens c =
    omega (
      arith,
      c.decl_end-end.ensures,
      decl-inside (tree_of (doc_of c.args.d.now)) _ _ (size_is _ _ c.requires.keyed.register.schema.sheet)
          (hit _ _ _ _ _ _ (there-is _ _ c.declared.ensures c.in-Some.is)).high,
    )

pub returns : goal.returns
returns c =
    backing-there _ _ _ _ (owners-searched c.requires.keyed.register.schema _ c.requires.owning) c.declared.ensures (map_keys (tree_of (doc_of c.args.s.now)) c.args.map) _ _ _
    c.in-Some.is
    (found-items c.requires.keyed.register.schema _ c.requires.owning 111 tuple-item _ c.declared.ensures c.in-Some.is c.decl_end-end.ensures)
    c.items_backing.ensures
