-- A name is a part of its sheet, so it is no longer than a sheet can be.
use mathlib.Core.List.{List, []}
use mathlib.Core.Logic.{⊎_elim}
use Prim.Native.Nat.{ℕ, ◌≤◌}
use native.Mathlib.Omega.{arith}
use lib.ListN.{length, get_or, length-take, length-drop, get_or-eq_default}
use Rattle.lists.specs.Lists.{table}
use Rattle.lists.proofs.Tests.{below}
use Rattle.lists.proofs.Laws.{table-length, table_at}
use Rattle.frame.specs.Sheet.{sheet_of, part_of, name_at}
use Rattle.frame.specs.Doc.{doc_as, doc_of, name_of}
use Rattle.frame.specs.Inner.{Sound}
use Rattle.frame.specs.declared.Sheet.{Sheet}
use Rattle.frame.proofs.Laws.{size_few, sound-sized}

part-short : (s : List ℕ) (f : Sheet) (a b : ℕ) → length (part_of s f a b) ≤ length s
unfolding part_of
part-short s f a b = simp (length-take, length-drop) (omega arith)

names-short : (s : List ℕ) (f g : Sheet) (k : ℕ) → length (get_or (table (name_at s g) 0 f.names) k []) ≤ length s
names-short s f g k = ⊎_elim
    (λ h. rw (table_at (name_at s g) f.names k [] h) (part-short s g _ _))
    (λ h. rw (get_or-eq_default (table (name_at s g) 0 f.names) [] {n = k}
    (omega (arith, table-length (name_at s g) 0 f.names))) (omega arith))
    (below k f.names)

pub name-short : (s : List ℕ) (f : Sheet) (k : ℕ) → Sound s f → length (name_of (doc_of s) k) ≤ 57356
unfolding doc_of doc_as
name-short s f k z =
    omega (arith, names-short s (sheet_of s) (sheet_of s) k, size_few s f (sound-sized s f z))
