-- A tree with other texts: what does not depend on texts, which is the clause of a token, what its pattern stands in
-- and its literal type.
use mathlib.Core.Path.{◌≡◌, refl, ap, ◌∙◌}
use mathlib.Core.List.{List}
use Prim.Native.Nat.{ℕ, zero, suc, ◌-◌}
use lib.Dec.{ltb, leb}
use Rattle.lists.specs.Lists.{pick}
use Rattle.grammar.specs.Tree.{Tree, past, child, enclosing, parent}
use Rattle.types.specs.Types.{literal_in, literal}
use Rattle.breach.specs.Breach.{clause_among, clause_of, holder}

-- a tree with the texts f
abbrev pub retold : Tree → (ℕ → List ℕ) → Tree
retold t f = record { size = t.size; kind = t.kind; value = t.value; text = f }

-- ---- what does not depend on texts
module _ (t : Tree) (f : ℕ → List ℕ) where
  -- the clause of a token
  clause-among : (i n : ℕ) → clause_among (retold t f) i n ≡ clause_among t i n
  unfolding clause_among past
  clause-among i zero = refl
  clause-among i (suc n) = ap (pick (leb (child t 0 n) i) n) (clause-among i n)

  pub clause-kept : (i : ℕ) → clause_of (retold t f) i ≡ clause_of t i
  clause-kept i = clause-among i (t.value 0)

  -- the token that it belongs to, and the kind of the one that an element's pattern stands in
  enclosing-kept : (i p : ℕ) → enclosing (retold t f) i p ≡ enclosing t i p
  unfolding enclosing past
  enclosing-kept i zero = refl
  enclosing-kept i (suc p) = ap (pick (ltb i (past t 1 p)) p) (enclosing-kept i p)

  parent-kept : (i : ℕ) → parent (retold t f) i ≡ parent t i
  parent-kept i = enclosing-kept i i

  pub holder-kept : (i : ℕ) → holder (retold t f) i ≡ holder t i
  unfolding holder
  holder-kept i =
      let u : Tree = retold t f in
      let e : parent u (parent u i) ≡ parent t (parent t i) =
      parent-kept (parent u i) ∙ ap (parent t) (parent-kept i) in
      ap t.kind (parent-kept (parent u (parent u i)) ∙ ap (parent t) e)

  -- the type of a literal
  literal-by : (l i : ℕ) → literal_in (retold t f) l i ≡ literal_in t l i
  unfolding literal_in
  literal-by zero i = refl
  literal-by (suc l) i = rw (literal-by l (suc i))

  pub literal-kept : (i : ℕ) → literal (retold t f) i ≡ literal t i
  literal-kept i = literal-by (t.size - i) i
