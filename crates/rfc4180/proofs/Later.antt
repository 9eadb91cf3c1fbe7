-- Rows read before others stand before them.
use mathlib.Core.Path.{◌≡◌, ◌∙◌, refl}
use mathlib.Core.List.{List, [], ◌∷◌, ◌++◌, append_assoc, append-nil}
use mathlib.Core.Bool.{Bool, true, false}
use Prim.Native.Nat.{ℕ}
use lib.Dec.{eqb}
use Rattle.lists.specs.Lists.{pick}
use Rattle.rfc4180.specs.Cells.{Row}
use Rattle.rfc4180.specs.Csv.{Mode, fresh, plain, quotes, closing, return, stuck, Turn, pass, keep, end_cell, end_row, new_row, halt, class_of, turn_of, apply, State, state_of, whole_row, begin, step_of, runs, finish, rows_at, rows_from, prepend}
use Rattle.std.specs.Prelude.{Option, Some, None}

-- rows before those that are read
abbrev before : List Row → Option (List Row) → Option (List Row)
before rs None = None
before rs (Some qs) = Some (rs ++ qs)

module _ (rs : List Row) where
  -- a state with rows before its own
  abbrev later : State → State
  later st = state_of st.mode st.start st.next st.content st.cells (rs ++ st.rows)

  apply-later : (t : Turn) (b : ℕ) (st : State) → apply t b (later st) ≡ later (apply t b st)
  unfolding apply
  apply-later (pass m) b st = refl
  apply-later (keep m) b st = refl
  apply-later end_cell b st = refl
  apply-later end_row b st = rw (append_assoc rs st.rows (whole_row st ∷ []))
  apply-later new_row b st = refl
  apply-later halt b st = refl

  runs-later : (s : List ℕ) (st : State) → runs (later st) s ≡ later (runs st s)
  unfolding runs step_of
  runs-later [] st = refl
  runs-later (b ∷ s) st = rw (apply-later (turn_of st.mode (class_of b)) b st) (runs-later s (step_of st b))

  last-later : (t : Bool) (qs ws : List Row) → pick t (rs ++ qs) ((rs ++ qs) ++ ws) ≡ rs ++ pick t qs (qs ++ ws)
  last-later true qs ws = refl
  last-later false qs ws = append_assoc rs qs ws

  finish-later : (m : Mode) (st : State) → finish m (later st) ≡ before rs (finish m st)
  unfolding finish
  finish-later fresh st = rw (last-later (eqb st.next st.start) st.rows (whole_row st ∷ []))
  finish-later plain st = rw (last-later (eqb st.next st.start) st.rows (whole_row st ∷ []))
  finish-later quotes st = refl
  finish-later closing st = rw (last-later (eqb st.next st.start) st.rows (whole_row st ∷ []))
  finish-later return st = refl
  finish-later stuck st = refl

  rows-later : (a : ℕ) (s : List ℕ) → rows_at (runs (begin a rs) s) ≡ before rs (rows_from a s)
  unfolding rows_at rows_from
  rows-later a s =
      let e : begin a rs ≡ later (begin a []) = rw (append-nil rs) in
      rw (e, runs-later s (begin a [])) (finish-later (runs (begin a []) s).mode (runs (begin a []) s))

pub row-later : (r : Row) (a : ℕ) (s : List ℕ) → rows_at (runs (begin a (r ∷ [])) s) ≡ prepend r (rows_from a s)
row-later r a s = rows-later (r ∷ []) a s ∙ one (rows_from a s)
  where
    one : (o : Option (List Row)) → before (r ∷ []) o ≡ prepend r o
    one None = refl
    one (Some qs) = refl
