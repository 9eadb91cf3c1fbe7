-- The list of a row's statement is what the columns say: `marked`.
use mathlib.Core.Path.{◌≡◌, refl, sym, ap, ◌∙◌}
use mathlib.Core.Bool.{Bool, true, false, not}
use mathlib.Core.List.{List, [], ◌∷◌, ◌++◌, map, append-nil}
use Prim.Native.Nat.{ℕ, zero, suc, ◌+◌, ◌-◌, ◌*◌, ◌≤◌, ◌<◌}
use native.Mathlib.Omega.{arith}
use lib.Dec.{eqb, leb}
use lib.ListN.{length, get_or, length-map}
use lib.Seq.{ext_get_or}
use Rattle.lists.specs.Lists.{pick, both, either, table, each, any_of, over, through, is_one, is_empty}
use Rattle.lists.proofs.Tests.{never}
use Rattle.lists.proofs.Ranges.{through-in}
use Rattle.lists.proofs.Laws.{table-length, table_at, each_from, over-one, over-join, over-quiet}
use Rattle.rules.specs.Kinds as Kind
use Rattle.rules.proofs.Rows.{taken-by}
use Rattle.grammar.specs.Tree.{Tree, tree_of, past, child}
use Rattle.grammar.proofs.Places.{past-none}
use Rattle.types.specs.Types.{literal}
use Rattle.provider.specs.Schema.{Schema, is_declared, property_of, tuples_of}
use Rattle.breach.specs.Breach.{Item, item, clause_among, clause_of, item_at, key_at, keys_of, holder, backed}
use Rattle.breach.specs.Listing.{when, key_judged, is_keyed, name_item, node_item, key_item, element_items, early, keyless, late, clause_items, listed}
use Rattle.rfc4180.specs.Cells.{Cell, Row}
use Rattle.row_paper.specs.Paper.{literal_kind, paper_of}
use Rattle.row_paper.proofs.Literals.{kind-range}
use Rattle.row_paper.proofs.Columns.{no_cell, columns-all}
use Rattle.row_marks.specs.Marks.{row_item, label_marks, column_mark, column_marks, key_marks, marks_of}
use Rattle.row_marks.proofs.Tokens.{content-at, merge-end, node-holder, size_is, key-is, literal-is}
use Rattle.std.specs.Prelude.{Option}
use Rattle.types.specs.declared.Ty.{Ty}

-- ---- tokens that no breach is of
-- the kinds that one can be of: elements, Calls and Set Labels
abbrev judged_kinds : List ℕ
judged_kinds = Kind.Node ∷ Kind.Rel ∷ Kind.FunctionCall ∷ Kind.ProcedureCall ∷ Kind.SetLabels ∷ []

none-early : {A : Type 0} (a b c d e : Bool) (w x y z : List A)
    → either a (either b (either c (either d (either e false)))) ≡ false
    → pick (either a (either b false)) w (pick c x (pick d y (pick e z []))) ≡ []
none-early true b c d e w x y z h = never (sym h)
none-early false true c d e w x y z h = never (sym h)
none-early false false true d e w x y z h = never (sym h)
none-early false false false true e w x y z h = never (sym h)
none-early false false false false true w x y z h = never (sym h)
none-early false false false false false w x y z h = refl

none-late : {A : Type 0} (a b c d e : Bool) (w : List A) → either a (either b c) ≡ false
    → pick (both (both (either a (either b false)) d) e) w [] ≡ []
none-late true b c d e w h = never (sym h)
none-late false true c d e w h = never (sym h)
none-late false false c d e w h = refl

module _ (t : Tree) (s : Schema) (i : ℕ) (h : is_one judged_kinds (t.kind i) ≡ false) where
  no-early : early t s i ≡ []
  unfolding early any_of
  no-early = none-early (eqb (t.kind i) 62) (eqb (t.kind i) 63) (eqb (t.kind i) 16) (eqb (t.kind i) 85)
      (eqb (t.kind i) 82) _ _ _ _ h

  no-late : late t s i ≡ []
  unfolding late any_of
  no-late = none-late (eqb (t.kind i) 62) (eqb (t.kind i) 63) _ _ _ _ h

literal-quiet : (c : Cell) → is_one judged_kinds (literal_kind c) ≡ false
unfolding any_of table
literal-quiet c =
    let z = kind-range c in
    taken-by (λ k. is_one judged_kinds k ≡ false) (through 1 5) (literal_kind c)
    (through-in 1 5 (literal_kind c) z.0 z.1)
    (refl, (refl, (refl, (refl, (refl, tt)))))

pick-both : {A : Type 0} (b : Bool) (x : A) → pick b x x ≡ x
pick-both true x = refl
pick-both false x = refl

both_false : (b : Bool) → both b false ≡ false
both_false true = refl
both_false false = refl

-- ---- what is said of the columns
columns-say : (s : Schema) (label : List ℕ) (r : Row) (f : ℕ → List Item) (k : ℕ) (hs cs : List Cell)
    → length hs ≡ length cs
    → ((j : ℕ) → j < length cs → f (k + j) ≡ column_mark s label r (k + j) (get_or hs j no_cell) (get_or cs j no_cell))
    → each_from f k (length cs) ≡ column_marks s label r k hs cs
unfolding column_marks each table
columns-say s label r f k [] [] e g = refl
columns-say s label r f k [] (c ∷ cs) e g = absurd (omega arith)
columns-say s label r f k (h ∷ hs) [] e g = absurd (omega arith)
columns-say s label r f k (h ∷ hs) (c ∷ cs) e g =
    let a : f k ≡ column_mark s label r k h c = let z : k + 0 ≡ k = omega arith in rw z at (g 0 (omega arith)) in
    rw (
      a,
      columns-say s label r f (suc k) hs cs (omega arith)
          (λ j b. let z : suc k + j ≡ k + suc j = omega arith in rw z (g (suc j) (omega arith))),
    )

module _ (label : List ℕ) (header : List Cell) (r : Row) where
  abbrev t : Tree
  t = tree_of (paper_of label header r)

  abbrev n : ℕ
  n = length r.cells

  quiet : (i : ℕ) → 1 ≤ i → i < t.size → (i ≡ 4 → ⊥) → is_one judged_kinds (t.kind i) ≡ false
  unfolding tree_of paper_of any_of
  quiet zero h b g = absurd (omega arith)
  quiet (suc zero) h b g = refl
  quiet (suc (suc zero)) h b g = refl
  quiet (suc (suc (suc zero))) h b g = refl
  quiet (suc (suc (suc (suc zero)))) h b g = absurd (g refl)
  quiet (suc (suc (suc (suc (suc zero))))) h b g = refl
  quiet (suc (suc (suc (suc (suc (suc zero)))))) h b g = refl
  quiet (suc (suc (suc (suc (suc (suc (suc zero))))))) h b g = refl
  quiet (suc (suc (suc (suc (suc (suc (suc (suc zero)))))))) h b g = refl
  quiet (suc (suc (suc (suc (suc (suc (suc (suc (suc i))))))))) h b g =
      columns-all (λ x. is_one judged_kinds x.kind ≡ false) 1 r.cells (λ j p q. refl) literal-quiet i (omega arith)

  -- where f says nothing but of the Node, it says that
  node-alone : (f : ℕ → List Item) → ((i : ℕ) → is_one judged_kinds (t.kind i) ≡ false → f i ≡ [])
      → over f 1 t.size ≡ f 4
  node-alone f g =
      let z : 9 ≤ t.size = omega (arith, size_is label header r) in
      let a : over f 1 4 ≡ [] = over-quiet f 1 4 (λ i p q. g i (quiet i p (omega arith) (λ e. omega arith))) in
      let b : over f 5 t.size ≡ [] =
      over-quiet f 5 t.size (λ i p q. g i (quiet i (omega arith) q (λ e. omega arith))) in
      sym (over-join f 1 4 t.size (omega arith) (omega arith)) ∙ rw a
      (sym (over-join f 4 5 t.size (omega arith) (omega arith)) ∙ rw (b, append-nil) (over-one f 4))

  -- there is one clause, so the Node is in it
  only-clause : clause_of t 4 ≡ 0
  unfolding clause_among tree_of paper_of
  only-clause = pick-both (leb (child t 0 0) 4) 0

  item-is : (code stage ordinal : ℕ) → item_at t 4 code stage ordinal ≡ row_item r code stage ordinal
  unfolding tree_of paper_of
  item-is code stage ordinal = ap (item code r.start r.stop 4 stage ordinal) only-clause

  module _ (s : Schema) (even : length header ≡ length r.cells) where
    keys-are : keys_of t 4 ≡ map (λ (h : Cell). h.content) header
    unfolding tree_of paper_of
    keys-are =
        let g : ℕ → List ℕ = λ k. t.text (past t (2 * k) 9) in
        let z = table-length g 0 n in
        ext_get_or [] (table g 0 n) (map (λ (h : Cell). h.content) header)
        (omega (arith, z, length-map header (λ (h : Cell). h.content)))
        (λ i b. let c : i < n = omega (arith, z) in
        table_at g n i [] c ∙ key-is label header r i c ∙ sym (content-at header i))

    -- stage 0, the label; stage 1, nothing; stage 2, the columns; stage 3
    label-says : over (name_item t s 4) 0 1 ≡ label_marks s label r
    unfolding name_item label_marks tree_of paper_of
    label-says =
        over-one (name_item t s 4) 0 ∙ ap (when (not (is_declared s.labels label))) (item-is 3001 0 0)

    apart-says : node_item t s 4 ≡ []
    unfolding node_item tree_of paper_of
    apart-says = ap (λ (b : Bool). when b (item_at t 4 4023 1 0)) (both_false (is_one (71 ∷ 72 ∷ []) (holder t 4)))

    column-says : (k : ℕ) → k < n
        → key_item t s 4 k ≡ column_mark s label r k (get_or header k no_cell) (get_or r.cells k no_cell)
    unfolding key_item column_mark tree_of paper_of table
    column-says k b =
        let u : Item = row_item r 3003 2 k in
        let w : Item = row_item r 3004 2 k in
        let l : Option Ty = literal t (past t (2 * k + 1) 9) in
        let p = property_of s.labels (label ∷ []) (key_at t 4 k) in
        ap (λ (x : Item). key_judged p l x (item_at t 4 3004 2 k)) (item-is 3003 2 k)
        ∙ ap (key_judged p l u) (item-is 3004 2 k)
        ∙ ap (λ (x : List ℕ). key_judged (property_of s.labels (label ∷ []) x) l u w) (key-is label header r k b)
        ∙ ap (λ (x : Option Ty). key_judged (property_of s.labels (label ∷ []) (get_or header k no_cell).content) x u w)
        (literal-is label header r k b)

    columns-are : over (key_item t s 4) 0 n ≡ column_marks s label r 0 header r.cells
    columns-are =
        let e : n - 0 ≡ n = omega arith in
        ap (each_from (key_item t s 4) 0) e
        ∙ columns-say s label r (key_item t s 4) 0 header r.cells even
        (λ j b. let z : 0 + j ≡ j = omega arith in rw z (column-says j b))

    early-says : early t s 4 ≡ label_marks s label r ++ column_marks s label r 0 header r.cells
    unfolding early element_items tree_of paper_of any_of
    early-says = rw (label-says, apart-says, columns-are, append-nil)

    late-says : late t s 4 ≡ key_marks s label header r
    unfolding late keyless key_marks tree_of paper_of any_of table
    late-says =
        let us = tuples_of s.labels (label ∷ []) in
        ap (λ (k : ℕ). pick (both (is_keyed t 4) (eqb k Kind.Merge)) (keyless t s 4 us) []) (node-holder label header r)
        ∙ ap (λ (ks : List (List ℕ)). when (both (not (is_empty us)) (not (backed us ks))) (item_at t 4 3009 3 0)) keys-are
        ∙ ap (when (both (not (is_empty us)) (not (backed us (map (λ (h : Cell). h.content) header)))))
        (item-is 3009 3 0)

    clause-says : clause_items t s 1 ≡ marks_of s label header r
    unfolding clause_items marks_of
    clause-says =
        rw (
          merge-end label header r,
          node-alone (early t s) (no-early t s),
          node-alone (late t s) (no-late t s),
          early-says,
          late-says,
        )

    all-says : listed t s ≡ marks_of s label header r
    unfolding listed tree_of paper_of
    all-says =
        over-one (λ c. clause_items t s (child t 0 c)) 0
        ∙ ap (clause_items t s) (past-none t 1) ∙ clause-says

-- The list of a row's statement, for every schema
pub marked : (label : List ℕ) (header : List Cell) (r : Row) → length header ≡ length r.cells → (s : Schema)
    → listed (tree_of (paper_of label header r)) s ≡ marks_of s label header r
marked label header r even s = all-says label header r s even
