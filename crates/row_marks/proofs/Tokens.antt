-- The tree of a row's statement: where its tokens stand, and what they say.
use mathlib.Core.Path.{◌≡◌, refl, sym, ap, ◌∙◌, subst}
use mathlib.Core.List.{List, [], ◌∷◌, map}
use Prim.Native.Nat.{ℕ, zero, suc, ◌+◌, ◌*◌, ◌≤◌, ◌<◌}
use native.Mathlib.Omega.{arith}
use lib.ListN.{length, get_or}
use Rattle.lists.specs.Lists.{table, first, any_of}
use Rattle.frame.specs.Doc.{Doc, Token, kind_of, value_of, name_of}
use Rattle.rules.specs.Rules.{many, pairs, rules, opens, arity}
use Rattle.rules.proofs.Children.{pairs-length}
use Rattle.grammar.specs.Tree.{Tree, tree_of, past, end, parent}
use Rattle.grammar.proofs.Places.{past-none, past-node, past-suc, parent-child}
use Rattle.grammar.proofs.Formed.{arity-at}
use Rattle.grammar.proofs.Below.{small-opens}
use Rattle.grammar.proofs.Flat.{tree-text, leaf-end}
use Rattle.types.specs.Types.{ty, literal}
use Rattle.types.proofs.Inferred.{scalar}
use Rattle.breach.specs.Breach.{holder}
use Rattle.rfc4180.specs.Cells.{Cell, Row}
use Rattle.row_paper.specs.Paper.{token, literal_kind, paper_of}
use Rattle.row_paper.proofs.Literals.{kind-range}
use Rattle.row_paper.proofs.Columns.{no_token, no_cell, kind-is, value-is, columns-length, columns-all, name-token, literal-token, head_tokens, paper-length, behind}
use Rattle.std.specs.Prelude.{Some}

-- the content of header k
pub content-at : (hs : List Cell) (k : ℕ) → get_or (map (λ (h : Cell). h.content) hs) k [] ≡ (get_or hs k no_cell).content
content-at [] zero = refl
content-at [] (suc k) = refl
content-at (h ∷ hs) zero = refl
content-at (h ∷ hs) (suc k) = content-at hs k

module _ (label : List ℕ) (header : List Cell) (r : Row) where
  -- the statement's tree
  abbrev t : Tree
  t = tree_of (paper_of label header r)

  abbrev d : Doc
  d = paper_of label header r

  abbrev n : ℕ
  n = length r.cells

  pub size_is : t.size ≡ head_tokens + 2 * n
  unfolding tree_of
  size_is = paper-length label header r

  -- a token of the columns, and that it holds none
  column-bare : (i : ℕ) → i < 2 * n → length (opens (kind_of d (head_tokens + i)) (value_of d (head_tokens + i))) ≡ 0
  unfolding opens rules first any_of table
  column-bare i b =
      subst (λ (x : Token). length (opens x.kind x.value) ≡ 0) (sym (behind label header r i))
      (columns-all (λ x. length (opens x.kind x.value) ≡ 0) 1 r.cells (λ j p q. refl)
      (λ c. ap length (small-opens (literal_kind c) 0 (omega (arith, (kind-range c).1)))) i
      (omega (arith, columns-length 1 r.cells)))

  column-end : (i : ℕ) → i < 2 * n → end t (head_tokens + i) ≡ suc (head_tokens + i)
  column-end i b = leaf-end t (head_tokens + i) (omega (arith, size_is)) (arity-at d (head_tokens + i) ∙ column-bare i b)

  -- the Map's children stand one after the other
  pub children-at : (c : ℕ) → c ≤ 2 * n → past t c head_tokens ≡ head_tokens + c
  children-at zero h = past-none t head_tokens
  children-at (suc c) h =
      let e : suc (head_tokens + c) ≡ head_tokens + suc c = omega arith in
      past-suc t c head_tokens ∙ ap (end t) (children-at c (omega arith)) ∙ column-end c (omega arith) ∙ e

  -- the Merge holds all tokens behind the Statement
  pub merge-end : end t 1 ≡ t.size
  unfolding tree_of paper_of arity opens rules first any_of table many
  merge-end =
      let s : 9 ≤ t.size = omega (arith, size_is) in
      let e : 0 + length (pairs n []) ≡ 2 * n = omega (arith, pairs-length n []) in
      past-node t 0 1 (omega arith) ∙ past-node t 0 2 (omega arith) ∙ past-node t 0 3 (omega arith)
      ∙ past-node t 0 4 (omega arith) ∙ past-node t 3 5 (omega arith) ∙ past-node t 2 6 (omega arith)
      ∙ past-node t 1 7 (omega arith) ∙ past-node t 0 8 (omega arith)
      ∙ ap (λ (m : ℕ). past t m 9) e ∙ children-at (2 * n) (omega arith) ∙ sym size_is

  -- the Node is in the Merge's pattern
  parent-before : (i : ℕ) → suc i < t.size → 0 < arity (t.kind i) (t.value i) → parent t (suc i) ≡ i
  parent-before i h a =
      let e = past-none t (suc i) in
      subst (λ (j : ℕ). parent t j ≡ i) e (parent-child t i 0 (omega arith) a (omega (arith, e)))

  pub node-holder : holder t 4 ≡ 72
  unfolding holder tree_of paper_of arity opens rules first any_of table many
  node-holder =
      let s : 9 ≤ t.size = omega (arith, size_is) in
      let a : parent t 4 ≡ 3 = parent-before 3 (omega arith) (omega arith) in
      let b : parent t 3 ≡ 2 = parent-before 2 (omega arith) (omega arith) in
      let c : parent t 2 ≡ 1 = parent-before 1 (omega arith) (omega arith) in
      ap (λ (i : ℕ). t.kind (parent t (parent t i))) a ∙ ap (λ (i : ℕ). t.kind (parent t i)) b
      ∙ ap (λ (i : ℕ). t.kind i) c

  module _ (j : ℕ) (b : j < n) where
    -- the key of column j is the header, and its value a literal of the cell's kind
    pub key-is : t.text (past t (2 * j) head_tokens) ≡ (get_or header j no_cell).content
    unfolding paper_of
    key-is =
        let i = head_tokens + 2 * j in
        let e : get_or d.tokens i no_token ≡ token 50 (1 + j) =
        behind label header r (2 * j) ∙ name-token 1 r.cells j b in
        let g : 1 + j ≡ suc j = omega arith in
        ap (λ (k : ℕ). t.text k) (children-at (2 * j) (omega arith)) ∙ tree-text d i (kind-is d i e)
        ∙ ap (name_of d) (value-is d i e ∙ g) ∙ content-at header j

    pub literal-is : literal t (past t (2 * j + 1) head_tokens) ≡ Some (ty (literal_kind (get_or r.cells j no_cell)) 0)
    literal-is =
        let i = head_tokens + (2 * j + 1) in
        let k = literal_kind (get_or r.cells j no_cell) in
        let z = kind-range (get_or r.cells j no_cell) in
        let e : get_or d.tokens i no_token ≡ token k 0 =
        behind label header r (2 * j + 1) ∙ literal-token 1 r.cells j b in
        ap (literal t) (children-at (2 * j + 1) (omega arith))
        ∙ sym (scalar d i (head_tokens + 2 * n) (paper-length label header r) (omega arith) k (sym (kind-is d i e))
        z.0 (omega (arith, z.1)))
