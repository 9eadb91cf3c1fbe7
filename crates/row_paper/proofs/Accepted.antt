-- The sheet of a row's statement is accepted: `accepted`.
use mathlib.Core.Path.{◌≡◌, refl, ap, ◌∙◌}
use mathlib.Core.Bool.{true}
use mathlib.Core.List.{List, [], ◌∷◌}
use Prim.Native.Nat.{ℕ, zero, suc, ◌+◌, ◌-◌, ◌*◌, ◌≤◌, ◌<◌}
use native.Mathlib.Omega.{arith}
use borrow.Author.Tests.{le-leb, lt-ltb, le-ltb}
use lib.ListN.{length, get_or, length-map}
use Rattle.lists.specs.Lists.{table, first, any_of, is_one}
use Rattle.lists.proofs.Ranges.{every_from, every-at}
use Rattle.frame.specs.Limits.{max_depth}
use Rattle.frame.specs.Doc.{Doc, Token, doc_of, kind_of, value_of}
use Rattle.rules.specs.declared.Place.{Place}
use Rattle.rules.specs.declared.Place.TheVariants.{WholeStatement, Name, Expr}
use Rattle.rules.specs.Rules.{asks, takes, valued, many, pairs, rules, most_of, opens, any}
use Rattle.grammar.specs.Machine.{want, opened, bounded, allowed, judged, run, grammar_fault}
use Rattle.grammar.proofs.Below.{small-opens}
use Rattle.schema.specs.Declarations.{statement_fault}
use Rattle.written.specs.Written.{written, Fits}
use Rattle.written.proofs.Back.{read_back}
use Rattle.rfc4180.specs.Cells.{Cell, Row}
use Rattle.row_paper.specs.Paper.{token, literal_kind, column_tokens, paper_names, paper_of}
use Rattle.row_paper.specs.Writable.{Writable}
use Rattle.row_paper.proofs.Literals.{IsLiteral, kind-range}
use Rattle.row_paper.proofs.Columns.{no_token, kind-is, value-is, columns-length, columns-all, paper-length, behind}
use Rattle.std.specs.Prelude.{None, Ok}

-- ---- the grammar reads the columns
bounded-by : (d : Doc) (p : Place) (i v : ℕ) → value_of d i ≡ v
    → (asks p).fits (length d.names) (value_of d (i - 1)) v ≡ true → bounded d p i ≡ true
unfolding bounded
bounded-by d p i v e f = ap ((asks p).fits (length d.names) (value_of d (i - 1))) e ∙ f

-- a token that a place takes; a Name of the document; a literal
fine : (d : Doc) (p : Place) (i depth k v : ℕ) → get_or d.tokens i no_token ≡ token k v → is_one (takes p) k ≡ true
    → v ≤ most_of k → (asks p).fits (length d.names) (value_of d (i - 1)) v ≡ true → depth ≤ max_depth
    → judged d (want p depth) i ≡ None
unfolding judged allowed
fine d p i depth k v e t m f l =
    let ek = kind-is d i e in
    let ev = value-is d i e in
    let a : is_one (takes p) (kind_of d i) ≡ true = rw ek t in
    let b : valued (kind_of d i) (value_of d i) ≡ true = rw (ek, ev) (le-leb v (most_of k) m) in
    let c = bounded-by d p i v ev f in
    simp (a, b, c, le-leb depth max_depth l)

name-judged : (d : Doc) (i depth k : ℕ) → get_or d.tokens i no_token ≡ token 50 k → k < length d.names → k ≤ any
    → depth ≤ max_depth → judged d (want Name depth) i ≡ None
unfolding takes most_of rules first any_of table
name-judged d i depth k e h g l = fine d Name i depth 50 k e refl g (lt-ltb k (length d.names) h) l

literal-taken : (k : ℕ) → IsLiteral k → is_one (takes Expr) k ≡ true
unfolding every_from takes table any_of
literal-taken k h = every-at (λ k. is_one (takes Expr) k) 9 1 k refl h.0 (omega (arith, h.1))

literal-judged : (d : Doc) (i depth k : ℕ) → get_or d.tokens i no_token ≡ token k 0 → IsLiteral k → depth ≤ max_depth
    → judged d (want Expr depth) i ≡ None
literal-judged d i depth k e h l = fine d Expr i depth k 0 e (literal-taken k h) (omega arith) refl l

name-opens : (k : ℕ) → opens 50 k ≡ []
unfolding opens rules first any_of table
name-opens k = refl

columns-read : (d : Doc) (k : ℕ) (cs : List Cell) (i : ℕ)
    → ((j : ℕ) → get_or d.tokens (i + j) no_token ≡ get_or (column_tokens k cs) j no_token)
    → k + length cs ≤ length d.names → length d.names ≤ any
    → run d (length (column_tokens k cs)) (opened 6 (pairs (length cs) []) []) i ≡ Ok (i + 2 * length cs)
unfolding run opened pairs column_tokens
columns-read d k [] i at h g = let e : i ≡ i + 0 = omega arith in ap Ok e
columns-read d k (c ∷ cs) i at h g =
    let r = kind-range c in
    let a : get_or d.tokens i no_token ≡ token 50 k = let e : i + 0 ≡ i = omega arith in rw e at (at 0) in
    let b : get_or d.tokens (suc i) no_token ≡ token (literal_kind c) 0 =
    let e : i + 1 ≡ suc i = omega arith in rw e at (at 1) in
    let o : opens (kind_of d i) (value_of d i) ≡ [] = rw (kind-is d i a, value-is d i a) (name-opens k) in
    let q : opens (kind_of d (suc i)) (value_of d (suc i)) ≡ [] =
    rw (kind-is d (suc i) b, value-is d (suc i) b) (small-opens (literal_kind c) 0 (omega (arith, r.1))) in
    let z : suc (suc i) + 2 * length cs ≡ i + 2 * suc (length cs) = omega arith in
    rw (
      name-judged d i 6 k a (omega arith) (omega arith) (omega arith),
      o,
      literal-judged d (suc i) 6 (literal_kind c) b r (omega arith),
      q,
    )
    (columns-read d (suc k) cs (suc (suc i)) (λ j. let e : suc (suc i) + j ≡ i + suc (suc j) = omega arith in
    rw e (at (suc (suc j)))) (omega arith) g ∙ ap Ok z)

-- ---- the whole statement
module _ (label : List ℕ) (header : List Cell) (r : Row) where
  -- a name for the label, and one to a column
  pub names-length : length (paper_names label header) ≡ 1 + length header
  names-length = omega (arith, length-map header (λ (h : Cell). h.content))

  rest_read : Writable label header r → run (paper_of label header r) (length (column_tokens 1 r.cells))
      (opened 6 (pairs (length r.cells) []) []) 9 ≡ Ok (9 + 2 * length r.cells)
  unfolding paper_of
  rest_read w =
      columns-read (paper_of label header r) 1 r.cells 9 (behind label header r)
      (omega (arith, names-length, w.even)) (omega (arith, names-length, w.few_names))

  pub paper-read : Writable label header r → grammar_fault WholeStatement (paper_of label header r) ≡ None
  unfolding grammar_fault run opened judged allowed bounded takes many pairs rules most_of opens first any_of table paper_of
  paper-read w =
      let a : r.start ≤ any = omega (arith, w.ordered, w.small_span) in
      let b : r.stop ≤ any = omega (arith, w.small_span) in
      let c : length r.cells ≤ any = omega (arith, w.even, w.few_names) in
      let n = length (paper_of label header r).tokens in
      let o : n ≤ 9 + 2 * length r.cells = omega (arith, paper-length label header r) in
      simp (
        le-leb r.start any a,
        le-leb r.stop any b,
        le-leb r.start r.stop w.ordered,
        lt-ltb 0 (length (paper_names label header)) (omega arith),
        le-leb (length r.cells) any c,
        rest_read w,
        le-ltb (9 + 2 * length r.cells) n o,
      )

-- ---- it fits a sheet
-- a kind is a byte, and a value a u32
abbrev Small : Token → Type 0
Small t = (t.kind < 256) × (t.value < 4294967296)

module _ (label : List ℕ) (header : List Cell) (r : Row) (w : Writable label header r) where
  tokens-small : (i : ℕ) → i < length (paper_of label header r).tokens
      → Small (get_or (paper_of label header r).tokens i no_token)
  unfolding paper_of
  tokens-small zero b = (omega arith, omega arith)
  tokens-small (suc zero) b = (omega arith, omega arith)
  tokens-small (suc (suc zero)) b = (omega arith, omega arith)
  tokens-small (suc (suc (suc zero))) b = (omega arith, omega arith)
  tokens-small (suc (suc (suc (suc zero)))) b = (omega arith, omega arith)
  tokens-small (suc (suc (suc (suc (suc zero))))) b = (omega arith, omega (arith, w.ordered, w.small_span))
  tokens-small (suc (suc (suc (suc (suc (suc zero)))))) b = (omega arith, w.small_span)
  tokens-small (suc (suc (suc (suc (suc (suc (suc zero))))))) b = (omega arith, omega arith)
  tokens-small (suc (suc (suc (suc (suc (suc (suc (suc zero)))))))) b =
      (omega arith, omega (arith, w.even, w.few_names))
  tokens-small (suc (suc (suc (suc (suc (suc (suc (suc (suc i))))))))) b =
      columns-all Small 1 r.cells
      (λ j p q. (omega arith, omega (arith, w.even, w.few_names)))
      (λ c. (omega (arith, (kind-range c).1), omega arith)) i (omega arith)

  pub paper-fits : Fits (paper_of label header r)
  unfolding paper_of
  paper-fits = record {
    some_tokens = omega arith;
    few_tokens = omega (arith, columns-length 1 r.cells, w.even, w.few_names);
    few_names = omega (arith, names-length label header r, w.few_names);
    short_text = w.short_text;
    kinds = λ i b. (tokens-small i b).0;
    values = λ i b. (tokens-small i b).1;
    named = w.named;
  }

-- what is known of the sheet of a row's statement
pub record PaperSheet (label : List ℕ) (header : List Cell) (r : Row) : Type 0 where
  -- the statement is one that a sheet can hold, and that the grammar reads
  pub fits : Fits (paper_of label header r)
  pub reads : grammar_fault WholeStatement (paper_of label header r) ≡ None
  -- its sheet is accepted, and holds it
  pub no_fault : statement_fault (written (paper_of label header r)) ≡ None
  pub holds : doc_of (written (paper_of label header r)) ≡ paper_of label header r

-- The sheet written is always accepted
pub accepted : (label : List ℕ) (header : List Cell) (r : Row) → Writable label header r → PaperSheet label header r
unfolding statement_fault
accepted label header r w =
    let f = paper-fits label header r w in
    let g = paper-read label header r w in
    let b = read_back (paper_of label header r) f in
    record { fits = f; reads = g; no_fault = rw (b.0, b.1) g; holds = b.1 }
