-- Two statement sheets joined: whatever is written is the sheet of the joined document, and is accepted.
use mathlib.Core.Bool.{Bool, true, false}
use mathlib.Core.Logic.{⊎_elim}
use mathlib.Core.Path.{◌≡◌, refl, sym, ap, ◌∙◌, subst}
use mathlib.Core.List.{List, [], ◌∷◌}
use Prim.Native.Nat.{ℕ, ◌+◌, ◌-◌, ◌≤◌, ◌<◌}
use native.Mathlib.Omega.{arith}
use borrow.Author.Tests.{leb-true, leb-false, le-leb, lt-leb, ltb-true, eqb-true}
use lib.ListN.{length}
use lib.Dec.{eqb, leb, ltb}
use Rattle.lists.specs.Lists.{pick, both, table, first, any_of, is_one, all_of}
use Rattle.lists.proofs.Tests.{never, both_true, either_true, below}
use Rattle.utf8.specs.Utf8.{utf8}
use Rattle.frame.specs.Limits.{max_tokens, max_names, max_text}
use Rattle.frame.specs.Sheet.{sheet_of}
use Rattle.frame.specs.Doc.{Doc, doc_of, kind_of, name_of}
use Rattle.frame.specs.declared.Sheet.{Sheet}
use Rattle.frame.specs.declared.Fault.{Fault}
use Rattle.frame.proofs.Laws.{name-utf8}
use Rattle.rules.specs.declared.Place.{Place}
use Rattle.rules.specs.declared.Place.TheVariants.{WholeStatement, Clause, SetItem, RemoveItem, Pattern, Part, Element, Expr, MapItem, Name, SpanStart, SpanEnd, WholeSchema, Declaration, LabelItem, RelTypeItem, PropertyType}
use Rattle.rules.specs.Rules.{takes, any, Rule, rules, most_by, most_of}
use Rattle.grammar.specs.Machine.{grammar_fault}
use Rattle.grammar.proofs.Flat.{allowed-taken}
use Rattle.grammar.proofs.Skipping.{seated, valued-at}
use Rattle.schema.specs.Declarations.{statement_fault}
use Rattle.schema.specs.Effect.{Effect, refusal, writes, answer_of, unless_refused, read_statement, fitted}
use Rattle.schema.proofs.Effects.{writes_nothing, fitted-wrote, unrefused, read-accepted}
use Rattle.written.specs.Written.{text_in, sizes_in, written, within_limits, Fits}
use Rattle.written.proofs.Back.{read_back}
use Rattle.join.specs.Join.{joined, join_effect, join_statements}
use Rattle.join.specs.Inner.{Stated}
use Rattle.join.proofs.Stated.{few-of, faultless}
use Rattle.join.proofs.Joining.{sizes-are, limits}
use Rattle.join_marks.proofs.Accepted.{name-left, name-right, joined-accepted}
use Rattle.std.specs.Prelude.{Option, Some, None, Ok}
use Rattle.frame.specs.Sheet.{fault}

-- ---- an accepted document's kinds and values fit a sheet
-- no rule allows more than a u32
most-by : (p : Rule → Bool) (rs : List Rule) → all_of (λ r. leb r.most any) rs ≡ true → most_by (first p rs) ≤ any
unfolding all_of first
most-by p [] h = omega arith
most-by p (r ∷ rs) h =
    let x = both_true (leb r.most any) _ h in
    go (p r) (leb-true r.most any x.0) (most-by p rs x.1)
  where
    go : (b : Bool) → r.most ≤ any → most_by (first p rs) ≤ any → most_by (pick b (Some r) (first p rs)) ≤ any
    go true y z = y
    go false y z = z

-- so no kind has more
most-any : (k : ℕ) → most_of k ≤ any
unfolding most_of rules all_of
most-any k = most-by (λ r. is_one r.kinds k) rules refl

-- every kind that a place takes is a byte
one-small : (ks : List ℕ) (k : ℕ) → all_of (λ j. ltb j 256) ks ≡ true → is_one ks k ≡ true → k < 256
unfolding all_of any_of
one-small [] k a h = never h
one-small (j ∷ ks) k a h =
    let b = both_true (ltb j 256) _ a in
    ⊎_elim
    (λ e. let z : k ≡ j = eqb-true k j e in omega (arith, z, ltb-true j 256 b.0))
    (λ e. one-small ks k b.1 e)
    (either_true (eqb k j) (is_one ks k) h)

-- by the places
taken-small : (o : Place) (k : ℕ) → is_one (takes o) k ≡ true → k < 256
unfolding takes table all_of
taken-small WholeStatement k h = one-small (takes WholeStatement) k refl h
taken-small Clause k h = one-small (takes Clause) k refl h
taken-small SetItem k h = one-small (takes SetItem) k refl h
taken-small RemoveItem k h = one-small (takes RemoveItem) k refl h
taken-small Pattern k h = one-small (takes Pattern) k refl h
taken-small Part k h = one-small (takes Part) k refl h
taken-small Element k h = one-small (takes Element) k refl h
taken-small Expr k h = one-small (takes Expr) k refl h
taken-small MapItem k h = one-small (takes MapItem) k refl h
taken-small Name k h = one-small (takes Name) k refl h
taken-small SpanStart k h = one-small (takes SpanStart) k refl h
taken-small SpanEnd k h = one-small (takes SpanEnd) k refl h
taken-small WholeSchema k h = one-small (takes WholeSchema) k refl h
taken-small Declaration k h = one-small (takes Declaration) k refl h
taken-small LabelItem k h = one-small (takes LabelItem) k refl h
taken-small RelTypeItem k h = one-small (takes RelTypeItem) k refl h
taken-small PropertyType k h = one-small (takes PropertyType) k refl h

-- A document that a grammar accepts, within the limits and with names in UTF-8, fits a sheet
pub accepted-fits : (p : Place) (d : Doc) → grammar_fault p d ≡ None → 0 < length d.tokens
    → within_limits d ≡ true → ((k : ℕ) → k < length d.names → utf8 (name_of d k) ≡ true) → Fits d
accepted-fits p d h o w named =
    let l = few-of (sizes_in d) w in
    record {
      some_tokens = o;
      few_tokens = l.tokens;
      few_names = l.names;
      short_text = l.text;
      kinds = λ i b. let g = seated d p h i b in taken-small g.0 (kind_of d i) (allowed-taken d g.0 i g.1);
      values = λ i b. omega (arith, valued-at d p h i b, most-any (kind_of d i));
      named = named;
    }

-- ---- sheets without fault
-- each name of the joined document is one of the two documents'
joined-named : (a b : Doc) → ((k : ℕ) → utf8 (name_of a k) ≡ true) → ((k : ℕ) → utf8 (name_of b k) ≡ true) → (k : ℕ)
    → utf8 (name_of (joined a b) k) ≡ true
joined-named a b p q k = ⊎_elim
    (λ l. rw (name-left a b k l) (p k))
    (λ l. let z : k ≡ length a.names + (k - length a.names) = omega arith in
    subst (λ (i : ℕ). utf8 (name_of (joined a b) i) ≡ true) (sym z)
    (rw (name-right a b (k - length a.names)) (q (k - length a.names))))
    (below k (length a.names))

module _ (x y : List ℕ) (rx : Stated x (sheet_of x)) (ry : Stated y (sheet_of y)) where
  -- the joined document's sizes, by the two sheets': T1 + T2 - 1 tokens, M1 + M2 names, B1 + B2 bytes of text
  tokens-are : 1 + length (joined (doc_of x) (doc_of y)).tokens ≡ (sheet_of x).tokens + (sheet_of y).tokens
  tokens-are = omega (arith, ap (λ (f : Sheet). f.tokens) (sizes-are rx ry), rx.sheet.some_tokens)

  names-are : (sheet_of x).names + (sheet_of y).names ≡ length (joined (doc_of x) (doc_of y)).names
  names-are = ap (λ (f : Sheet). f.names) (sizes-are rx ry)

  text-is : (sheet_of x).text + (sheet_of y).text ≡ length (text_in (joined (doc_of x) (doc_of y)).names)
  text-is = ap (λ (f : Sheet). f.text) (sizes-are rx ry)

  -- the joined document reads
  reads-joined : within_limits (joined (doc_of x) (doc_of y)) ≡ true
      → grammar_fault WholeStatement (joined (doc_of x) (doc_of y)) ≡ None
  reads-joined w =
      let l = few-of (sizes_in (joined (doc_of x) (doc_of y))) w in
      joined-accepted (doc_of x) (doc_of y) rx.read ry.read l.tokens l.names

  -- the joined document fits a sheet
  fits-joined : within_limits (joined (doc_of x) (doc_of y)) ≡ true → Fits (joined (doc_of x) (doc_of y))
  fits-joined w =
      accepted-fits WholeStatement (joined (doc_of x) (doc_of y)) (reads-joined w)
      (omega (arith, tokens-are, rx.sheet.some_tokens, ry.sheet.some_tokens)) w
      (λ k l. joined-named (doc_of x) (doc_of y) (λ j. name-utf8 x j rx.sheet.framed)
      (λ j. name-utf8 y j ry.sheet.framed) k)

-- ---- what is written
-- what is known of a document whose bytes were written
record WrittenBytes (d : Doc) (out : List ℕ) (n : ℕ) (xs : List ℕ) : Type 0 where
  pub within : within_limits d ≡ true
  pub bytes : xs ≡ written d
  pub count : n ≡ length xs
  pub room : length xs ≤ length out

-- so it is of each document whose bytes were written
kept : (d : Doc) (out : List ℕ) (n : ℕ) (xs : List ℕ) → join_effect d out ≡ writes n xs → WrittenBytes d out n xs
unfolding join_effect
kept d out n xs e = limits (within_limits d) refl e
  where
    limits : (t : Bool) → within_limits d ≡ t
        → pick t (fitted (length (written d)) (written d) out) (refusal 20 0 0) ≡ writes n xs → WrittenBytes d out n xs
    limits true w e =
        let f = fitted-wrote (length (written d)) (written d) out n xs e in
        record { within = w; bytes = sym f.0; count = sym f.1 ∙ ap length f.0; room = rw f.0 at f.2 }
    limits false w e = writes_nothing e

-- what is known of the sheet xs of n bytes that was written for x and y
pub record JoinedSheet (x y out : List ℕ) (n : ℕ) (xs : List ℕ) : Type 0 where
  -- both sheets are statements without fault, and joined they pass no limit
  pub first : statement_fault x ≡ None
  pub second : statement_fault y ≡ None
  pub within : within_limits (joined (doc_of x) (doc_of y)) ≡ true
  -- these are the bytes of the joined document and their number, for which there was room
  pub bytes : xs ≡ written (joined (doc_of x) (doc_of y))
  pub count : n ≡ length xs
  pub room : length xs ≤ length out
  -- the sheet is accepted, and holds the joined document
  pub no_fault : statement_fault xs ≡ None
  pub reads : answer_of (read_statement xs) ≡ Ok 0
  pub holds : doc_of xs ≡ joined (doc_of x) (doc_of y)
  -- T = T1 + T2 - 1, M = M1 + M2, B = B1 + B2
  pub tokens : 1 + (sheet_of xs).tokens ≡ (sheet_of x).tokens + (sheet_of y).tokens
  pub names : (sheet_of xs).names ≡ (sheet_of x).names + (sheet_of y).names
  pub text : (sheet_of xs).text ≡ (sheet_of x).text + (sheet_of y).text

-- the sheet of the joined document has no fault, and holds it
sheet-of : (x y xs : List ℕ) → Stated x (sheet_of x) → Stated y (sheet_of y)
    → within_limits (joined (doc_of x) (doc_of y)) ≡ true → xs ≡ written (joined (doc_of x) (doc_of y))
    → (statement_fault xs ≡ None) × (doc_of xs ≡ joined (doc_of x) (doc_of y))
unfolding statement_fault
sheet-of x y xs rx ry w e =
    let b = read_back (joined (doc_of x) (doc_of y)) (fits-joined x y rx ry w) in
    rw e (rw (b.0, b.1) (reads-joined x y rx ry w), b.1)

-- The joined sheet is always accepted: whatever join_statements writes is the sheet of the joined document, and
-- read_statement accepts it
pub joined-sheet : (x y out : List ℕ) (n : ℕ) (xs : List ℕ) → join_statements x y out ≡ writes n xs
    → JoinedSheet x y out n xs
unfolding join_statements
joined-sheet x y out n xs e =
    let p = unrefused 1 (statement_fault x) _ n xs e in
    let q = unrefused 2 (statement_fault y) _ n xs p.1 in
    let k = kept (joined (doc_of x) (doc_of y)) out n xs q.1 in
    let rx = faultless x p.0 in
    let ry = faultless y q.0 in
    let s = sheet-of x y xs rx ry k.within k.bytes in
    let r = faultless xs s.0 in
    let t : length (doc_of xs).tokens ≡ length (joined (doc_of x) (doc_of y)).tokens =
    ap (λ (d : Doc). length d.tokens) s.1 in
    let m : length (doc_of xs).names ≡ length (joined (doc_of x) (doc_of y)).names =
    ap (λ (d : Doc). length d.names) s.1 in
    let c : length (text_in (doc_of xs).names) ≡ length (text_in (joined (doc_of x) (doc_of y)).names) =
    ap (λ (d : Doc). length (text_in d.names)) s.1 in
    record {
      first = p.0;
      second = q.0;
      within = k.within;
      bytes = k.bytes;
      count = k.count;
      room = k.room;
      no_fault = s.0;
      reads = read-accepted xs s.0;
      holds = s.1;
      tokens = omega (arith, t, r.sheet.tokens, tokens-are x y rx ry);
      names = omega (arith, m, r.sheet.names, names-are x y rx ry);
      text = omega (arith, c, r.text, text-is x y rx ry);
    }

-- ---- the refusals, in turn
module _ (x y out : List ℕ) where
  -- The refusals of the first sheet, which is sheet 1, come before all others
  pub refused-first : (n p : ℕ) → statement_fault x ≡ Some (fault n p) → join_statements x y out ≡ refusal n 1 p
  unfolding join_statements
  refused-first n p h = rw h

  -- Those of the second, which is sheet 2, follow
  pub refused-second : (n p : ℕ) → statement_fault x ≡ None → statement_fault y ≡ Some (fault n p)
      → join_statements x y out ≡ refusal n 2 p
  unfolding join_statements
  refused-second n p h k = rw (h, k)

-- two statements without fault, joined as far as the limits and the buffer go
module _ (x y : List ℕ) (hx : statement_fault x ≡ None) (hy : statement_fault y ≡ None) where
  -- The limits are held to the sizes of the two sheets: T1 + T2 - 1 tokens, M1 + M2 names, B1 + B2 bytes of text
  pub limits-are : within_limits (joined (doc_of x) (doc_of y))
      ≡ both (leb ((sheet_of x).tokens + (sheet_of y).tokens - 1) max_tokens)
      (both (leb ((sheet_of x).names + (sheet_of y).names) max_names) (leb ((sheet_of x).text + (sheet_of y).text) max_text))
  limits-are = limits (faultless x hx) (faultless y hy)

  joins : (out : List ℕ) → join_statements x y out ≡ join_effect (joined (doc_of x) (doc_of y)) out
  unfolding join_statements
  joins out = rw (hx, hy)

  -- 20 where a limit is passed
  pub refused-20 : (out : List ℕ) → within_limits (joined (doc_of x) (doc_of y)) ≡ false
      → join_statements x y out ≡ refusal 20 0 0
  unfolding join_effect
  refused-20 out w = joins out ∙ rw w

  module _ (out : List ℕ) (w : within_limits (joined (doc_of x) (doc_of y)) ≡ true) where
    -- 16 where none is, and the joined document's bytes are longer than the buffer
    pub refused-16 : length out < length (written (joined (doc_of x) (doc_of y)))
        → join_statements x y out ≡ refusal 16 0 0
    unfolding join_effect fitted
    refused-16 l = joins out ∙ rw (w, lt-leb (length (written (joined (doc_of x) (doc_of y)))) (length out) l)

    -- The bytes are written where there is room for them
    pub written-joined : length (written (joined (doc_of x) (doc_of y))) ≤ length out
        → join_statements x y out
        ≡ writes (length (written (joined (doc_of x) (doc_of y)))) (written (joined (doc_of x) (doc_of y)))
    unfolding join_effect fitted
    written-joined l = joins out ∙ rw (w, le-leb (length (written (joined (doc_of x) (doc_of y)))) (length out) l)

-- ---- and the other way round
-- what 20 says, and what 16 says
pub record PastLimit (x y : List ℕ) : Type 0 where
  pub first : statement_fault x ≡ None
  pub second : statement_fault y ≡ None
  pub past : within_limits (joined (doc_of x) (doc_of y)) ≡ false

pub record NoRoom (x y out : List ℕ) : Type 0 where
  pub first : statement_fault x ≡ None
  pub second : statement_fault y ≡ None
  pub within : within_limits (joined (doc_of x) (doc_of y)) ≡ true
  pub longer : length out < length (written (joined (doc_of x) (doc_of y)))

-- a refusal of neither sheet comes behind both
pub neither : (sheet : ℕ) (q : Option Fault) (next : Effect) (n : ℕ) → 0 < sheet → unless_refused sheet q next ≡ refusal n 0 0
    → (q ≡ None) × (next ≡ refusal n 0 0)
neither sheet None next n h e = (refl, e)
neither sheet (Some u) next n h e = absurd (let z : sheet ≡ 0 = cc in omega arith)

-- the tests that an answer by the limits and the buffer tells
told-20 : (t u : Bool) (n : ℕ) (ys : List ℕ)
    → pick t (pick u (writes n ys) (refusal 16 0 0)) (refusal 20 0 0) ≡ refusal 20 0 0 → t ≡ false
told-20 true true n ys e = writes_nothing (sym e)
told-20 true false n ys e = absurd (let z : ◌≡◌ {A = ℕ} 16 20 = cc in omega arith)
told-20 false u n ys e = refl

told-16 : (t u : Bool) (n : ℕ) (ys : List ℕ)
    → pick t (pick u (writes n ys) (refusal 16 0 0)) (refusal 20 0 0) ≡ refusal 16 0 0 → (t ≡ true) × (u ≡ false)
told-16 true true n ys e = writes_nothing (sym e)
told-16 true false n ys e = (refl, refl)
told-16 false u n ys e = absurd (let z : ◌≡◌ {A = ℕ} 16 20 = cc in omega arith)

module _ (x y out : List ℕ) where
  -- 20 is the answer exactly when a size would pass its limit, and neither sheet is refused
  pub only-20 : join_statements x y out ≡ refusal 20 0 0 → PastLimit x y
  unfolding join_statements join_effect fitted
  only-20 e =
      let p = neither 1 (statement_fault x) _ 20 (omega arith) e in
      let q = neither 2 (statement_fault y) _ 20 (omega arith) p.1 in
      let ys = written (joined (doc_of x) (doc_of y)) in
      record {
        first = p.0;
        second = q.0;
        past = told-20 (within_limits (joined (doc_of x) (doc_of y))) (leb (length ys) (length out)) (length ys) ys q.1;
      }

  -- 16 is the answer exactly when what would be written is longer than the buffer, and nothing else is refused
  pub only-16 : join_statements x y out ≡ refusal 16 0 0 → NoRoom x y out
  unfolding join_statements join_effect fitted
  only-16 e =
      let p = neither 1 (statement_fault x) _ 16 (omega arith) e in
      let q = neither 2 (statement_fault y) _ 16 (omega arith) p.1 in
      let ys = written (joined (doc_of x) (doc_of y)) in
      let t = told-16 (within_limits (joined (doc_of x) (doc_of y))) (leb (length ys) (length out)) (length ys) ys q.1 in
      record {
        first = p.0;
        second = q.0;
        within = t.0;
        longer = leb-false (length ys) (length out) t.1;
      }
