-- A joined paper, for any bytes and every schema: its list is the first's followed by the second's, moved on, and its
-- messages are theirs; a statement without clauses leaves no trace in it.
use mathlib.Core.Path.{◌≡◌, sym, ap, ◌∙◌, subst}
use mathlib.Core.List.{List, [], ◌++◌, map, map-id, append-nil}
use Prim.Native.Nat.{ℕ, ◌+◌, ◌-◌, ◌<◌}
use native.Mathlib.Omega.{arith}
use lib.ListN.{length}
use Rattle.lists.specs.Lists.{nth}
use Rattle.lists.proofs.Joins.{nth-first, nth-second}
use Rattle.frame.specs.Sheet.{sheet_of}
use Rattle.frame.specs.Doc.{Doc, doc_of}
use Rattle.grammar.specs.Tree.{tree_of}
use Rattle.provider.specs.Schema.{Schema}
use Rattle.schema.specs.Effect.{writes, after_statement, after_schema}
use Rattle.breach.specs.Breach.{Item, Breach, statement_in, schema_in}
use Rattle.breach.specs.Listing.{listed}
use Rattle.breach.specs.Order.{AllBreaches}
use Rattle.breach.proofs.Only.{only-list}
use Rattle.breach.proofs.Demand.{demand-3}
use Rattle.schema_aware.specs.Check.{items_effect, check_effect}
use Rattle.message.specs.Message.{message_of}
use Rattle.message.specs.Said.{item_effect, message_effect}
use Rattle.written.specs.Written.{sizes_in}
use Rattle.moving.specs.Moved.{moved_on}
use Rattle.join.specs.Join.{joined, join_statements}
use Rattle.join_marks.specs.Marks.{clauses_in, followed_by}
use Rattle.join_marks.proofs.Accepted.{is-statement, root-value}
use Rattle.join.proofs.Stated.{few-of, faultless}
use Rattle.join_marks.proofs.Sheets.{joined-sheet}
use Rattle.join_marks.proofs.Algebra.{none-alone}
use Rattle.join_marks.proofs.Lists.{unmoved, said_same, no_items}
use Rattle.join_marks.proofs.Marked.{joined-listed, first-message, second-message}
use Rattle.std.specs.Prelude.{None}

-- the list and the messages of a sheet xs that was written for x and y, with a schema
pub record JoinedPaper (x y xs : List ℕ) (s : Schema) : Type 0 where
  -- where as and bs are all breaches of the first and of the second in order, as followed by bs, moved on, are all
  -- breaches of the joined paper in order
  pub list : (as' bs : List Item) → AllBreaches (statement_in x) s as' → AllBreaches (statement_in y) s bs
      → AllBreaches (statement_in xs) s (followed_by x as' bs)
  -- the message of each breach is the same bytes
  pub first_messages : (i : ℕ) (k : Item) → Breach (statement_in x) s i k
      → message_of (statement_in xs) s k ≡ message_of (statement_in x) s k
  pub second_messages : (i : ℕ) (k : Item) → Breach (statement_in y) s i k
      → message_of (statement_in xs) s (moved_on ((sheet_of x).tokens - 1) (clauses_in x) k) ≡ message_of (statement_in y) s k

module _ (x y out : List ℕ) (n : ℕ) (xs : List ℕ) (e : join_statements x y out ≡ writes n xs) where
  -- the list that is computed
  pub computed : (s : Schema) → listed (statement_in xs) s
      ≡ followed_by x (listed (statement_in x) s) (listed (statement_in y) s)
  computed s =
      let j = joined-sheet x y out n xs e in
      let l = few-of (sizes_in (joined (doc_of x) (doc_of y))) j.within in
      let rx = faultless x j.first in
      let ry = faultless y j.second in
      ap (λ (d : Doc). listed (tree_of d) s) j.holds
      ∙ joined-listed (doc_of x) (doc_of y) rx.read ry.read l.tokens l.names s
      ∙ ap (λ (k : ℕ). listed (statement_in x) s ++ map (moved_on (k - 1) (clauses_in x)) (listed (statement_in y) s))
      rx.sheet.tokens

  -- The joined paper's list is the first's list followed by the second's, with owners and clause numbers moved on by
  -- the first sheet's tokens less one and by its clauses. Messages are the same bytes
  pub joined-paper : (s : Schema) → JoinedPaper x y xs s
  joined-paper s =
      let j = joined-sheet x y out n xs e in
      let l = few-of (sizes_in (joined (doc_of x) (doc_of y))) j.within in
      let rx = faultless x j.first in
      let ry = faultless y j.second in
      record {
        list = λ as' bs p q.
            let f = only-list (statement_in x) s _ _ (demand-3 x s j.first).all p in
            let g = only-list (statement_in y) s _ _ (demand-3 y s j.second).all q in
            subst (AllBreaches (statement_in xs) s) (computed s ∙ rw (f, g)) (demand-3 xs s j.no_fault).all;
        first_messages = λ i k b. rw j.holds
            (first-message (doc_of x) (doc_of y) rx.read ry.read l.tokens l.names s k
            (((demand-3 x s j.first).all.exact k).1 (i, b)));
        second_messages = λ i k b. rw (j.holds, ← rx.sheet.tokens)
            (second-message (doc_of x) (doc_of y) rx.read ry.read l.tokens l.names s k
            (((demand-3 y s j.second).all.exact k).1 (i, b)));
      }

  -- ---- the operations over a joined paper, for any bytes of a schema
  -- The check writes the first's items and then the second's, moved on, where the list has room for them
  pub joined-check : (sc list : List ℕ) → check_effect xs sc list
      ≡ after_schema sc (items_effect (followed_by x (listed (statement_in x) (schema_in sc))
      (listed (statement_in y) (schema_in sc))) list)
  unfolding check_effect after_statement
  joined-check sc list =
      let j = joined-sheet x y out n xs e in
      rw (j.no_fault, computed (schema_in sc))

  -- Messages are the same bytes: the operation `message` does over the joined paper what it does over the first, of
  -- each of the first's items, and behind them what it does over the second
  pub joined-message-first : (sc : List ℕ) (k : ℕ) (text : List ℕ)
      → k < length (listed (statement_in x) (schema_in sc)) → message_effect xs sc k text ≡ message_effect x sc k text
  unfolding message_effect after_statement
  joined-message-first sc k text b =
      let j = joined-sheet x y out n xs e in
      let s = schema_in sc in
      let l = listed (statement_in x) s in
      let m = map (moved_on ((sheet_of x).tokens - 1) (clauses_in x)) (listed (statement_in y) s) in
      let r : item_effect (statement_in xs) s (nth l k) text ≡ item_effect (statement_in x) s (nth l k) text =
      ap (λ (o : List Item). item_effect (statement_in xs) s (nth o k) text) (sym (map-id l))
      ∙ said_same (statement_in x) (statement_in xs) s (λ i. i) l k text
      (λ i m. let b = ((demand-3 x s j.first).all.exact i).0 m in (joined-paper s).first_messages b.0 i b.1) in
      rw (j.no_fault, j.first, computed s, nth-first l m k b, r)

  pub joined-message-second : (sc : List ℕ) (k : ℕ) (text : List ℕ)
      → message_effect xs sc (length (listed (statement_in x) (schema_in sc)) + k) text ≡ message_effect y sc k text
  unfolding message_effect after_statement
  joined-message-second sc k text =
      let j = joined-sheet x y out n xs e in
      let s = schema_in sc in
      let l = listed (statement_in x) s in
      let m = map (moved_on ((sheet_of x).tokens - 1) (clauses_in x)) (listed (statement_in y) s) in
      let r = said_same (statement_in y) (statement_in xs) s (moved_on ((sheet_of x).tokens - 1) (clauses_in x))
      (listed (statement_in y) s) k text
      (λ i m. let b = ((demand-3 y s j.second).all.exact i).0 m in (joined-paper s).second_messages b.0 i b.1) in
      rw (j.no_fault, j.second, computed s, nth-second l m k, r)

  -- ---- A statement without clauses joins on either side without a trace in the list: all breaches of the joined paper
  -- in order are those of the other
  pub no-trace-second : clauses_in y ≡ 0 → (s : Schema) (as' : List Item) → AllBreaches (statement_in x) s as'
      → AllBreaches (statement_in xs) s as'
  no-trace-second h s as' p =
      let j = joined-sheet x y out n xs e in
      let v = root-value (is-statement (doc_of y) (faultless y j.second).read) in
      let None = subst (AllBreaches (statement_in y) s) (no_items (statement_in y) s (v ∙ h))
      (demand-3 y s j.second).all in
      subst (AllBreaches (statement_in xs) s) (append-nil as') ((joined-paper s).list as' [] p None)

  pub no-trace-first : clauses_in x ≡ 0 → (s : Schema) (bs : List Item) → AllBreaches (statement_in y) s bs
      → AllBreaches (statement_in xs) s bs
  no-trace-first h s bs p =
      let j = joined-sheet x y out n xs e in
      let rx = faultless x j.first in
      let v = root-value (is-statement (doc_of x) rx.read) in
      let None = subst (AllBreaches (statement_in x) s) (no_items (statement_in x) s (v ∙ h))
      (demand-3 x s j.first).all in
      let t : (sheet_of x).tokens - 1 ≡ 0 =
      omega (arith, rx.sheet.tokens, ap length (none-alone (doc_of x) rx.read h)) in
      subst (AllBreaches (statement_in xs) s) (rw (t, h) (unmoved bs)) ((joined-paper s).list [] bs None p)
