-- The laws of the machine. The readers' proofs use these, and do not unfold `from`.
use mathlib.Core.Path.{◌≡◌, refl, sym, ap, ◌∙◌}
use mathlib.Core.List.{List, [], ◌∷◌, ◌++◌, append_assoc}
use mathlib.Core.Bool.{Bool, true, false}
use Prim.Native.Nat.{ℕ, zero, suc, ◌+◌, ◌-◌, ◌*◌, ◌/◌, ◌%◌, ◌≤◌, ◌<◌}
use native.Mathlib.Omega.{arith}
use native.Mathlib.Numerals.{add-one, add-one-le}
use lib.Dec.{leb, ltb}
use lib.ListN.{length}
use borrow.Author.Tests.{lt-ltb, le-ltb, leb-true}
use mathlib.Core.Logic.{⊎_elim}
use Rattle.lists.specs.Lists.{pick, is_one}
use Rattle.lists.proofs.Tests.{both_true, below}
use Rattle.lists.proofs.Laws.{left-more, left-none}
use Rattle.frame.specs.Limits.{max_depth}
use Rattle.frame.specs.Doc.{Doc, doc_of, kind_of, value_of}
use Rattle.frame.specs.Inner.{Sound}
use Rattle.frame.specs.declared.Sheet.{Sheet}
use Rattle.frame.specs.declared.Fault.{Fault}
use Rattle.std.proofs.lemmas.Option.{same_Some}
use Rattle.frame.proofs.Laws.{no_fault}
use Rattle.rules.specs.declared.Place.{Place}
use Rattle.rules.specs.declared.Place.TheVariants.{Name, SpanStart, SpanEnd, Expr}
use Rattle.rules.specs.declared.Shape.{Shape}
use Rattle.rules.specs.Rules.{takes, most_of, opens, many, pairs}
use Rattle.grammar.specs.Machine.{Want, want, opened, bounded, allowed, judged, after, run, left_over, grammar_fault}
use Rattle.rules.specs.Shapes.{span_places, shaped}
use Rattle.grammar.specs.Inner.{from, and_then, read_of, refusals, judged_at, Leaf, Inside, Resumes, Stands}
use Rattle.std.specs.Prelude.{Option, Some, None, Result, Ok, Err}
use Rattle.frame.specs.Sheet.{fault}

-- ---- the places that wait
opened-more : (d : ℕ) (ps : List Place) (a b : List Want) → opened d ps (a ++ b) ≡ opened d ps a ++ b
unfolding opened
opened-more d [] a b = refl
opened-more d (p ∷ ps) a b = ap (λ (ws : List Want). want p d ∷ ws) (opened-more d ps a b)

-- so many of a place, in front of others
pub opened-many : (d n : ℕ) (p : Place) (ps : List Place) → opened d (many n p ps) [] ≡ opened d (many n p []) []
    ++ opened d ps []
unfolding opened many
opened-many d zero p ps = refl
opened-many d (suc n) p ps = ap (λ (ws : List Want). want p d ∷ ws) (opened-many d n p ps)

pub opened-pairs : (d n : ℕ) (ps : List Place) → opened d (pairs n ps) [] ≡ opened d (pairs n []) [] ++ opened d ps []
unfolding opened pairs
opened-pairs d zero ps = refl
opened-pairs d (suc n) ps = ap (λ (ws : List Want). want Name d ∷ want Expr d ∷ ws) (opened-pairs d n ps)

-- of n places, those from the i-th on: the i-th and those behind it, or none; from the first on, all
pub one_more_lem : (d n i : ℕ) (p : Place) → i < n → opened d (many (n - i) p []) [] ≡ (want p d ∷ []) ++ opened d
    (many (n - (i + 1)) p []) []
unfolding opened many
one_more_lem d n i p h = rw (left-more n i h)

pub no_more : (d n i : ℕ) (p : Place) → n ≤ i → opened d (many (n - i) p []) [] ≡ []
unfolding opened many
no_more d n i p h = rw (left-none n i h)

pub all-more : (d n : ℕ) (p : Place) → opened d (many n p []) [] ≡ opened d (many (n - 0) p []) []
all-more d n p = let e : n ≡ n - 0 = omega arith in rw (← e)

pub one-pair : (d n i : ℕ) → i < n → opened d (pairs (n - i) []) []
    ≡ (opened d (many 1 Name []) [] ++ opened d (many 1 Expr []) []) ++ opened d (pairs (n - (i + 1)) []) []
unfolding opened pairs many
one-pair d n i h = rw (left-more n i h)

pub all-pairs : (d n : ℕ) → opened d (pairs n []) [] ≡ opened d (pairs (n - 0) []) []
all-pairs d n = let e : n ≡ n - 0 = omega arith in rw (← e)

pub no-pair : (d n i : ℕ) → n ≤ i → opened d (pairs (n - i) []) [] ≡ []
unfolding opened pairs
no-pair d n i h = rw (left-none n i h)

-- a span, in front of others
pub opened-span : (d n : ℕ) (ps : List Place) → opened d (span_places n ps) []
    ≡ opened d (span_places n []) [] ++ opened d ps []
opened-span d n ps =
    opened-many d n SpanStart (many n SpanEnd ps)
    ∙ rw (opened-many d n SpanEnd ps, opened-many d n SpanStart (many n SpanEnd []), append_assoc)

-- the five parts of a shape
pub opened-shape : (d : ℕ) (x : Shape) → opened d (shaped x) []
    ≡ (((opened d (span_places x.spans []) [] ++ opened d (many x.names Name []) []) ++ opened d
    (pairs x.pairs []) []) ++ opened d (many x.firsts x.first []) [])
    ++ opened d (many x.seconds x.second []) []
opened-shape d x =
    let last = many x.seconds x.second [] in
    let four = many x.firsts x.first last in
    let three = pairs x.pairs four in
    let two = many x.names Name three in
    opened-span d x.spans two
    ∙ ap (λ (ws : List Want). opened d (span_places x.spans []) [] ++ ws)
    (opened-many d x.names Name three
    ∙ ap (λ (ws : List Want). opened d (many x.names Name []) [] ++ ws)
    (opened-pairs d x.pairs four ∙ ap (λ (ws : List Want). opened d (pairs x.pairs []) [] ++ ws)
    (opened-many d x.firsts x.first last)))
    ∙ simp append_assoc

-- ---- a read in one number
pub read_next : (r : ℕ) → r < refusals → read_of r ≡ Ok r
unfolding read_of
read_next r h = simp (lt-ltb r refusals h)

pub read-refusal : (r : ℕ) → refusals ≤ r → read_of r ≡ Err (fault (r / refusals) (r % refusals))
unfolding read_of
read-refusal r h = simp (le-ltb r refusals h)

pub refused_as : (n p : ℕ) → 0 < n → p < refusals → read_of (refusals * n + p) ≡ Err (fault n p)
refused_as n p h g =
    let a : (refusals * n + p) / refusals ≡ n = omega arith in
    let b : (refusals * n + p) % refusals ≡ p = omega arith in
    rw (read-refusal (refusals * n + p) (omega arith), a, b)

-- ---- the run
-- what comes after a read, unless it refused
abbrev then : Result ℕ Fault → (ℕ → Result ℕ Fault) → Result ℕ Fault
then (Ok at) f = f at
then (Err k) f = Err k

after_then : (q : Option Fault) (a b : Result ℕ Fault) (f : ℕ → Result ℕ Fault) → b ≡ then a f → after q b ≡ then (after q a) f
after_then None a b f e = e
after_then (Some u) a b f e = refl

pub passed-7 : (a b : Bool) (i : ℕ) → pick a (pick b None (Some (fault 7 i))) (Some (fault 6 i)) ≡ None → (a ≡ true) × (b ≡ true)
passed-7 true true i h = (refl, refl)
passed-7 true false i h = no_fault h
passed-7 false b i h = no_fault h

-- a fault's number and place
numbered : (m i j : ℕ) {u : Fault} → (0 < m) × (m < 10) → i ≤ j + 1 → Some (fault m i) ≡ Some u → (0 < u.number)
    × ((u.number < 10) × (u.place ≤ j + 1))
numbered m i j h l e =
    let z = same_Some _ _ e in
    let x : m ≡ _ = ap (λ (k : Fault). k.number) z in
    let y : i ≡ _ = ap (λ (k : Fault). k.place) z in
    (omega (arith, x, h.0), (omega (arith, x, h.1), omega (arith, y, l)))

told : (a b c : Bool) (m l i : ℕ) {u : Fault} → (0 < m) × (m < 10) → (0 < l) × (l < 10)
    → pick a (pick b (pick c None (Some (fault m i))) (Some (fault l i))) (Some (fault 8 i)) ≡ Some u → (0 < u.number)
    × ((u.number < 10) × (u.place ≤ i + 1))
told true true true m l i h g e = no_fault (sym e)
told true true false m l i h g e = numbered m i i h (omega arith) e
told true false c m l i h g e = numbered l i i g (omega arith) e
told false b c m l i h g e = numbered 8 i i (omega arith, omega arith) (omega arith) e

wider : (low high low' high' : ℕ) (r : Result ℕ Fault) → low' ≤ low → high ≤ high' → Inside low high r → Inside low' high' r
wider low high low' high' (Ok at) h k i = (omega arith, omega arith)
wider low high low' high' (Err e) h k i = tt

after-inside : (low high : ℕ) (q : Option Fault) (r : Result ℕ Fault) → Inside low high r → Inside low high (after q r)
after-inside low high None r h = h
after-inside low high (Some u) r h = tt

module _ (d : Doc) where
  run-nil : (left at : ℕ) → run d left [] at ≡ Ok at
  unfolding run
  run-nil zero at = refl
  run-nil (suc left) at = refl

  pub from-nil : (at : ℕ) → from d at [] ≡ Ok at
  unfolding from
  from-nil at = run-nil (length d.tokens - at) at

  run-append : (left at : ℕ) (a b : List Want) → left ≡ length d.tokens - at → run d left (a ++ b) at ≡ then
      (run d left a at) (λ k. from d k b)
  unfolding run from
  run-append zero at [] b e = rw (← e)
  run-append zero at (w ∷ a) b e = refl
  run-append (suc left) at [] b e = rw (← e)
  run-append (suc left) at (w ∷ a) b e =
      after_then (judged d w at) _ _ (λ k. from d k b)
      (ap (λ (ws : List Want). run d left ws (suc at))
      (opened-more (w.depth + 1) (opens (kind_of d at) (value_of d at)) a b)
      ∙ run-append left (suc at) (opened (w.depth + 1) (opens (kind_of d at) (value_of d at)) a) b (omega arith))

  pub from-append : (at : ℕ) (a b : List Want) → from d at (a ++ b) ≡ and_then d (from d at a) b
  unfolding from
  from-append at a b = run-append (length d.tokens - at) at a b refl ∙ go (run d (length d.tokens - at) a at)
    where
      go : (r : Result ℕ Fault) → then r (λ k. from d k b) ≡ and_then d r b
      go (Ok k) = refl
      go (Err k) = refl

  -- ---- where a run ends
  pub run_inside : (left at : ℕ) (ws : List Want) → Inside at (at + left) (run d left ws at)
  unfolding run
  run_inside zero at [] = (omega arith, omega arith)
  run_inside zero at (w ∷ ws) = tt
  run_inside (suc left) at [] = (omega arith, omega arith)
  run_inside (suc left) at (w ∷ ws) =
      let next = opened (w.depth + 1) (opens (kind_of d at) (value_of d at)) ws in
      let r = run d left next (suc at) in
      after-inside at (at + suc left) (judged d w at) r
      (wider (suc at) (suc at + left) at (at + suc left) r (omega arith) (omega arith) (run_inside left (suc at) next))

  pub from-inside : (at : ℕ) (ws : List Want) → at ≤ length d.tokens → Inside at (length d.tokens) (from d at ws)
  unfolding from
  from-inside at ws h =
      wider at (at + (length d.tokens - at)) at (length d.tokens) (run d (length d.tokens - at) ws at)
      (omega arith) (omega arith)
      (run_inside (length d.tokens - at) at ws)

  -- ---- one token
  pub from_out : (at : ℕ) (w : Want) (ws : List Want) → length d.tokens ≤ at → from d at (w ∷ ws) ≡ Err (fault 8 at)
  unfolding from run
  from_out at w ws h = rw (left-none (length d.tokens) at h)

  pub from_step : (at : ℕ) (w : Want) (ws : List Want) → at < length d.tokens
      → from d at (w ∷ ws) ≡ after (judged d w at) (from d (at + 1)
      (opened (w.depth + 1) (opens (kind_of d at) (value_of d at)) ws))
  unfolding from run
  from_step at w ws h = rw (left-more (length d.tokens) at h, add-one at)

  judged-out : (p : Place) (depth at : ℕ) → length d.tokens ≤ at → judged_at d p depth at ≡ Some (fault 8 at)
  unfolding judged_at
  judged-out p depth at h = rw (le-ltb at (length d.tokens) h)

  judged-there : (p : Place) (depth at : ℕ) → at < length d.tokens → judged_at d p depth at ≡ judged d
      (want p depth) at
  unfolding judged_at
  judged-there p depth at h = rw (lt-ltb at (length d.tokens) h)

  -- a token with a fault is refused
  pub refuses : (p : Place) (depth at : ℕ) (ws : List Want) {q : Option Fault} {u : Fault} → q ≡ judged_at d p depth at → q ≡ Some u
      → Err u ≡ from d at (want p depth ∷ ws)
  refuses p depth at ws {q} {u} e h =
      ⊎_elim
      (λ l. let g : judged d (want p depth) at ≡ Some u = sym (judged-there p depth at l) ∙ sym e ∙ h in rw
      (from_step at (want p depth) ws l, g))
      (λ l. let g : Some (fault 8 at) ≡ Some u = sym (judged-out p depth at l) ∙ sym e ∙ h in
      let z : Err u ≡ Err (fault 8 at) = cc in z ∙ sym (from_out at (want p depth) ws l))
      (below at (length d.tokens))

  -- what a fault's number and place are below
  pub fault-is : (p : Place) (depth at : ℕ) {q : Option Fault} {u : Fault} → q ≡ judged_at d p depth at → q ≡ Some u → (0 < u.number)
      × ((u.number < 10) × (u.place ≤ at + 1))
  unfolding judged_at judged
  fault-is p depth at e h =
      told (ltb at (length d.tokens)) (allowed d p at) (leb depth max_depth) 7 6 at (omega arith, omega arith)
      (omega arith, omega arith)
      (sym e ∙ h)

  -- of a token without one: it is there, its kind and value are allowed, it is not too deep, and what it opens is
  -- read next
  pub record Entered (p : Place) (depth at : ℕ) : Type 0 where
    pub inside : at < length d.tokens
    pub taken : is_one (takes p) (kind_of d at) ≡ true
    pub valued : value_of d at ≤ most_of (kind_of d at)
    pub shallow : depth ≤ max_depth
    pub goes : from d at (want p depth ∷ []) ≡ from d (at + 1)
        (opened (depth + 1) (opens (kind_of d at) (value_of d at)) [])

  passed : (p : Place) (depth at : ℕ) → at < length d.tokens → judged d (want p depth) at ≡ None → Entered p
      depth at
  unfolding judged allowed
  passed p depth at l h =
      let a = passed-7 (allowed d p at) (leb depth max_depth) at h in
      let b = both_true (is_one (takes p) (kind_of d at)) _ a.0 in
      let v = both_true (leb (value_of d at) (most_of (kind_of d at))) (bounded d p at) b.1 in
      record {
        inside = l;
        taken = b.0;
        valued = leb-true _ _ v.0;
        shallow = leb-true _ _ a.1;
        goes = from_step at (want p depth) [] l ∙ ap (λ (q : Option Fault). after q
            (from d (at + 1) (opened (depth + 1) (opens (kind_of d at) (value_of d at)) []))) h;
      }

  pub entered : (p : Place) (depth at : ℕ) {q : Option Fault} → q ≡ judged_at d p depth at → q ≡ None → Entered p depth at
  entered p depth at {q} e h =
      ⊎_elim
      (λ l. passed p depth at l (sym (judged-there p depth at l) ∙ sym e ∙ h))
      (λ l. no_fault (sym (judged-out p depth at l) ∙ sym e ∙ h))
      (below at (length d.tokens))

-- ---- reading part by part
-- reading `whole` from `at` comes to reading `left` from `next`: what holds between two calls, in a loop or not
pub record Reading (d : Doc) (at next : ℕ) (whole left : List Want) : Type 0 where
  pub after : at ≤ next
  pub inside : next ≤ length d.tokens
  pub same : from d at whole ≡ from d next left

module _ {d : Doc} {at : ℕ} where
  pub begin : {whole left : List Want} → whole ≡ left → at ≤ length d.tokens → Reading d at at whole left
  begin e h = record { after = omega arith; inside = h; same = ap (from d at) e }

  module _ {next : ℕ} {whole left : List Want} (i : Reading d at next whole left) where
    -- a call read the first part of what was left
    pub on : (a b : List Want) {r : Result ℕ Fault} {k : ℕ} → left ≡ a ++ b → r ≡ from d next a → r ≡ Ok k → Reading d at k
        whole b
    on a b {r} {k} split e f =
        let g : from d next a ≡ Ok k = sym e ∙ f in
        let w : Inside next (length d.tokens) (Ok k) = rw g at (from-inside d next a i.inside) in
        record {
          after = omega arith;
          inside = omega arith;
          same = i.same ∙ ap (from d next) split ∙ from-append d next a b ∙ ap (λ (x : Result ℕ Fault). and_then d x b) g;
        }

    -- a call refused it
    pub stop : (a b : List Want) {r : Result ℕ Fault} {u : Fault} → left ≡ a ++ b → r ≡ from d next a → r ≡ Err u → Err u
        ≡ from d at whole
    stop a b {r} {u} split e f =
        let g : from d next a ≡ Err u = sym e ∙ f in
        sym (i.same ∙ ap (from d next) split ∙ from-append d next a b ∙ ap (λ (x : Result ℕ Fault). and_then d x b) g)

    -- a call read all of it
    pub rest_of : {r : Result ℕ Fault} → r ≡ from d next left → r ≡ from d at whole
    rest_of e = e ∙ sym i.same

    pub done : left ≡ [] → Ok next ≡ from d at whole
    done e = sym (i.same ∙ ap (from d next) e ∙ from-nil d next)

-- one read after another
pub chain : (d : Doc) (at : ℕ) (a b : List Want) {r s : Result ℕ Fault} → r ≡ from d at a → s ≡ and_then d r b → s ≡ from d at
    (a ++ b)
chain d at a b e f = f ∙ ap (λ (x : Result ℕ Fault). and_then d x b) e ∙ sym (from-append d at a b)

pub resume : (d : Doc) (a : List Want) {r s : Result ℕ Fault} {k : ℕ} → r ≡ Ok k → s ≡ from d k a → s ≡ and_then d r a
resume d a e f = rw e f

-- a refusal stays one
pub stays : (d : Doc) (r : ℕ) (ws : List Want) → refusals ≤ r → read_of r ≡ and_then d (read_of r) ws
stays d r ws h = rw (read-refusal r h)

-- ---- the tokens left after a read: what falls
abbrev pub rest : ℕ → Result ℕ Fault → ℕ
rest n (Ok k) = n - k
rest n (Err k) = 0

pub rest-next : (n : ℕ) {r : Result ℕ Fault} {k : ℕ} → r ≡ Ok k → rest n r ≡ n - k
rest-next n e = rw e

pub inside-next : {low high : ℕ} {r : Result ℕ Fault} {k : ℕ} → Inside low high r → r ≡ Ok k → (low ≤ k) × (k ≤ high)
inside-next h e = rw e at h

rest_le : (low high : ℕ) (r : Result ℕ Fault) → Inside low high r → rest high r ≤ high - low
rest_le low high (Ok k) h = omega arith
rest_le low high (Err k) h = omega arith

module _ {s : List ℕ} {f : Sheet} {low : ℕ} (a : List Want) {r : Result ℕ Fault} (z : Sound s f) (h : low ≤ f.tokens)
    (e : r ≡ from (doc_of s) low a) where
  inside_of : Inside low f.tokens r
  inside_of = let g = from-inside (doc_of s) low a (omega (arith, z.tokens)) in rw e (rw z.tokens at g)

  pub resumes : Resumes s f r
  resumes = record { sheet = z; inside = wider low f.tokens 0 f.tokens r (omega arith) (omega arith) inside_of }

  pub rest-after : rest f.tokens r ≤ f.tokens - low
  rest-after = rest_le low f.tokens r inside_of

-- reads that start at a token, or at the end
module _ {s : List ℕ} {f : Sheet} {k : ℕ} (z : Sound s f) (h : k ≤ f.tokens) where
  pub token-read : read_of k ≡ Ok k
  token-read = read_next k (omega (arith, z.few_tokens, h))

  pub resumes-at : Resumes s f (read_of k)
  resumes-at = rw token-read (record { sheet = z; inside = (omega arith, h) })

  pub rest_at : rest f.tokens (read_of k) ≡ f.tokens - k
  rest_at = rw token-read

  pub starts : (a : List Want) {q : Result ℕ Fault} → q ≡ and_then (doc_of s) (read_of k) a → q ≡ from (doc_of s) k a
  starts a e = rw token-read at e

-- a token that stands is one of the sheet's, and a read behind it has fewer tokens left
pub inside-stood : {s : List ℕ} {f : Sheet} {at depth low high : ℕ} → Sound s f → Stands (doc_of s) at depth low high → at
    < f.tokens
inside-stood z i = omega (arith, i.inside, z.tokens)

pub rest_below : {s : List ℕ} {f : Sheet} {at : ℕ} → Sound s f → at < f.tokens → rest f.tokens (read_of (at + 1))
    < f.tokens - at
rest_below z h = omega (arith, rest_at z (add-one-le h), h)

-- a read that ended
pub from-inside-next : {s : List ℕ} {f : Sheet} {k n : ℕ} → Sound s f → k ≤ f.tokens → (a : List Want) → Ok n ≡ from
    (doc_of s) k a → n ≤ f.tokens
from-inside-next z h a e = (inside_of a z h e).1

-- a read that goes on after a read
pub resumes-on : {s : List ℕ} {f : Sheet} (r : Result ℕ Fault) → Resumes s f r → (a : List Want) {q : Result ℕ Fault} → q ≡ and_then
    (doc_of s) r a → Resumes s f q
resumes-on (Ok k) i a e = resumes a i.sheet i.inside.1 e
resumes-on (Err k) i a e = rw e i

pub chain-on : (d : Doc) (r : Result ℕ Fault) (a b : List Want) {q s : Result ℕ Fault} → q ≡ and_then d r a → s ≡ and_then d q b → s ≡ and_then
    d r (a ++ b)
chain-on d (Ok k) a b e f = chain d k a b e f
chain-on d (Err k) a b e f = f ∙ ap (λ (x : Result ℕ Fault). and_then d x b) e

-- no span, and a start and an end
pub no_span : (d : Doc) (k depth n : ℕ) → n ≡ 0 → Ok k ≡ from d k (opened depth (span_places n []) [])
unfolding many opened
no_span d k depth n e = rw e (sym (from-nil d k))

pub span-read : (d : Doc) (r : Result ℕ Fault) (depth n : ℕ) {q s : Result ℕ Fault} → q ≡ and_then d r
    (opened depth (many n SpanStart []) []) → s ≡ and_then d q (opened depth (many n SpanEnd []) [])
    → s ≡ and_then d r (opened depth (span_places n []) [])
span-read d r depth n e f = rw (opened-many depth n SpanStart (many n SpanEnd [])) (chain-on d r _ _ e f)

-- a token that has nothing below it is read as itself
pub leaf-next : (d : Doc) (p : Place) (depth at : ℕ) {q : Option Fault} → Leaf p → q ≡ judged_at d p depth at → q ≡ None
    → Ok (at + 1) ≡ from d at (want p depth ∷ [])
unfolding opened
leaf-next d p depth at h e g =
    let i = entered d p depth at e g in
    let o : opens (kind_of d at) (value_of d at) ≡ [] = h (kind_of d at) (value_of d at) i.taken in
    sym (i.goes ∙ ap (λ (ps : List Place). from d (at + 1) (opened (depth + 1) ps [])) o ∙ from-nil d (at + 1))

-- a token that was judged is one of the sheet's
pub inside-sheet : {s : List ℕ} {f : Sheet} {p : Place} {depth at : ℕ} → Sound s f → Entered (doc_of s) p depth at → at
    < f.tokens
inside-sheet z i = omega (arith, i.inside, z.tokens)

-- ---- the whole sheet
whole : (p : Place) (d : Doc) → grammar_fault p d ≡ left_over (length d.tokens) (from d 0 (want p 0 ∷ []))
unfolding grammar_fault from
whole p d =
    let e : length d.tokens - 0 ≡ length d.tokens = omega arith in
    rw e

module _ (p : Place) (d : Doc) (q : Result ℕ Fault) (e : q ≡ from d 0 (want p 0 ∷ [])) where
  pub read-refused : (n k : ℕ) → q ≡ Err (fault n k) → Some (fault n k) ≡ grammar_fault p d
  read-refused n k h = rw (whole p d, ← e, h)

  pub read-over : (at n : ℕ) → q ≡ Ok at → length d.tokens ≡ n → at < n → Some (fault 9 at) ≡ grammar_fault p d
  read-over at n h z l = simp (whole p d, ← e, h, z, lt-ltb at n l)

  pub read_whole : (at n : ℕ) → q ≡ Ok at → length d.tokens ≡ n → n ≤ at → None ≡ grammar_fault p d
  read_whole at n h z l = simp (whole p d, ← e, h, z, le-ltb at n l)
