-- The tokens of a statement's clauses and its names, put one after the other.
use mathlib.Core.Path.{◌≡◌, refl, sym, ap, ◌∙◌, subst}
use mathlib.Core.List.{List, [], ◌∷◌, ◌++◌, map, append_assoc, append-nil}
use Prim.Native.Nat.{ℕ, suc, ◌+◌, ◌≤◌, ◌<◌}
use native.Mathlib.Omega.{arith}
use borrow.Author.Tests.{eq-eqb, ne_eqb}
use lib.ListN.{length, get_or, drop, length-append}
use lib.Seq.{drop-cons, drop-length}
use lib.Dec.{eqb}
use Rattle.lists.specs.Lists.{pick}
use Rattle.frame.specs.Doc.{Doc, Token, kind_of, value_of}
use Rattle.frame.specs.declared.Sheet.{Sheet}
use Rattle.rules.specs.Kinds as Kind
use Rattle.written.specs.Written.{text_in, ends_from}
use Rattle.written.specs.Inner.{TokensPut, EndsPut, TextPut, NamesPut}
use Rattle.written.proofs.Begun.{tokens_none, tokens-join}
use Rattle.written.proofs.Naming.{Naming, naming-start, naming-as, naming-room, naming-turn, naming-last}
use Rattle.join.specs.Join.{numbered_after}

-- the value of a token behind other names, by its kind
pub other-value : (m : ℕ) {k j v w : ℕ} → w ≡ v → j ≡ k → (j ≡ 50 → ⊥) → w ≡ pick (eqb k Kind.Name) (m + v) v
other-value m {j = j} e g h = rw (← g, ne_eqb j 50 h) e

pub name-value : (m : ℕ) {k j v w : ℕ} → w ≡ v → j ≡ k → j ≡ 50 → m + w ≡ pick (eqb k Kind.Name) (m + v) v
name-value m {j = j} e g h = rw (← g, eq-eqb j 50 h, e)

-- some of them are put: the next is token i of the document, which becomes token `at`
pub record Putting (h before : Sheet) (d : Doc) (at i : ℕ) (l out : List ℕ) : Type 0 where
  pub done : List Token
  pub put : TokensPut h before.tokens done l out
  pub left : done ++ map (numbered_after before.names) (drop i d.tokens)
      ≡ map (numbered_after before.names) (drop 1 d.tokens)
  pub place : at ≡ before.tokens + length done
  pub number : i ≡ 1 + length done
  pub inside : i ≤ length d.tokens
  pub size : length out ≡ length l

module _ (h before : Sheet) (d : Doc) (l : List ℕ) where
  pub putting-start : 1 ≤ length d.tokens → Putting h before d before.tokens 1 l l
  putting-start b = record {
    done = [];
    put = tokens_none;
    left = refl;
    place = omega arith;
    number = omega arith;
    inside = b;
    size = refl;
  }

  module _ {at i : ℕ} {out : List ℕ} (p : Putting h before d at i l out) where
    pub putting-turn : (kind value : ℕ) (out' : List ℕ) → i < length d.tokens → kind ≡ kind_of d i
        → value ≡ pick (eqb (kind_of d i) Kind.Name) (before.names + value_of d i) (value_of d i)
        → TokensPut h at (record { kind = kind; value = value } ∷ []) out out' → length out' ≡ length out
        → Putting h before d (at + 1) (i + 1) l out'
    putting-turn kind value out' b ek ev q z =
        let t : Token = numbered_after before.names (get_or d.tokens i (record { kind = 0; value = 0 })) in
        let e : record { kind = kind; value = value } ≡ t = rw (ek, ev) in
        let n : suc i ≡ i + 1 = omega arith in
        let more : p.done ++ (t ∷ map (numbered_after before.names) (drop (suc i) d.tokens))
        ≡ map (numbered_after before.names) (drop 1 d.tokens) =
        rw (drop-cons d.tokens i (record { kind = 0; value = 0 }) b) at p.left in
        record {
          done = p.done ++ (t ∷ []);
          put = tokens-join p.put p.place (rw e at q);
          left = rw (← n, append_assoc p.done (t ∷ []) (map (numbered_after before.names) (drop (suc i) d.tokens)))
              more;
          place = omega (arith, p.place, length-append p.done (t ∷ []));
          number = omega (arith, p.number, length-append p.done (t ∷ []));
          inside = omega arith;
          size = z ∙ p.size;
        }

    pub putting-last : length d.tokens ≤ i
        → TokensPut h before.tokens (map (numbered_after before.names) (drop 1 d.tokens)) l out
    putting-last b =
        let n : i ≡ length d.tokens = omega (arith, p.inside) in
        let a : p.done ≡ map (numbered_after before.names) (drop 1 d.tokens) =
        sym (append-nil p.done) ∙ rw (n, drop-length d.tokens) at p.left in
        rw (← a) p.put

-- ---- the names of a document, of which the first k are put
abbrev pub NamingOf : Sheet → (first from : ℕ) → List (List ℕ) → (end k : ℕ) → List ℕ → List ℕ → Type 0
NamingOf h first from ns end k l out =
    (k ≤ length ns) × Naming h first from ns (drop k ns) end (first + k) l out

module _ (h : Sheet) (first from : ℕ) (ns : List (List ℕ)) (l : List ℕ) where
  pub names-start : NamingOf h first from ns from 0 l l
  names-start =
      let e : first ≡ first + 0 = omega arith in (
        omega arith,
        subst (λ (k : ℕ). Naming h first from ns ns from k l l) e
            (naming-start h first from ns l),
      )

  module _ {end k : ℕ} {out : List ℕ} (p : NamingOf h first from ns end k l out) where
    module _ (b : k < length ns) where
      next : Naming h first from ns (get_or ns k [] ∷ drop (suc k) ns) end (first + k) l out
      next = naming-as (drop-cons ns k [] b) p.1

      -- the end of name k is in the text
      pub names-room : (n : List ℕ) → n ≡ get_or ns k [] → end + length n ≤ from + length (text_in ns)
      names-room n e = rw e (naming-room (get_or ns k []) (drop (suc k) ns) next).1

      pub names-turn : (n : List ℕ) (end' : ℕ) (m out' : List ℕ) → n ≡ get_or ns k [] → end' ≡ end + length n
          → TextPut h end n out m → EndsPut h (first + k) (end' ∷ []) m out' → length out' ≡ length out
          → NamingOf h first from ns end' (k + 1) l out'
      names-turn n end' m out' e g q r z =
          let o : suc k ≡ k + 1 = omega arith in
          let a : first + k + 1 ≡ first + (k + 1) = omega arith in
          let y : Naming h first from ns (drop (suc k) ns) end' (first + k + 1) l out' =
          naming-turn (get_or ns k []) (drop (suc k) ns) next end' m out' (rw e at g) (rw e at q) r z in
          (omega arith, rw (o, a) at y)

    pub names-last : length ns ≤ k
        → NamesPut h first (ends_from from ns) from (text_in ns) l out
    names-last b =
        let n : k ≡ length ns = omega (arith, p.0) in
        naming-last (naming-as (ap (λ (j : ℕ). drop j ns) n ∙ drop-length ns) p.1)
