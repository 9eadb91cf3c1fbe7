-- The pieces of a message are UTF-8: fixed phrases, numbers, the names of types, and lists of names that are UTF-8.
use mathlib.Core.Path.{◌≡◌, refl, sym, ◌∙◌, subst}
use mathlib.Core.Bool.{Bool, true, false}
use mathlib.Core.List.{List, [], ◌∷◌, ◌++◌, map}
use mathlib.Core.Logic.{⊎_elim}
use Prim.Native.Nat.{ℕ, zero, suc, ◌+◌, ◌/◌, ◌%◌, ◌≤◌}
use Prim.Native.String.{String}
use native.Mathlib.Omega.{arith}
use lib.Dec.{ltb, eqb, leb}
use lib.ListN.{get_or}
use borrow.Author.Tests.{ltb-true}
use Rattle.lists.specs.Lists.{pick, either, each, table, any_of, all_of}
use Rattle.lists.proofs.Tests.{never, both_true, either_true}
use Rattle.utf8.specs.Grammar.{Octets, no_char, char_1}
use Rattle.utf8.proofs.Joined.{joined-octets, ascii-octets}
use Rattle.text.specs.Text.{same_text, is_text, bytes}
use Rattle.text.proofs.Laws.{same-is, same_refl}
use Rattle.grammar.specs.Tree.{Tree}
use Rattle.types.specs.declared.Ty.{Ty}
use Rattle.types.specs.Types.{inferred_names, declared_names, type_name, property_type_name}
use Rattle.breach.specs.Breach.{names_of}
use Rattle.in_order.specs.InOrder.{in_order}
use Rattle.in_order.proofs.Meaning.{members}
use Rattle.phrase.specs.Phrase.{digits, decimal, joined, colons, on_names}

-- the one or the other
pub pick-octets : (b : Bool) {x y : List ℕ} → Octets x → Octets y → Octets (pick b x y)
pick-octets true p q = p
pick-octets false p q = q

-- ---- texts that are written out
-- every byte is ASCII
abbrev pub is_ascii : String → Bool
is_ascii s = all_of (λ b. leb b 0x7f) (bytes s)

pub written_out : (s : String) → is_ascii s ≡ true → Octets (bytes s)
written_out s e = ascii-octets (bytes s) e

-- ---- numbers
digit : (n : ℕ) → n ≤ 9 → Octets ((48 + n) ∷ [])
digit n h = char_1 {a = 48 + n} (record { low = omega arith; high = omega arith }) no_char

digits-octets : (left n : ℕ) → Octets (digits left n)
unfolding digits
digits-octets zero n = no_char
digits-octets (suc left) n = go (ltb n 10) refl (digits-octets left (n / 10))
  where
    go : (b : Bool) → ltb n 10 ≡ b → Octets (digits left (n / 10))
        → Octets (pick b ((48 + n) ∷ []) (digits left (n / 10) ++ ((48 + n % 10) ∷ [])))
    go true e r = digit n (let h = ltb-true n 10 e in omega arith)
    go false e r = joined-octets r (digit (n % 10) (omega arith))

pub decimal-octets : (n : ℕ) → Octets (decimal n)
decimal-octets n = digits-octets _ n

-- ---- the names of types
all_ascii : (ss : List String) (k : ℕ) → all_of is_ascii ss ≡ true → is_ascii (get_or ss k "") ≡ true
unfolding all_of bytes
all_ascii [] k e = refl
all_ascii (s ∷ ss) zero e = (both_true (is_ascii s) (all_of is_ascii ss) e).0
all_ascii (s ∷ ss) (suc k) e = all_ascii ss k (both_true (is_ascii s) (all_of is_ascii ss) e).1

named : (b : Bool) (ss : List String) (k : ℕ) → all_of is_ascii ss ≡ true → Octets (bytes (pick b (get_or ss k "") "List"))
unfolding all_of bytes
named true ss k e = written_out (get_or ss k "") (all_ascii ss k e)
named false ss k e = written_out "List" refl

pub type-name : (a : Ty) → Octets (bytes (type_name a))
unfolding type_name all_of bytes
type-name a = named (eqb a.depth 0) inferred_names a.base refl

pub property-type-name : (a : Ty) → Octets (bytes (property_type_name a))
unfolding property_type_name all_of bytes
property-type-name a = named (eqb a.depth 0) declared_names a.base refl

-- ---- lists of texts, each of them UTF-8
abbrev pub Each : List (List ℕ) → Type 0
Each xs = (x : List ℕ) → is_text xs x ≡ true → Octets x

pub each-table : (g : ℕ → List ℕ) → ((j : ℕ) → Octets (g j)) → (i n : ℕ) → Each (table g i n)
unfolding table any_of
each-table g h i zero x e = never e
each-table g h i (suc n) x e = ⊎_elim
    (λ p. subst Octets (sym (same-is x (g i) p)) (h i))
    (λ p. each-table g h (suc i) n x p)
    (either_true (same_text x (g i)) (is_text (table g (suc i) n) x) e)

pub each-in-order : (xs : List (List ℕ)) → Each xs → Each (in_order xs)
each-in-order xs h x e = h x (sym (members x xs) ∙ e)

-- the first, and each of the others
first_of : (x : List ℕ) (xs : List (List ℕ)) → Each (x ∷ xs) → Octets x
unfolding any_of
first_of x xs h = h x (rw (same_refl x))

rest_of : (x : List ℕ) (xs : List (List ℕ)) → Each (x ∷ xs) → Each xs
unfolding any_of
rest_of x xs h y e = h y (go (same_text y x))
  where
    go : (b : Bool) → either b (is_text xs y) ≡ true
    go true = refl
    go false = e

each_map : (f : List ℕ → List ℕ) → ((x : List ℕ) → Octets x → Octets (f x)) → (xs : List (List ℕ)) → Each xs → Each
    (map f xs)
unfolding any_of
each_map f g [] h y e = never e
each_map f g (x ∷ xs) h y e = ⊎_elim
    (λ p. subst Octets (sym (same-is y (f x) p)) (g x (first_of x xs h)))
    (λ p. each_map f g xs (rest_of x xs h) y p)
    (either_true (same_text y (f x)) (is_text (map f xs) y) e)

behind : (between : List ℕ) → Octets between → (xs : List (List ℕ)) → Each xs → Octets (each (λ y. between ++ y) xs)
unfolding each
behind between b [] h = no_char
behind between b (x ∷ xs) h =
    joined-octets (joined-octets b (first_of x xs h)) (behind between b xs (rest_of x xs h))

pub joined-texts : (between : List ℕ) → Octets between → (xs : List (List ℕ)) → Each xs → Octets (joined between xs)
unfolding joined
joined-texts between b [] h = no_char
joined-texts between b (x ∷ xs) h = joined-octets (first_of x xs h) (behind between b xs (rest_of x xs h))

pub colons-octets : (between : List ℕ) → Octets between → (xs : List (List ℕ)) → Each xs → Octets (colons between xs)
unfolding all_of bytes
colons-octets between b xs h = joined-texts between b (map (λ n. bytes ":" ++ n) xs)
    (each_map (λ n. bytes ":" ++ n) (λ x p. joined-octets (written_out ":" refl) p) xs h)

-- the names of an element, over a tree whose texts are UTF-8
pub on-names-octets : (t : Tree) → ((i : ℕ) → Octets (t.text i)) → (i : ℕ) → Octets (on_names t i)
unfolding on_names all_of bytes
on-names-octets t names i =
    joined-octets
    (pick-octets (eqb (t.kind i) 62) (written_out "label(s) " refl) (written_out "relationship type(s) " refl))
    (colons-octets (bytes ", ") (written_out ", " refl) (names_of t i)
    (each-table (λ j. t.text j) names (i + 3) (t.value i / 2)))
