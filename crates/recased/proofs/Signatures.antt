-- What is found of a function's name does not depend on case: neither on that of the name looked up, nor on that of the
-- names declared.
use mathlib.Core.Bool.{Bool, true, false}
use mathlib.Core.Path.{◌≡◌, refl, sym, ap, ◌∙◌}
use mathlib.Core.List.{List, [], ◌∷◌, map}
use Prim.Native.Nat.{ℕ}
use Rattle.lists.specs.Lists.{pick, first}
use Rattle.text.specs.Text.{same_text}
use Rattle.text.specs.Folded.{folded}
use Rattle.schema.proofs.Searches.{mapped}
use Rattle.provider.specs.Schema.{Schema, Signature, function_of}
use Rattle.recased.specs.Recased.{lowered}
use Rattle.std.specs.Prelude.{Some}

-- A name finds the same function in either case
pub function_alike : (s : Schema) (a b : List ℕ) → folded a ≡ folded b → function_of s a ≡ function_of s b
function_alike s a b e =
    ap (λ (n : List ℕ). first (λ (f : Signature). same_text n (folded f.name)) s.functions) e

-- the first function of a lower-case name, by functions in lower case
found-lowered : (n : List ℕ) (fs : List Signature)
    → first (λ (f : Signature). same_text n f.name) (map lowered fs)
    ≡ mapped lowered (first (λ (f : Signature). same_text n (folded f.name)) fs)
unfolding first
found-lowered n [] = refl
found-lowered n (f ∷ fs) = rw (found-lowered n fs) (go (same_text n (folded f.name)))
  where
    go : (b : Bool)
        → pick b (Some (lowered f)) (mapped lowered (first (λ (g : Signature). same_text n (folded g.name)) fs))
        ≡ mapped lowered (pick b (Some f) (first (λ (g : Signature). same_text n (folded g.name)) fs))
    go true = refl
    go false = refl

-- Functions that are the same in lower case: what a name finds among them is
pub functions-alike : (s r : Schema) → map lowered r.functions ≡ map lowered s.functions → (n : List ℕ)
    → mapped lowered (function_of r n) ≡ mapped lowered (function_of s n)
functions-alike s r e n =
    sym (found-lowered (folded n) r.functions)
    ∙ ap (first (λ (f : Signature). same_text (folded n) f.name)) e
    ∙ found-lowered (folded n) s.functions
