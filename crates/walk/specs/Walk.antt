-- What the functions of the walk ask and ensure.
use Rattle.std.specs.Prelude.{◌≡◌, Bool, true, false, List, [], ◌∷◌, ℕ, suc, ◌+◌, ◌*◌, ◌<◌, ◌≤◌, length, ltb, eqb}
use Rattle.lists.specs.Lists.{either, over, is_one}
use Rattle.frame.specs.declared.Sizes.{Sizes}
use Rattle.rules.specs.Kinds as Kind
use Rattle.rules.specs.Rules.{arity}
use Rattle.grammar.specs.Tree.{Tree, past, end, parent}
use Rattle.grammar.specs.Inner.{most_trees}
use Rattle.provider.specs.Schema.{Schema}
use Rattle.breach.specs.Breach.{Item, is_element, statement_in, schema_in}
use Rattle.breach.specs.Listing.{early, late, clause_items}
use Rattle.judge.specs.Window.{WroteItems}
use Rattle.judge.specs.Judging.{Lent}
use Rattle.judge.specs.declared.Tally.{Tally}
use Rattle.walk.specs.declared.Step.{Step}
use Rattle.walk.specs.declared.Opened.{Opened}
use Rattle.walk.specs.declared.Pass.{Pass}

-- the kinds of tokens with nothing below them and nothing to be judged: 1 to 9, Name and Number
unfoldable pub is_leaf : ℕ → Bool
is_leaf k = either (ltb k Kind.Prop) (either (eqb k Kind.Name) (eqb k Kind.Number))

-- the kinds of tokens that open places of Parts or of elements
abbrev pub holds_elements : ℕ → Bool
holds_elements k = is_one (Kind.Pattern ∷ Kind.Part ∷ []) k

-- what a pass says of a token: its breaches of stages 0 to 2, or in the later pass that of stage 3
unfoldable pub said : Bool → Tree → Schema → ℕ → List Item
said false t s i = early t s i
said true t s i = late t s i

-- no more items than this are ever counted
abbrev pub most_items : ℕ
most_items = 16384

-- the sheets are lent, token i is there, and the items of its tree can be counted; of what stands below it
pub record TreeReady (m : Bool) (s d : List ℕ) (sizes : Sizes) (reg : List ℕ) (i : ℕ) (w : Tally) : Type 0 where
  pub lent : Lent s d sizes reg
  pub here : i < sizes.statement.tokens
  pub room : w.count + length (over (said m (statement_in s) (schema_in d)) i (end (statement_in s) i)) ≤ most_items

pub record BelowReady (m : Bool) (s d : List ℕ) (sizes : Sizes) (reg : List ℕ) (i : ℕ) (w : Tally) : Type 0 where
  pub lent : Lent s d sizes reg
  pub here : i < sizes.statement.tokens
  pub room : w.count + length (over (said m (statement_in s) (schema_in d)) (suc i) (end (statement_in s) i))
      ≤ most_items

-- the items of token i are written, those of the tokens below it, or those of the whole tree at i, whose end is the
-- next token
abbrev pub Own : Bool → Tree → Schema → ℕ → Tally → List ℕ → Tally → List ℕ → Type 0
Own m t s i w l r l' = WroteItems (said m t s i) w l r l'

pub record WroteBelow (m : Bool) (t : Tree) (s : Schema) (i : ℕ) (w : Tally) (l : List ℕ) (r : Step)
    (l' : List ℕ) : Type 0 where
  pub next : r.next ≡ end t i
  pub wrote : WroteItems (over (said m t s) (suc i) (end t i)) w l r.tally l'

pub record Walked (m : Bool) (t : Tree) (s : Schema) (i : ℕ) (w : Tally) (l : List ℕ) (r : Step)
    (l' : List ℕ) : Type 0 where
  pub next : r.next ≡ end t i
  pub wrote : WroteItems (over (said m t s) i (end t i)) w l r.tally l'

-- the items of token i are written, and it opens so many trees
pub record OpenedAt (t : Tree) (s : Schema) (i : ℕ) (w : Tally) (l : List ℕ) (r : Opened) (l' : List ℕ) : Type 0 where
  pub trees : r.trees ≡ arity (t.kind i) (t.value i)
  pub few : r.trees < most_trees
  pub wrote : Own false t s i w l r.tally l'

-- token i is there, and is no Part and no element; so is each of the n trees from i on
pub record Root (t : Tree) (i : ℕ) : Type 0 where
  pub inside : i < t.size
  pub no_part : t.kind i ≡ Kind.Part → ⊥
  pub no_element : is_element (t.kind i) ≡ false

abbrev pub Roots : Tree → ℕ → ℕ → Type 0
Roots t i n = (c : ℕ) → c < n → Root t (past t c i)

-- a walk over expressions can go on; so few trees are left that their number fits
pub record PassReady (s d : List ℕ) (sizes : Sizes) (reg : List ℕ) (p : Pass) : Type 0 where
  pub lent : Lent s d sizes reg
  pub roots : Roots (statement_in s) p.next p.left
  pub here : p.next ≤ sizes.statement.tokens
  pub few : p.left ≤ most_trees * p.next
  pub room : p.tally.count + length (over (said false (statement_in s) (schema_in d)) p.next
      (past (statement_in s) p.left p.next)) ≤ most_items

-- it went on from p to r: the trees that are left end where they did, and the items of the tokens passed are written
pub record Passing (t : Tree) (s : Schema) (p : Pass) (l : List ℕ) (r : Pass) (l' : List ℕ) : Type 0 where
  pub on : p.next ≤ r.next
  pub here : r.next ≤ t.size
  pub roots : Roots t r.next r.left
  pub few : r.left ≤ most_trees * r.next
  pub rest : past t r.left r.next ≡ past t p.left p.next
  pub wrote : WroteItems (over (said false t s) p.next r.next) p.tally l r.tally l'

-- and stopped at a Pattern, or nothing is left
pub record Passed (t : Tree) (s : Schema) (p : Pass) (l : List ℕ) (r : Pass) (l' : List ℕ) : Type 0 where
  pub passing : Passing t s p l r l'
  pub stop : 0 < r.left → t.kind r.next ≡ Kind.Pattern

-- all items of the clause i are written
pub record Cleared (t : Tree) (s : Schema) (i : ℕ) (w : Tally) (l : List ℕ) (r : Step) (l' : List ℕ) : Type 0 where
  pub next : r.next ≡ end t i
  pub wrote : WroteItems (clause_items t s i) w l r.tally l'

-- the sheets are lent, i is a clause, and its items can be counted
pub record ClauseReady (s d : List ℕ) (sizes : Sizes) (reg : List ℕ) (i : ℕ) (w : Tally) : Type 0 where
  pub lent : Lent s d sizes reg
  pub here : i < sizes.statement.tokens
  pub after : 0 < i
  pub clause : parent (statement_in s) i ≡ 0
  pub room : w.count + length (clause_items (statement_in s) (schema_in d) i) ≤ most_items
