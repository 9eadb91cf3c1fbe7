-- The rules of both grammars, in one table: for each kind the greatest value that it may have and the places that it
-- opens below it, in prefix order; and for each place what it asks of a token. "e" is an expression.
use Rattle.std.specs.Prelude.{ℕ, zero, suc, ◌*◌, ◌/◌, ◌%◌, Bool, true, List, [], ◌∷◌, ◌++◌, length, leb, ltb}
use Rattle.lists.specs.Lists.{first, through, is_one}
use Rattle.rules.specs.Kinds as Kind
use Rattle.rules.specs.declared.Place.{Place}
use Rattle.rules.specs.declared.Place.TheVariants.{WholeStatement, Clause, SetItem, RemoveItem, Pattern, Part, Element, Expr, MapItem, Name, SpanStart, SpanEnd, WholeSchema, Declaration, LabelItem, RelTypeItem, PropertyType}
use Rattle.std.specs.Prelude.{Option, Some, None}

-- what a place asks of a token: one of these kinds, and a value that fits, by the number of names in the sheet, the
-- value of the token before, and its own
pub record Asks : Type 0 where
  pub kinds : List ℕ
  pub fits : (names before value : ℕ) → Bool

-- one of these kinds, with any value that the kind may have
abbrev pub free : List ℕ → Asks
free ks = record { kinds = ks; fits = λ names before value. true }

-- a Name is below M; the end of a span is not below its start, the token before it; no other place bounds a value
abbrev pub asks : Place → Asks
asks WholeStatement = free (Kind.Statement ∷ [])
asks Clause = free (through Kind.Match Kind.Delete ++ (Kind.ProcedureCall ∷ []))
asks SetItem = free (through Kind.SetProperty Kind.SetLabels)
asks RemoveItem = free (through Kind.RemoveProperty Kind.RemoveLabels)
asks Pattern = free (Kind.Pattern ∷ [])
asks Part = free (Kind.Part ∷ [])
asks Element = free (Kind.Node ∷ Kind.Rel ∷ [])
asks Expr = free (through Kind.Null Kind.Map ++ through Kind.FunctionCall Kind.MapProjection)
asks MapItem = free (through Kind.Computed Kind.VarShorthand)
asks Name = record { kinds = Kind.Name ∷ []; fits = λ names before value. ltb value names }
asks SpanStart = free (Kind.Number ∷ [])
asks SpanEnd = record { kinds = Kind.Number ∷ []; fits = λ names before value. leb before value }
asks WholeSchema = free (Kind.Schema ∷ [])
asks Declaration = free (through Kind.Label Kind.Apart)
asks LabelItem = free (Kind.Property ∷ Kind.Tuple ∷ [])
asks RelTypeItem = free (through Kind.Property Kind.End)
asks PropertyType = free (through Kind.FirstType Kind.LastType)

-- the kinds that a place takes
unfoldable pub takes : Place → List ℕ
takes p = (asks p).kinds

-- n times a place, and then others; n pairs Name, e, and then others
unfoldable pub many : ℕ → Place → List Place → List Place
many zero p ps = ps
many (suc n) p ps = let r : List Place = many n p ps in p ∷ r

unfoldable pub pairs : ℕ → List Place → List Place
pairs zero ps = ps
pairs (suc n) ps = let r : List Place = pairs n ps in Name ∷ Expr ∷ r

-- the greatest u32, where a kind may have any value
abbrev pub any : ℕ
any = 4294967295

-- a row: the kinds that it is for, their greatest value, and the places that a token of a value opens
pub record Rule : Type 0 where
  pub kinds : List ℕ
  pub most : ℕ
  pub opens : ℕ → List Place

abbrev pub rule : List ℕ → ℕ → (ℕ → List Place) → Rule
rule ks m ps = record { kinds = ks; most = m; opens = ps }

-- a value not mentioned is 0, a flag is at most 1, a count is any
unfoldable pub rules : List Rule
rules =
    -- 90 Statement, value the clause count
    rule (Kind.Statement ∷ []) any (λ v. many v Clause [])
    -- 70 Match, 71 Create, 72 Merge: a Pattern. 73 Where, 76 Unwind: e
    ∷ rule (through Kind.Match Kind.Merge) 0 (λ v. Pattern ∷ [])
    ∷ rule (Kind.Where ∷ Kind.Unwind ∷ []) 0 (λ v. Expr ∷ [])
    -- 74 With: value 2·projections + filter flag; projections, filter
    ∷ rule (Kind.With ∷ []) any (λ v. many (v / 2) Expr (many (v % 2) Expr []))
    -- 75 Return, 79 Delete: value e's. 77 Set, 78 Remove: value items
    ∷ rule (Kind.Return ∷ Kind.Delete ∷ []) any (λ v. many v Expr [])
    ∷ rule (Kind.Set ∷ []) any (λ v. many v SetItem [])
    ∷ rule (Kind.Remove ∷ []) any (λ v. many v RemoveItem [])
    -- 85 Call: value the arguments; start, end, Name, e's
    ∷ rule (Kind.ProcedureCall ∷ []) any (λ v. SpanStart ∷ SpanEnd ∷ Name ∷ many v Expr [])
    -- 80 Property: target e, value e. 81 AssignMap, 83 Property: e. 82, 84 Labels: value Names
    ∷ rule (Kind.SetProperty ∷ []) 0 (λ v. Expr ∷ Expr ∷ [])
    ∷ rule (Kind.AssignMap ∷ Kind.RemoveProperty ∷ []) 0 (λ v. Expr ∷ [])
    ∷ rule (Kind.SetLabels ∷ Kind.RemoveLabels ∷ []) any (λ v. many v Name [])
    -- 60 Pattern: value parts. 61 Part: value elements
    ∷ rule (Kind.Pattern ∷ []) any (λ v. many v Part [])
    ∷ rule (Kind.Part ∷ []) any (λ v. many v Element [])
    -- 62 Node and 63 Rel: value 2·names + properties flag; start, end, Names, properties e
    ∷ rule (Kind.Node ∷ Kind.Rel ∷ []) any (λ v. SpanStart ∷ SpanEnd ∷ many (v / 2) Name (many (v % 2) Expr []))
    -- 1 Null, 2 Bool, 3 Int, 4 Float, 5 String, 6 Var, 7 Param, 8 Unresolved, 9 ExistsSubqueryDeferred
    ∷ rule (through Kind.Null Kind.ExistsSubqueryDeferred) 0 (λ v. [])
    -- 10 Prop: Name, e. 11 Index, 17 BinOp, 21 InList: two e
    ∷ rule (Kind.Prop ∷ []) 0 (λ v. Name ∷ Expr ∷ [])
    ∷ rule (Kind.Index ∷ Kind.BinOp ∷ Kind.InList ∷ []) 0 (λ v. Expr ∷ Expr ∷ [])
    -- 12 Slice: value start flag + 2·end flag; target, start, end
    ∷ rule (Kind.Slice ∷ []) 3 (λ v. Expr ∷ many (v % 2) Expr (many (v / 2) Expr []))
    -- 13 List: value e's. 14 Map: value pairs Name, e. 16 Call: value the arguments; Name, e's
    ∷ rule (Kind.List ∷ []) any (λ v. many v Expr [])
    ∷ rule (Kind.Map ∷ []) any (λ v. pairs v [])
    ∷ rule (Kind.FunctionCall ∷ []) any (λ v. Name ∷ many v Expr [])
    -- 18 UnaryOp, 19 IsNull: e
    ∷ rule (Kind.UnaryOp ∷ Kind.IsNull ∷ []) 0 (λ v. Expr ∷ [])
    -- 20 Case: value 4·arms + 2·otherwise flag + scrutinee flag; scrutinee, arms of two e, otherwise
    ∷ rule (Kind.Case ∷ []) any (λ v. many (v % 2) Expr (many (2 * (v / 4)) Expr (many (v / 2 % 2) Expr [])))
    -- 22 PatternPredicate: Pattern. 23 PatternComprehension: value filter flag; Pattern, filter, e
    ∷ rule (Kind.PatternPredicate ∷ []) 0 (λ v. Pattern ∷ [])
    ∷ rule (Kind.PatternComprehension ∷ []) 1 (λ v. Pattern ∷ many v Expr (Expr ∷ []))
    -- 24 ListComprehension: value filter flag; e, filter, e. 25 ListPredicate: value flag; e, predicate
    ∷ rule (Kind.ListComprehension ∷ []) 1 (λ v. Expr ∷ many v Expr (Expr ∷ []))
    ∷ rule (Kind.ListPredicate ∷ []) 1 (λ v. Expr ∷ many v Expr [])
    -- 26 MapProjection: value items; base e, items: 27 Computed, 28 Aliased: Name, e; 29 PropCopy, 30 VarShorthand:
    -- Name
    ∷ rule (Kind.MapProjection ∷ []) any (λ v. Expr ∷ many v MapItem [])
    ∷ rule (Kind.Computed ∷ Kind.Aliased ∷ []) 0 (λ v. Name ∷ Expr ∷ [])
    ∷ rule (Kind.PropCopy ∷ Kind.VarShorthand ∷ []) 0 (λ v. Name ∷ [])
    -- Name 50: value a name number. Number 51: any value
    ∷ rule (Kind.Name ∷ Kind.Number ∷ []) any (λ v. [])
    -- 100 Schema, value the declarations. 101 Label, 102 RelType: value items; Name, items
    ∷ rule (Kind.Schema ∷ []) any (λ v. many v Declaration [])
    ∷ rule (Kind.Label ∷ []) any (λ v. Name ∷ many v LabelItem [])
    ∷ rule (Kind.RelType ∷ []) any (λ v. Name ∷ many v RelTypeItem [])
    -- 103 Parameter: value default flag; Name, Type, default Name. 104 Function: value 2·parameters + variadic flag;
    -- Name. 105 Procedure: value parameters; Name. 106 Apart: two Names
    ∷ rule (Kind.Parameter ∷ []) 1 (λ v. Name ∷ PropertyType ∷ many v Name [])
    ∷ rule (Kind.Function ∷ Kind.Procedure ∷ []) any (λ v. Name ∷ [])
    ∷ rule (Kind.Apart ∷ []) 0 (λ v. Name ∷ Name ∷ [])
    -- 110 Property (value required flag; Name, Type), 111 Tuple (value Names), 112 Start, 113 End (Name)
    ∷ rule (Kind.Property ∷ []) 1 (λ v. Name ∷ PropertyType ∷ [])
    ∷ rule (Kind.Tuple ∷ []) any (λ v. many v Name [])
    ∷ rule (Kind.Start ∷ Kind.End ∷ []) 0 (λ v. Name ∷ [])
    -- Types 120 to 128; the value is the list depth, 0 to 63
    ∷ rule (through Kind.FirstType Kind.LastType) 63 (λ v. [])
    ∷ []

-- the row of a kind, and what it says; of a kind that has none, that its value is 0 and it opens nothing
abbrev pub rule_of : ℕ → Option Rule
rule_of k = first (λ r. is_one r.kinds k) rules

abbrev pub most_by : Option Rule → ℕ
most_by None = 0
most_by (Some r) = r.most

abbrev pub opens_by : Option Rule → ℕ → List Place
opens_by None v = []
opens_by (Some r) v = r.opens v

-- the greatest value of a token of kind k; it may have the value v; the places that it opens; how many tokens belong
-- to it
unfoldable pub most_of : ℕ → ℕ
most_of k = most_by (rule_of k)

abbrev pub valued : ℕ → ℕ → Bool
valued k v = leb v (most_of k)

unfoldable pub opens : ℕ → ℕ → List Place
opens k v = opens_by (rule_of k) v

unfoldable pub arity : ℕ → ℕ → ℕ
arity k v = length (opens k v)
