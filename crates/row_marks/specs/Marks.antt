-- What the list of a row's statement is, column by column.
use Rattle.std.specs.Prelude.{ℕ, suc, not, List, [], ◌∷◌, ◌++◌, map}
use Rattle.lists.specs.Lists.{both, is_empty}
use Rattle.types.specs.Types.{ty}
use Rattle.provider.specs.Schema.{Schema, is_declared, property_of, tuples_of}
use Rattle.breach.specs.Breach.{Item, item, backed}
use Rattle.breach.specs.Listing.{when, key_judged}
use Rattle.rfc4180.specs.Cells.{Cell, Row}
use Rattle.row_paper.specs.Paper.{literal_kind}
use Rattle.std.specs.Prelude.{Some}

-- the token of the Node, which owns every item
abbrev pub node_token : ℕ
node_token = 4

-- an item of the Node, whose span is the row's byte range, in the one clause
abbrev pub row_item : Row → ℕ → ℕ → ℕ → Item
row_item r code stage ordinal = item code r.start r.stop node_token stage ordinal 0

-- stage 0: E3001 where the label is not declared
unfoldable pub label_marks : Schema → List ℕ → Row → List Item
label_marks s label r = when (not (is_declared s.labels label)) (row_item r 3001 0 0)

-- stage 2, column k: E3003 where the label declares no property of the header's name, else E3004 where the type that it
-- declares does not take the cell's
unfoldable pub column_mark : Schema → List ℕ → Row → ℕ → Cell → Cell → List Item
column_mark s label r k h c =
    key_judged (property_of s.labels (label ∷ []) h.content) (Some (ty (literal_kind c) 0))
    (row_item r 3003 2 k)
    (row_item r 3004 2 k)

-- the columns from k on, in turn: each header with the cell below it
unfoldable pub column_marks : Schema → List ℕ → Row → ℕ → List Cell → List Cell → List Item
column_marks s label r k [] cs = []
column_marks s label r k (h ∷ hs) [] = []
column_marks s label r k (h ∷ hs) (c ∷ cs) = column_mark s label r k h c ++ column_marks s label r (suc k) hs cs

-- stage 3: E3009 exactly when a tuple is declared for the label and none lies wholly among the headers
unfoldable pub key_marks : Schema → List ℕ → List Cell → Row → List Item
key_marks s label header r =
    when (both (not (is_empty (tuples_of s.labels (label ∷ []))))
    (not (backed (tuples_of s.labels (label ∷ [])) (map (λ (h : Cell). h.content) header))))
    (row_item r 3009 3 0)

-- the list: the label, the columns in order, and E3009 last. No E4023 can come, for there is one label
unfoldable pub marks_of : Schema → List ℕ → List Cell → Row → List Item
marks_of s label header r =
    label_marks s label r ++ column_marks s label r 0 header r.cells ++ key_marks s label header r
