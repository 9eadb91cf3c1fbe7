-- The kinds of tokens by name. A file that uses them says `use Rattle.rules.specs.Kinds as Kind`, and then Kind.Node
-- for 62. Two kinds that document 01 calls alike have names of their own here: a Call is a FunctionCall or a
-- ProcedureCall, and a Set's items are told from a Remove's.
use Rattle.std.specs.Prelude.{ℕ}

-- The tokens below which nothing stands: names and numbers
abbrev pub Name : ℕ
Name = 50

abbrev pub Number : ℕ
Number = 51

-- A statement and its clauses
abbrev pub Statement : ℕ
Statement = 90

abbrev pub Match : ℕ
Match = 70

abbrev pub Create : ℕ
Create = 71

abbrev pub Merge : ℕ
Merge = 72

abbrev pub Where : ℕ
Where = 73

abbrev pub With : ℕ
With = 74

abbrev pub Return : ℕ
Return = 75

abbrev pub Unwind : ℕ
Unwind = 76

abbrev pub Set : ℕ
Set = 77

abbrev pub Remove : ℕ
Remove = 78

abbrev pub Delete : ℕ
Delete = 79

abbrev pub ProcedureCall : ℕ
ProcedureCall = 85

-- The items of a Set and of a Remove
abbrev pub SetProperty : ℕ
SetProperty = 80

abbrev pub AssignMap : ℕ
AssignMap = 81

abbrev pub SetLabels : ℕ
SetLabels = 82

abbrev pub RemoveProperty : ℕ
RemoveProperty = 83

abbrev pub RemoveLabels : ℕ
RemoveLabels = 84

-- Patterns
abbrev pub Pattern : ℕ
Pattern = 60

abbrev pub Part : ℕ
Part = 61

abbrev pub Node : ℕ
Node = 62

abbrev pub Rel : ℕ
Rel = 63

-- Expressions
abbrev pub Null : ℕ
Null = 1

abbrev pub Bool : ℕ
Bool = 2

abbrev pub Int : ℕ
Int = 3

abbrev pub Float : ℕ
Float = 4

abbrev pub String : ℕ
String = 5

abbrev pub Var : ℕ
Var = 6

abbrev pub Param : ℕ
Param = 7

abbrev pub Unresolved : ℕ
Unresolved = 8

abbrev pub ExistsSubqueryDeferred : ℕ
ExistsSubqueryDeferred = 9

abbrev pub Prop : ℕ
Prop = 10

abbrev pub Index : ℕ
Index = 11

abbrev pub Slice : ℕ
Slice = 12

abbrev pub List : ℕ
List = 13

abbrev pub Map : ℕ
Map = 14

abbrev pub FunctionCall : ℕ
FunctionCall = 16

abbrev pub BinOp : ℕ
BinOp = 17

abbrev pub UnaryOp : ℕ
UnaryOp = 18

abbrev pub IsNull : ℕ
IsNull = 19

abbrev pub Case : ℕ
Case = 20

abbrev pub InList : ℕ
InList = 21

abbrev pub PatternPredicate : ℕ
PatternPredicate = 22

abbrev pub PatternComprehension : ℕ
PatternComprehension = 23

abbrev pub ListComprehension : ℕ
ListComprehension = 24

abbrev pub ListPredicate : ℕ
ListPredicate = 25

abbrev pub MapProjection : ℕ
MapProjection = 26

-- The items of a MapProjection
abbrev pub Computed : ℕ
Computed = 27

abbrev pub Aliased : ℕ
Aliased = 28

abbrev pub PropCopy : ℕ
PropCopy = 29

abbrev pub VarShorthand : ℕ
VarShorthand = 30

-- A schema and its declarations
abbrev pub Schema : ℕ
Schema = 100

abbrev pub Label : ℕ
Label = 101

abbrev pub RelType : ℕ
RelType = 102

abbrev pub Parameter : ℕ
Parameter = 103

abbrev pub Function : ℕ
Function = 104

abbrev pub Procedure : ℕ
Procedure = 105

abbrev pub Apart : ℕ
Apart = 106

-- The items of a Label and of a RelType
abbrev pub Property : ℕ
Property = 110

abbrev pub Tuple : ℕ
Tuple = 111

abbrev pub Start : ℕ
Start = 112

abbrev pub End : ℕ
End = 113

-- The types that a schema declares, and the first and the last of them
abbrev pub StringType : ℕ
StringType = 120

abbrev pub IntType : ℕ
IntType = 121

abbrev pub FloatType : ℕ
FloatType = 122

abbrev pub BoolType : ℕ
BoolType = 123

abbrev pub DateType : ℕ
DateType = 124

abbrev pub DatetimeType : ℕ
DatetimeType = 125

abbrev pub EnumType : ℕ
EnumType = 126

abbrev pub OpaqueType : ℕ
OpaqueType = 127

abbrev pub AnyType : ℕ
AnyType = 128

abbrev pub FirstType : ℕ
FirstType = StringType

abbrev pub LastType : ℕ
LastType = AnyType
