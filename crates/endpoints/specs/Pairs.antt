-- The pairs of starts and ends.
use Rattle.std.specs.Prelude.{List, [], ◌∷◌, ℕ}
use Rattle.lists.specs.Lists.{each, first}
use Rattle.text.specs.Text.{same_text}
use Rattle.frame.specs.Doc.{Doc}
use Rattle.rules.specs.Kinds as Kind
use Rattle.grammar.specs.Tree.{tree_of}
use Rattle.schema.specs.Declarations.{decls_of, name_below}
use Rattle.provider.specs.Schema.{items_of}
use Rattle.of_kind.specs.Numbers.{number_below}
use Rattle.std.specs.Prelude.{Option, Some, None}

-- the pairs of a start with each end
abbrev pub pairs_from : Doc → ℕ → List ℕ → List ℕ
pairs_from d start ends = each (λ end. number_below d start ∷ number_below d end ∷ []) ends

-- start-major, as pairs of the name numbers that stand in Start and End; none if unknown
unfoldable pub endpoints_at : Doc → Option ℕ → List ℕ
endpoints_at d None = []
endpoints_at d (Some i) =
    each (λ start. pairs_from d start (items_of (tree_of d) i Kind.End)) (items_of (tree_of d) i Kind.Start)

-- relationship_endpoints of a text
unfoldable pub endpoints_of : Doc → List ℕ → List ℕ
endpoints_of d text =
    endpoints_at d (first (λ i. same_text text (name_below (tree_of d) i)) (decls_of (tree_of d) Kind.RelType))
