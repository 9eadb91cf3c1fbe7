-- Messages: the text of each item of the list.
use Rattle.std.specs.Prelude.{ℕ, ◌+◌, List, [], eqb}
use Rattle.lists.specs.Lists.{pick}
use Rattle.grammar.specs.Tree.{Tree}
use Rattle.provider.specs.Schema.{Schema}
use Rattle.breach.specs.Breach.{Item}
use Rattle.sentence.specs.Sentence.{quoted, undeclared_text, wrong_type_text, arity_text, apart_text, unbacked_text}

-- the message of an item, by its code
unfoldable pub message_of : Tree → Schema → Item → List ℕ
message_of t s x =
    pick (eqb x.code 3001) (quoted "unknown label `:" (t.text (x.owner + 3 + x.ordinal)))
    (pick (eqb x.code 3002) (quoted "unknown relationship type `:" (t.text (x.owner + 3 + x.ordinal)))
    (pick (eqb x.code 3003) (undeclared_text t x.owner x.ordinal)
    (pick (eqb x.code 3004) (wrong_type_text t s x.owner x.ordinal)
    (pick (eqb x.code 3006) (quoted "unknown function `" (t.text (x.owner + 1)))
    (pick (eqb x.code 3007) (arity_text t s x.owner)
    (pick (eqb x.code 3008) (quoted "unknown procedure `" (t.text (x.owner + 3)))
    (pick (eqb x.code 3009) (unbacked_text t x.owner)
    (pick (eqb x.code 4023) (apart_text t x.owner) []))))))))
