-- What feeds the digest, declaration by declaration.
use Rattle.std.specs.Prelude.{ℕ, List, [], ◌++◌}
use Rattle.lists.specs.Lists.{pick, each}
use Rattle.text.specs.Text.{bytes}
use Rattle.provider.specs.Schema.{Owner, Property, Parameter, Schema}
use Rattle.in_order.specs.InOrder.{sorted}
use Rattle.std.specs.Prelude.{Option, Some, None}

-- `L:` name, per property `p:` name and `!` if required, else `?`
unfoldable pub label_feed : Owner → List ℕ
label_feed o =
    (bytes "L:" ++ o.name)
    ++ each (λ (p : Property). (bytes "p:" ++ p.name) ++ pick p.required (bytes "!") (bytes "?")) o.properties

-- `R:` name, per Start `s:` name, per End `e:` name, per property `p:` name
unfoldable pub rel_type_feed : Owner → List ℕ
rel_type_feed o =
    (bytes "R:" ++ o.name)
    ++ each (λ n. bytes "s:" ++ n) o.starts
    ++ each (λ n. bytes "e:" ++ n) o.ends
    ++ each (λ (p : Property). bytes "p:" ++ p.name) o.properties

-- `P:` name, with a default `=` and it
abbrev pub default_feed : Option (List ℕ) → List ℕ
default_feed None = []
default_feed (Some n) = bytes "=" ++ n

unfoldable pub parameter_feed : Parameter → List ℕ
parameter_feed p = (bytes "P:" ++ p.name) ++ default_feed p.default

-- Labels, RelTypes, parameters feed in that order, each kind sorted. Nothing else feeds
unfoldable pub fed : Schema → List ℕ
fed s =
    each label_feed (sorted (λ (o : Owner). o.name) s.labels)
    ++ each rel_type_feed (sorted (λ (o : Owner). o.name) s.rel_types)
    ++ each parameter_feed (sorted (λ (p : Parameter). p.name) s.parameters)
