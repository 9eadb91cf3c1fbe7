-- A rule as the code has it.
use Rattle.std.specs.Prelude.{ℕ, ◌≤◌, ◌≡◌, List, []}
use Rattle.rules.specs.declared.Place.{Place}
use Rattle.rules.specs.declared.Place.TheVariants.{Name, SpanStart, SpanEnd}
use Rattle.rules.specs.declared.Shape.{Shape}
use Rattle.rules.specs.Rules.{many, pairs, most_of, opens}

abbrev pub shape : (most spans names pairs : ℕ) → Place → ℕ → Place → ℕ → Shape
shape most spans names pairs p m q n =
    record {
      most = most;
      spans = spans;
      names = names;
      pairs = pairs;
      first = p;
      firsts = m;
      second = q;
      seconds = n;
    }

-- a start and an end, n times each, and then others
abbrev pub span_places : ℕ → List Place → List Place
span_places n ps = many n SpanStart (many n SpanEnd ps)

-- the places that a shape stands for: a start and an end where it has a span, Names, pairs, and two places more, each
-- so many times
abbrev pub shaped : Shape → List Place
shaped x =
    span_places x.spans
    (many x.names Name (pairs x.pairs (many x.firsts x.first (many x.seconds x.second []))))

-- a shape is the rule of kind k at value v: the greatest value, and the places that it opens
pub record Ruled (k v : ℕ) (x : Shape) : Type 0 where
  pub most : x.most ≡ most_of k
  pub below : v ≤ most_of k → shaped x ≡ opens k v
