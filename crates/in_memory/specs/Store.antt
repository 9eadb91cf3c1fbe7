-- The store, document 01's seventh module: for any bytes lent, the answer, and what then stands in the lent list.
-- Its parts in that order: the number of a name, `of_kind/specs/Numbers.antt`; names sorted,
-- `in_order/specs/InOrder.antt` and `by_name/specs/Names.antt`; endpoints, `endpoints/specs/Pairs.antt`; what feeds
-- the digest, `feeding/specs/Feed.antt`; the hash and its 32 bytes, `fnv/specs/Fnv.antt`. Here they are put together,
-- operation by operation.
use Rattle.std.specs.Prelude.{List, ℕ, ◌/◌, length}
use Rattle.frame.specs.Doc.{doc_of}
use Rattle.schema.specs.Effect.{Effect, writes, after_schema, fitted}
use Rattle.provider.specs.Schema.{Schema}
use Rattle.breach.specs.Breach.{schema_in}
use Rattle.fnv.specs.Fnv.{fnv1a, spread}
use Rattle.by_name.specs.Names.{names_in_order}
use Rattle.endpoints.specs.Pairs.{endpoints_of}
use Rattle.feeding.specs.Feed.{fed}

-- schema_digest: 64-bit FNV-1a of what is fed, over 32 bytes
unfoldable pub digest_of : Schema → List ℕ
digest_of s = spread (fnv1a (fed s))

-- label_names (kind 101), rel_type_names (102), parameter_names (103): the schema's refusals, then 16; the answer is
-- the number of names
unfoldable pub names_effect : ℕ → List ℕ → List ℕ → Effect
names_effect kind sc out =
    after_schema sc (fitted (length (names_in_order (doc_of sc) kind)) (names_in_order (doc_of sc) kind) out)

-- relationship_endpoints: the schema's refusals, then 16; the answer is the number of pairs
unfoldable pub endpoints_effect : List ℕ → List ℕ → List ℕ → Effect
endpoints_effect sc text out =
    after_schema sc (fitted (length (endpoints_of (doc_of sc) text) / 2) (endpoints_of (doc_of sc) text) out)

-- schema_digest: the schema's refusals. The answer is the 32 bytes, which are those of a list of zeros: all 0 where
-- refused
unfoldable pub digest_effect : List ℕ → Effect
digest_effect sc = after_schema sc (writes 32 (digest_of (schema_in sc)))
