use mathlib.Core.Path.{◌≡◌, refl, sym, ap, ◌∙◌}
use Prim.Native.Nat.{ℕ, suc, ◌+◌, ◌*◌}
use native.Mathlib.Numerals.{add-one}
use native.Mathlib.Omega.{arith}
use lib.ListN.{length-set}
use Rattle.frame.specs.Doc.{doc_of, value_of}
use Rattle.grammar.specs.Tree.{tree_of, child}
use Rattle.grammar.proofs.Places.{past-none}
use Rattle.judge.proofs.Keyed.{key-name, value_there, key-next}
use Rattle.judge.proofs.Merging.{end-past, past-inside, stored-each}
use Rattle.judge.proofs.keys.collect_keys.Goals as goal

pub loop-k-init : goal.loop-k-init
loop-k-init c = (
  omega arith,
  (
    add-one _ ∙ sym (past-none (tree_of (doc_of c.args.s.now)) _),
    (omega arith, (c.requires.max_tokens_bound, (refl, λ j l. absurd (omega arith)))),
  ),
)

pub value-requires-clause-i_lt_tokens : goal.value-requires-clause-i_lt_tokens
value-requires-clause-i_lt_tokens c =
    omega (
      arith,
      (key-name (doc_of c.args.s.now)
          c.requires.s_value c.args.map
          (omega (
            arith,
            c.requires.sound.tokens,
            c.requires.map_lt_tokens,
          )) c.requires.map_value c.loop-k.k
          (omega (arith, c.loop-k-test.true, c.value-pairs.ensures)) c.loop-k.at
          c.loop-k.invariant.1.0).inside,
      c.requires.sound.tokens,
    )

pub offset_bounds-keys-k : goal.offset_bounds-keys-k
offset_bounds-keys-k c =
    omega (
      arith,
      value_there (doc_of c.args.s.now)
          c.requires.s_value
          c.args.map
          (omega (
            arith,
            c.requires.sound.tokens,
            c.requires.map_lt_tokens,
          )) c.requires.map_value
          c.loop-k.k (omega (
            arith,
            c.loop-k-test.true,
            c.value-pairs.ensures,
          )) c.loop-k.at c.loop-k.invariant.1.0,
      c.requires.sound.tokens,
      c.requires.sound.few_tokens,
      c.loop-k.invariant.1.1.0,
      c.loop-k.invariant.1.1.1.0,
    )

pub bounds-keys-k : goal.bounds-keys-k
bounds-keys-k c =
    omega (
      arith,
      value_there (doc_of c.args.s.now)
          c.requires.s_value
          c.args.map
          (omega (
            arith,
            c.requires.sound.tokens,
            c.requires.map_lt_tokens,
          )) c.requires.map_value
          c.loop-k.k (omega (
            arith,
            c.loop-k-test.true,
            c.value-pairs.ensures,
          )) c.loop-k.at c.loop-k.invariant.1.0,
      c.requires.sound.tokens,
      c.requires.sound.few_tokens,
      c.loop-k.invariant.1.1.0,
      c.loop-k.invariant.1.1.1.0,
    )

pub overflow_add-at-in-loop-k : goal.overflow_add-at-in-loop-k
overflow_add-at-in-loop-k c =
    omega (
      arith,
      value_there (doc_of c.args.s.now)
          c.requires.s_value
          c.args.map
          (omega (
            arith,
            c.requires.sound.tokens,
            c.requires.map_lt_tokens,
          )) c.requires.map_value
          c.loop-k.k (omega (
            arith,
            c.loop-k-test.true,
            c.value-pairs.ensures,
          )) c.loop-k.at c.loop-k.invariant.1.0,
      c.requires.sound.tokens,
      c.requires.sound.few_tokens,
      c.loop-k.invariant.1.1.0,
      c.loop-k.invariant.1.1.1.0,
    )

pub skip-at-requires-clause-i_lt_tokens : goal.skip-at-requires-clause-i_lt_tokens
skip-at-requires-clause-i_lt_tokens c =
    omega (
      arith,
      value_there (doc_of c.args.s.now)
          c.requires.s_value
          c.args.map
          (omega (
            arith,
            c.requires.sound.tokens,
            c.requires.map_lt_tokens,
          )) c.requires.map_value
          c.loop-k.k (omega (
            arith,
            c.loop-k-test.true,
            c.value-pairs.ensures,
          )) c.loop-k.at c.loop-k.invariant.1.0,
      c.requires.sound.tokens,
    )

pub loop-k-preserved : goal.loop-k-preserved
loop-k-preserved c =
    let n = key-next (doc_of c.args.s.now)
    c.requires.s_value
    c.args.map
    (omega (
      arith,
      c.requires.sound.tokens,
      c.requires.map_lt_tokens,
    ))
    c.requires.map_value
    c.loop-k.k (omega (
      arith,
      c.loop-k-test.true,
      c.value-pairs.ensures,
    )) c.loop-k.at
    c.loop-k.invariant.1.0 _ c.skip-at.ensures in
    let u = value_there (doc_of c.args.s.now)
    c.requires.s_value
    c.args.map
    (omega (
      arith,
      c.requires.sound.tokens,
      c.requires.map_lt_tokens,
    ))
    c.requires.map_value
    c.loop-k.k (omega (
      arith,
      c.loop-k-test.true,
      c.value-pairs.ensures,
    )) c.loop-k.at
    c.loop-k.invariant.1.0 in (
      omega (arith, c.loop-k-test.true),
      (
        n,
        (
          omega (
            arith,
            c.skip-at.ensures,
            end-past (doc_of
                c.args.s.now)
                (c.loop-k.at + 1) u,
            c.loop-k.invariant.1.1.0,
          ),
          (
            rw (length-set c.loop-k.keys c.loop-k.k
                c.value.result) c.loop-k.invariant.1.1.1.0,
            (
              length-set c.loop-k.keys
                  c.loop-k.k c.value.result ∙ c.loop-k.invariant.1.1.1.1.0,
              stored-each
                  c.loop-k.keys c.loop-k.k
                  c.value.result
                  (λ (j : ℕ). value_of (doc_of c.args.s.now)
                  (child (tree_of (doc_of c.args.s.now))
                  c.args.map (2 * j)))
                  (omega (arith, u, c.requires.sound.tokens, c.requires.sound.few_tokens, c.loop-k.invariant.1.1.0, c.loop-k.invariant.1.1.1.0))
                  (c.value.ensures
                  ∙ ap (value_of (doc_of c.args.s.now)) c.loop-k.invariant.1.0) c.loop-k.invariant.1.1.1.1.1,
            ),
          ),
        ),
      ),
    )

pub returns : goal.returns
returns c =
    let k : c.loop-k.k ≡ c.value-pairs.result = omega (arith, c.loop-k.invariant.0, c.loop-k-test.false) in
    record {
      all = c.value-pairs.ensures;
      room = omega (
        arith,
        c.loop-k.invariant.1.0,
        c.loop-k.invariant.1.1.0,
        c.loop-k.invariant.1.1.1.0,
        c.requires.sound.tokens,
        c.requires.sound.few_tokens,
        c.requires.map_lt_tokens,
        past-inside
            (doc_of c.args.s.now) (2 * c.loop-k.k)
            (suc c.args.map) (omega (arith, c.requires.sound.tokens, c.requires.map_lt_tokens)),
      );
      each = λ j l. c.loop-k.invariant.1.1.1.1.1 j (omega (arith, k));
    }
