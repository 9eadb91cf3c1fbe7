use Rattle.std.proofs.Common.{◌%◌, arith}
use Rattle.fnv.proofs.Rotation.{turned-fits, turned-not, turned}
use Rattle.fnv.proofs.rotate_left.Goals as goal

pub returns-then-up-eq0 : goal.returns-then-up-eq0
returns-then-up-eq0 c =
    turned-not c.args.x (c.args.n % 64) c.ranges.x.fits c.if-up-eq0.true

pub overflow_cast-result : goal.overflow_cast-result
overflow_cast-result c =
    omega arith

pub overflow_shl-result : goal.overflow_shl-result
overflow_shl-result c =
    omega arith

pub overflow_sub-result : goal.overflow_sub-result
overflow_sub-result c =
    omega arith

pub overflow_cast-result-2 : goal.overflow_cast-result-2
overflow_cast-result-2 c =
    omega arith

pub overflow_shr-result : goal.overflow_shr-result
overflow_shr-result c =
    omega (arith, c.if-up-eq0.false)

pub overflow_add-result : goal.overflow_add-result
overflow_add-result c =
    record {
      fits = turned-fits c.args.x (c.args.n % 64) c.ranges.x.fits
          (omega arith);
    }

pub returns : goal.returns
returns c =
    turned c.args.x (c.args.n % 64)
