-- One byte more is passed; at the end none is left.
use Rattle.std.proofs.Common.{◌+◌, ◌-◌, ◌^◌, ◌<◌, ◌≤◌, arith}
use Rattle.std.proofs.Math.Nat.{pow-le-pow_right}
use Rattle.key_lanes.specs.AbbreviatedKeys.{abbreviated_key}
use Rattle.key_lanes.proofs.AbbreviatedKeys.{key_fits, key_next, key_whole}
use Rattle.key_lanes.proofs.abbreviated.abbreviated_key.Goals as goal

pub overflow_mul-number : goal.overflow_mul-number
overflow_mul-number c =
    let early : c.loop-at.at ≤ 15 = omega arith in
    let cap : 256 ^ c.loop-at.at ≤ 256 ^ 15 = pow-le-pow_right {n = 256} (omega arith) early in
    let fits : c.loop-at.number < 256 ^ c.loop-at.at = c.loop-at.invariant.fits in
    omega arith

pub overflow_add-number : goal.overflow_add-number
overflow_add-number c =
    let early : c.loop-at.at ≤ 15 = omega arith in
    let cap : 256 ^ c.loop-at.at ≤ 256 ^ 15 = pow-le-pow_right {n = 256} (omega arith) early in
    let fits : c.loop-at.number < 256 ^ c.loop-at.at = c.loop-at.invariant.fits in
    let byte : c.byte_at-byte.result < 256 =
    omega (arith, c.byte_at-byte.ensures, (c.type_inv.bytes c.loop-at.at).fits) in
    omega arith

pub loop-at-preserved : goal.loop-at-preserved
loop-at-preserved c =
    let i = c.loop-at.invariant in
    record {
      whole = key_next c.loop-at.number c.byte_at-byte.result c.loop-at.at (c.loop-at.at + 1)
          (c.args.places - c.loop-at.at) (c.args.places - (c.loop-at.at + 1)) c.args.bytes.now
          (abbreviated_key c.args.places c.args.bytes.now) (omega arith) (omega arith) c.byte_at-byte.ensures i.whole;
      fits = key_fits c.loop-at.number c.byte_at-byte.result c.loop-at.at (c.loop-at.at + 1) (omega arith)
          (omega (arith, c.byte_at-byte.ensures, (c.type_inv.bytes c.loop-at.at).fits)) i.fits;
    }

pub returns-clause-value : goal.returns-clause-value
returns-clause-value c = (
  key_whole c.loop-at.number c.loop-at.at (c.args.places - c.loop-at.at) c.args.bytes.now
      (abbreviated_key c.args.places c.args.bytes.now) (omega arith) c.loop-at.invariant.whole,
  λ k. (c.type_inv.bytes k).fits,
)
