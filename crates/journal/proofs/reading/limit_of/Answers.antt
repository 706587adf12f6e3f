-- The number that stands there is the limit, or no limit stands there.
use Rattle.std.proofs.Common.{◌≡◌, ℕ, ◌<◌, ◌^◌, List, take, sym, ◌∙◌, arith}
use Rattle.u1_base.specs.Fields.{u64_bytes}
use Rattle.journal.specs.Image.{IsLimit}
use Rattle.journal.specs.Damage.{Begins}
use Rattle.journal.proofs.Fields.{begins_long, front_begins, length-u64, limit_front, u64-same}
use Rattle.journal.proofs.reading.limit_of.Goals as goal

-- the limit is the number
limit_is : (n limit : ℕ) (bytes : List ℕ) → n < 2 ^ 64 → IsLimit limit → take 8 bytes ≡ u64_bytes n
    → Begins (u64_bytes limit) bytes → n ≡ limit
limit_is n limit bytes small known e b = u64-same n limit small (omega (arith, known.1))
    (sym e ∙ limit_front limit bytes b)

pub returns-then-bytes-lt-LIMIT_BYTES : goal.returns-then-bytes-lt-LIMIT_BYTES
returns-then-bytes-lt-LIMIT_BYTES c limit known b =
    absurd (omega (arith, begins_long (u64_bytes limit) c.args.bytes.now b, length-u64 limit))

pub returns-then-limit-lt-LEAST_IMAGE_LIMIT : goal.returns-then-limit-lt-LEAST_IMAGE_LIMIT
returns-then-limit-lt-LEAST_IMAGE_LIMIT c limit known b =
    absurd (omega (
      arith,
      limit_is c.u64_at-limit.result limit c.args.bytes.now c.u64_at-limit.type_inv known
          c.u64_at-limit.ensures b,
      known.0,
    ))

pub returns-then-limit-gt-GREATEST_IMAGE_LIMIT : goal.returns-then-limit-gt-GREATEST_IMAGE_LIMIT
returns-then-limit-gt-GREATEST_IMAGE_LIMIT c limit known b =
    absurd (omega (
      arith,
      limit_is c.u64_at-limit.result limit c.args.bytes.now c.u64_at-limit.type_inv known
          c.u64_at-limit.ensures b,
      known.1,
    ))

pub returns : goal.returns
returns c = (
  (omega arith, omega arith),
  front_begins
      (u64_bytes c.u64_at-limit.result) c.args.bytes.now 8 c.u64_at-limit.ensures,
)
