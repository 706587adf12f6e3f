-- The body that the length names, or none.
use Rattle.std.proofs.Common.{◌≡◌, ℕ, ◌≤◌, List, length, take, drop, sym, subst, ap, arith, length-take}
use Rattle.std.proofs.lemmas.List.{take_rest, length-take-le}
use Rattle.journal.specs.Image.{IsBody, body_field}
use Rattle.journal.specs.Damage.{Begins}
use Rattle.journal.proofs.Fields.{begins_long, body_begins, body_is, length-body_field}
use Rattle.journal.proofs.reading.body_of.Goals as goal

pub returns-then-bytes-lt-BODY_LENGTH_BYTES : goal.returns-then-bytes-lt-BODY_LENGTH_BYTES
returns-then-bytes-lt-BODY_LENGTH_BYTES c body is b =
    absurd (omega (arith, begins_long (body_field body) c.args.bytes.now b, length-body_field body))

pub returns-then-size-eq0 : goal.returns-then-size-eq0
returns-then-size-eq0 c body is b =
    let bytes = c.args.bytes.now in let n = c.u32_at-size.result in
    let h = body_is n body bytes c.u32_at-size.type_inv is.1 c.u32_at-size.ensures b in
    absurd (omega (arith, ap length h.1, length-take n (drop 4 bytes), is.0, c.if-size-eq0.true))

pub returns-then-rest-size : goal.returns-then-rest-size
returns-then-rest-size c body is b =
    let bytes = c.args.bytes.now in let n = c.u32_at-size.result in
    let h = body_is n body bytes c.u32_at-size.type_inv is.1 c.u32_at-size.ensures b in
    absurd (omega (arith, h.0, ap length (take_rest bytes 4)))

pub returns : goal.returns
returns c =
    let bytes = c.args.bytes.now in let n = c.u32_at-size.result in
    let fits : n ≤ length (drop 4 bytes) = omega (arith, ap length (take_rest bytes 4)) in
    let size : length (take n (drop 4 bytes)) ≡ n = length-take-le n (drop 4 bytes) fits in
    let P : List ℕ → Type 0 = λ body. IsBody body × Begins (body_field body) bytes in
    subst P (sym (ap (take n) (take_rest bytes 4))) (
      (omega (arith, size, c.if-size-eq0.false), omega (arith, size, c.u32_at-size.type_inv)),
      body_begins n bytes c.u32_at-size.ensures fits,
    )
