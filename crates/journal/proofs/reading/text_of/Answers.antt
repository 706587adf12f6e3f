-- The text that the length names, or none.
use Rattle.std.proofs.Common.{◌≡◌, ℕ, List, ◌≤◌, length, take, drop, arith, subst, sym, ◌∙◌, ap}
use Rattle.std.proofs.lemmas.List.{take_rest, length-take-le}
use Rattle.std.specs.Str.{IsUtf8}
use Rattle.u1_base.specs.Fields.{text_field}
use Rattle.journal.specs.Damage.{Begins}
use Rattle.journal.proofs.Fields.{begins_long, length-text_field, text_begins, text_is}
use Rattle.journal.proofs.reading.text_of.Goals as goal

pub returns-then-bytes-lt-TEXT_LENGTH_BYTES : goal.returns-then-bytes-lt-TEXT_LENGTH_BYTES
returns-then-bytes-lt-TEXT_LENGTH_BYTES c text short utf8 b =
    let h = begins_long (text_field text) c.args.bytes.now b in absurd (omega (arith, h, length-text_field text))

pub returns-then-rest-size : goal.returns-then-rest-size
returns-then-rest-size c text short utf8 b =
    let bytes = c.args.bytes.now in let n = c.u16_at-size.result in
    let h = text_is n text bytes (omega (arith, c.u16_at-size.type_inv)) short c.u16_at-size.ensures b in
    absurd (omega (arith, h.0, ap length (take_rest bytes 2)))

pub returns-in-Ok : goal.returns-in-Ok
returns-in-Ok c =
    let bytes = c.args.bytes.now in let n = c.u16_at-size.result in
    let fits : n ≤ length (drop 2 bytes) = omega (arith, ap length (take_rest bytes 2)) in
    let is : c.in-Ok.text.now ≡ take n (drop 2 bytes) = c.in-Ok.ensures.cases.0 ∙ ap (take n) (take_rest bytes 2) in (
      omega (arith, ap length is, length-take-le n (drop 2 bytes) fits, c.u16_at-size.type_inv),
      subst (λ (text : List ℕ). Begins (text_field text) bytes) (sym is)
          (text_begins n bytes c.u16_at-size.ensures fits),
    )

pub returns-in-Err : goal.returns-in-Err
returns-in-Err c text short utf8 b =
    let bytes = c.args.bytes.now in let n = c.u16_at-size.result in
    let h = text_is n text bytes (omega (arith, c.u16_at-size.type_inv)) short c.u16_at-size.ensures b in
    c.in-Err.ensures.cases.0 (subst IsUtf8 (sym (ap (take n) (take_rest bytes 2) ∙ h.1)) utf8)
