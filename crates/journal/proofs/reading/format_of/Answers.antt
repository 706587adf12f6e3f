-- The letters and one of the formats, or no first field.
use Rattle.std.proofs.Common.{◌≡◌, ⊎_elim, inl, inr, true, false, not, List, ℕ, take, codes, refl, sym, ◌∙◌, arith}
use Rattle.std.proofs.lemmas.Bool.{false≢true, not-true, not-false}
use Rattle.std.proofs.lemmas.Slice.Eq.{bytes_eq-Decides}
use Rattle.std.specs.Str.{bytes_eq}
use Rattle.journal.specs.Image.{first_field}
use Rattle.journal.specs.Damage.{Begins}
use Rattle.journal.specs.declared.layout.TheConstants.{FIRST_FORMAT, LETTERS_BYTES, SECOND_FORMAT}
use Rattle.journal.proofs.Fields.{begins_long, first_begins, first_parts, length-first_field}
use Rattle.journal.proofs.reading.format_of.Goals as goal

-- what `!=` says of the letters
other_letters : (format : ℕ) (bytes letters : List ℕ) → letters ≡ codes "U1DBVOL"
    → true ≡ not (bytes_eq (take LETTERS_BYTES bytes) letters) → ¬ (Begins (first_field format) bytes)
other_letters format bytes letters e differ b =
    false≢true (sym (not-true _ (sym differ)) ∙ (bytes_eq-Decides _ _).1 ((first_parts format bytes b).0 ∙ sym e))

same_letters : (bytes letters : List ℕ) → letters ≡ codes "U1DBVOL"
    → false ≡ not (bytes_eq (take LETTERS_BYTES bytes) letters) → take LETTERS_BYTES bytes ≡ codes "U1DBVOL"
same_letters bytes letters e agree = (bytes_eq-Decides _ _).0 (not-false _ (sym agree)) ∙ e

pub returns-then-bytes-lt-FIRST_FIELD_BYTES : goal.returns-then-bytes-lt-FIRST_FIELD_BYTES
returns-then-bytes-lt-FIRST_FIELD_BYTES c format known b =
    absurd (omega (arith, begins_long (first_field format) c.args.bytes.now b, length-first_field format))

pub returns-then-ne : goal.returns-then-ne
returns-then-ne c format known b =
    other_letters format c.args.bytes.now c.as_bytes.result.now c.as_bytes.ensures.value c.if-ne.ensures b

pub returns-then-format-eq-FIRST_FORMAT : goal.returns-then-format-eq-FIRST_FORMAT
returns-then-format-eq-FIRST_FORMAT c = (
  inl refl,
  first_begins FIRST_FORMAT c.args.bytes.now
      (same_letters c.args.bytes.now c.as_bytes.result.now c.as_bytes.ensures.value c.if-ne.ensures)
      (omega (arith, c.if-bytes-lt-FIRST_FIELD_BYTES.false)) c.if-format-eq-FIRST_FORMAT.true,
)

pub returns-then-format-eq-SECOND_FORMAT : goal.returns-then-format-eq-SECOND_FORMAT
returns-then-format-eq-SECOND_FORMAT c = (
  inr refl,
  first_begins SECOND_FORMAT c.args.bytes.now
      (same_letters c.args.bytes.now c.as_bytes.result.now c.as_bytes.ensures.value c.if-ne.ensures)
      (omega (arith, c.if-bytes-lt-FIRST_FIELD_BYTES.false)) c.if-format-eq-SECOND_FORMAT.true,
)

pub returns : goal.returns
returns c format known b =
    let at = (first_parts format c.args.bytes.now b).1 in
    ⊎_elim (λ e. c.if-format-eq-FIRST_FORMAT.false (at ∙ e)) (λ e. c.if-format-eq-SECOND_FORMAT.false (at ∙ e)) known
