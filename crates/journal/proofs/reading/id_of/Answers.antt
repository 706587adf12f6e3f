-- A text of the field that is no id leaves no id there.
use Rattle.journal.proofs.Fields.{id_short, id_utf8, other_id, none_no_id}
use Rattle.journal.proofs.reading.id_of.Goals as goal

pub returns-in_default : goal.returns-in_default
returns-in_default g c id is b =
    c.in_default.ensures id (id_short g.F.FormOf.form id is) (id_utf8 g.F.FormOf.form id is) b

pub returns-in-Err-Empty : goal.returns-in-Err-Empty
returns-in-Err-Empty g c id is b =
    let form = g.F.FormOf.form in
    none_no_id form c.in-Some.text.now (c.in-Err-Empty.ensures.1 (λ e. absurd (cc (e, c.in-Err-Empty.field-0-is))))
    (other_id form c.in-Some.text.now id c.args.bytes.now c.in-Some.ensures.0 c.in-Some.ensures.1 is b)

pub returns-in-Err-TooLong : goal.returns-in-Err-TooLong
returns-in-Err-TooLong g c id is b =
    let form = g.F.FormOf.form in
    none_no_id form c.in-Some.text.now (c.in-Err-TooLong.ensures.1 (λ e. absurd (cc (e, c.in-Err-TooLong.field-0-is))))
    (other_id form c.in-Some.text.now id c.args.bytes.now c.in-Some.ensures.0 c.in-Some.ensures.1 is b)

pub returns-in-Err-BadByte : goal.returns-in-Err-BadByte
returns-in-Err-BadByte g c id is b =
    let form = g.F.FormOf.form in
    none_no_id form c.in-Some.text.now (c.in-Err-BadByte.ensures.1 (λ e. absurd (cc (e, c.in-Err-BadByte.field-0-is))))
    (other_id form c.in-Some.text.now id c.args.bytes.now c.in-Some.ensures.0 c.in-Some.ensures.1 is b)
