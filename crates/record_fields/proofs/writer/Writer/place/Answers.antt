-- Above generation 0 the transaction id stands behind the generation.
use Rattle.std.proofs.Common.{◌≡◌, ap, sym, subst, ◌∙◌, OnOk}
use Rattle.u1_base.specs.Places.{Place}
use Rattle.u1_base.specs.declared.ids.Form.TheVariants.{Transaction}
use Rattle.record_fields.specs.Plain.{id}
use Rattle.record_fields.specs.Writing.{Written, with_field}
use Rattle.record_fields.proofs.Writings.{place_some}
use Rattle.record_fields.proofs.writer.Writer.place.Goals as goal

pub returns-in-Some-clause-wrote : goal.returns-in-Some-clause-wrote
returns-in-Some-clause-wrote c =
    let p : Place = record { generation = c.value.inside.generation; trans = c.value.inside.trans } in
    rw (← c.value.view_is)
    (subst (λ (w : Written). OnOk c.id.result (c.id.new.self ≡ w))
    (ap (with_field (id Transaction) c.in-Some.trans) c.in_ok-long_number.ensures
    ∙ sym (place_some p c.args.self.now c.in-Some.trans c.in-Some.is)) c.id.ensures.wrote)
