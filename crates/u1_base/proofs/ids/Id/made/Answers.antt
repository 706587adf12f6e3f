-- The made text is an id of every form.
use Rattle.u1_base.proofs.MadeIds.{IsId-new_id_text}
use Rattle.u1_base.proofs.ids.Id.made.Goals as goal

pub of_text-requires : goal.of_text-requires
of_text-requires g c = rw c.in_ok-text.ensures (IsId-new_id_text g.F.FormOf.form c.args.seed c.args.kind c.args.number)
