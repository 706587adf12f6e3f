-- The value is that of the entry where the id stands.
use Rattle.std.proofs.Common.{sym, ◌∙◌, ap, Some}
use Rattle.doc_table.proofs.Places.{found, not_found, pair_at}
use Rattle.doc_table.proofs.table.Table.get.Goals as goal

pub returns-in-Ok : goal.returns-in-Ok
returns-in-Ok g c =
    let es = c.self.inside.entries.items in
    rw (← c.self.view_is)
    (ap Some c.value.ensures
    ∙ sym (found es c.args.id.now c.in-Ok.spot.place c.self.inside.sorted c.in-Ok.ensures.0 c.in-Ok.entry.now
    (pair_at es c.in-Ok.spot.place c.in-Ok.entry.now c.in-Ok.ensures.1).1))

pub returns-in-Err : goal.returns-in-Err
returns-in-Err g c =
    rw (← c.self.view_is) (sym
    (not_found c.self.inside.entries.items c.args.id.now _ c.self.inside.sorted c.in-Err.ensures))
