-- Where the abbreviated keys differ the ids do.
use Rattle.std.proofs.Common.{◌∙◌}
use Rattle.std.proofs.lemmas.Bool.{ne_eqb}
use Rattle.doc_table.specs.Slots.{pair_in}
use Rattle.doc_table.proofs.Keys.{apart_by_key}
use Rattle.doc_table.proofs.Slots.{of_pair}
use Rattle.doc_table.proofs.entry.Entry.is_of.Goals as goal

pub returns-else-self-abbreviated : goal.returns-else-self-abbreviated
returns-else-self-abbreviated g c =
    let own = c.self.inside in
    rw (← c.self.view_is)
    (ne_eqb own.abbreviated c.args.abbreviated c.if-self-abbreviated.false
    ∙ apart_by_key (pair_in own.slot.value own.taken).0 c.args.id.now own.abbreviated c.args.abbreviated
    (of_pair own.slot.value own.taken own.abbreviated own.abbreviates) c.requires c.if-self-abbreviated.false)
