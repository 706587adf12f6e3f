use Rattle.std.proofs.Common.{sym}
use Rattle.record_fields.proofs.EntriesRead.{these_entries}
use Rattle.record_fields.proofs.read.clock_of.Goals as goal

pub returns-in-Ok : goal.returns-in-Ok
returns-in-Ok c = sym (these_entries c.in-Ok.clock c.args.entries c.in-Ok.ensures)
