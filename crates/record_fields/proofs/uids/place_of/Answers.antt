-- What `==` finds is what the definition finds.
use Rattle.std.proofs.Common.{◌∙◌}
use Rattle.record_fields.proofs.Tables.{number_by_bytes}
use Rattle.record_fields.proofs.uids.place_of.Goals as goal

pub returns : goal.returns
returns c = c.first_same.ensures ∙ number_by_bytes c.args.uids.now c.args.uid.now
