-- Line by line of the table.
use Rattle.conflicts.proofs.LeftByReceipts.{law}
use Rattle.conflicts.proofs.laws.law_receipts.Goals as goal

pub returns : goal.returns
returns c = law
