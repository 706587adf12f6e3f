use Rattle.sync_stream.proofs.FirstFault.{first_fault}
use Rattle.sync_stream.proofs.laws.law_first_fault.Goals as goal

pub returns : goal.returns
returns c = first_fault
