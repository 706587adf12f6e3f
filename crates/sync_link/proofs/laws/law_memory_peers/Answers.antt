use Rattle.sync_link.proofs.InMemory.{never}
use Rattle.sync_link.proofs.laws.law_memory_peers.Goals as goal

pub returns : goal.returns
returns c = never
