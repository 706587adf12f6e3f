-- Nothing changes.
use Rattle.store_commands.proofs.InMemory.{kept_in_memory}
use Rattle.store_commands.proofs.memory.MemStoreStore.compact.Goals as goal

pub returns : goal.returns
returns c = kept_in_memory _ c.requires
