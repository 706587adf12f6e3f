-- What stands is opened with nothing staged.
use Rattle.store_commands.proofs.InMemory.{opened_by}
use Rattle.store_commands.proofs.memory.MemStoreStore.open.Goals as goal

pub returns-in-Some-clause-ok : goal.returns-in-Some-clause-ok
returns-in-Some-clause-ok c =
    opened_by c.args.self c.in-Some.opened c.with_nothing_staged.result c.in-Some.is
    (rw c.in-Some.is at c.with_nothing_staged.ensures)
