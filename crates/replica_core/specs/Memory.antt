-- What is known of a replica in memory: it needs no bytes, never fails but for memory, and leaves nothing after a
-- crash.
use Rattle.std.specs.Prelude.{true}
use Rattle.replica_core.specs.Replica.{Known}
use Rattle.replica_core.specs.declared.memory.MemReplica.{MemReplica}

abbrev pub known_in_memory : MemReplica → Known
known_in_memory r = record { state = r.state; need = λ steps step. 0; limit = 0; faults = 0; moment = 0; opened = true }

abbrev pub always : Type 0
always = Unit {0}

abbrev pub never : Type 0
never = ⊥
