-- The next call's number is how many were noted.
use Rattle.std.proofs.Common.{◌↔◌, ℕ, List, Contains, subst}
use Rattle.std.specs.Prelude.{IsTrue}
use Rattle.disk_model.specs.MemDisk.{mem_calls}
use Rattle.disk_model.proofs.memory.MemDisk.begin.Goals as goal

pub returns-clause-told : goal.returns-clause-told
returns-clause-told c =
    subst (λ (numbers : List ℕ). IsTrue c.is_among.result
    ↔ Contains numbers (mem_calls c.args.self.now)) c.as_slice.ensures
    (subst (λ (n : ℕ). IsTrue c.is_among.result
    ↔ Contains c.as_slice.result.now n) c.calls-number.ensures c.is_among.ensures)
