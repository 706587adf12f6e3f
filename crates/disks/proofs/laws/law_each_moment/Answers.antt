use Rattle.std.proofs.Common.{◌≡◌, ℕ, List, true}
use Rattle.disks.specs.declared.trio.Trio.{Trio}
use Rattle.disks.proofs.Runs.{at_moment}
use Rattle.disks.proofs.laws.law_each_moment.Goals as goal

pub returns : goal.returns
returns c old new test run k low images i = at_moment old new
    (λ (three : Trio (List ℕ)). test three ≡ true) run k low images i
