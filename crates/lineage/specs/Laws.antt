-- What holds of the histories of any replicas.
use Rattle.std.specs.Prelude.{[]}
use Rattle.vector_rev.specs.Counts.{Uid}
use Rattle.conflicts.specs.State.{Step}
use Rattle.lineage.specs.Histories.{Histories, stepped, Lawful, Descends, Ancestry, Cover}

pub record LineageIsKept : Type 0 where
  pub begins : Descends (λ u. [])
  pub grows : (of : Histories) (u : Uid) (x : Step) → Lawful of u x → Descends of → Descends (stepped of u x)
  pub ancestry : (of : Histories) → Descends of → Ancestry of
  pub cover : (of : Histories) → Descends of → Cover of
