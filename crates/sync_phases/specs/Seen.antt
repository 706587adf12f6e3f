-- What a session holds between its phases.
use Rattle.std.specs.Prelude.{ℕ}
use Rattle.u1_base.specs.Places.{Place}
use Rattle.vector_rev.specs.Counts.{Uid}
use Rattle.sync_http.specs.declared.address.Address.{Address}

-- before the target is asked: its address, and the seed of the transaction ids
pub record Begun : Type 0 where
  pub to : Address
  pub seed : ℕ

-- after the target told its info: its uid, and the place of this replica's log up to which it has it
pub record Informed : Type 0 where
  pub to : Address
  pub seed : ℕ
  pub target : Uid
  pub told : Place

-- after an exchange: how long this log was when the documents were sent, and how many were; how many of those that came
-- back count as taken; and the end of the target's log
pub record Exchanged : Type 0 where
  pub to : Address
  pub seed : ℕ
  pub target : Uid
  pub base : ℕ
  pub sent : ℕ
  pub taken : ℕ
  pub at : Place
