-- Sessions at small states.
use Rattle.std.proofs.Common.{ℕ, refl}
use Rattle.sync_http.specs.declared.address.Address.{Address}
use Rattle.sync_phases.specs.Worked.{BodiesEnd, BothMade, Ends, InfosRefuse, PeerMerged, RepliesLost, StaysApart}
use Rattle.sync_phases.specs.Worked.{SyncsAsWorked}

both_made : (to : Address) (seed other : ℕ) → BothMade to seed other
both_made to seed other = record {
  ends = refl;
  source = refl;
  peer = refl;
  steps = refl;
  asks = refl;
  again = refl;
  asks_again = refl;
}

peer_merged : (to : Address) (seed other : ℕ) → PeerMerged to seed other
peer_merged to seed other = record { serves = refl; ends = refl }

replies_lost : (to : Address) (seed other : ℕ) → RepliesLost to seed other
replies_lost to seed other = record {
  lost = refl;
  crossed = refl;
  shown = refl;
  again = refl;
  source = refl;
  peer = refl;
}

stays_apart : (to : Address) (seed other : ℕ) → StaysApart to seed other
stays_apart to seed other = record { ends = refl; source = refl; peer = refl }

infos_refuse : (to : Address) (seed other : ℕ) → InfosRefuse to seed other
infos_refuse to seed other = record {
  behind = refl;
  another = refl;
  silent = refl;
  level = refl;
  for_another = refl;
  unread = refl;
  over = refl;
  short = refl;
  no_head = refl;
  bad_head = refl;
  refused = refl;
}

bodies_end : (to : Address) (seed other : ℕ) → BodiesEnd to seed other
bodies_end to seed other = record {
  after_one = refl;
  after_two = refl;
  cut = refl;
  cut_known = refl;
  back = refl;
  before_back = refl;
  no_head = refl;
  refused = refl;
}

ends : (to : Address) (seed other : ℕ) → Ends to seed other
ends to seed other = record {
  moves = refl;
  stays = refl;
  back = refl;
  tells = refl;
  written = refl;
  merges = refl;
  untold = refl;
  kept = refl;
  not_kept = refl;
  no_reply = refl;
}

pub worked : (to : Address) (seed other : ℕ) → SyncsAsWorked to seed other
worked to seed other = record {
  both_made = both_made to seed other;
  peer_merged = peer_merged to seed other;
  replies_lost = replies_lost to seed other;
  stays_apart = stays_apart to seed other;
  infos_refuse = infos_refuse to seed other;
  bodies_end = bodies_end to seed other;
  ends = ends to seed other;
}
