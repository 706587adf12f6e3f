use Rattle.sync_http.proofs.BodiesBack.{told_back, info_back}
use Rattle.sync_http.proofs.laws.law_bodies.Goals as goal

pub returns : goal.returns
returns c = record { told = told_back; info = info_back }
