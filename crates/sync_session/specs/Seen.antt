-- What a session holds once documents were exchanged, as the definitions see it.
use Rattle.sync_phases.specs.Seen.{Exchanged}
use Rattle.sync_session.specs.declared.session.Course.{Course}

abbrev pub exchanged_in : Course → Exchanged
exchanged_in c = record {
  to = c.to;
  seed = c.seed;
  target = c.target;
  base = c.base;
  sent = c.sent;
  taken = c.taken;
  at = c.at;
}
