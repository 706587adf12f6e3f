-- What has no fault is an id, whose alphabet is a part of ASCII, and so it is UTF-8.
use Rattle.u1_base.proofs.Alphabets.{IsUtf8-from_allowed}
use Rattle.u1_base.proofs.IdFacts.{id_facts}
use Rattle.u1_base.proofs.ids.Id.of_bytes.Goals as goal

pub from_utf8_unchecked-text-requires : goal.from_utf8_unchecked-text-requires
from_utf8_unchecked-text-requires g c =
    IsUtf8-from_allowed c.form.result c.args.bytes.now (id_facts c.form.result c.args.bytes.now c.in_default.ensures).2
