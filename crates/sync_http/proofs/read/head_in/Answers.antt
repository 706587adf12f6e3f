use Rattle.sync_http.proofs.Hears.{front_cut}
use Rattle.sync_http.proofs.read.head_in.Goals as goal

pub returns : goal.returns
returns c = front_cut c.args.bytes.now c.min.result c.min.ensures
