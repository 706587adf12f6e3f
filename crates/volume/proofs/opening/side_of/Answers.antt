-- A second byte or not.
use Rattle.std.proofs.Common.{sym, arith}
use Rattle.volume.proofs.Opens.{one_names, long_names, some_one, some_long}
use Rattle.volume.proofs.opening.side_of.Goals as goal

pub returns-then-front-gt1-clause-names : goal.returns-then-front-gt1-clause-names
returns-then-front-gt1-clause-names c root e = long_names root c.args.front e (omega arith)

pub returns-then-front-gt1-clause-some : goal.returns-then-front-gt1-clause-some
returns-then-front-gt1-clause-some c = some_long

pub returns-clause-names : goal.returns-clause-names
returns-clause-names c root e = one_names root c.args.front c.named_by.result e (omega arith) (sym c.named_by.ensures)

pub returns-clause-some : goal.returns-clause-some
returns-clause-some c = some_one c.args.front.first c.named_by.result (sym c.named_by.ensures)
