-- The clock that counts the own uid once.
use Rattle.conflicts.proofs.MadeClocks.{first_result}
use Rattle.conflicts.proofs.made.first_clock.Goals as goal

pub returns : goal.returns
returns c = first_result c.args.own.now c.first.result c.first.ensures
