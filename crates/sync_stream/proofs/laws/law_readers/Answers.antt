use Rattle.sync_stream.proofs.Came.{says_cut, says_faulty, says_end}
use Rattle.sync_stream.proofs.GoingOn.{asked_so, goes_on}
use Rattle.sync_stream.proofs.laws.law_readers.Goals as goal

pub returns : goal.returns
returns c = record { cut = says_cut; faulty = says_faulty; over = says_end; goes_on = goes_on; asked = asked_so }
