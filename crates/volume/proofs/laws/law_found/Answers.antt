use Rattle.volume.proofs.Finding.{found_is, is_found}
use Rattle.volume.proofs.laws.law_found.Goals as goal

pub returns : goal.returns
returns c files found = (found_is files found, is_found files found)
