use Rattle.sync_stream.proofs.Lengths.{read_behind, small_by_length, whole_is_long}
use Rattle.sync_stream.proofs.laws.law_lengths.Goals as goal

pub returns : goal.returns
returns c = record {
  told = small_by_length;
  info = small_by_length;
  kept = small_by_length;
  short = whole_is_long;
  behind = read_behind;
}
