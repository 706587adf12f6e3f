use Rattle.sync_stream.proofs.Fronts.{cut}
use Rattle.sync_stream.proofs.Serving.{documents, goes_on, only_memory, store, worked}
use Rattle.sync_stream.proofs.laws.law_serving.Goals as goal

pub returns : goal.returns
returns c = record {
  goes_on = goes_on;
  cut = cut;
  documents = documents;
  store = store;
  only_memory = only_memory;
  worked = worked;
}
