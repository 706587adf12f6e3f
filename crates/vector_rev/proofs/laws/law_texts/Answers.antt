-- The parts of a clock's text are the texts of its entries, which tell the entries.
use Rattle.vector_rev.proofs.RoundTrip.{clock_text_no_fault, clock_text_apart}
use Rattle.vector_rev.proofs.laws.law_texts.Goals as goal

pub returns : goal.returns
returns c = record { no_fault = clock_text_no_fault; apart = clock_text_apart }
