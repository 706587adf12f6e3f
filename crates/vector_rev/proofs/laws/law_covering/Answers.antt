-- Covering goes by counters.
use Rattle.vector_rev.proofs.ClockLaws.{Covers-itself, Covers-trans, Covers-both, one_answer}
use Rattle.vector_rev.proofs.laws.law_covering.Goals as goal

pub returns : goal.returns
returns c = record { itself = Covers-itself; through = Covers-trans; both = Covers-both; one_answer = one_answer }
