-- Each both ways.
use Rattle.translog.proofs.PlaceTests.{ends, end_fits, fits, answered, goes_on, goes_back}
use Rattle.translog.proofs.laws.law_tests.Goals as goal

pub returns : goal.returns
returns c = record { end = ends; end_fits = end_fits; fits = fits; answer = answered; on = goes_on; back = goes_back }
