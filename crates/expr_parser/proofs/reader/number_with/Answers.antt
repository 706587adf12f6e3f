-- The tests are those of the definition.
use Rattle.std.proofs.Common.{arith}
use Rattle.expr_parser.proofs.Classes.{goes_on-outside, goes_on-too_far, goes_on-true}
use Rattle.expr_parser.proofs.reader.number_with.Goals as goal

pub returns-then-digit-lt48 : goal.returns-then-digit-lt48
returns-then-digit-lt48 c = goes_on-outside c.args.number c.args.digit c.then-digit-lt48.either

pub returns-then-longer-lt-LEAST_WIDTH : goal.returns-then-longer-lt-LEAST_WIDTH
returns-then-longer-lt-LEAST_WIDTH c =
    goes_on-too_far c.args.number c.args.digit c.from.result c.from.ensures c.then-longer-lt-LEAST_WIDTH.either

pub returns : goal.returns
returns c =
    let same = c.from.ensures in
    (goes_on-true c.args.number c.args.digit (omega arith) (omega arith) (omega arith) (omega arith), omega arith)
