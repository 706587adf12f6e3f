-- The number of the first text, or 0 where there is none.
use Rattle.std.proofs.Common.{◌≡◌, ◌<◌, length, arith, ◌∙◌}
use Rattle.std.proofs.lemmas.Bool.Decides.{nat_tests}
use Rattle.index_tables.proofs.Deciding.{abbreviated_first, abbreviated_none}
use Rattle.index_tables.proofs.abbreviated.abbreviated.Goals as goal

pub returns-then-is_empty : goal.returns-then-is_empty
returns-then-is_empty c =
    let none : length c.args.key.now ≡ 0 = grind (arith, nat_tests, c.if-is_empty.true, c.is_empty.ensures) in
    abbreviated_none c.args.key.now none

pub returns : goal.returns
returns c =
    let some : 0 < length c.args.key.now = grind (arith, nat_tests, c.if-is_empty.false, c.is_empty.ensures) in
    abbreviated_first c.args.key.now c.index-key-0.result c.as_bytes.result.now c.abbreviated_key.result some
    c.index-key-0.is (c.as_bytes.ensures.value ∙ c.as_str.ensures) c.abbreviated_key.ensures.value
