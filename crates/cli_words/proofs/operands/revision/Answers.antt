use Rattle.std.proofs.Common.{◌≡◌, ◌∙◌, Some, sym, ap}
use Rattle.vector_rev.specs.ClockText.{clock_in}
use Rattle.cli_words.specs.Operands.{taken_at}
use Rattle.cli_words.proofs.operands.revision.Goals as goal

pub returns-in-Ok : goal.returns-in-Ok
returns-in-Ok c =
    let reads : clock_in c.args.word.now.1 ≡ Some c.in-Ok.rev = ap clock_in (sym c.text.ensures) ∙ c.in-Ok.ensures in
    ap (taken_at c.args.word.now.0) (sym reads)
