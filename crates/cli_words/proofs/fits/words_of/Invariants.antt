use Rattle.std.proofs.Common.{◌≡◌, map, take}
use Rattle.std.specs.Prelude.{option_map}
use Rattle.cli_words.specs.inner.Form.{asked}
use Rattle.cli_words.proofs.fits.words_of.Given as goal

abbrev pub invariant-loop-operand : goal.invariant-loop-operand
invariant-loop-operand l = map (λ s. s.now) l.words.items
    ≡ asked (option_map (λ s. s.now) l.fn.option) (take l.operand-index l.operands)
