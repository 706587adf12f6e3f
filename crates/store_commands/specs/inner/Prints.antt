-- Beside specs/Prints: words of private contracts and of proofs.
use Rattle.std.specs.Prelude.{ℕ, List, Result, Ok, Err}
use Rattle.u1_base.specs.Causes.{Rose}
use Rattle.link.specs.Streams.{Output}
use Rattle.command_lines.specs.declared.put.PrintFault.{PrintFault}
use Rattle.command_lines.specs.declared.put.PrintFault.TheVariants as print
use Rattle.store_commands.specs.Prints.{printed, PrintsWhole, PrintsFront}

-- the text was printed, and the output holds nothing back any more
abbrev pub PutsWhole : List ℕ → Output → Output → Result (Unit {0}) PrintFault → Type 0
PutsWhole text before after (Ok done) = PrintsWhole text before after
PutsWhole text before after (Err print.Sink) = PrintsFront text before after × Rose before.faults after.faults
PutsWhole text before after (Err print.Memory) = PrintsFront text before after
