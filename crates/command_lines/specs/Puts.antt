-- What printing a text leaves of an output.
use Rattle.std.specs.Prelude.{ℕ, ◌≤◌, List, Result, Ok, Err}
use Rattle.std.specs.Io.KnownBytes.{Appends}
use Rattle.u1_base.specs.Causes.{Rose}
use Rattle.link.specs.Streams.{AppendsFront, Output}
use Rattle.command_lines.specs.declared.put.PrintFault.{PrintFault}
use Rattle.command_lines.specs.declared.put.PrintFault.TheVariants.{Sink, Memory}

-- The whole text was taken; or the output failed, or memory ran out, and a front of it was taken. The output fails only
-- where its count rose.
abbrev pub Puts : List ℕ → Output → Output → Result (Unit {0}) PrintFault → Type 0
Puts text before after (Ok done) = Appends before.taken after.taken text × (before.faults ≤ after.faults)
Puts text before after (Err Sink) =
    AppendsFront before.taken after.taken text × (before.faults ≤ after.faults) × Rose before.faults after.faults
Puts text before after (Err Memory) = AppendsFront before.taken after.taken text × (before.faults ≤ after.faults)
