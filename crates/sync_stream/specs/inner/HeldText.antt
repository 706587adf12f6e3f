-- Beside specs/HeldText: words of private contracts and of proofs.
use Rattle.std.specs.Prelude.{◌≡◌, ℕ, ◌+◌, false, List, [], ◌++◌, Option, Some}
use Rattle.std.specs.Prelude.{None}
use Rattle.std.specs.Prelude.{Result, Ok, Err}
use Rattle.sync_stream.specs.Lines.{ended, IsUnbroken}
use Rattle.sync_stream.specs.Stream.{IsFaultyAt, IsGood, counted, is_long_rest, said_by}
use Rattle.sync_stream.specs.declared.line.Line.{Line}
use Rattle.sync_stream.specs.declared.line.Passed.{Passed}
use Rattle.sync_stream.specs.declared.fault.LineFault.{LineFault}
use Rattle.sync_stream.specs.declared.fault.StreamFault.TheVariants as fault
use Rattle.sync_stream.specs.HeldText.{HeldText}

-- what follows a call that passes one line, by its answer
abbrev pub PassesOne : HeldText → HeldText → Result (Option Passed) LineFault → Type 0
PassesOne old new (Ok None) = (new ≡ old) × IsUnbroken old.rest × (is_long_rest old.rest ≡ false)
PassesOne old new (Ok (Some passed)) =
    (line : List ℕ) × (old.rest ≡ ended line ++ new.rest) × IsUnbroken line × IsGood old.kind old.place line passed
    × (new ≡ record old { number = counted (old.number + 1); place = passed.place; rest = new.rest })
PassesOne old new (Err fault) =
    (new ≡ record old { fault = Some fault }) × IsFaultyAt old.kind old.number old.place old.rest fault

abbrev pub lines_passed : Result (Option Passed) LineFault → List Line
lines_passed (Ok None) = []
lines_passed (Ok (Some passed)) = said_by passed.line
lines_passed (Err fault) = []
