-- What opening says of the bytes that it read.
use Rattle.std.specs.Prelude.{ℕ, List, Result, Ok, Err}
use Rattle.journal.specs.Image.{ReadsAs}
use Rattle.journal.specs.Damage.{DamagedAt}
use Rattle.journal.specs.Journal.{IsExtent}
use Rattle.journal.specs.Reader.{Reading}
use Rattle.journal.specs.Reader.Reading.{Damaged, Stands}
use Rattle.journal.specs.declared.opening.Opened.{Opened}
use Rattle.journal.specs.declared.opening.OpenFault.{OpenFault}
use Rattle.journal.specs.declared.opening.OpenFault.TheVariants as fault

-- what is found of a file: what it reads as, or the place where it is damaged
abbrev pub Finds : List ℕ → Reading → Type 0
Finds file (Damaged place) = DamagedAt place file
Finds file (Stands format head bodies) = ReadsAs format head bodies file

-- what was opened, or the damage that was named, is what is found of the bytes; the other faults say nothing of them
abbrev pub Opens : List ℕ → Result Opened OpenFault → Type 0
Opens stored (Ok opened) =
    Finds stored (Stands opened.format opened.header opened.bodies)
    × IsExtent opened.format opened.header opened.bodies opened.journal
Opens stored (Err (fault.Damaged place)) = Finds stored (Damaged place)
Opens stored (Err fault.Disk) = Unit {0}
Opens stored (Err fault.Memory) = Unit {0}
