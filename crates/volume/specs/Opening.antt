-- What opening says of the files that it read.
use Rattle.std.specs.Prelude.{◌≡◌, ℕ, List, Result, Ok, Err}
use Rattle.disks.specs.declared.trio.Trio.{Trio}
use Rattle.journal.specs.Journal.{IsExtent}
use Rattle.volume.specs.Store.{found_of}
use Rattle.volume.specs.Store.FoundImages.{Blank, Damaged, Stands}
use Rattle.volume.specs.declared.opening.OpenedImages.{OpenedImages}
use Rattle.disks.specs.declared.fault.OpenFault.{OpenFault}
use Rattle.disks.specs.declared.fault.OpenFault.TheVariants as fault

-- what was opened, or the fault that was named, is what is found of the files; the other faults say nothing of them
abbrev pub OpensStore : Trio (List ℕ) → Result OpenedImages OpenFault → Type 0
OpensStore files (Ok opened) =
    (found_of files ≡ Stands opened.side opened.image.format opened.image.header opened.image.bodies)
    × IsExtent opened.image.format opened.image.header opened.image.bodies opened.image.journal
OpensStore files (Err fault.Blank) = found_of files ≡ Blank
OpensStore files (Err (fault.Damaged disk place)) = found_of files ≡ Damaged disk place
OpensStore files (Err fault.Disk) = Unit {0}
OpensStore files (Err fault.Memory) = Unit {0}
