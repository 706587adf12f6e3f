-- What the faults of a disk and of a file print.
use Rattle.std.specs.Prelude.{ℕ, List, codes, Option, Some, None}
use Rattle.std.specs.Fmt.{◌++?◌}
use Rattle.std.specs.IoError.{error_kind}
use Rattle.std.specs.declared.io.ErrorKind.{ErrorKind}
use Rattle.std.specs.declared.io.ErrorKind.TheVariants as kind
use Rattle.disk_model.specs.declared.file_fault.FileCall.{FileCall}
use Rattle.disk_model.specs.declared.file_fault.FileCall.TheVariants.{Open, Lock, Make, MakeFolder, Read}
use Rattle.disk_model.specs.declared.file_fault.FileCall.TheVariants.{Write, Cut, Sync, SyncName}
use Rattle.disk_model.specs.declared.file_fault.FileFault.{FileFault}

-- what was tried
abbrev pub tried_text : FileCall → List ℕ
tried_text Open = codes "it cannot be opened: "
tried_text Lock = codes "it cannot be locked: "
tried_text Make = codes "it cannot be made: "
tried_text MakeFolder = codes "its folder cannot be made: "
tried_text Read = codes "it cannot be read: "
tried_text Write = codes "it cannot be written: "
tried_text Cut = codes "it cannot be cut: "
tried_text Sync = codes "it cannot be synced: "
tried_text SyncName = codes "its name cannot be synced: "

-- why, where there are plainer words than the system's
abbrev pub reason_text : FileCall → ErrorKind → Option (List ℕ)
reason_text Lock kind.WouldBlock = Some (codes "another process holds the store")
reason_text _ kind.NotFound = Some (codes "no such folder")
reason_text _ kind.ReadOnlyFilesystem = Some (codes "read-only file system")
reason_text _ kind.StorageFull = Some (codes "no room")
reason_text _ kind.OutOfMemory = Some (codes "no memory")
reason_text _ _ = None

-- nothing is promised of the system's own words
abbrev pub file_fault_text : FileFault → Option (List ℕ)
file_fault_text fault = Some (tried_text fault.call) ++? reason_text fault.call (error_kind fault.error)
