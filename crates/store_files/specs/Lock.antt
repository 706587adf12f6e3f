-- The lock of a folder, and why a folder was not locked.
use Rattle.std.specs.Prelude.{◌≡◌, ◌⊎◌, Bool, is_some}
use Rattle.std.specs.IoError.{error_kind}
use Rattle.std.specs.declared.io.ErrorKind.TheVariants.{OutOfMemory, WouldBlock}
use Rattle.disk_model.specs.declared.file_fault.FileCall.TheVariants.{Lock}
use Rattle.disk_model.specs.declared.file_fault.FileFault.{FileFault}
use Rattle.store_files.specs.declared.lock.FolderLock.{FolderLock}

-- a folder is locked
abbrev pub holds : FolderLock → Bool
holds lock = is_some lock.folder

-- a lock was tried; another process holds it, or there is no memory
abbrev pub IsNotLocked : FileFault → Type 0
IsNotLocked fault = (fault.call ≡ Lock)
    × ((error_kind fault.error ≡ WouldBlock) ⊎ (error_kind fault.error ≡ OutOfMemory))
