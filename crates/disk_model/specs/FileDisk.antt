-- What is known of a file: its counts, the path that it was given, and why its last failed call failed.
use Rattle.std.specs.Prelude.{ℕ, List, Option}
use Rattle.disk_model.specs.Device.{Device, opaque}
use Rattle.disk_model.specs.declared.file.FileDisk.{FileDisk}
use Rattle.disk_model.specs.declared.file_fault.FileFault.{FileFault}

abbrev pub file_known : {R F A : Type 0} → FileDisk R F A → Device
file_known d = opaque d.made d.faults

abbrev pub file_path : {R F A : Type 0} → FileDisk R F A → List ℕ
file_path d = d.real.path

abbrev pub file_fault : {R F A : Type 0} → FileDisk R F A → Option FileFault
file_fault d = d.fault
