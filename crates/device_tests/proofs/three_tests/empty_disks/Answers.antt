-- Three disks that were made empty.
use Rattle.std.proofs.Common.{◌∙◌, ap}
use Rattle.disk_model.specs.Device.{File, Device, file_of}
use Rattle.disk_model.specs.MemDisk.{mem_known}
use Rattle.disk_model.specs.declared.memory.MemDisk.{MemDisk}
use Rattle.device_tests.proofs.three_tests.empty_disks.Goals as goal

-- the file of a disk in memory
abbrev file_in : MemDisk → File
file_in d = file_of (mem_known d)

pub returns : goal.returns
returns c = record {
  root = ap file_in c.new.ensures.root ∙ ap (λ (d : Device). file_of d) c.in_ok-root.ensures.known;
  left = ap file_in c.new.ensures.left ∙ ap (λ (d : Device). file_of d) c.in_ok-left.ensures.known;
  right = ap file_in c.new.ensures.right ∙ ap (λ (d : Device). file_of d) c.in_ok-right.ensures.known;
}
