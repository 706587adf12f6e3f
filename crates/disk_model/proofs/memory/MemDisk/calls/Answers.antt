-- There is a moment before each call.
use Rattle.std.proofs.Common.{◌∙◌, sym}
use Rattle.disk_model.specs.Disk.{settled}
use Rattle.disk_model.specs.Log.{before}
use Rattle.disk_model.proofs.Histories.{length-moments}
use Rattle.disk_model.proofs.memory.MemDisk.calls.Goals as goal

pub returns : goal.returns
returns c =
    let log = c.args.self.now.log.items in let bytes = c.args.self.now.bytes.items in
    c.len.ensures ∙ c.args.self.now.log.ok.0 ∙ sym (length-moments (settled (before log bytes)) log bytes)
