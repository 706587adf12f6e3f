-- Both writes were made, or the disk failed on the way.
use Rattle.std.proofs.Common.{◌-◌, ◌+◌, ℕ, ◌∙◌, ap}
use Rattle.disk_model.specs.Device.{file_of}
use Rattle.journal.specs.Entries.{extended}
use Rattle.journal.specs.Journal.{Extent}
use Rattle.journal.proofs.Staged.{holds_all, leaves_all}
use Rattle.journal.proofs.appending.Journal.append_all.Goals as goal

pub returns-in-Ok-clause-ok : goal.returns-in-Ok-clause-ok
returns-in-Ok-clause-ok g c t more s format head bodies h =
    let known = g.D.Disk.known in let spelled = c.args.entries.now in let inside = c.self.inside in
    let with_length : ℕ → Extent = λ n. record { length = inside.length + n; limit = inside.limit } in
    holds_all c.args.self.now (with_length c.len.result) format head bodies more (file_of (known c.args.disk.now))
    (file_of (known c.add_behind.new.disk)) c.as_slice.result.now spelled (inside.length - 1) c.as_slice.ensures
    (ap (λ (j : Extent). j.length - 1) c.self.view_is)
    (ap with_length c.len.ensures ∙ ap (λ (j : Extent). extended j spelled) c.self.view_is) h s c.requires.some
    (c.in-Ok.ensures.written t) (c.in-Ok.ensures.durable t)

pub returns-in-Ok-clause-any_moment : goal.returns-in-Ok-clause-any_moment
returns-in-Ok-clause-any_moment g c t =
    let known = g.D.Disk.known in
    leaves_all (known c.args.disk.now) (known c.add_behind.new.disk) c.args.self.now c.as_slice.result.now
    c.args.entries.now (c.self.inside.length - 1) c.as_slice.ensures (ap (λ (j : Extent). j.length - 1) c.self.view_is)
    c.requires.some (c.in-Ok.ensures.any_moment t)

pub returns-in-Err-clause-any_moment : goal.returns-in-Err-clause-any_moment
returns-in-Err-clause-any_moment g c t =
    let known = g.D.Disk.known in
    leaves_all (known c.args.disk.now) (known c.add_behind.new.disk) c.args.self.now c.as_slice.result.now
    c.args.entries.now (c.self.inside.length - 1) c.as_slice.ensures (ap (λ (j : Extent). j.length - 1) c.self.view_is)
    c.requires.some (c.in-Err.ensures.any_moment t)
