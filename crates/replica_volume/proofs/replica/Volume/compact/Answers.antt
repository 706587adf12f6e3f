-- What each answer says.
use Rattle.std.proofs.Common.{◌∙◌}
use Rattle.replica_volume.specs.Volume.{devices}
use Rattle.replica_volume.proofs.Compacts.{looks_leave, no_longer, state_left}
use Rattle.replica_volume.proofs.replica.Volume.compact.Goals as goal

pub returns-in-Ok-clause-open : goal.returns-in-Ok-clause-open
returns-in-Ok-clause-open g c = record {
  ready = c.in-Ok.ensures.ready ∙ c.requires.«open».ready;
  image = c.in-Ok.ensures.image;
  nothing = c.in-Ok.ensures.staged ∙ c.requires.«open».nothing;
  keeps = λ t. (c.in-Ok.ensures.writes t).keeps;
}

pub returns-in-Ok-clause-compacts : goal.returns-in-Ok-clause-compacts
returns-in-Ok-clause-compacts g c t = (c.in-Ok.ensures.writes t).compacts

pub returns-in-Ok-clause-no_longer : goal.returns-in-Ok-clause-no_longer
returns-in-Ok-clause-no_longer g c t =
    no_longer g.D.Disk.known c.args.self.now
    (c.requires.«open».keeps t) g.D.Disk.tells c.write_anew.new.self c.in-Ok.sizes
    (c.in-Ok.ensures.writes t).compacts

pub returns-in-Ok-clause-any_image : goal.returns-in-Ok-clause-any_image
returns-in-Ok-clause-any_image g c t = (c.in-Ok.ensures.writes t).leaves

pub returns-in-Ok-clause-any_moment : goal.returns-in-Ok-clause-any_moment
returns-in-Ok-clause-any_moment g c t =
    state_left g.D.Disk.known c.args.self.now (c.requires.«open».keeps t) (devices g.D.Disk.known c.write_anew.new.self)
    (c.in-Ok.ensures.writes t).leaves

-- ---- the image cannot be damaged where contracts see it

pub returns-in-Err-Damaged-clause-open : goal.returns-in-Err-Damaged-clause-open
returns-in-Err-Damaged-clause-open g c = record {
  ready = c.in-Err-Damaged.ensures.ready ∙ c.requires.«open».ready;
  image = c.in-Err-Damaged.ensures.image;
  nothing = c.in-Err-Damaged.ensures.staged ∙ c.requires.«open».nothing;
  keeps = λ t. absurd (rw c.in-Err-Damaged.field-0-is at c.in-Err-Damaged.ensures.writes t);
}

pub returns-in-Err-Damaged-clause-sound : goal.returns-in-Err-Damaged-clause-sound
returns-in-Err-Damaged-clause-sound g c t disk place e =
    rw c.in-Err-Damaged.field-0-is at c.in-Err-Damaged.ensures.writes t

pub returns-in-Err-Damaged-clause-looks : goal.returns-in-Err-Damaged-clause-looks
returns-in-Err-Damaged-clause-looks g c t = absurd (rw c.in-Err-Damaged.field-0-is at c.in-Err-Damaged.ensures.writes t)

pub returns-in-Err-Damaged-clause-any_image : goal.returns-in-Err-Damaged-clause-any_image
returns-in-Err-Damaged-clause-any_image g c t =
    absurd (rw c.in-Err-Damaged.field-0-is at c.in-Err-Damaged.ensures.writes t)

pub returns-in-Err-Damaged-clause-any_moment : goal.returns-in-Err-Damaged-clause-any_moment
returns-in-Err-Damaged-clause-any_moment g c t =
    absurd (rw c.in-Err-Damaged.field-0-is at c.in-Err-Damaged.ensures.writes t)

-- ---- a disk failed

pub returns-in-Err-Disk-clause-any_image : goal.returns-in-Err-Disk-clause-any_image
returns-in-Err-Disk-clause-any_image g c t = rw c.in-Err-Disk.field-0-is at c.in-Err-Disk.ensures.writes t

pub returns-in-Err-Disk-clause-any_moment : goal.returns-in-Err-Disk-clause-any_moment
returns-in-Err-Disk-clause-any_moment g c t =
    state_left g.D.Disk.known c.args.self.now (c.requires.«open».keeps t) (devices g.D.Disk.known c.write_anew.new.self)
    (rw c.in-Err-Disk.field-0-is at c.in-Err-Disk.ensures.writes t)

-- ---- memory ran out

pub returns-in-Err-Memory-clause-open : goal.returns-in-Err-Memory-clause-open
returns-in-Err-Memory-clause-open g c = record {
  ready = c.in-Err-Memory.ensures.ready ∙ c.requires.«open».ready;
  image = c.in-Err-Memory.ensures.image;
  nothing = c.in-Err-Memory.ensures.staged ∙ c.requires.«open».nothing;
  keeps = λ t. (rw c.in-Err-Memory.field-0-is at c.in-Err-Memory.ensures.writes t).keeps;
}

pub returns-in-Err-Memory-clause-looks : goal.returns-in-Err-Memory-clause-looks
returns-in-Err-Memory-clause-looks g c t other =
    (rw c.in-Err-Memory.field-0-is at c.in-Err-Memory.ensures.writes t).looks

pub returns-in-Err-Memory-clause-any_image : goal.returns-in-Err-Memory-clause-any_image
returns-in-Err-Memory-clause-any_image g c t =
    looks_leave g.D.Disk.known c.args.self.now (c.requires.«open».keeps t)
    (devices g.D.Disk.known c.write_anew.new.self)
    (rw c.in-Err-Memory.field-0-is at c.in-Err-Memory.ensures.writes t).looks

pub returns-in-Err-Memory-clause-any_moment : goal.returns-in-Err-Memory-clause-any_moment
returns-in-Err-Memory-clause-any_moment g c t =
    let known = g.D.Disk.known in let old = c.args.self.now in
    state_left known old (c.requires.«open».keeps t) (devices known c.write_anew.new.self)
    (looks_leave known old (c.requires.«open».keeps t) (devices known c.write_anew.new.self)
    (rw c.in-Err-Memory.field-0-is at c.in-Err-Memory.ensures.writes t).looks)
