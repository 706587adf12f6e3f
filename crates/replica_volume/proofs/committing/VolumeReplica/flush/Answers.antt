-- Nothing was staged; or the entries were added, or a disk failed on the way.
use Rattle.std.proofs.Common.{inl, length, refl, ap, arith}
use Rattle.disks.specs.Disks.{disks_known}
use Rattle.journal.specs.Journal.{Extent}
use Rattle.replica_core.specs.Replica.{StandsAsEither, stored_as, stored_in}
use Rattle.replica_volume.specs.Settled.{opens_kept}
use Rattle.replica_volume.specs.Volume.{devices, volume_known}
use Rattle.replica_volume.proofs.Commits.{flush_holds, flush_keeps, flush_leaves, flush_opens, needs_same, no_call_adds}
use Rattle.replica_volume.proofs.Commits.{no_call_leaves, none_stands, run_adds, still_held}
use Rattle.replica_volume.proofs.committing.VolumeReplica.flush.Goals as goal

-- ---- nothing was staged

pub returns-then-is_empty-clause-ok : goal.returns-then-is_empty-clause-ok
returns-then-is_empty-clause-ok g c =
    let known = g.D.Disk.known in let tells = g.D.Disk.tells in let old = c.args.self.now in
    let is = c.requires.ready.1 in let nothing = c.is_empty.ensures.0 c.if-is_empty.true in record {
      ready = is.ready;
      image = is.image;
      nothing = nothing;
      keeps = λ t.
          flush_keeps tells known old c.requires.ready.0 (is.keeps t) old refl refl refl
          (none_stands known old nothing);
    }

pub returns-then-is_empty-clause-any_moment : goal.returns-then-is_empty-clause-any_moment
returns-then-is_empty-clause-any_moment g c kept is =
    let known = g.D.Disk.known in let tells = g.D.Disk.tells in let old = c.args.self.now in
    no_call_adds tells known old old (StandsAsEither (stored_as (volume_known tells known old) kept)
    (stored_in (volume_known tells known old))) refl
    (λ t files images. inl (opens_kept tells known old kept (is.keeps t) files images))

pub returns-then-is_empty-clause-history : goal.returns-then-is_empty-clause-history
returns-then-is_empty-clause-history g c t later s =
    let known = g.D.Disk.known in let tells = g.D.Disk.tells in let old = c.args.self.now in
    flush_holds tells known old later s old (none_stands known old (c.is_empty.ensures.0 c.if-is_empty.true))

pub returns-then-is_empty-clause-any_history : goal.returns-then-is_empty-clause-any_history
returns-then-is_empty-clause-any_history g c t later s =
    let known = g.D.Disk.known in let old = c.args.self.now in
    no_call_leaves known old old _ refl
    (λ files images. inl (still_held known old s.head s.bodies s.stands files images))

-- ---- all of it was added

pub returns-in-Ok-clause-ok : goal.returns-in-Ok-clause-ok
returns-in-Ok-clause-ok g c =
    let known = g.D.Disk.known in let tells = g.D.Disk.tells in let old = c.args.self.now in
    let is = c.requires.ready.1 in record {
      ready = is.ready;
      image = is.image;
      nothing = c.clear.ensures;
      keeps = λ t.
          flush_keeps tells known old c.requires.ready.0 (is.keeps t)
          (record old {
            disks = c.append_all_on.new.disks;
            journal = c.append_all_on.new.journal;
            staged = c.clear.new.self;
          }) refl refl refl (c.in-Ok.ensures.ok t);
    }

pub returns-in-Ok-clause-need : goal.returns-in-Ok-clause-need
returns-in-Ok-clause-need g c =
    let known = g.D.Disk.known in let tells = g.D.Disk.tells in let old = c.args.self.now in
    needs_same tells known old (record old {
      disks = c.append_all_on.new.disks;
      journal = c.append_all_on.new.journal;
      staged = c.clear.new.self;
    }) (omega (arith, ap (λ (j : Extent). j.length) c.in-Ok.ensures.extent, ap length c.clear.ensures)) refl

pub returns-in-Ok-clause-any_moment : goal.returns-in-Ok-clause-any_moment
returns-in-Ok-clause-any_moment g c kept is =
    let known = g.D.Disk.known in let tells = g.D.Disk.tells in let old = c.args.self.now in
    let new = record old {
      disks = c.append_all_on.new.disks;
      journal = c.append_all_on.new.journal;
      staged = c.clear.new.self;
    } in
    run_adds tells known old new (StandsAsEither (stored_as (volume_known tells known old) kept)
    (stored_in (volume_known tells known old)))
    (λ t. flush_opens tells known old kept (is.keeps t) (devices known new) (c.append_all_on.ensures.any_moment t))

pub returns-in-Ok-clause-history : goal.returns-in-Ok-clause-history
returns-in-Ok-clause-history g c t later s =
    let known = g.D.Disk.known in let tells = g.D.Disk.tells in let old = c.args.self.now in
    let new = record old {
      disks = c.append_all_on.new.disks;
      journal = c.append_all_on.new.journal;
      staged = c.clear.new.self;
    } in
    flush_holds tells known old later s new (c.in-Ok.ensures.ok t)

pub returns-in-Ok-clause-any_history : goal.returns-in-Ok-clause-any_history
returns-in-Ok-clause-any_history g c t later s =
    let known = g.D.Disk.known in let tells = g.D.Disk.tells in let old = c.args.self.now in
    let new = record old { disks = c.append_all_on.new.disks } in
    flush_leaves tells known old later s (devices known new) (c.append_all_on.ensures.any_moment t)

-- ---- a disk failed

pub returns-in-Err-clause-any_moment : goal.returns-in-Err-clause-any_moment
returns-in-Err-clause-any_moment g c kept is =
    let known = g.D.Disk.known in let tells = g.D.Disk.tells in let old = c.args.self.now in
    run_adds tells known old _ (StandsAsEither (stored_as (volume_known tells known old) kept)
    (stored_in (volume_known tells known old)))
    (λ t. flush_opens tells known old kept (is.keeps t) (disks_known known c.append_all_on.new.disks)
    (c.append_all_on.ensures.any_moment t))

pub returns-in-Err-clause-any_history : goal.returns-in-Err-clause-any_history
returns-in-Err-clause-any_history g c t later s =
    let known = g.D.Disk.known in let tells = g.D.Disk.tells in let old = c.args.self.now in
    let new = record old { disks = c.append_all_on.new.disks } in
    flush_leaves tells known old later s (devices known new) (c.append_all_on.ensures.any_moment t)
