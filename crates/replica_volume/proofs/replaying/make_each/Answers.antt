-- One body more was made a step, or has no reading; or all were made steps.
use Rattle.std.proofs.Common.{[], ◌∷◌, ◌++◌}
use Rattle.std.proofs.lemmas.Result.{err_from_is_err_and}
use Rattle.replica_volume.proofs.Replay.{made_all, made_err, made_more}
use Rattle.replica_volume.proofs.replaying.make_each.Goals as goal

pub loop-entry-init : goal.loop-entry-init
loop-entry-init c = ([], c.start-place.ensures, c.requires)

pub returns-in_err-make_one : goal.returns-in_err-make_one
returns-in_err-make_one c =
    let i = c.loop-entry.invariant in let entry = c.in-Some.entry in
    let why = err_from_is_err_and c.from_residual.result c.from_residual.ensures.1 in
    rw (why.1, why.2)
    (made_err c.args.image.now i.0 entry.body.now c.loop-entry.made c.make_one.new.made c.loop-entry.place entry.next
    entry.place c.format.result c.in_err-make_one.field-0.0
    i.1 (c.in-Some.ensures.meets i.0 i.1) i.2 c.format.ensures c.in-Some.ensures.within.body
    c.in_err-make_one.ensures)

pub loop-entry-preserved : goal.loop-entry-preserved
loop-entry-preserved c =
    let i = c.loop-entry.invariant in let entry = c.in-Some.entry in (
      i.0 ++ entry.body.now ∷ [],
      c.in-Some.ensures.meets i.0 i.1,
      made_more c.args.image.now i.0 entry.body.now c.loop-entry.made c.make_one.new.made c.format.result i.2
          c.format.ensures c.in_ok-make_one.ensures,
    )

pub returns : goal.returns
returns c =
    let i = c.loop-entry.invariant in
    made_all c.args.image.now i.0 c.loop-entry.made (c.in_default.ensures.meets i.0 i.1) i.2
