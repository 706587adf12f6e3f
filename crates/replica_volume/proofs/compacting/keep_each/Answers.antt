-- One body more was read, or has no reading; or all were read.
use Rattle.std.proofs.Common.{[], ◌∷◌, ◌++◌}
use Rattle.std.proofs.lemmas.Result.{err_from_is_err_and}
use Rattle.replica_state.specs.Held.{meaning}
use Rattle.replica_volume.proofs.Compacts.{kept_all, kept_err, kept_more}
use Rattle.replica_volume.proofs.compacting.keep_each.Goals as goal

pub loop-entry-init : goal.loop-entry-init
loop-entry-init c = ([], c.start-place.ensures, c.requires)

pub returns-in_err-keep_one : goal.returns-in_err-keep_one
returns-in_err-keep_one c =
    let i = c.loop-entry.invariant in let entry = c.in-Some.entry in
    let why = err_from_is_err_and c.from_residual.result c.from_residual.ensures.1 in
    rw (why.1, why.2)
    (kept_err (meaning c.args.state.now) c.args.image.now i.0 entry.body.now c.loop-entry.kept c.keep_one.new.kept
    c.loop-entry.place entry.next entry.place c.format.result c.in_err-keep_one.field-0.0
    i.1 (c.in-Some.ensures.meets i.0 i.1) i.2 c.format.ensures c.in-Some.ensures.within.body
    c.in_err-keep_one.ensures)

pub loop-entry-preserved : goal.loop-entry-preserved
loop-entry-preserved c =
    let i = c.loop-entry.invariant in let entry = c.in-Some.entry in (
      i.0 ++ entry.body.now ∷ [],
      c.in-Some.ensures.meets i.0 i.1,
      kept_more (meaning c.args.state.now) c.args.image.now i.0 entry.body.now c.loop-entry.kept c.keep_one.new.kept
          c.format.result i.2 c.format.ensures c.in_ok-keep_one.ensures,
    )

pub returns : goal.returns
returns c =
    let i = c.loop-entry.invariant in
    kept_all (meaning c.args.state.now) c.args.image.now i.0 c.loop-entry.kept (c.in_default.ensures.meets i.0 i.1) i.2
