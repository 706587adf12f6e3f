-- One body more was spelled, or all were.
use Rattle.std.proofs.Common.{[], ◌∷◌, ◌++◌, refl}
use Rattle.record_codec.specs.Bodies.{first_step_in}
use Rattle.replica_volume.proofs.Moves.{not_bad, respelled_all, respelled_more, respelled_none}
use Rattle.replica_volume.proofs.moving.respell_each.Goals as goal

pub spell_again-requires : goal.spell_again-requires
spell_again-requires c =
    let i = c.loop-entry.invariant in let entry = c.in-Some.entry in let all = c.requires.says in
    not_bad c.args.image.now i.0 entry.body.now entry.next c.loop-entry.spelled all.0 all.1 c.requires.first all.2
    (c.in-Some.ensures.meets i.0 i.1) i.2

pub loop-entry-init : goal.loop-entry-init
loop-entry-init c = (
  [],
  c.start-place.ensures,
  respelled_none c.args.image.now c.args.spelled.now c.requires.bodies c.requires.uids,
)

pub loop-entry-preserved : goal.loop-entry-preserved
loop-entry-preserved c =
    let i = c.loop-entry.invariant in let entry = c.in-Some.entry in let all = c.requires.says in
    let passed = c.in-Some.ensures.meets i.0 i.1 in (
      i.0 ++ entry.body.now ∷ [],
      passed,
      respelled_more c.args.image.now i.0 entry.body.now c.loop-entry.spelled c.spell_again.new.spelled
          (first_step_in entry.body.now) refl
          (not_bad c.args.image.now i.0 entry.body.now entry.next c.loop-entry.spelled all.0 all.1 c.requires.first
          all.2 passed i.2)
          i.2 c.in_ok-spell_again.ensures,
    )

pub returns : goal.returns
returns c h us all =
    let i = c.loop-entry.invariant in
    respelled_all c.args.image.now i.0 c.loop-entry.spelled h us c.requires.first
    (c.in_default.ensures.meets i.0 i.1) i.2 all
