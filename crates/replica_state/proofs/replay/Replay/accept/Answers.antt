-- The log and the position have the step, and one acceptance more waits.
use Rattle.std.proofs.Common.{◌≡◌, sym, ap, ap₂, ◌∙◌}
use Rattle.conflicts.specs.State.{Accepted, Gone, State, Text, after}
use Rattle.conflicts.specs.declared.accept.Accept.{Accept}
use Rattle.replica_state.specs.Held.{meaning}
use Rattle.replica_state.specs.Indexes.{with_indexes}
use Rattle.replica_state.specs.inner.Named.{names_of}
use Rattle.replica_state.specs.Replayed.{replayed}
use Rattle.replica_state.specs.Waiting.{with_accepted}
use Rattle.replica_state.proofs.WaitingAccepts.{waits_more}
use Rattle.replica_state.proofs.replay.Replay.accept.Goals as goal

pub returns : goal.returns
returns c =
    let old = c.args.self.now in
    let names = names_of old.listed.items in
    let waits = c.in_ok-waits.waits in
    let before = meaning old.state in
    let made = meaning c.note.new.self in
    let same : waits.doc ≡ c.args.doc = c.in_ok-waits.ensures.doc ∙ c.in_ok-copy.ensures in
    ap (λ (s : State). with_indexes s names)
    (c.in_ok-settle_many.ensures.accepted ∙ ap (with_accepted made) c.in_ok-push.ensures.items)
    ∙ waits_more before made old.waiting.items waits names c.args.trans c.args.moved
    (c.in_ok-note.ensures.step ∙ ap (λ (d : Text). after before (Gone d c.args.trans c.args.moved)) (sym same))
    ∙ ap₂ (λ (d : Text) (a : Accept). after (replayed old) (Accepted d a c.args.trans c.args.moved)) same
    c.in_ok-waits.ensures.accept
