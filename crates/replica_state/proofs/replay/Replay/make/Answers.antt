-- A step is made on the state without indexes, or in the list of them.
use Rattle.std.proofs.Common.{◌≡◌, List, OnOk, ◌∙◌, refl, sym, ap, subst}
use Rattle.conflicts.specs.State as history
use Rattle.conflicts.specs.State.{after}
use Rattle.replica_state.specs.Held.{meaning}
use Rattle.replica_state.specs.Indexes.{with_indexes}
use Rattle.replica_state.specs.inner.Named.{names_of}
use Rattle.replica_state.specs.Replayed.{replayed}
use Rattle.replica_state.specs.Steps.{step_of}
use Rattle.replica_state.specs.Waiting.{with_accepted}
use Rattle.replica_state.specs.declared.index.Index.{Index}
use Rattle.replica_state.proofs.Named.{names_without}
use Rattle.replica_state.proofs.Replaying.{answered, deleted, listed_more, none_kept}
use Rattle.replica_state.proofs.WaitingAccepts.{kept_waiting}
use Rattle.replica_state.proofs.replay.Replay.make.Goals as goal

pub returns-in-Accept : goal.returns-in-Accept
returns-in-Accept c =
    subst (λ (x : history.Step). OnOk c.accept.result (replayed c.accept.new.self ≡ after (replayed c.args.self.now) x))
    (sym (ap step_of c.in-Accept.is)) c.accept.ensures

pub invariant_of-self : goal.invariant_of-self
invariant_of-self c = record {
  none = none_kept c.args.self.now.state c.note.new.self
      (history.Gone c.in-Gone.doc c.in-Gone.trans c.in-Gone.moved)
      c.args.self.now.none (λ n other. c.note.ensures.indexes n) (λ n. refl);
}

pub returns-in-Gone : goal.returns-in-Gone
returns-in-Gone c =
    let old = c.args.self.now in
    let ws = old.waiting.items in
    let step = history.Gone c.in-Gone.doc c.in-Gone.trans c.in-Gone.moved in
    answered c.note.result (with_accepted (meaning old.state) ws)
    (with_accepted (meaning c.note.new.self) ws) step (step_of c.args.step) (names_of old.listed.items)
    (kept_waiting c.note.result (meaning old.state) (meaning c.note.new.self) step ws
    (λ d. refl) c.note.ensures.step)
    (λ n. refl) (ap step_of c.in-Gone.is)

pub invariant_of-self-in-Position : goal.invariant_of-self-in-Position
invariant_of-self-in-Position c = record {
  none = none_kept c.args.self.now.state c.make_in.new.state
      (history.Moved c.in-Position.moved)
      c.args.self.now.none c.make_in.ensures.indexes (λ n. refl);
}

pub returns-in-Position : goal.returns-in-Position
returns-in-Position c =
    let old = c.args.self.now in
    let ws = old.waiting.items in
    let step = history.Moved c.in-Position.moved in
    answered c.make_in.result (with_accepted (meaning old.state) ws)
    (with_accepted (meaning c.make_in.new.state) ws) step (step_of c.args.step) (names_of old.listed.items)
    (kept_waiting c.make_in.result (meaning old.state) (meaning c.make_in.new.state) step ws
    (λ d. refl) c.make_in.ensures.step)
    (λ n. refl) (ap step_of c.in-Position.is)

pub returns-in-IndexCreate : goal.returns-in-IndexCreate
returns-in-IndexCreate c =
    listed_more c.list_index.result (with_accepted (meaning c.args.self.now.state) c.args.self.now.waiting.items)
    c.in-IndexCreate.name c.in-IndexCreate.exprs.texts
    (names_of c.args.self.now.listed.items) (names_of c.list_index.new.listed.items) (step_of c.args.step)
    c.list_index.ensures (ap step_of c.in-IndexCreate.is)

pub returns-in-IndexDelete : goal.returns-in-IndexDelete
returns-in-IndexDelete c =
    let s = with_accepted (meaning c.args.self.now.state) c.args.self.now.waiting.items in
    let items = c.args.self.now.listed.items in
    ap (λ (xs : List Index). with_indexes s (names_of xs)) c.drop_index.ensures
    ∙ ap (with_indexes s) (names_without c.in-IndexDelete.name items)
    ∙ deleted s c.in-IndexDelete.name (names_of items)
    ∙ ap (λ (x : history.Step). after (with_indexes s (names_of items)) x)
    (sym (ap step_of c.in-IndexDelete.is))
