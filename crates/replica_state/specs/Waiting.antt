-- Acceptances that are not applied to their documents yet. Only private clauses speak of it.
use Rattle.std.specs.Prelude.{List, filter, map}
use Rattle.u1_base.specs.Ids.{same_id}
use Rattle.conflicts.specs.Document.{document_after_all}
use Rattle.conflicts.specs.State.{State, Text}
use Rattle.conflicts.specs.declared.accept.Accept.{Accept}
use Rattle.replica_state.specs.declared.waiting.Waiting.{Waiting}

-- those of a document, in their order
abbrev pub accepts_of : Text → List Waiting → List Accept
accepts_of d waiting = map (λ w. w.accept.value) (filter (λ w. same_id d w.doc) waiting)

-- the state with some of these of each document
abbrev pub accepting : State → (Text → List Accept) → State
accepting s accepts = record {
  name = s.name;
  uid = s.uid;
  document = λ d. document_after_all (s.document d) (accepts d);
  log = s.log;
  position = s.position;
  index = s.index;
}

-- THE STATE that has accepted these too
abbrev pub with_accepted : State → List Waiting → State
with_accepted s waiting = accepting s (λ d. accepts_of d waiting)
