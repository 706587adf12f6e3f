-- The store that is opened again has the state in which the note was written.
use Rattle.std.proofs.Common.{subst, sym}
use Rattle.conflicts.specs.State.{State}
use Rattle.examples.specs.Notes.{Reads}
use Rattle.examples.proofs.reopening.keep_note.Goals as goal

pub returns-in-Ok-reopen-clause-kept : goal.returns-in-Ok-reopen-clause-kept
returns-in-Ok-reopen-clause-kept g c = λ tells. (
  c.in_default.field-0,
  subst (λ (s : State). Reads s c.args.id.now c.in_default.field-0 c.args.text.now)
      (sym (c.in-Ok-reopen.ensures.same tells)) c.in_default.ensures.reads,
)
