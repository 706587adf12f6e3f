-- What a replica says of a note.
use Rattle.std.specs.Prelude.{◌≡◌, ℕ, true, if◌then◌else◌, List, [], Some}
use Rattle.content.specs.Tree.{Tree}
use Rattle.vector_rev.specs.Clock.{Clock, covers}
use Rattle.conflicts.specs.Lists.{In}
use Rattle.conflicts.specs.Document.{Document, current_member, is_conflicted}
use Rattle.conflicts.specs.Making.{revs}
use Rattle.conflicts.specs.State.{State, Text}
use Rattle.conflicts.specs.declared.member.Member.{Member}
use Rattle.conflicts.specs.Writing.{Decided}
use Rattle.replica_core.specs.CallsDecide.{put_decides, resolve_decides}
use Rattle.replica_core.specs.Commands.Documents.{members_in_order}
use Rattle.replica_core.specs.declared.calls.documents.PutFault.{PutFault}
use Rattle.replica_core.specs.declared.calls.resolutions.ResolveDocFault.{ResolveDocFault}

-- the note reads as this text, at this revision
abbrev pub Reads : State → Text → Clock → Tree → Type 0
Reads s id rev tree = current_member (s.document id) ≡ Some (record { rev = rev; content = Some tree })

-- a member of the note is this revision, or knows it
abbrev pub IsCovered : State → Text → Clock → Type 0
IsCovered s id rev = (m : Member) × In m (s.document id).members × (covers m.rev rev ≡ true)

-- the revisions of a note in conflict, the current one first
abbrev pub conflicting_in : Document → List Clock
conflicting_in d = if is_conflicted d then revs (members_in_order d) else []

-- a note is written over its current revision
abbrev pub write_decides : ℕ → Text → Tree → State → Decided Clock PutFault
write_decides seed id tree s = put_decides seed id (s.document id).current tree s

-- a conflict is settled over all its revisions
abbrev pub settle_decides : ℕ → Text → Tree → State → Decided Clock ResolveDocFault
settle_decides seed id tree s = resolve_decides seed id (conflicting_in (s.document id)) (Some tree) s
