-- The commands that show documents: get, conflicts and all.
use Rattle.std.specs.Prelude.{Bool, List, [], ◌∷◌, length, map, if◌then◌else◌, Option, Some, None, Result}
use Rattle.std.specs.List.{filter_map}
use Rattle.std.specs.Option.{option_map}
use Rattle.vector_rev.specs.Clock.{Clock}
use Rattle.conflicts.specs.Document.{Document as DocumentState, in_order, is_conflicted}
use Rattle.conflicts.specs.State.{State, Text}
use Rattle.conflicts.specs.declared.member.Member.{Member}
use Rattle.replica_state.specs.Held.{Lists, meaning_of}
use Rattle.replica_core.specs.Commands.Effects.{Effect, Refusal, Conflict, Document, Generation, Line, NoDocument}
use Rattle.replica_core.specs.Commands.Effects.{prints}
use Rattle.replica_reads.specs.Documents.{got, ids_of}

-- the line of a document, if it is listed
abbrev pub document_line : State → Bool → Text → Option Line
document_line s deleted id = option_map (λ m. Document id m (is_conflicted (s.document id)))
    (got deleted (s.document id))

-- the lines of the documents with these ids
abbrev pub document_lines : State → Bool → List Text → List Line
document_lines s deleted ids = filter_map (document_line s deleted) ids

-- the line of a document, or that there is none
abbrev pub line_or_none : Option Line → Line
line_or_none None = NoDocument
line_or_none (Some line) = line

abbrev pub get_effect : State → Text → Bool → Result Effect Refusal
get_effect s id deleted = prints (line_or_none (document_line s deleted id) ∷ [])

-- the members of a document, the current one first
abbrev pub members_by : Option Clock → List Member → List Member
members_by None ms = []
members_by (Some c) ms = in_order c ms

abbrev pub members_in_order : DocumentState → List Member
members_in_order d = members_by d.current d.members

-- conflicts: the members of a document in conflict; nothing where it has fewer than two
abbrev pub conflicts_effect : State → Text → Result Effect Refusal
conflicts_effect s id =
    prints (if is_conflicted (s.document id) then map Conflict (members_in_order (s.document id)) else [])

-- all: the generation, and the documents by their ids
abbrev pub all_effect : Lists → Bool → Result Effect Refusal
all_effect l deleted =
    prints (Generation (length l.log) ∷ document_lines (meaning_of l) deleted (ids_of deleted l.docs))
