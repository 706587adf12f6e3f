-- The lines of a document's members, by whether it is in conflict.
use Rattle.std.proofs.Common.{◌≡◌, ◌∙◌, true, false, List, [], length, Some, refl, length-append}
use Rattle.std.proofs.lemmas.List.Filters.{length-filter_both}
use Rattle.std.specs.Prelude.{if◌then◌else◌, filter, map, not}
use Rattle.vector_rev.specs.Compare.{same}
use Rattle.conflicts.specs.Document.{Document as DocumentState, is_conflicted}
use Rattle.conflicts.specs.Kept.{Kept, current, current_first, document}
use Rattle.conflicts.specs.declared.member.Member.{Member}
use Rattle.replica_core.specs.Commands.Documents.{members_in_order}
use Rattle.replica_core.specs.Commands.Effects.{Conflict, Line}

abbrev pub conflict_lines : DocumentState → List Line
conflict_lines d = if is_conflicted d then map Conflict (members_in_order d) else []

pub in_conflict : (d : DocumentState) (k : Kept) → document (Some k) ≡ d → is_conflicted d ≡ true
    → conflict_lines d ≡ map Conflict (current_first k)
in_conflict d k is conflicted = rw conflicted (rw (← is) refl)

pub not_in_conflict : (d : DocumentState) → is_conflicted d ≡ false → conflict_lines d ≡ []
not_in_conflict d plain = rw plain refl

-- the current member and the others are all members
pub length_current_first : (k : Kept) → length (current_first k) ≡ length k.members
length_current_first k =
    length-append (filter (λ (m : Member). same m.rev (current k).rev) k.members)
    (filter (λ (m : Member). not (same m.rev (current k).rev)) k.members)
    ∙ length-filter_both (λ (m : Member). same m.rev (current k).rev)
    (λ (m : Member). not (same m.rev (current k).rev)) (λ m. refl) k.members
