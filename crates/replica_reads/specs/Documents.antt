-- What a state answers of its documents.
use Rattle.std.specs.Prelude.{◌≡◌, Bool, true, false, ◌||◌, if◌then◌else◌, List, filter, map, is_some, T, Option, Some}
use Rattle.std.specs.Prelude.{None}
use Rattle.std.specs.FinMap.Entries.{find, is_sorted}
use Rattle.std.specs.List.{AllPairs, list_any}
use Rattle.std.specs.declared.cmp.Ordering.TheVariants.{Less}
use Rattle.u1_base.specs.Ids.{id_cmp, same_id}
use Rattle.conflicts.specs.Document.{Document, current_member, is_conflicted, is_live}
use Rattle.conflicts.specs.Kept.{Kept, document}
use Rattle.conflicts.specs.State.{Text}
use Rattle.conflicts.specs.declared.member.Member.{Member}
use Rattle.replica_state.specs.Keyed.{Docs}

-- a document is listed where it is live, or where deleted ones are asked for
abbrev pub is_listed : Bool → Document → Bool
is_listed deleted d = deleted || is_live d

-- what is got of a document: its current member, if it is listed
abbrev pub got : Bool → Document → Option Member
got deleted d = if is_listed deleted d then current_member d else None

-- the ids of the documents that are listed, in their order
abbrev pub ids_of : Bool → Docs → List Text
ids_of deleted docs = map (λ d. d.0) (filter (λ d. is_listed deleted (document (Some d.1))) docs)

-- it is the document, which has more than one member; none exactly where that has not
abbrev pub IsInConflict : Document → Option Kept → Type 0
IsInConflict d None = is_conflicted d ≡ false
IsInConflict d (Some kept) = (document (Some kept) ≡ d) × (is_conflicted d ≡ true)

-- over documents in the order of their ids
pub record ListsDocuments : Type 0 where
  -- an id is listed exactly where something is got at it
  pub members : (deleted : Bool) (docs : Docs) (id : Text) → T (is_sorted id_cmp docs)
      → list_any (same_id id) (ids_of deleted docs) ≡ is_some (got deleted (document (find id_cmp id docs)))
  -- the ids rise, so that each stands once
  pub order : (deleted : Bool) (docs : Docs) → T (is_sorted id_cmp docs)
      → AllPairs (λ id later. id_cmp id later ≡ Less) (ids_of deleted docs)
