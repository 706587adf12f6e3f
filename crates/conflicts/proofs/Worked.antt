-- The definitions at worked documents.
use Rattle.std.proofs.Common.{◌≡◌, ℕ, true, false, [], ◌∷◌, refl}
use Rattle.std.specs.Prelude.{codes, Option, Some, None, Ok, Err, pos}
use Rattle.content.specs.Tree.{Tree, whole, object, no_fields, field}
use Rattle.vector_rev.specs.Counts.{Uid}
use Rattle.vector_rev.specs.Clock.{Clock}
use Rattle.conflicts.specs.Document.{Document, members_of, document_of}
use Rattle.conflicts.specs.Making.{edited, deleted, resolved}
use Rattle.conflicts.specs.Decision.{decides, received, accepts, nothing}
use Rattle.conflicts.specs.declared.member.Member.{Member}
use Rattle.conflicts.specs.declared.accept.Accept.{Accept}
use Rattle.conflicts.specs.declared.accept.Making.TheVariants.{Edit, Resolve, Merge}
use Rattle.conflicts.specs.declared.receipts.Outcome4.TheVariants.{Superseded, Conflicted}
use Rattle.conflicts.specs.declared.edits.EditFault.TheVariants as edit_fault
use Rattle.conflicts.specs.declared.resolutions.ResolveFault.TheVariants as resolve_fault

abbrev a : Uid
a = codes "a"

abbrev b : Uid
b = codes "b"

-- clocks of one entry
abbrev a1 : Clock
a1 = record { entries = (codes "a", 1) ∷ []; well = tt }

abbrev a2 : Clock
a2 = record { entries = (codes "a", 2) ∷ []; well = tt }

abbrev b1 : Clock
b1 = record { entries = (codes "b", 1) ∷ []; well = tt }

abbrev c1 : Clock
c1 = record { entries = (codes "c", 1) ∷ []; well = tt }

abbrev e1 : Clock
e1 = record { entries = (codes "e", 1) ∷ []; well = tt }

abbrev a1b2 : Clock
a1b2 = record { entries = (codes "a", 1) ∷ (codes "b", 2) ∷ []; well = tt }

abbrev a1b1e1 : Clock
a1b1e1 = record { entries = (codes "a", 1) ∷ (codes "b", 1) ∷ (codes "e", 1) ∷ []; well = tt }

-- the content `{"v":n}`
abbrev v : ℕ → Option Tree
v n = Some (object (field (codes "v") (whole (pos n)) no_fields))

abbrev member : Clock → Option Tree → Member
member r t = record { rev = r; content = t }

abbrev handed : Clock → Option Tree → Accept
handed r t = received (member r t)

-- the current b:1 beside a:1
abbrev two : Document
two = document_of (handed a1 (v 1) ∷ handed b1 (v 2) ∷ [])

-- the last acceptance is the current one
current_two : two.current ≡ Some b1
current_two = refl

-- a dominated revision is no member, and an equal one stands at its last place
pruned_two : members_of (handed a1 (v 1) ∷ handed b1 (v 2) ∷ handed a2 (v 3) ∷ []) ≡ member b1 (v 2)
    ∷ member a2 (v 3) ∷ []
pruned_two = refl

repeated_two : members_of (handed a1 (v 1) ∷ handed b1 (v 2) ∷ handed a1 (v 1) ∷ []) ≡ member b1 (v 2)
    ∷ member a1 (v 1) ∷ []
repeated_two = refl

-- equal contents are merged
merged : decides (document_of (handed b1 (v 1) ∷ [])) (member a1 (v 1)) false b
    ≡ record {
      outcome = Superseded;
      accepted =
          Some (record { rev = a1b2; content = v 1; making = Merge; parents = a1 ∷ b1 ∷ []; current = true });
    }
merged = refl

-- beside a member of another content the merged revision is current where it is saved
merged_beside : decides (document_of (handed b1 (v 2) ∷ handed c1 (v 3) ∷ [])) (member e1 (v 2)) false a
    ≡ record {
      outcome = Superseded;
      accepted =
          Some (record { rev = a1b1e1; content = v 2; making = Merge; parents = e1 ∷ b1 ∷ []; current = false });
    }
merged_beside = refl

-- a member of another content with a greater own counter forbids it
not_merged : decides two (member c1 (v 2)) true a ≡ accepts Conflicted (member c1 (v 2))
not_merged = refl

-- a stored conflict becomes current where it is saved
stored : decides two (member a1 (v 1)) false a ≡ nothing Conflicted
stored = refl

stored_again : decides two (member a1 (v 1)) true a ≡ accepts Conflicted (member a1 (v 1))
stored_again = refl

-- an edit names the current revision, and a deleted document needs no name
edit_again : edited (document_of (handed a1 None ∷ [])) None (object no_fields) a
    ≡ Ok (record { rev = a2; content = Some (object no_fields); making = Edit; parents = a1 ∷ []; current = true })
edit_again = refl

edit_refused : edited (document_of (handed a2 (v 1) ∷ [])) (Some a1) (object no_fields) a
    ≡ Err (edit_fault.RevisionConflict a2)
edit_refused = refl

delete_refused : deleted (document_of (handed a2 None ∷ [])) a2 a ≡ Err edit_fault.AlreadyDeleted
delete_refused = refl

-- a part of a conflict is resolved beside the current revision
resolved_part : resolved two (a1 ∷ []) None a
    ≡ Ok (record { rev = a2; content = None; making = Resolve; parents = a1 ∷ []; current = false })
resolved_part = refl

unnamed : resolved two (b1 ∷ []) None a ≡ Err (resolve_fault.Unnamed a1)
unnamed = refl

nothing_named : resolved two (c1 ∷ []) None a ≡ Err resolve_fault.NothingNamed
nothing_named = refl
