-- What an edit, a deletion, a resolution and a merge make, and why an edit, a deletion or a resolution is refused.
use Rattle.std.specs.Prelude.{ℕ, max, Bool, true, not, ◌||◌, ◌==◌, nat_lt, List, [], ◌∷◌, filter, find, map, unwrap_or}
use Rattle.std.specs.Prelude.{if◌then◌else◌, Option, Some, None, Result, Err}
use Rattle.std.specs.List.{list_any}
use Rattle.std.specs.Option.{option_map, ok_or}
use Rattle.content.specs.Tree.{Tree}
use Rattle.vector_rev.specs.Counts.{Uid, Entries, raised, join_all}
use Rattle.vector_rev.specs.Clock.{Clock, count_of, clock_of, dominates}
use Rattle.vector_rev.specs.Compare.{same}
use Rattle.conflicts.specs.Lists.{is_empty}
use Rattle.conflicts.specs.Document.{Document, in_order, is_conflicted, is_live}
use Rattle.conflicts.specs.declared.member.Member.{Member}
use Rattle.conflicts.specs.declared.accept.Accept.{Accept}
use Rattle.conflicts.specs.declared.accept.Making.TheVariants.{Edit, Resolve}
use Rattle.conflicts.specs.declared.edits.EditFault.{EditFault}
use Rattle.conflicts.specs.declared.edits.EditFault.TheVariants as edit_fault
use Rattle.conflicts.specs.declared.resolutions.ResolveFault.{ResolveFault}
use Rattle.conflicts.specs.declared.resolutions.ResolveFault.TheVariants as resolve_fault

-- ---- the clock that is made

-- of each uid the greatest counter among the clocks
abbrev pub joined : List Clock → Entries
joined cs = join_all (map (λ c. c.entries) cs)

-- the parents' clocks joined, with the own counter raised by one; none where that would not keep the limits of a clock,
-- that is, where it has more than 64 entries or the joined own counter is 2^63-1
abbrev pub made_clock : Uid → List Clock → Option Clock
made_clock own parents = clock_of (raised (joined parents) own)

-- the greatest counter of the uid among the clocks
abbrev pub greatest : Uid → List Clock → ℕ
greatest own [] = 0
greatest own (c ∷ cs) = max (count_of c own) (greatest own cs)

abbrev pub revs : List Member → List Clock
revs ms = map (λ m. m.rev) ms

-- ---- edit and deletion

-- the revision made of the parents is the current one
abbrev pub edit_of : Uid → List Clock → Option Tree → Option Accept
edit_of own parents content =
    option_map (λ r. record { rev = r; content = content; making = Edit; parents = parents; current = true })
    (made_clock own parents)

-- an edit names the current revision; it may name none where the document is deleted
abbrev pub names : Option Clock → Clock → Bool → Bool
names None c live = not live
names (Some r) c live = same r c

abbrev pub edited_at : Option Clock → Document → Option Clock → Tree → Uid → Result Accept EditFault
edited_at None d None content own = ok_or (edit_of own [] (Some content)) edit_fault.ClockFull
edited_at None d (Some r) content own = Err edit_fault.NoDocument
edited_at (Some c) d rev content own =
    if is_conflicted d then Err edit_fault.Conflicted else
    (if not (names rev c (is_live d)) then Err (edit_fault.RevisionConflict c) else
    ok_or (edit_of own (c ∷ []) (Some content)) edit_fault.ClockFull)

-- an edit that names a revision or none, with its content: what it makes, or its first refusal
abbrev pub edited : Document → Option Clock → Tree → Uid → Result Accept EditFault
edited d rev content own = edited_at d.current d rev content own

abbrev pub deleted_at : Option Clock → Document → Clock → Uid → Result Accept EditFault
deleted_at None d rev own = Err edit_fault.NoDocument
deleted_at (Some c) d rev own =
    if is_conflicted d then Err edit_fault.Conflicted else
    (if not (same rev c) then Err (edit_fault.RevisionConflict c) else
    (if not (is_live d) then Err edit_fault.AlreadyDeleted else
    ok_or (edit_of own (c ∷ []) None) edit_fault.ClockFull))

-- a deletion that names a revision: what it makes, or its first refusal
abbrev pub deleted : Document → Clock → Uid → Result Accept EditFault
deleted d rev own = deleted_at d.current d rev own

-- ---- resolution

-- the members that are named, in their order
abbrev pub named_in : List Clock → List Member → List Member
named_in named ms = filter (λ m. list_any (λ c. same c m.rev) named) ms

-- the clock of the first of the members that has the greatest own counter among them; they are never empty
abbrev pub leader : Uid → Clock → List Member → Clock
leader own c ms = unwrap_or (option_map (λ m. m.rev) (find (λ m. count_of m.rev own == greatest own (revs ms)) ms)) c

-- the revision made of the named members is current where the current one is named, or where it is newer
abbrev pub resolution_of : Uid → Clock → List Clock → Option Tree → Option Accept
resolution_of own c parents content =
    option_map (λ r. record {
      rev = r;
      content = content;
      making = Resolve;
      parents = parents;
      current =
          list_any (λ p. same p c) parents || dominates r c;
    }) (made_clock own parents)

-- over the current revision and all members, the current one first
abbrev pub resolved_over : Clock → List Member → List Clock → Option Tree → Uid → Result Accept ResolveFault
resolved_over c ms named content own =
    let parents = revs (named_in named ms) in
    if is_empty parents then Err resolve_fault.NothingNamed else
    (if nat_lt (greatest own parents) (greatest own (revs ms)) then Err (resolve_fault.Unnamed (leader own c ms)) else
    ok_or (resolution_of own c parents content) resolve_fault.ClockFull)

abbrev pub resolved_at : Option Clock → Document → List Clock → Option Tree → Uid → Result Accept ResolveFault
resolved_at None d named content own = Err resolve_fault.NoDocument
resolved_at (Some c) d named content own =
    if not (is_conflicted d) then Err resolve_fault.NotConflicted else
    resolved_over c (in_order c d.members) named content own

-- a resolution that names revisions, with its content or none: what it makes, or its first refusal
abbrev pub resolved : Document → List Clock → Option Tree → Uid → Result Accept ResolveFault
resolved d named content own = resolved_at d.current d named content own
