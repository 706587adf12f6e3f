-- Sessions at small states: worked examples.
use Rattle.std.specs.Prelude.{◌≡◌, ℕ, Bool, true, false, List, [], ◌∷◌, ◌++◌, codes, Some, None, Result, Ok, Err}
use Rattle.content.specs.Tree.{Tree, text, field, no_fields, object}
use Rattle.u1_base.specs.NewId.{new_id_text}
use Rattle.u1_base.specs.Places.{Place, nowhere}
use Rattle.u1_base.specs.declared.made.IdKind.TheVariants.{Trans}
use Rattle.vector_rev.specs.Clock.{Clock}
use Rattle.conflicts.specs.Decision.{received}
use Rattle.conflicts.specs.Document.{current_member}
use Rattle.conflicts.specs.State.{State, Step, Accepted, Moved, after_all, position_kept, state_of}
use Rattle.conflicts.specs.declared.accept.Making.TheVariants.{Edit, Merge}
use Rattle.conflicts.specs.declared.member.Member.{Member}
use Rattle.conflicts.specs.declared.moves.Move.{Move}
use Rattle.conflicts.specs.declared.moves.PosTable.TheVariants.{Known, Told}
use Rattle.sync_http.specs.declared.address.Address.{Address}
use Rattle.sync_http.specs.declared.fault.WireFault.TheVariants.{NoLength}
use Rattle.sync_http.specs.declared.info.Info.{Info}
use Rattle.sync_stream.specs.Came.{Ending, Whole, Faulty, Cut}
use Rattle.sync_stream.specs.Messages.{HeardReply, NoReply, BadReply, Status, Hears, Small, Says, Unread, Short, Over}
use Rattle.sync_stream.specs.Messages.{Stream}
use Rattle.sync_stream.specs.Requests.{ForInfo, ToExchange, ToKeep}
use Rattle.sync_stream.specs.declared.fault.LineFault.TheVariants.{At, TooLong}
use Rattle.sync_stream.specs.declared.line.SyncDoc.{SyncDoc}
use Rattle.sync_phases.specs.Peers.{served, synced}
use Rattle.sync_phases.specs.Phase.{ended}
use Rattle.sync_phases.specs.Phases.{ask, exchange, finish, posted, settle, told_by}
use Rattle.sync_phases.specs.Seen.{Begun, Informed, Exchanged}
use Rattle.sync_phases.specs.Sessions.{Replies, questions, sync}
use Rattle.sync_phases.specs.declared.fault.SyncFault.{SyncFault}
use Rattle.sync_phases.specs.declared.fault.SyncFault.TheVariants.{Broken, Link, LogCheck, Peer}
use Rattle.sync_phases.specs.declared.summary.Summary.{Summary}

-- ---- what is spoken of: the replicas a, b and c of one database, and the document d, of which each made a revision

abbrev a : List ℕ
a = codes "a"

abbrev b : List ℕ
b = codes "b"

abbrev c : List ℕ
c = codes "c"

abbrev d : List ℕ
d = codes "d"

-- the clocks a:1, b:1, c:1 and a:1|b:2
abbrev at_a : Clock
at_a = record { entries = (a, 1) ∷ []; well = tt }

abbrev at_b : Clock
at_b = record { entries = (b, 1) ∷ []; well = tt }

abbrev at_c : Clock
at_c = record { entries = (c, 1) ∷ []; well = tt }

abbrev merged : Clock
merged = record { entries = (a, 1) ∷ (b, 2) ∷ []; well = tt }

-- {"v":V}
abbrev of : List ℕ → Tree
of v = object (field (codes "v") (text v) no_fields)

abbrev member : Clock → List ℕ → Member
member rev v = record { rev = rev; content = Some (of v) }

-- the place of generation n, with an id of the replica that made it
abbrev place : List ℕ → ℕ → Place
place uid n = record { generation = n; trans = Some (uid ++ 45 ∷ []) }

-- a place with another id
abbrev other_place : ℕ → Place
other_place n = record { generation = n; trans = Some (codes "X") }

-- ---- steps and states

abbrev edits : List ℕ → Clock → List ℕ → Step
edits uid rev v =
    Accepted d (record { rev = rev; content = Some (of v); making = Edit; parents = []; current = true })
    (uid ++ 45 ∷ []) None

abbrev known : List ℕ → Place → Move
known uid at = record { table = Known; uid = uid; at = at }

abbrev told : List ℕ → Place → Step
told uid at = Moved (record { table = Told; uid = uid; at = at })

-- the member is received, as the entry of this id, and the place of its sender is known
abbrev receives : Member → List ℕ → List ℕ → Place → Step
receives m trans uid at = Accepted d (received m) trans (Some (known uid at))

abbrev holding : List ℕ → List Step → State
holding uid steps = state_of (codes "db") uid steps

-- each made the document, with its own content; and a replica that has nothing
abbrev a_made : State
a_made = holding a (edits a at_a a ∷ [])

abbrev b_made : State
b_made = holding b (edits b at_b b ∷ [])

abbrev empty : State
empty = holding a []

-- ---- messages

abbrev info_of : List ℕ → Place → Place → HeardReply (Small Info)
info_of source source_at target_at =
    Hears (Says (record { target = b; target_at = target_at; source = source; source_at = source_at }))

abbrev doc : List ℕ → Member → Place → SyncDoc
doc id m at = record { id = id; member = m; at = at }

abbrev stream : Place → List SyncDoc → Ending → HeardReply Stream
stream at docs ending = Hears (record { head = Some at; docs = docs; ending = ending })

-- the replies of b where it made the document and did not merge it
abbrev replies : Replies
replies = record {
  info = info_of a nowhere (place b 1);
  returned = stream (place b 1) (doc d (member at_b b) (place b 1) ∷ []) Whole;
  kept = Hears (Says tt);
}

-- and where it has merged it, as an entry of the id `X`
abbrev merged_replies : Replies
merged_replies = record {
  info = info_of a nowhere (place b 1);
  returned = stream (other_place 2) (doc d (member merged b) (other_place 2) ∷ []) Whole;
  kept = Hears (Says tt);
}

-- the summary of a session with this target
abbrev summed : List ℕ → ℕ → ℕ → ℕ → Bool → Result Summary SyncFault
summed target sent taken known recorded =
    Ok (record { target = target; sent = sent; taken = taken; known = known; recorded = recorded })

-- ---- what sessions leave

-- of a and b where both made the document and a had a session with b: b's content is current at a, its own in conflict
abbrev a_synced : State
a_synced = holding a (edits a at_a a ∷ receives (member at_b b) (codes "X") b (place b 1) ∷ [])

abbrev b_synced : State
b_synced = holding b (edits b at_b b ∷ told a (place a 1) ∷ told a (other_place 2) ∷ [])

-- where the reply to a was lost, and b then had a session with a
abbrev b_served : State
b_served = holding b (edits b at_b b ∷ told a (place a 1) ∷ [])

abbrev b_crossed : State
b_crossed =
    holding b (edits b at_b b ∷ told a (place a 1) ∷ receives (member at_a a) (codes "X") a (place a 1) ∷ [])

abbrev a_crossed : State
a_crossed = holding a (edits a at_a a ∷ told b (place b 1) ∷ told b (other_place 2) ∷ [])

-- where a took the document of b and told it so, and then took that of c
abbrev a_of_two : State
a_of_two =
    holding a
    (receives (member at_b b) (codes "X") b (place b 1) ∷ receives (member at_c c) (codes "Y") c (place c 1) ∷ [])

abbrev b_told : State
b_told = holding b (edits b at_b b ∷ told a (other_place 1) ∷ [])

-- a log of four entries with the id `X`
abbrev four : State
four =
    let one = Accepted d (received (member at_a a)) (codes "X") None in holding a (one ∷ one ∷ one ∷ one ∷ [])

-- ---- the examples, for any address and seeds

module _ (to : Address) (seed other : ℕ) where
  abbrev begun : Begun
  begun = record { to = to; seed = seed }

  abbrev informed : Informed
  informed = record { to = to; seed = seed; target = b; told = nowhere }

  abbrev exchanged : ℕ → Place → Exchanged
  exchanged taken at =
      record { to = to; seed = seed; target = b; base = 1; sent = 1; taken = taken; at = at }

  -- the id of the n-th entry that a makes
  abbrev made : ℕ → List ℕ
  made n = new_id_text seed Trans n

  -- a whole session: each replica made the document
  pub record BothMade : Type 0 where
    pub ends : (synced begun other a_made b_made).ends ≡ summed b 1 1 1 true
    -- the source shows the peer's content, and the peer its own
    pub source : current_member ((synced begun other a_made b_made).source.document d) ≡ Some (member at_b b)
    pub peer : current_member ((synced begun other a_made b_made).peer.document d) ≡ Some (member at_b b)
    -- by what comes back: one step, and three questions
    pub steps : sync begun a_made replies
        ≡ record { steps = receives (member at_b b) (made 2) b (place b 1) ∷ []; ends = summed b 1 1 1 true }
    pub asks : questions begun a_made replies
        ≡ ForInfo ∷ ToExchange nowhere (doc d (member at_a a) (place a 1) ∷ [])
        ∷ ToKeep (record { generation = 2; trans = Some (made 2) }) ∷ []
    -- a second session finds the two level: one question, and nothing changes
    pub again : synced begun other a_synced b_synced
        ≡ record { source = a_synced; peer = b_synced; ends = summed b 0 0 1 false }
    pub asks_again : questions begun a_synced (record replies { info = info_of a (other_place 2) (place b 1) })
        ≡ ForInfo ∷ []

  -- the peer merged revisions of one content
  pub record PeerMerged : Type 0 where
    pub serves : (served other a (holding b (edits b at_b b ∷ [])) (posted informed (holding a (edits a at_a b ∷ [])))).steps
        ≡ Accepted d (record {
          rev = merged;
          content = Some (of b);
          making = Merge;
          parents = at_a ∷ at_b ∷ [];
          current = true;
        }) (new_id_text other Trans 2) (Some (record { table = Told; uid = a; at = place a 1 })) ∷ []
    pub ends : sync begun (holding a (edits a at_a b ∷ [])) merged_replies
        ≡ record { steps = receives (member merged b) (made 2) b (other_place 2) ∷ []; ends = summed b 1 1 2 true }

  -- the reply to an exchange is lost; then the peer has a session the other way round; then the source again
  pub record RepliesLost : Type 0 where
    pub lost : exchange informed a_made NoReply ≡ ended (Err Link)
    pub crossed : (synced begun other b_served a_made).ends ≡ summed a 1 1 1 true
    pub shown : current_member ((synced begun other b_served a_made).source.document d) ≡ Some (member at_a a)
    pub again : (synced begun other a_crossed b_crossed).ends ≡ summed b 0 0 2 false
    pub source : current_member ((synced begun other a_crossed b_crossed).source.document d) ≡ Some (member at_a a)
    pub peer : current_member ((synced begun other a_crossed b_crossed).peer.document d) ≡ Some (member at_a a)

  -- a document that the source holds in conflict: its contents may stay apart
  pub record StaysApart : Type 0 where
    pub ends : (synced begun other a_of_two b_told).ends ≡ summed b 1 0 1 false
    pub source : current_member ((synced begun other a_of_two b_told).source.document d) ≡ Some (member at_c c)
    pub peer : current_member ((synced begun other a_of_two b_told).peer.document d) ≡ Some (member at_b b)

  -- replies that end the session at the first question
  pub record InfosRefuse : Type 0 where
    -- the told place is behind the end of the log, or has another id there: nothing is sent
    pub behind : ask begun four (info_of a (place b 5) nowhere) ≡ ended (Err (LogCheck (other_place 4) (place b 5)))
    pub another : ask begun four (info_of a (place b 4) nowhere) ≡ ended (Err (LogCheck (other_place 4) (place b 4)))
    pub silent : questions begun four (record replies { info = info_of a (place b 4) nowhere }) ≡ ForInfo ∷ []
    -- the two are level, but not at one place
    pub level : ask begun a_synced (info_of a (other_place 2) (other_place 1))
        ≡ ended (Err (LogCheck (place b 1) (other_place 1)))
    -- an info for another source is none, and comes before a place that does not fit
    pub for_another : ask begun four (info_of c (place b 5) nowhere) ≡ ended (Err (Broken 1))
    pub unread : ask begun empty (Hears Unread) ≡ ended (Err (Broken 1))
    pub over : ask begun empty (Hears Over) ≡ ended (Err (Broken 0))
    pub short : ask begun empty (Hears Short) ≡ ended (Err Link)
    pub no_head : ask begun empty NoReply ≡ ended (Err Link)
    pub bad_head : ask begun empty (BadReply NoLength) ≡ ended (Err (Broken 0))
    pub refused : ask begun empty (Status 404) ≡ ended (Err (Peer 404))

  abbrev of_b : ℕ → List ℕ → SyncDoc
  of_b n id = doc id (member at_b b) (place b n)

  -- the step by which it is taken, as the entry n
  abbrev taken_as : ℕ → List ℕ → Place → Step
  taken_as n id at = Accepted id (received (member at_b b)) (made n) (Some (known b at))

  -- replies that end the session in their body: what stands before the cause is taken
  pub record BodiesEnd : Type 0 where
    -- a faulty line behind one document, and one behind two
    pub after_one : exchange informed empty (stream (place b 3) (of_b 1 d ∷ []) (Faulty (At 4)))
        ≡ record { steps = taken_as 1 d (place b 1) ∷ []; ends = Err (Broken 4) }
    pub after_two : exchange informed empty (stream (place b 3) (of_b 1 d ∷ of_b 2 c ∷ []) (Faulty (TooLong 5)))
        ≡ record { steps = taken_as 1 d (place b 1) ∷ taken_as 2 c (place b 2) ∷ []; ends = Err (Broken 5) }
    -- cut within the third: two are taken, and the known place is that of the second
    pub cut : exchange informed empty (stream (place b 3) (of_b 1 d ∷ of_b 2 c ∷ []) (Cut 5))
        ≡ record { steps = taken_as 1 d (place b 1) ∷ taken_as 2 c (place b 2) ∷ []; ends = Err Link }
    pub cut_known : position_kept
        (after_all empty (exchange informed empty (stream (place b 3) (of_b 1 d ∷ of_b 2 c ∷ []) (Cut 5))).steps) Known b
        ≡ place b 2
    -- a place that goes back counts before the cut behind it, and not before a faulty line before it
    pub back : exchange informed empty (stream (place b 3) (of_b 2 d ∷ of_b 1 c ∷ []) (Cut 5))
        ≡ record { steps = taken_as 1 d (place b 2) ∷ []; ends = Err (LogCheck (place b 2) (place b 1)) }
    pub before_back : exchange informed empty (stream (place b 3) (of_b 2 d ∷ []) (Faulty (At 4)))
        ≡ record { steps = taken_as 1 d (place b 2) ∷ []; ends = Err (Broken 4) }
    pub no_head : exchange informed empty (Hears (record { head = None; docs = []; ending = Cut 2 }))
        ≡ ended (Err Link)
    -- a refusal in the middle of a session is the last that is heard: its third question is not asked
    pub refused : questions begun a_made (record replies { returned = Status 409 })
        ≡ ForInfo ∷ ToExchange nowhere (doc d (member at_a a) (place a 1) ∷ []) ∷ []

  -- the last two phases
  pub record Ends : Type 0 where
    -- the end of the target's log lies behind its last document that came back: the known place moves once more
    pub moves : settle (exchanged 1 (other_place 2)) a_synced
        ≡ record { steps = Moved (known b (other_place 2)) ∷ []; ends = Ok (exchanged 1 (other_place 2)) }
    pub stays : settle (exchanged 1 (place b 1)) a_synced ≡ ended (Ok (exchanged 1 (place b 1)))
    pub back : settle (exchanged 1 (other_place 1)) a_synced
        ≡ ended (Err (LogCheck (place b 1) (other_place 1)))
    -- the target is told the end of the log, unless something else was written since the documents were sent
    pub tells : told_by (exchanged 1 (place b 1)) a_synced ≡ Some (ToKeep (other_place 2))
    pub written : told_by (exchanged 1 (place b 1)) (holding a (edits a at_a a ∷ edits a at_a b ∷ edits a at_a c ∷ []))
        ≡ None
    -- a revision that this replica merged while it took documents was written here: the target does not have it
    pub merges : exchange informed (holding a (edits a at_a b ∷ []))
        (stream (place b 1) (doc d (member at_b b) (place b 1) ∷ []) Whole)
        ≡ record {
          steps = Accepted d (record {
            rev = record { entries = (a, 2) ∷ (b, 1) ∷ []; well = tt };
            content = Some (of b);
            making = Merge;
            parents = at_b ∷ at_a ∷ [];
            current = true;
          }) (made 2) (Some (known b (place b 1))) ∷ [];
          ends = Ok (exchanged 0 (place b 1));
        }
    pub untold : told_by (exchanged 0 (place b 1)) a_synced ≡ None
    pub kept : finish (exchanged 1 (place b 1)) a_synced (Hears (Says tt)) ≡ ended (summed b 1 1 1 true)
    pub not_kept : finish (exchanged 1 (place b 1)) a_synced (Status 409) ≡ ended (Err (Peer 409))
    pub no_reply : finish (exchanged 1 (place b 1)) a_synced NoReply ≡ ended (Err Link)

  pub record SyncsAsWorked : Type 0 where
    pub both_made : BothMade
    pub peer_merged : PeerMerged
    pub replies_lost : RepliesLost
    pub stays_apart : StaysApart
    pub infos_refuse : InfosRefuse
    pub bodies_end : BodiesEnd
    pub ends : Ends
