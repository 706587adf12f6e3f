-- Serving at small states: sixteen examples.
use Rattle.std.specs.Prelude.{◌≡◌, ℕ, true, List, [], ◌∷◌, codes, ◌++◌, Option, Some, None}
use Rattle.content.specs.Tree.{Tree, text, field, no_fields, object}
use Rattle.u1_base.specs.NewId.{new_id_text}
use Rattle.u1_base.specs.Places.{Place, nowhere}
use Rattle.u1_base.specs.declared.made.IdKind.TheVariants.{Trans}
use Rattle.vector_rev.specs.Clock.{Clock}
use Rattle.conflicts.specs.Decision.{received}
use Rattle.conflicts.specs.State.{State, Step, Accepted, Moved, after_all, state_of}
use Rattle.conflicts.specs.declared.accept.Accept.{Accept}
use Rattle.conflicts.specs.declared.accept.Making.TheVariants.{Edit, Merge}
use Rattle.conflicts.specs.declared.member.Member.{Member}
use Rattle.conflicts.specs.declared.moves.PosTable.TheVariants.{Known, Told}
use Rattle.conflicts.specs.declared.moves.Move.{Move}
use Rattle.sync_stream.specs.Came.{Ending, Whole, Faulty, Cut}
use Rattle.sync_stream.specs.Messages.{AskInfo, Tell, Exchange, Request, Asks, Says, Short, Over}
use Rattle.sync_stream.specs.Replies.{BadRequest, NotFound, LogCheck, TooLarge, Reply, Returns, Refuses}
use Rattle.sync_stream.specs.Serving.{Response, StopsAfter, Full, Failed, Memory, refused, serve}
use Rattle.sync_stream.specs.declared.fault.LineFault.TheVariants.{TooLong}

-- ---- what is spoken of: the replicas a and b of the database db, and the document d

abbrev pub a : List ℕ
a = codes "a"

abbrev pub b : List ℕ
b = codes "b"

abbrev db : List ℕ
db = codes "db"

abbrev d : List ℕ
d = codes "d"

-- the clocks a:1, b:1 and a:1|b:2
abbrev at_a : Clock
at_a = record { entries = (a, 1) ∷ []; well = tt }

abbrev at_b : Clock
at_b = record { entries = (b, 1) ∷ []; well = tt }

abbrev merged : Clock
merged = record { entries = (a, 1) ∷ (b, 2) ∷ []; well = tt }

-- {"v":"a"} and {"v":"b"}
abbrev of_a : Tree
of_a = object (field (codes "v") (text a) no_fields)

abbrev of_b : Tree
of_b = object (field (codes "v") (text b) no_fields)

abbrev member : Clock → Tree → Member
member rev content = record { rev = rev; content = Some content }

-- an own edit of the document
abbrev edit : Clock → Tree → Accept
edit rev content = record { rev = rev; content = Some content; making = Edit; parents = []; current = true }

-- the place of generation n in the log of a replica: its ids are the uid and `-`
abbrev place : List ℕ → ℕ → Place
place uid n = record { generation = n; trans = Some (uid ++ 45 ∷ []) }

-- b where it has nothing, and where it made the document itself
abbrev empty : State
empty = state_of db b []

abbrev edited : Tree → State
edited content = state_of db b (Accepted d (edit at_b content) (codes "b-") None ∷ [])

-- the place to which a told b of its log
abbrev told : Place → Option Move
told at = Some (record { table = Told; uid = a; at = at })

-- a hands over its revision of the document, which stands at generation n of its log, and knows nothing of b
abbrev exchange_of : Place → Tree → ℕ → Ending → Request
exchange_of known content n ending = Asks db a
    (Exchange (record {
      head = Some known;
      docs = record { id = d; member = member at_a content; at = place a n } ∷ [];
      ending = ending;
    }))

abbrev exchange : Tree → ℕ → Request
exchange content n = exchange_of nowhere content n Whole

-- b after a handed over its revision, and b then took it of a as a source
abbrev crossed : State
crossed =
    after_all (edited of_b) (Moved (record { table = Told; uid = a; at = place a 1 })
    ∷ Accepted d (received (member at_a of_a)) (codes "b-")
    (Some (record { table = Known; uid = a; at = place a 1 })) ∷ [])

-- the place of the n-th entry that b makes under a seed
abbrev made : ℕ → ℕ → Place
made seed n = record { generation = n; trans = Some (new_id_text seed Trans n) }

-- the response where one document is passed
abbrev pub of_one : Reply → List Step → Response
of_one reply steps = record { reply = reply; steps = steps; passed = steps ∷ [] }

-- ---- the examples

pub record ServesAsWorked : Type 0 where
  -- a document that is new is accepted and its place told in one step, and is not returned
  pub inserted : (seed : ℕ) → serve empty seed (exchange of_a 1)
      ≡ of_one (Returns (made seed 1) [])
      (Accepted d (received (member at_a of_a)) (new_id_text seed Trans 1) (told (place a 1)) ∷ [])
  -- handed over once more it makes no step, and is applied all the same
  pub again : (seed later : ℕ)
      → serve (after_all empty (serve empty seed (exchange of_a 1)).steps) later (exchange of_a 1)
      ≡ of_one (Returns (made seed 1) []) []
  -- a document in conflict is not accepted: its place is told, and the own revision is returned
  pub conflicted : (seed : ℕ) → serve (edited of_b) seed (exchange of_a 1)
      ≡ of_one (Returns (place b 1) (record { id = d; member = member at_b of_b; at = place b 1 } ∷ []))
      (Moved (record { table = Told; uid = a; at = place a 1 }) ∷ [])
  -- revisions of one content are merged, and the merged one is returned
  pub merges : (seed : ℕ) → serve (edited of_a) seed (exchange of_a 1)
      ≡ of_one (Returns (made seed 2) (record { id = d; member = member merged of_a; at = made seed 2 } ∷ []))
      (Accepted d (record {
        rev = merged;
        content = Some of_a;
        making = Merge;
        parents = at_a ∷ at_b ∷ [];
        current = true;
      }) (new_id_text seed Trans 2) (told (place a 1)) ∷ [])
  -- what b took of a meanwhile is returned to a, who missed the reply to its first request
  pub missed : (seed : ℕ)
      → serve crossed seed (Asks db a (Exchange (record { head = Some nowhere; docs = []; ending = Whole })))
      ≡ record {
        reply = Returns (place b 2) (record { id = d; member = member at_a of_a; at = place b 2 } ∷ []);
        steps = [];
        passed = [];
      }
  -- a document from before the told place is refused, and so is a told place with another id at its generation
  pub old : (seed : ℕ) → serve (after_all empty (Moved (record { table = Told; uid = a; at = place a 2 }) ∷ [])) seed
      (exchange of_a 1) ≡ refused LogCheck
  pub other : (seed : ℕ) → serve (after_all empty (Moved (record { table = Told; uid = a; at = place a 1 }) ∷ [])) seed
      (Asks db a (Tell (Says (place b 1)))) ≡ refused LogCheck
  -- the document before a faulty line is accepted, and a faulty line after a refusal does not count
  pub before : (seed : ℕ) → serve empty seed (exchange_of nowhere of_a 1 (Faulty (TooLong 4)))
      ≡ of_one (Refuses TooLarge)
      (Accepted d (received (member at_a of_a)) (new_id_text seed Trans 1) (told (place a 1)) ∷ [])
  pub behind : (seed : ℕ) → serve empty seed (exchange_of (place b 1) of_a 1 (Faulty (TooLong 4))) ≡ refused LogCheck
  -- so is the document before the line within which a body is cut
  pub cut : (seed : ℕ) → serve empty seed (exchange_of nowhere of_a 1 (Cut 4))
      ≡ of_one (Refuses BadRequest)
      (Accepted d (received (member at_a of_a)) (new_id_text seed Trans 1) (told (place a 1)) ∷ [])
  -- a told place whose bytes end before its length is refused, and one that is too long otherwise
  pub short : (seed : ℕ) → serve empty seed (Asks db a (Tell Short)) ≡ refused BadRequest
  pub over : (seed : ℕ) → serve empty seed (Asks db a (Tell Over)) ≡ refused TooLarge
  -- another database is not found
  pub elsewhere : (seed : ℕ) → serve empty seed (Asks d a AskInfo) ≡ refused NotFound
  -- a document whose step has no room is not applied, and its step is not made
  pub no_room : (seed : ℕ) → StopsAfter (serve empty seed (exchange of_a 1)) 0 []
      (Full (Accepted d (received (member at_a of_a)) (new_id_text seed Trans 1) (told (place a 1))))
  -- where the store fails behind its step, the step was made, and whether the document was applied is not yet settled
  pub failed : (seed : ℕ) → StopsAfter (serve empty seed (exchange of_a 1)) 0
      (serve empty seed (exchange of_a 1)).steps Failed
  -- nothing is left out where only the reply is
  pub no_memory : (seed : ℕ) → StopsAfter (serve empty seed (exchange of_a 1)) 1
      (serve empty seed (exchange of_a 1)).steps Memory
