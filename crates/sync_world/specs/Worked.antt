-- Worked worlds.
use Rattle.std.specs.Prelude.{◌≡◌, ℕ, true, cond, List, [], ◌∷◌, ◌++◌, codes, Option, Some, None}
use Rattle.u1_base.specs.Ids.{same_id}
use Rattle.u1_base.specs.NewId.{new_id_text}
use Rattle.u1_base.specs.Places.{Place, nowhere}
use Rattle.u1_base.specs.declared.made.IdKind.TheVariants.{Trans}
use Rattle.content.specs.Tree.{Tree, text, object, field, no_fields}
use Rattle.vector_rev.specs.Clock.{Clock}
use Rattle.conflicts.specs.Decision.{received}
use Rattle.conflicts.specs.State.{Step, History, Accepted, Moved}
use Rattle.conflicts.specs.declared.accept.Making.TheVariants.{Edit}
use Rattle.conflicts.specs.declared.member.Member.{Member}
use Rattle.conflicts.specs.declared.moves.Move.{Move}
use Rattle.conflicts.specs.declared.moves.PosTable.TheVariants.{Known, Told}
use Rattle.sync_stream.specs.Replies.{Returns, Refuses, LogCheck}
use Rattle.sync_stream.specs.Requests.{ToExchange}
use Rattle.sync_stream.specs.Serving.{Response}
use Rattle.sync_stream.specs.declared.line.SyncDoc.{SyncDoc}
use Rattle.sync_world.specs.Source.{Idle, Taking, Complete}
use Rattle.sync_world.specs.World.{World, WorldStep, Sent, Serving, Ask, Reach, Apply, Reply, Send, Take, Settle}
use Rattle.sync_world.specs.World.{Finish}
use Rattle.sync_world.specs.World.{BreakSession, Local, Put, after_all, histories}

-- ---- what is spoken of: the replicas a and b, and the document d that a made

abbrev pub a : List ℕ
a = codes "a"

abbrev pub b : List ℕ
b = codes "b"

abbrev pub d : List ℕ
d = codes "d"

-- the clock a:1
abbrev at_a : Clock
at_a = record { entries = (a, 1) ∷ []; well = tt }

-- {"v":"a"}
abbrev pub content : Tree
content = object (field (codes "v") (text a) no_fields)

abbrev member : Member
member = record { rev = at_a; content = Some content }

-- the place of generation n, with an id of a
abbrev place : ℕ → Place
place n = record { generation = n; trans = Some (a ++ 45 ∷ []) }

abbrev made : Step
made = Accepted d (record { rev = at_a; content = Some content; making = Edit; parents = []; current = true })
    (a ++ 45 ∷ []) None

abbrev doc : SyncDoc
doc = record { id = d; member = member; at = place 1 }

abbrev told : ℕ → Move
told n = record { table = Told; uid = a; at = place n }

-- a world in which two replicas have these histories and sent these requests, and nothing goes on
abbrev between : History → History → List Sent → World
between of_a of_b sent = record {
  name = codes "db";
  replica =
      λ u. record { history = cond (same_id u a) of_a (cond (same_id u b) of_b []); session = Idle; serving = None };
  sent = sent;
}

-- a has made the document, and b has nothing
abbrev pub first : World
first = between (made ∷ []) [] []

-- a's post, as the first request
abbrev post : Sent
post = record { source = a; target = b; question = ToExchange nowhere (doc ∷ []) }

module _ (seed : ℕ) where
  -- the first entry of b's log, and its place
  abbrev entry_of_b : List ℕ
  entry_of_b = new_id_text seed Trans 1

  abbrev end_of_b : Place
  end_of_b = record { generation = 1; trans = Some entry_of_b }

  abbrev known : Step
  known = Moved (record { table = Known; uid = b; at = end_of_b })

  abbrev taken : Step
  taken = Accepted d (received member) entry_of_b (Some (told 1))

  -- the session of a up to its post, and that b makes what the post asks for: the requests 0 and 1
  abbrev posting : List WorldStep
  posting = Ask a b ∷ Reach b 0 seed ∷ Reply b ∷ Send a ∷ Reach b 1 seed ∷ Apply b ∷ []

  -- a whole session
  abbrev synced : World
  synced = after_all (after_all first posting) (Reply b ∷ Settle a ∷ Finish a ∷ [])

  pub record WholeSession : Type 0 where
    pub session : (synced.replica a).session ≡ Complete b
    pub source : histories synced a ≡ made ∷ known ∷ []
    pub target : histories synced b ≡ taken ∷ []

  -- the reply to the post is lost, since the session ended before; b has the document all the same
  abbrev lost : World
  lost = after_all (after_all first posting) (BreakSession a ∷ Reply b ∷ [])

  pub record ReplyLost : Type 0 where
    pub session : (lost.replica a).session ≡ Idle
    pub source : histories lost a ≡ made ∷ []
    pub target : histories lost b ≡ taken ∷ []

  -- where b is as it was left so, the next session gives the document back, which a has
  abbrev again : World
  again = after_all (between (made ∷ []) (taken ∷ []) [])
      (Ask a b ∷ Reach b 0 seed ∷ Reply b ∷ Send a ∷ Reach b 1 seed ∷ Reply b ∷ Take a seed ∷ [])

  pub record SessionAfterLoss : Type 0 where
    pub session : (again.replica a).session ≡ Taking b 1 0 [] end_of_b
    pub source : histories again a ≡ made ∷ known ∷ []
    pub target : histories again b ≡ taken ∷ []

  -- what b does where the post comes once more, now and after b was told a later place
  abbrev repeated : History → Option Serving
  repeated of_b = ((after_all (between (made ∷ []) of_b (post ∷ [])) (Reach b 0 seed ∷ [])).replica b).serving

  abbrev responds : Response → Option Serving
  responds response = Some (record { number = 0; left = response })

  pub record PostRepeated : Type 0 where
    -- it makes no step, and what b returns is the same
    pub same : repeated (taken ∷ []) ≡ responds (record { reply = Returns end_of_b []; steps = []; passed = [] ∷ [] })
    pub later : repeated (taken ∷ Moved (told 2) ∷ [])
        ≡ responds (record { reply = Refuses LogCheck; steps = []; passed = [] })

  -- what cannot be done changes nothing: to ask itself, to serve what was not sent or was sent to another, to go on
  -- where nothing began, and to write while a request is served
  abbrev idle : World
  idle = after_all first
      (Ask a a ∷ Reach b 7 seed ∷ Apply b ∷ Reply b ∷ Send a ∷ Take a seed ∷ Settle a ∷ Finish a ∷ [])

  abbrev serving : World
  serving = after_all (between [] [] (post ∷ [])) (Reach b 0 seed ∷ [])

  pub record NothingDone : Type 0 where
    pub source : idle.replica a ≡ first.replica a
    pub target : idle.replica b ≡ first.replica b
    pub sent : idle.sent ≡ []
    pub another : after_all serving (Reach a 0 seed ∷ []) ≡ serving
    pub busy : after_all serving (Local b seed (Put d None content) ∷ []) ≡ serving

pub record WorldsAsWorked : Type 0 where
  pub whole : (seed : ℕ) → WholeSession seed
  pub lost : (seed : ℕ) → ReplyLost seed
  pub again : (seed : ℕ) → SessionAfterLoss seed
  pub repeated : (seed : ℕ) → PostRepeated seed
  pub nothing : (seed : ℕ) → NothingDone seed
