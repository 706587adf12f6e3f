-- A world of replicas: what each one holds, the requests that were ever sent, and what one step changes. A step that
-- cannot be made changes nothing. So every list of steps is one that may happen: requests and replies are lost, come
-- again or late, and sessions, servings and replicas stop at any moment.
use Rattle.std.specs.Prelude.{ℕ, cond, List, [], ◌∷◌, ◌++◌, length, Option, Some, None}
use Rattle.std.specs.List.{slice_get}
use Rattle.u1_base.specs.Ids.{same_id}
use Rattle.content.specs.Tree.{Tree}
use Rattle.vector_rev.specs.Counts.{Uid}
use Rattle.vector_rev.specs.Clock.{Clock}
use Rattle.conflicts.specs.State.{Text, State, Step, History, state_of}
use Rattle.conflicts.specs.Writing.{step_in, put_decides, delete_decides, resolve_decides, create_decides}
use Rattle.conflicts.specs.Writing.{delete_index_decides}
use Rattle.sync_stream.specs.Messages.{Asks}
use Rattle.sync_stream.specs.Replies as reply
use Rattle.sync_stream.specs.Requests.{Question, ForInfo, purpose_of}
use Rattle.sync_stream.specs.Serving.{Response, serve}
use Rattle.lineage.specs.Histories.{Histories}
use Rattle.sync_world.specs.Source.{Session, Idle, AwaitsInfo, Letter, Turn, asks, goes, makes, hears, send_turn}
use Rattle.sync_world.specs.Source.{take_turn, settle_turn, finish_turn}

-- ---- what a world is

-- a request that was sent
pub record Sent : Type 0 where
  pub source : Uid
  pub target : Uid
  pub question : Question

-- the request of this number is served: what is left of the response, whose steps are still to be made
pub record Serving : Type 0 where
  pub number : ℕ
  pub left : Response

-- a replica: its history, the session in which it is the source, and what it serves as a target
pub record Replica : Type 0 where
  pub history : History
  pub session : Session
  pub serving : Option Serving

-- the replicas of one database by their uids, and all requests that were sent, the oldest first
pub record World : Type 0 where
  pub name : Text
  pub replica : Uid → Replica
  pub sent : List Sent

-- at first nobody has done anything
abbrev pub no_replica : Replica
no_replica = record { history = []; session = Idle; serving = None }

abbrev pub start : Text → World
start name = record { name = name; replica = λ u. no_replica; sent = [] }

abbrev pub histories : World → Histories
histories w u = (w.replica u).history

abbrev pub state : World → Uid → State
state w u = state_of w.name u (histories w u)

-- ---- what a replica does by itself

-- one call that writes
pub data Command : Type 0 where
  Put : Text → Option Clock → Tree → Command
  Delete : Text → Clock → Command
  Resolve : Text → List Clock → Option Tree → Command
  CreateIndex : Text → List Text → Command
  DeleteIndex : Text → Command

-- the step that it makes, where it is not refused and there is something to do
abbrev pub command_step : State → ℕ → Command → Option Step
command_step s seed (Put doc rev content) = step_in (put_decides (λ fault. fault) seed doc rev content s)
command_step s seed (Delete doc rev) = step_in (delete_decides (λ fault. fault) seed doc rev s)
command_step s seed (Resolve doc named content) = step_in (resolve_decides (λ fault. fault) seed doc named content s)
command_step s seed (CreateIndex name exprs) = step_in (create_decides {F = Unit {0}} tt name exprs s)
command_step s seed (DeleteIndex name) = step_in (delete_index_decides {F = Unit {0}} tt name s)

-- ---- the steps of a world

pub data WorldStep : Type 0 where
  -- a call at this replica, with the seed of its transaction id
  Local : Uid → ℕ → Command → WorldStep
  -- the first replica drops its session, if it has one, and begins one with the second
  Ask : Uid → Uid → WorldStep
  -- a replica begins to serve the request of this number, once or again, with a seed; it makes the next step of the
  -- response; it replies
  Reach : Uid → ℕ → ℕ → WorldStep
  Apply : Uid → WorldStep
  Reply : Uid → WorldStep
  -- the source goes on: after the info; with the next document that came back, and a seed; after the last one; and at
  -- the end
  Send : Uid → WorldStep
  Take : Uid → ℕ → WorldStep
  Settle : Uid → WorldStep
  Finish : Uid → WorldStep
  -- a session ends, a serving ends, or a replica stops; its history stays
  BreakSession : Uid → WorldStep
  BreakServing : Uid → WorldStep
  Stop : Uid → WorldStep

-- the replica u becomes r, and these requests are sent
abbrev pub with_replica : World → Uid → Replica → List Sent → World
with_replica w u r letters = record {
  name = w.name;
  replica = λ v. cond (same_id v u) r (w.replica v);
  sent = w.sent ++ letters;
}

-- ---- the source's side

abbrev pub posted : Uid → Option Letter → List Sent
posted u None = []
posted u (Some letter) = record { source = u; target = letter.target; question = letter.question } ∷ []

-- a replica that serves does nothing else
abbrev pub turned : World → Uid → Turn → Option Serving → World
turned w u turn None =
    with_replica w u (record {
      history = histories w u ++ turn.steps;
      session = turn.session;
      serving = None;
    }) (posted u turn.sends)
turned w u turn (Some serving) = w

abbrev pub turns : World → Uid → Turn → World
turns w u turn = turned w u turn (w.replica u).serving

-- nobody asks itself
abbrev pub ask_turn : World → Uid → Uid → Turn
ask_turn w u v = cond (same_id v u) (goes (w.replica u).session) (asks (AwaitsInfo (length w.sent)) v ForInfo)

-- ---- the target's side

-- v serves nothing, and the request was sent to it
abbrev pub reached : World → Uid → ℕ → ℕ → Option Serving → Option Sent → World
reached w v n seed (Some serving) request = w
reached w v n seed None None = w
reached w v n seed None (Some r) =
    cond (same_id r.target v)
    (with_replica w v (record {
      history = histories w v;
      session = (w.replica v).session;
      serving =
          Some (record { number = n; left = serve (state w v) seed (Asks w.name r.source (purpose_of r.question)) });
    }) []) w

abbrev pub applied : World → Uid → Serving → List Step → World
applied w v serving [] = w
applied w v serving (x ∷ later) =
    with_replica w v (record {
      history = histories w v ++ x ∷ [];
      session = (w.replica v).session;
      serving = Some (record { number = serving.number; left = record serving.left { steps = later } });
    }) []

abbrev pub applies : World → Uid → Option Serving → World
applies w v None = w
applies w v (Some serving) = applied w v serving serving.left.steps

abbrev pub without_serving : World → Uid → World
without_serving w v =
    with_replica w v (record { history = histories w v; session = (w.replica v).session; serving = None }) []

-- the reply goes to the session that waits for it; where none does, it is lost
abbrev pub delivered : World → ℕ → reply.Reply → Option Sent → World
delivered w n said None = w
delivered w n said (Some r) =
    with_replica w r.source (record {
      history = histories w r.source;
      session = hears n said (w.replica r.source).session;
      serving = (w.replica r.source).serving;
    }) []

-- no step of the response is left
abbrev pub replied : World → Uid → Serving → List Step → World
replied w v serving [] =
    delivered (without_serving w v) serving.number serving.left.reply (slice_get w.sent serving.number)
replied w v serving (x ∷ later) = w

abbrev pub replies : World → Uid → Option Serving → World
replies w v None = w
replies w v (Some serving) = replied w v serving serving.left.steps

-- ---- ONE STEP

abbrev pub after : World → WorldStep → World
after w (Local u seed command) = turns w u (makes (command_step (state w u) seed command) (w.replica u).session)
after w (Ask u v) = turns w u (ask_turn w u v)
after w (Reach v n seed) = reached w v n seed (w.replica v).serving (slice_get w.sent n)
after w (Apply v) = applies w v (w.replica v).serving
after w (Reply v) = replies w v (w.replica v).serving
after w (Send u) = turns w u (send_turn (state w u) (length w.sent) (w.replica u).session)
after w (Take u seed) = turns w u (take_turn (state w u) seed (w.replica u).session)
after w (Settle u) = turns w u (settle_turn (state w u) (w.replica u).session)
after w (Finish u) = turns w u (finish_turn (state w u) (length w.sent) (w.replica u).session)
after w (BreakSession u) = turns w u (goes Idle)
after w (BreakServing v) = without_serving w v
after w (Stop u) = with_replica w u (record { history = histories w u; session = Idle; serving = None }) []

abbrev pub after_all : World → List WorldStep → World
after_all w [] = w
after_all w (x ∷ later) = after_all (after w x) later
