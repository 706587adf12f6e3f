-- A quiet session, which completes: from its beginning to its end nothing else changes the two replicas.
use Rattle.std.specs.Prelude.{◌≡◌, ◌≢◌, ◌⊎◌, ℕ, Bool, false, List, [], ◌∷◌, Option, Some, None, IfSome}
use Rattle.u1_base.specs.Ids.{same_id}
use Rattle.content.specs.Tree.{Tree}
use Rattle.vector_rev.specs.Counts.{Uid}
use Rattle.conflicts.specs.Document.{content_of, is_conflicted}
use Rattle.conflicts.specs.State.{Text}
use Rattle.sync_world.specs.Source.{Session, Idle, AwaitsInfo, HasInfo, AwaitsReturned, Taking, Settled, AwaitsKept}
use Rattle.sync_world.specs.Source.{Complete}
use Rattle.sync_world.specs.World.{World, WorldStep, Local, Ask, Reach, Apply, Reply, Send, Take, Settle, Finish}
use Rattle.sync_world.specs.World.{BreakSession, BreakServing, Stop, after, after_all, histories, state}

-- the request that a session waits for
abbrev pub waits_for : Session → Option ℕ
waits_for Idle = None
waits_for (AwaitsInfo n) = Some n
waits_for (HasInfo info) = None
waits_for (AwaitsReturned v base n) = Some n
waits_for (Taking v base taken docs top) = None
waits_for (Settled v base taken) = None
waits_for (AwaitsKept v n) = Some n
waits_for (Complete v) = None

-- v serves the request that the session of u waits for
abbrev pub Answers : World → Uid → Uid → Type 0
Answers w u v = IfSome (w.replica v).serving (λ serving. waits_for (w.replica u).session ≡ Some serving.number)

-- a step of the session of u, or of the serving at v of the request that it waits for
abbrev pub Belongs : World → Uid → Uid → WorldStep → Type 0
Belongs w u v (Local z seed command) = ⊥
Belongs w u v (Ask z y) = ⊥
Belongs w u v (Reach z n seed) = ⊥
Belongs w u v (Apply z) = (z ≡ v) × Answers w u v
Belongs w u v (Reply z) = ⊥
Belongs w u v (Send z) = z ≡ u
Belongs w u v (Take z seed) = z ≡ u
Belongs w u v (Settle z) = z ≡ u
Belongs w u v (Finish z) = z ≡ u
Belongs w u v (BreakSession z) = ⊥
Belongs w u v (BreakServing z) = ⊥
Belongs w u v (Stop z) = ⊥

-- a step that ends the session of u, or begins another one
abbrev pub drops : Uid → WorldStep → Bool
drops u (Local z seed command) = false
drops u (Ask z y) = same_id z u
drops u (Reach z n seed) = false
drops u (Apply z) = false
drops u (Reply z) = false
drops u (Send z) = false
drops u (Take z seed) = false
drops u (Settle z) = false
drops u (Finish z) = false
drops u (BreakSession z) = same_id z u
drops u (BreakServing z) = false
drops u (Stop z) = same_id z u

-- any other step leaves the session, and what u and v hold
pub record Passes (w : World) (u v : Uid) (x : WorldStep) : Type 0 where
  pub keeps : drops u x ≡ false
  pub source : histories (after w x) u ≡ histories w u
  pub target : histories (after w x) v ≡ histories w v

-- each step belongs to the session of u with v or passes by, and at the end the session is complete
abbrev pub Quiet : World → Uid → Uid → List WorldStep → Type 0
Quiet w u v [] = (w.replica u).session ≡ Complete v
Quiet w u v (x ∷ later) = (Belongs w u v x ⊎ Passes w u v x) × Quiet (after w x) u v later

-- what u reads of a document
abbrev pub reads : World → Uid → Text → Option Tree
reads w u d = content_of ((state w u).document d)

-- A QUIET SESSION, begun in this world by u with v, leaves both with equal contents of each document that neither held
-- in conflict
abbrev pub QuietAgrees : World → Type 0
QuietAgrees w = (u v : Uid) (later : List WorldStep) → u ≢ v → (w.replica u).serving ≡ None
    → Quiet (after w (Ask u v)) u v later → (d : Text) → is_conflicted ((state w u).document d) ≡ false
    → is_conflicted ((state w v).document d) ≡ false
    → reads (after_all (after w (Ask u v)) later) u d ≡ reads (after_all (after w (Ask u v)) later) v d
