-- Sessions one after the other.
use Rattle.std.proofs.Common.{◌≡◌, ◌⊎◌, ℕ, ◌≤◌, Bool, true, false, List, [], ◌∷◌, ◌++◌, refl, sym, ◌∙◌, ap, subst, inl}
use Rattle.std.proofs.Common.{inr, append_assoc, append-nil}
use Rattle.conflicts.specs.Laws.{MembersAreKept, StateGoesOn}
use Rattle.disks.specs.Joint.{AreCrashImages, AreSettled, JointMoment, moment_at, seen_of}
use Rattle.disks.proofs.Runs.{settled_images}
use Rattle.replica_cli.specs.Told.{short_images}
use Rattle.replica_core.specs.Replica.{Found as Left, Stored}
use Rattle.replica_volume.specs.Settled.{now_at}
use Rattle.replica_volume.specs.Store.{opens_as}
use Rattle.store_commands.specs.Changes.{Change}
use Rattle.volume.specs.Store.{found_of}
use Rattle.run_lists.specs.Kept.{CrashAt, GoesOn, KeepsAll, found_at, moment_of}
use Rattle.run_lists.specs.Lists.{Between}
use Rattle.run_lists.specs.Sessions.{HasAll, InSessions, IsLeft, Session}
use Rattle.run_lists.specs.Shares.{Share, is_settled_by, lasting, made, shares}
use Rattle.run_lists.proofs.Composed.{compose}
use Rattle.run_lists.proofs.Keeping.{keeps_all, none_lasts}
use Rattle.run_lists.proofs.Proper.{goes}

-- at a start of the machine a crash leaves what is there
begun : (m : Between) → AreSettled m.disks.files → (o : Left Stored) → CrashAt m (moment_of m) o → o ≡ found_at m
begun m settled o crash =
    let images = crash.1.0 in
    let are : images ≡ seen_of m.disks.files = settled_images m.disks.files settled images
    (subst (λ (j : JointMoment). AreCrashImages j images) (now_at true m.disks refl) crash.1.1) in
    crash.1.2 ∙ ap opens_as are ∙ sym (short_images (found_of (seen_of m.disks.files)))

-- and the files that a crash leaves are what the next list finds
pub files_found : (m next : Between) (k : ℕ) → AreCrashImages (moment_at m.disks k) (seen_of next.disks.files)
    → CrashAt m k (found_at next)
files_found m next k are =
    (refl, (seen_of next.disks.files, are, short_images (found_of (seen_of next.disks.files))))

-- the history goes on to what was left by these changes and later ones
abbrev GoesOnBy : Left Stored → List Change → Left Stored → Type 0
GoesOnBy found changes left = (later : List Change) × GoesOn found (changes ++ later) left

-- what a list of changes has, it has with others before it
others_first : (lists : List (List Change)) (first whole : List Change) → HasAll lists whole
    → HasAll lists (first ++ whole)
others_first [] first whole all = tt
others_first (changes ∷ more) first whole all = (
  first ++ all.0,
  all.1,
  ap (λ (l : List Change). first ++ l) all.2 ∙ sym (append_assoc first all.0 (changes ++ all.1)),
  all.3,
)

module _ (goes_on : StateGoesOn) (members : MembersAreKept) where
  still : (found : Left Stored) → GoesOn found [] found
  still found = goes goes_on members found [] tt

  module _ (before after : Between) (runs : List Share) (keeps : KeepsAll before after runs)
      (settled : AreSettled before.disks.files) where
    -- a stop after a run that settled the store, and one before the first of these
    stopped_at : (k : ℕ) (left : Left Stored) → moment_of before ≤ k → k ≤ moment_of after → CrashAt after k left
        → (b : Bool) → is_settled_by k runs ≡ b → GoesOnBy (found_at before) (lasting k runs) left
    stopped_at k left from to crash true e = keeps.lasts k left from to crash e
    stopped_at k left from to crash false e =
        subst (λ (l : List Change). GoesOnBy (found_at before) l left) (sym (none_lasts k runs e))
        (early (keeps.kept k left from to crash))
      where
        early : CrashAt before (moment_of before) left
            ⊎ ((changes : List Change) × GoesOn (found_at before) changes left)
            → GoesOnBy (found_at before) [] left
        early (inl there) = (
          [],
          subst (λ (o : Left Stored). GoesOn (found_at before) [] o) (sym (begun before settled left there))
              (still (found_at before)),
        )
        early (inr x) = x

    left_by : (changes : List Change) (left : Left Stored) → IsLeft before after runs changes left
        → GoesOnBy (found_at before) changes left
    left_by changes left (inl end) = (
      [],
      subst (λ (l : List Change). GoesOn (found_at before) l left)
          (sym (append-nil (made runs)) ∙ ap (λ (l : List Change). l ++ []) (sym end.0))
          (subst (λ (o : Left Stored). GoesOn (found_at before) (made runs) o) (sym end.1) keeps.now),
    )
    left_by changes left (inr stop) =
        subst (λ (l : List Change). GoesOnBy (found_at before) l left) (sym stop.3)
        (stopped_at stop.0 left stop.1 stop.2 stop.4 (is_settled_by stop.0 runs) refl)

  session : (found : Left Stored) (changes : List Change) (left : Left Stored) → Session found changes left
      → GoesOnBy found changes left
  session found changes left s =
      subst (λ (f : Left Stored). GoesOnBy f changes left) s.begins
      (left_by s.before s.after (shares true s.list s.before s.after s.outcomes s.runs)
      (keeps_all goes_on members s.list s.before s.after s.outcomes s.runs) s.settled changes left s.ends)

  pub sessions_go_on : (lists : List (List Change)) (found left : Left Stored) → InSessions lists found left
      → (whole : List Change) × HasAll lists whole × GoesOn found whole left
  sessions_go_on [] found left same =
      ([], tt, subst (λ (o : Left Stored). GoesOn found [] o) (sym same) (still found))
  sessions_go_on (changes ∷ more) found left x =
      let first = session found changes x.0 x.1 in
      let rest = sessions_go_on more x.0 left x.2 in (
        (changes ++ first.0) ++ rest.0,
        (
          [],
          first.0 ++ rest.0,
          append_assoc changes first.0 rest.0,
          others_first more first.0 rest.0 rest.1,
        ),
        compose found x.0 left (changes ++ first.0) rest.0 first.1 rest.2,
      )
