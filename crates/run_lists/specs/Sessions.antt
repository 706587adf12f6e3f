-- Lists of runs on one store, each begun with what the one before left: at its end, or where a stop of the machine cut
-- it short.
use Rattle.std.specs.Prelude.{◌≡◌, ◌⊎◌, ℕ, ◌≤◌, Bool, true, List, [], ◌∷◌, ◌++◌}
use Rattle.command_lines.specs.declared.outcome.Outcome.{Outcome}
use Rattle.disks.specs.Joint.{AreCrashImages, AreSettled, moment_at, seen_of}
use Rattle.replica_core.specs.Replica.{Found as Left, Stored}
use Rattle.store_commands.specs.Changes.{Change}
use Rattle.run_lists.specs.Kept.{CrashAt, GoesOn, found_at, moment_of}
use Rattle.run_lists.specs.Lists.{Asked, Between, RunInTurn}
use Rattle.run_lists.specs.Questions.{AnswersInTurn}
use Rattle.run_lists.specs.Shares.{Share, lasting, made, shares}

-- A list came to its end, and left what stands there; or it was stopped at a moment, and left what a crash leaves then.
-- These changes of its runs last: at its end all that were made.
abbrev pub IsLeft : Between → Between → List Share → List Change → Left Stored → Type 0
IsLeft before after runs changes left =
    ((changes ≡ made runs) × (left ≡ found_at after))
    ⊎ ((k : ℕ) × (moment_of before ≤ k) × (k ≤ moment_of after) × (changes ≡ lasting k runs) × CrashAt after k left)

-- A list of runs over disks that hold just what a read gives, as after a start of the machine: what it found, which of
-- its changes last, and what it left.
pub record Session (found : Left Stored) (changes : List Change) (left : Left Stored) : Type 0 where
  pub list : List Asked
  pub before : Between
  pub after : Between
  pub outcomes : List Outcome
  pub runs : RunInTurn true list before after outcomes
  pub settled : AreSettled before.disks.files
  pub begins : found_at before ≡ found
  pub ends : IsLeft before after (shares true list before after outcomes runs) changes left

-- sessions one after the other, each begun with what the one before left, and of each the changes that last
abbrev pub InSessions : List (List Change) → Left Stored → Left Stored → Type 0
InSessions [] found left = left ≡ found
InSessions (changes ∷ more) found left =
    (middle : Left Stored) × Session found changes middle × InSessions more middle left

-- the whole has all of these changes, session by session, with others between
abbrev pub HasAll : List (List Change) → List Change → Type 0
HasAll [] whole = Unit {0}
HasAll (changes ∷ more) whole =
    (others : List Change) × (later : List Change) × (whole ≡ others ++ (changes ++ later)) × HasAll more later

-- ---- the laws

-- what a crash leaves of the three files at a moment is what a list finds that begins with these files
abbrev pub FilesAreFound : Type 0
FilesAreFound =
    (m next : Between) (k : ℕ) → AreCrashImages (moment_at m.disks k) (seen_of next.disks.files)
    → CrashAt m k (found_at next)

-- what some changes made of a store, and more changes of that, is what all of them make of it
abbrev pub ChangesCompose : Type 0
ChangesCompose =
    (found middle now : Left Stored) (changes more : List Change) → GoesOn found changes middle
    → GoesOn middle more now → GoesOn found (changes ++ more) now

-- Whatever lists are run one after the other, and whenever each is stopped, the history goes on from what the first one
-- found to what the last one left, and has all changes that last.
abbrev pub SessionsGoOn : Type 0
SessionsGoOn =
    (lists : List (List Change)) (found left : Left Stored) → InSessions lists found left
    → (whole : List Change) × HasAll lists whole × GoesOn found whole left

-- each run of a list, also of one that is stopped later, showed what its command shows: of an index the filter of the
-- live documents that stood then
abbrev pub ListsAnswer : Type 0
ListsAnswer =
    (tells : Bool) (list : List Asked) (before after : Between) (outcomes : List Outcome)
    (runs : RunInTurn tells list before after outcomes) → AnswersInTurn tells list before after outcomes runs
