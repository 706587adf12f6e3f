-- What one run of a list does to the store on disks that contracts can see.
use Rattle.std.proofs.Common.{◌≡◌, ◌⊎◌, ◌&&◌, ℕ, ◌<◌, ◌≤◌, Bool, true, false, true≢false, List, [], take, Result, Ok}
use Rattle.std.proofs.Common.{Err, refl, sym, ◌∙◌, ap, subst, inl, inr, ⊎_elim, arith}
use Rattle.cli_words.specs.Words.{command_in}
use Rattle.cli_words.specs.declared.command.Command.{Command}
use Rattle.cli_words.specs.declared.fault.WordsFault.{WordsFault}
use Rattle.command_lines.specs.declared.outcome.Outcome.{Outcome}
use Rattle.link.specs.Streams.{Input}
use Rattle.replica_cli.specs.Run.{Runs, RunsAs, RunsCommand, seen_in}
use Rattle.replica_cli.specs.Store.{store_seen}
use Rattle.replica_core.specs.Replica.{Found as Left, Stored}
use Rattle.replica_volume.specs.Volume.{moments}
use Rattle.store_commands.specs.Changes.{Change, IsAfterSome, IsSettled, after_all}
use Rattle.store_commands.specs.Deeds.{Answer}
use Rattle.store_commands.specs.Found.{Found, Store, in_short}
use Rattle.store_commands.specs.Leaves.{Leaves}
use Rattle.store_commands.specs.Run.{Decides, IsAnswered, IsUnread}
use Rattle.run_lists.specs.Kept.{CrashAt, found_at, moment_of}
use Rattle.run_lists.specs.Lists.{Asked, Between, RunsOnce, with_input}
use Rattle.run_lists.specs.Shares.{IfSettled, LeavesBehind, LeavesIn, Share, settles, share_as, share_of}
use Rattle.run_lists.proofs.Answered.{answered}
use Rattle.run_lists.proofs.Proper.{Proper}

-- the changes of a run, and what they leave
pub record Does (s : Share) (before after : Between) : Type 0 where
  pub proper : Proper (found_at before) s.changes
  pub now : found_at after ≡ after_all (found_at before) (take s.stood s.changes)
  pub end : s.end ≡ moment_of after
  pub later : moment_of before ≤ moment_of after
  pub earlier : (k : ℕ) (o : Left Stored) → k < moment_of before → CrashAt after k o → CrashAt before k o
  pub since : (k : ℕ) (o : Left Stored) → moment_of before ≤ k → k ≤ moment_of after → CrashAt after k o
      → CrashAt before (moment_of before) o ⊎ IsAfterSome (found_at before) s.changes s.reached o
  pub behind : s.settled ≡ true → (o : Left Stored) → CrashAt after (moment_of after) o
      → o ≡ after_all (found_at before) (take s.stood s.changes)

-- ---- a command

module _ (found : Found) (a : Answer) (unread : Type 0) (stood reached : ℕ) (before after : Store) where
  abbrev Rests : Type 0
  Rests = IsSettled (after_all (in_short found) (take stood a.changes)) after

  settled : (decided : Outcome) → Leaves found true a unread stood reached before after decided
      → settles decided ≡ true → Rests
  settled decided l e = l.rest (λ is. true≢false (sym (rw is at e))) (inl refl)

  pub if_settled : (opened : Bool) (decided : Outcome)
      → Leaves found opened a unread stood reached before after decided → opened && settles decided ≡ true → Rests
  if_settled true decided l e = settled decided l e
  if_settled false decided l e = absurd (true≢false (sym e))

module _ (command : Command) (seed : ℕ) (before after : Between) (input read : Input) (outcome : Outcome)
    (x : RunsCommand true command seed (with_input before input) (with_input after read) outcome) where
  abbrev decides : Decides command seed (seen_in true (with_input before input))
      (seen_in true (with_input after read)) x.runs.a x.runs.decided
  decides = x.runs.decides

  told : in_short decides.o.found ≡ found_at before
  told = ap in_short (sym decides.told)

  abbrev changes : List Change
  changes = x.runs.a.changes

  proper_answer : IsAnswered decides.o decides.opened decides.read x.runs.a x.runs.decided
      → Proper (in_short decides.o.found) changes
  proper_answer (inl has) = subst (λ (a : Answer). Proper (in_short decides.o.found) a.changes)
      (sym has.is) (answered decides.o)
  proper_answer (inr none) = subst (λ (a : Answer). Proper (in_short decides.o.found) a.changes)
      (sym none.is) tt

  pub does_command : Does (share_as true (Ok command) seed (with_input before input) (with_input after read) outcome x)
      before after
  does_command =
      let does = decides.does in
      let passes = does.passes in
      record {
        proper = subst (λ (f : Left Stored). Proper f changes) told (proper_answer decides.answers);
        now = passes.now ∙ ap (λ (f : Left Stored). after_all f (take does.stood changes)) told;
        end = refl;
        later = passes.later;
        earlier = passes.earlier;
        since = λ k o from to crash. subst (λ (f : Left Stored). CrashAt before (moment_of before) o
            ⊎ IsAfterSome f changes does.reached o) told (passes.since k o from to crash);
        behind = λ e o crash. if_settled decides.o.found x.runs.a
            (IsUnread decides.o input read) does.stood does.reached (store_seen true before.disks)
            (store_seen true after.disks) decides.opened x.runs.decided does.leaves e o crash
            ∙ ap (λ (f : Left Stored). after_all f (take does.stood changes)) told;
      }

-- ---- no command

module _ (before after : Between) (same : after.disks ≡ before.disks) where
  abbrev Nothing : Share
  Nothing = record { changes = []; stood = 0; reached = 0; end = moments true after.disks; settled = false }

  pub does_nothing : Does Nothing before after
  does_nothing = record {
    proper = tt;
    now = ap (λ d. found_at (record after { disks = d })) same;
    end = refl;
    later = omega (arith, ap (λ d. moments true d) same);
    earlier = λ k o early crash. subst (λ d. (store_seen true d).crash k o) same crash;
    since = λ k o from to crash.
        let is : k ≡ moment_of before = omega (arith, from, to, ap (λ d. moments true d) same) in
        inl (rw is at (subst (λ d. (store_seen true d).crash k o) same crash));
    behind = λ e o crash. absurd (true≢false (sym e));
  }

-- ---- a run of the list

does_read : (seed : ℕ) (before after : Between) (input read : Input) (outcome : Outcome) (r : Result Command WordsFault)
    → (x : RunsAs true r seed (with_input before input) (with_input after read) outcome)
    → Does (share_as true r seed (with_input before input) (with_input after read) outcome x) before after
does_read seed before after input read outcome (Ok command) x =
    does_command command seed before after input read outcome x
does_read seed before after input read outcome (Err fault) x = does_nothing before after x.disks

does_words : (words : List (List ℕ)) (seed : ℕ) (before after : Between) (input read : Input) (outcome : Outcome)
    → (x : Runs true words seed (with_input before input) (with_input after read) outcome)
    → Does (share_of true words seed (with_input before input) (with_input after read) outcome x) before after
does_words words seed before after input read outcome (inl x) =
    does_read seed before after input read outcome (command_in words) x
does_words words seed before after input read outcome (inr away) = does_nothing before after away.disks

pub does_once : (a : Asked) (before after : Between) (outcome : Outcome) (x : RunsOnce true a before after outcome)
    → Does (share_of true a.words a.seed (with_input before a.input) (with_input after x.read) outcome x.runs)
    before after
does_once a before after outcome x = does_words a.words a.seed before after a.input x.read outcome x.runs

-- ---- what a crash leaves, where P says what one might have left at its start

pub within : (s : Share) (before after : Between) (P : Left Stored → Type 0) → Does s before after
    → ((o : Left Stored) → CrashAt before (moment_of before) o → P o)
    → (k : ℕ) (o : Left Stored) → moment_of before ≤ k → k ≤ moment_of after → CrashAt after k o
    → LeavesIn P (found_at before) s o
within s before after P d start k o from to crash =
    ⊎_elim (λ early. inl (start o early)) (λ some. inr some) (d.since k o from to crash)

pub behind : (s : Share) (before after : Between) (P : Left Stored → Type 0) → Does s before after
    → ((o : Left Stored) → CrashAt before (moment_of before) o → P o)
    → (o : Left Stored) → CrashAt after (moment_of after) o → LeavesBehind P (found_at before) s o
behind s before after P d start o crash = by_case s.settled refl
  where
    by_case : (b : Bool) → s.settled ≡ b → LeavesBehind P (found_at before) s o
    by_case true e = subst (λ (b : Bool). IfSettled b (o ≡ after_all (found_at before) (take s.stood s.changes))
        (LeavesIn P (found_at before) s o)) (sym e) (d.behind e o crash)
    by_case false e = subst
        (λ (b : Bool). IfSettled b (o ≡ after_all (found_at before) (take s.stood s.changes))
        (LeavesIn P (found_at before) s o)) (sym e)
        (within s before after P d start (moment_of after) o d.later (omega arith) crash)
