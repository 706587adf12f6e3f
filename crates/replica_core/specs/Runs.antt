-- A list of calls: what each decides, what they leave, and what a crash leaves of them. `call_fault` and `bare_end` are
-- private.
use Rattle.std.specs.Prelude.{◌≡◌, ℕ, ◌<◌, ◌≤◌, Bool, true, false, if◌then◌else◌, is_ok, List, [], ◌∷◌, ◌++◌}
use Rattle.std.specs.Prelude.{option_to_list, Option, Some, None, Result, Ok, Err}
use Rattle.std.specs.List.{flat_map, list_all}
use Rattle.u1_base.specs.Causes.{Rose}
use Rattle.vector_rev.specs.Counts.{Uid}
use Rattle.vector_rev.specs.Clock.{covers}
use Rattle.conflicts.specs.Lists.{In}
use Rattle.conflicts.specs.State.{History, State, Step, Text, accepts_in, after_all, state_of}
use Rattle.conflicts.specs.declared.accept.Accept.{Accept}
use Rattle.conflicts.specs.declared.member.Member.{Member}
use Rattle.replica_core.specs.Replica.{AddsOnly, Found, HasStep, Known, NeedsBehind, Stands, Stored, after_step}
use Rattle.replica_core.specs.Replica.{state_in, stored_in}
use Rattle.conflicts.specs.Writing.{Answers, Decided, IsAnswer, IsRefusal, Refuses, step_in}
use Rattle.replica_core.specs.Calls.{IsDone, may_have_written}
use Rattle.replica_core.specs.CallsDecide.{create_decides, delete_decides, delete_index_decides, move_decides}
use Rattle.replica_core.specs.CallsDecide.{put_decides, resolve_decides, take_decides}
use Rattle.replica_core.specs.declared.fault.CommitFault.{CommitFault}
use Rattle.replica_core.specs.declared.fault.CommitFault.TheVariants as commit
use Rattle.replica_core.specs.declared.list.Call.{Call}
use Rattle.replica_core.specs.declared.list.Call.TheVariants.{PutDoc, DeleteDoc, ResolveDoc, PutIfNewer, MovePosition}
use Rattle.replica_core.specs.declared.list.Call.TheVariants.{CreateIndex, DeleteIndex}
use Rattle.replica_core.specs.declared.list.CallFault.{CallFault}
use Rattle.replica_core.specs.declared.list.CallFault.TheVariants.{Refused, Full, Disk, Memory}

-- ---- one call of a list

abbrev pub call_failure : CallFault → Option CommitFault
call_failure Refused = None
call_failure (Full need limit) = Some (commit.Full need limit)
call_failure Disk = Some commit.Disk
call_failure Memory = Some commit.Memory

-- the replica is open after it
abbrev pub stays_open : Result (Unit {0}) CallFault → Bool
stays_open (Ok done) = true
stays_open (Err Refused) = true
stays_open (Err (Full need limit)) = true
stays_open (Err Disk) = false
stays_open (Err Memory) = true

-- what is decided, without what is answered
abbrev pub bare : {A F : Type 0} → Decided A F → Decided (Unit {0}) CallFault
bare (Refuses fault) = Refuses Refused
bare (Answers answer step) = Answers tt step

abbrev pub call_decides : Call → State → Decided (Unit {0}) CallFault
call_decides (PutDoc seed doc rev content) s = bare (put_decides seed doc rev content s)
call_decides (DeleteDoc seed doc rev) s = bare (delete_decides seed doc rev s)
call_decides (ResolveDoc seed doc named content) s = bare (resolve_decides seed doc named content s)
call_decides (PutIfNewer seed doc incoming save moved) s = bare (take_decides seed doc incoming save moved s)
call_decides (MovePosition moved) s = bare (move_decides moved s)
call_decides (CreateIndex name exprs) s = bare (create_decides name exprs.texts s)
call_decides (DeleteIndex name) s = bare (delete_index_decides name s)

-- the step of the call, if it makes one, and the state after it
abbrev pub step_of_call : State → Call → Option Step
step_of_call s c = step_in (call_decides c s)

abbrev pub after_call : State → Call → State
after_call s c = after_step s (step_of_call s c)

-- ---- a list of calls

abbrev pub Ends : Type 0
Ends = List (Result (Unit {0}) CallFault)

-- the steps of those calls whose end says so, each decided over the state after the steps before it
abbrev pub steps_where : (Result (Unit {0}) CallFault → Bool) → State → List Call → Ends → History
steps_where says s [] ends = []
steps_where says s (c ∷ cs) [] = []
steps_where says s (c ∷ cs) (end ∷ ends) =
    if says end then option_to_list (step_of_call s c)
    ++ steps_where says (after_call s c) cs ends else steps_where says s cs ends

-- each call that succeeded has made its step
abbrev pub steps_made : State → List Call → Ends → History
steps_made s cs ends = steps_where is_ok s cs ends

-- and one in which a disk failed may have written its step
abbrev pub steps_written : State → List Call → Ends → History
steps_written s cs ends = steps_where (may_have_written call_failure) s cs ends

-- why a call of the list ended with the fault; `old` and `new` are the replica before the list and after it
abbrev pub EndsBy : Known → Known → Decided (Unit {0}) CallFault → CallFault → Type 0
EndsBy old new decided Refused = IsRefusal decided Refused
EndsBy old new decided (Full need limit) = HasStep (step_in decided) (λ x. (limit ≡ old.limit) × (limit < need))
EndsBy old new decided Disk = HasStep (step_in decided) (λ x. Rose old.faults new.faults)
EndsBy old new decided Memory = Unit {0}

-- P of the further ends. There are none after a disk failed
abbrev pub AndThen : CallFault → Ends → Type 0 → Type 0
AndThen Refused ends P = P
AndThen (Full need limit) ends P = P
AndThen Disk ends P = ends ≡ []
AndThen Memory ends P = P

-- each call ended as it was decided, over the state that the calls before it leave
abbrev pub HaveEnded : Known → Known → State → List Call → Ends → Type 0
HaveEnded old new s [] ends = ends ≡ []
HaveEnded old new s (c ∷ cs) [] = ⊥
HaveEnded old new s (c ∷ cs) (Ok done ∷ ends) = IsAnswer (call_decides c s) tt
    × HaveEnded old new (after_call s c) cs ends
HaveEnded old new s (c ∷ cs) (Err fault ∷ ends) = EndsBy old new (call_decides c s) fault
    × AndThen fault ends (HaveEnded old new s cs ends)

-- what a crash on the way may leave: under this limit, a state of which P holds with the first of the steps
pub record AfterFirst (limit : ℕ) (steps : History) (P : History → State → Type 0) (found : Found Stored) : Type 0
  where
    pub first : History
    pub others : History
    pub are : steps ≡ first ++ others
    pub state : State
    pub is : found ≡ Stands (record { state = state; limit = limit })
    pub holds : P first state

-- it is the state after the first of the steps
abbrev pub StandsAfterFirst : Stored → History → Found Stored → Type 0
StandsAfterFirst s steps found = AfterFirst s.limit steps (λ first t. t ≡ after_all s.state first) found

-- ---- what a list of calls leaves

-- the replica is open, or it is closed
abbrev pub IsOpenIf : Bool → Type 0 → Known → Type 0
IsOpenIf true is_open new = is_open
IsOpenIf false is_open new = new.opened ≡ false

module _ {R : Type 0} (known : R → Known) (is_open : R → Type 0) (crash : R → ℕ → Found Stored → Type 0) where
  -- the calls were made in turn, each as a call by itself is made, over the replica that the calls before it leave: so
  -- `Full` has what the step needs behind the steps of these calls. None is made after a disk failed
  abbrev pub AreMade : R → R → List Call → Ends → Type 0
  AreMade old new calls [] = new ≡ old
  AreMade old new [] (end ∷ ends) = ⊥
  AreMade old new (c ∷ cs) (end ∷ ends) = (next : R)
      × IsDone known is_open crash call_failure (call_decides c (state_in (known old))) old next end
      × AreMade next new cs ends

  -- the calls were made, and ended so
  pub record HaveRun (old new : R) (calls : List Call) (ends : Ends) : Type 0 where
    pub made : AreMade old new calls ends
    -- each as it was decided
    pub ended : HaveEnded (known old) (known new) (state_in (known old)) calls ends
    -- the state is the one after the steps that were made
    pub state : state_in (known new) ≡ after_all (state_in (known old)) (steps_made (state_in (known old)) calls ends)
    -- the replica is open, unless a disk failed
    pub left : IsOpenIf (list_all stays_open ends) (is_open new) (known new)
    -- then each step needs now what it needed behind these steps
    pub need : list_all stays_open ends ≡ true
        → NeedsBehind (known old) (known new) (steps_made (state_in (known old)) calls ends)
    -- a crash on the way leaves the state after the first of the steps that were written
    pub any_moment : AddsOnly known crash old new
        (StandsAfterFirst (stored_in (known old)) (steps_written (state_in (known old)) calls ends))
    pub limit : (known new).limit ≡ (known old).limit
    pub later : (known old).faults ≤ (known new).faults

-- ---- what is kept

-- each revision that the history accepted of a document is covered by a member
abbrev pub AllKept : State → History → Type 0
AllKept s h = (doc : Text) (a : Accept) → In a (flat_map (accepts_in doc) h) → (m : Member)
    × In m (s.document doc).members × (covers m.rev a.rev ≡ true)

-- a history goes on by these steps to this state, and no revision is lost that was ever accepted
pub record Continues (name : Text) (uid : Uid) (h steps : History) (s : State) : Type 0 where
  pub stands : s ≡ state_of name uid (h ++ steps)
  pub kept : AllKept s (h ++ steps)

-- THE MAIN THEOREM for one replica: each history of the old state goes on by the steps that were made to the new state,
-- and by the first of those that were written to what a crash leaves, at whatever moment it comes
module _ {R : Type 0} (known : R → Known) (crash : R → ℕ → Found Stored → Type 0) where
  pub record GoesOn (old new : R) (calls : List Call) (ends : Ends) : Type 0 where
    pub now : (name : Text) (uid : Uid) (h : History) → state_in (known old) ≡ state_of name uid h
        → Continues name uid h (steps_made (state_in (known old)) calls ends) (state_in (known new))
    pub any_moment : (name : Text) (uid : Uid) (h : History) → state_in (known old) ≡ state_of name uid h
        → (k : ℕ) (found : Found Stored) → (known old).moment ≤ k → k ≤ (known new).moment → crash new k found
        → AfterFirst (known old).limit (steps_written (state_in (known old)) calls ends) (Continues name uid h) found
